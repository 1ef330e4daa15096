-- Where the record of each recipient stands.
use Rattle.std.specs.Prelude.{◌≡◌, ℕ, List, ◌∷◌, ◌++◌, length}
use Rattle.address_rules.specs.declared.controls.Controls.{Controls}
use Rattle.address_rules.specs.declared.rewriting.Route.{Route}
use Rattle.address_rules.specs.declared.rewriting.Route.TheVariants.{Local, Remote}
use Rattle.address_rules.specs.Routes.{address_in, route_of}
use Rattle.envelope_records.specs.Envelope.{record_of}
use Rattle.todo_pass.specs.declared.sorted.Sorted.{Sorted}
use Rattle.todo_pass.specs.Sorting.{locals_of, remotes_of, channel_text, sorted_of}
use Rattle.todo_pass.specs.Todo.{Todo}

-- the text of its channel
abbrev pub text_by : Sorted → Route → List ℕ
text_by s (Local address) = s.local
text_by s (Remote address) = s.remote

-- its place there: how many bytes the records of the earlier recipients of that channel have
abbrev pub place_by : Controls → List (List ℕ) → Route → ℕ
place_by controls earlier (Local address) = length (channel_text (locals_of controls earlier))
place_by controls earlier (Remote address) = length (channel_text (remotes_of controls earlier))

-- the text has `T`, this address and NUL at this place
pub record HasRecord (text : List ℕ) (place : ℕ) (address : List ℕ) : Type 0 where
  pub front : List ℕ
  pub rest : List ℕ
  pub split : text ≡ front ++ (record_of address ++ rest)
  pub place_is : place ≡ length front

-- Each recipient's record is its address's route, at its place.
abbrev pub EachAtItsPlace : Type 0
EachAtItsPlace = (controls : Controls) (it : Todo) (earlier later : List (List ℕ)) (r : List ℕ) → it.recipients ≡ earlier ++ r ∷ later
    → HasRecord (text_by (sorted_of controls it) (route_of controls r)) (place_by controls earlier (route_of controls r)) (address_in (route_of controls r))
