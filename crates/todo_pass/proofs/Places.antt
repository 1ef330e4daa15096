-- Where the record of each recipient stands.
use Rattle.std.proofs.Common.{◌≡◌, ℕ, List, [], ◌∷◌, ◌++◌, length, Option, Some, refl, sym, ap, ◌∙◌}
use Rattle.std.specs.List.{cons_option}
use Rattle.std.proofs.lemmas.List.{append_assoc}
use Rattle.std.proofs.lemmas.List.Elements.{filter_map-append}
use Rattle.address_rules.specs.declared.controls.Controls.{Controls}
use Rattle.address_rules.specs.declared.rewriting.Route.{Route}
use Rattle.address_rules.specs.declared.rewriting.Route.TheVariants.{Local, Remote}
use Rattle.address_rules.specs.Routes.{address_in, route_of}
use Rattle.envelope_records.specs.Envelope.{record_of}
use Rattle.todo_pass.specs.Sorting.{local_of, remote_of, locals_of, remotes_of, channel_text, sorted_of}
use Rattle.todo_pass.specs.Places.{HasRecord, text_by, place_by}
use Rattle.todo_pass.specs.Todo.{Todo}

text_append : (xs ys : List (List ℕ)) → channel_text (xs ++ ys) ≡ channel_text xs ++ channel_text ys
text_append [] ys = refl
text_append (x ∷ xs) ys = ap (λ t. record_of x ++ t) (text_append xs ys) ∙ sym (append_assoc (record_of x) (channel_text xs) (channel_text ys))

-- a channel, of an address that goes there
at_place : (f : List ℕ → Option (List ℕ)) (of : List (List ℕ) → List (List ℕ)) (earlier later all : List (List ℕ)) (r address : List ℕ)
    → of all ≡ of earlier ++ cons_option (f r) (of later) → f r ≡ Some address
    → HasRecord (channel_text (of all)) (length (channel_text (of earlier))) address
at_place f of earlier later all r address parts is = record {
  front = channel_text (of earlier);
  rest = channel_text (of later);
  split = ap channel_text (parts ∙ ap (λ o. of earlier ++ cons_option o (of later)) is) ∙ text_append (of earlier) (address ∷ of later);
  place_is = refl;
}

by_route : (controls : Controls) (it : Todo) (earlier later : List (List ℕ)) (r : List ℕ) (route : Route) → it.recipients ≡ earlier ++ r ∷ later → route_of controls r ≡ route
    → HasRecord (text_by (sorted_of controls it) route) (place_by controls earlier route) (address_in route)
by_route controls it earlier later r (Local address) e is =
    at_place (λ a. local_of (route_of controls a)) (locals_of controls) earlier later it.recipients r address
    (ap (locals_of controls) e ∙ filter_map-append (λ a. local_of (route_of controls a)) earlier (r ∷ later)) (ap local_of is)
by_route controls it earlier later r (Remote address) e is =
    at_place (λ a. remote_of (route_of controls a)) (remotes_of controls) earlier later it.recipients r address
    (ap (remotes_of controls) e ∙ filter_map-append (λ a. remote_of (route_of controls a)) earlier (r ∷ later)) (ap remote_of is)

pub each_at_its_place : (controls : Controls) (it : Todo) (earlier later : List (List ℕ)) (r : List ℕ) → it.recipients ≡ earlier ++ r ∷ later
    → HasRecord (text_by (sorted_of controls it) (route_of controls r)) (place_by controls earlier (route_of controls r)) (address_in (route_of controls r))
each_at_its_place controls it earlier later r e = by_route controls it earlier later r (route_of controls r) e refl
