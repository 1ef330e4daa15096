-- The texts of the channels are channel files.
use Rattle.std.proofs.Common.{◌≡◌, ℕ, ◌+◌, List, [], ◌∷◌, ◌++◌, length, map, Some, false, refl, ap, subst, arith}
use Rattle.std.specs.Prelude.{All, flat_map}
use Rattle.std.proofs.lemmas.List.{length-append}
use Rattle.std.proofs.lemmas.List.Elements.{All-nil, All-cons, All-head, All-tail}
use Rattle.address_rules.specs.declared.controls.Controls.{Controls}
use Rattle.address_rules.specs.declared.rewriting.Route.{Route}
use Rattle.address_rules.specs.declared.rewriting.Route.TheVariants.{Local, Remote}
use Rattle.address_rules.specs.Nuls.{HaveNoNul}
use Rattle.mail_bytes.specs.Texts.{HasNoNul}
use Rattle.address_rules.specs.Routes.{address_in, route_of}
use Rattle.address_rules.proofs.Nuls.{all_kept, route_none}
use Rattle.envelope_records.specs.declared.channel.Record.{Record}
use Rattle.envelope_records.specs.Envelope.{record_of, IsAddress}
use Rattle.envelope_records.specs.Records.{text_of}
use Rattle.todo_pass.specs.Channels.{IsToDo}
use Rattle.todo_pass.specs.Sorting.{local_of, remote_of, locals_of, remotes_of, channel_text, sorted_of}
use Rattle.todo_pass.specs.Todo.{Todo, IsTodo}

-- a record to do at a place
abbrev undone_at : ℕ → List ℕ → Record
undone_at place address = record { done = false; place = place; address = address }

-- the records of these addresses, from a place on
abbrev records_from : ℕ → List (List ℕ) → List Record
records_from place [] = []
records_from place (a ∷ rest) = undone_at place a ∷ records_from (place + length (record_of a)) rest

text_is : (place : ℕ) (addresses : List (List ℕ)) → channel_text addresses ≡ flat_map text_of (records_from place addresses)
text_is place [] = refl
text_is place (a ∷ rest) = ap (λ t. record_of a ++ t) (text_is (place + length (record_of a)) rest)

addresses_are : (place : ℕ) (addresses : List (List ℕ)) → map (λ (it : Record). it.address) (records_from place addresses) ≡ addresses
addresses_are place [] = refl
addresses_are place (a ∷ rest) = ap (λ t. a ∷ t) (addresses_are (place + length (record_of a)) rest)

abbrev Plain : Record → Type 0
Plain it = HasNoNul it.address

plain : (place : ℕ) (addresses : List (List ℕ)) → All HasNoNul addresses → All Plain (records_from place addresses)
plain place [] h = All-nil Plain
plain place (a ∷ rest) h =
    All-cons Plain (undone_at place a) (records_from (place + length (record_of a)) rest) (All-head HasNoNul a rest h)
    (plain (place + length (record_of a)) rest (All-tail HasNoNul a rest h))

abbrev Undone : Record → Type 0
Undone it = it.done ≡ false

undone : (place : ℕ) (addresses : List (List ℕ)) → All Undone (records_from place addresses)
undone place [] = All-nil Undone
undone place (a ∷ rest) =
    All-cons Undone (undone_at place a) (records_from (place + length (record_of a)) rest) refl (undone (place + length (record_of a)) rest)

none_of : (before after : List Record) (it : Record) → [] ≡ before ++ it ∷ after → ⊥
none_of [] after it e = absurd (cc)
none_of (b ∷ before) after it e = absurd (cc)

placed : (place : ℕ) (addresses : List (List ℕ)) (before after : List Record) (it : Record) → records_from place addresses ≡ before ++ it ∷ after
    → it.place ≡ place + length (flat_map text_of before)
placed place [] before after it e = absurd (none_of before after it e)
placed place (a ∷ rest) [] after it e =
    let same : undone_at place a ≡ it = cc in
    subst (λ (r : Record). r.place ≡ place + 0) same (omega arith)
placed place (a ∷ rest) (b ∷ before) after it e =
    let head : undone_at place a ≡ b = cc in
    let tail : records_from (place + length (record_of a)) rest ≡ before ++ it ∷ after = cc in
    let later = placed (place + length (record_of a)) rest before after it tail in
    let sum = length-append (record_of a) (flat_map text_of before) in
    let here : it.place ≡ place + length (record_of a ++ flat_map text_of before) = omega arith in
    subst (λ (r : Record). it.place ≡ place + length (text_of r ++ flat_map text_of before)) head here

channel : (addresses : List (List ℕ)) → All HasNoNul addresses → IsToDo (channel_text addresses) addresses
channel addresses h = record {
  records = records_from 0 addresses;
  read = record {
    text = text_is 0 addresses;
    plain = plain 0 addresses h;
    places = λ before after it e. let at = placed 0 addresses before after it e in omega arith;
  };
  undone = undone 0 addresses;
  addresses_are = addresses_are 0 addresses;
}

some_same : (a b : List ℕ) → Some a ≡ Some b → a ≡ b
some_same a b e = cc

local_none : (route : Route) (a : List ℕ) → HasNoNul (address_in route) → local_of route ≡ Some a → HasNoNul a
local_none (Local address) a h e = subst HasNoNul (some_same address a e) h
local_none (Remote address) a h e = absurd (cc)

remote_none : (route : Route) (a : List ℕ) → HasNoNul (address_in route) → remote_of route ≡ Some a → HasNoNul a
remote_none (Local address) a h e = absurd (cc)
remote_none (Remote address) a h e = subst HasNoNul (some_same address a e) h

pub channels_are : (controls : Controls) (bytes : List ℕ) (it : Todo) → HaveNoNul controls → IsTodo bytes it
    → IsToDo (sorted_of controls it).local (locals_of controls it.recipients) × IsToDo (sorted_of controls it).remote (remotes_of controls it.recipients)
channels_are controls bytes it c h = (
  channel (locals_of controls it.recipients)
      (all_kept IsAddress HasNoNul (λ r. local_of (route_of controls r)) (λ r a is e. local_none (route_of controls r) a (route_none controls r c is.plain) e) it.recipients h.to),
  channel (remotes_of controls it.recipients)
      (all_kept IsAddress HasNoNul (λ r. remote_of (route_of controls r)) (λ r a is e. remote_none (route_of controls r) a (route_none controls r c is.plain) e) it.recipients h.to),
)
