-- What a channel keeps fits its account.
use Rattle.std.proofs.Common.{◌≡◌, ◌⊎◌, ℕ, List, [], ◌∷◌, drop, Bool, true, false, Option, Some, None, refl, ap}
use Rattle.std.specs.Prelude.{map}
use Rattle.std.specs.Option.{option_map}
use Rattle.envelope_records.specs.declared.channel.Record.{Record}
use Rattle.send_jobs.specs.declared.attempts.Attempt.{Attempt}
use Rattle.send_jobs.specs.declared.lane.Lane.{Lane}
use Rattle.send_jobs.specs.Passes.{attempts_of}
use Rattle.send_jobs.specs.Slots.{attempt_in}
use Rattle.send_links.specs.declared.link.Link.{Link}
use Rattle.send_links.specs.Requests.{addressed, request_of, requests_of, to_slot}
use Rattle.spawn_protocol.specs.Report.{read_on}
use Rattle.spawn_protocol.specs.Report.Reader.{AtBegin}
use Rattle.send_core.specs.Agrees.{owed_at, task_of, unopened}
use Rattle.send_core.specs.Past.{Account, Task, tasks_by}
use Rattle.send_core.proofs.Lanes.{Holds}

abbrev pub so_far : Option (List ℕ) → List ℕ
so_far None = []
so_far (Some bytes) = bytes

-- it is the request for this attempt, in some slot and with some sender
abbrev pub IsFor : Attempt → List ℕ → Type 0
IsFor a text = (slot : ℕ) × (sender : List ℕ) × (text ≡ to_slot slot (request_of a.n sender a.address))

abbrev pub AreFor : List (List ℕ) → List Attempt → Type 0
AreFor [] [] = Unit {0}
AreFor (text ∷ texts) (a ∷ left) = IsFor a text × AreFor texts left
AreFor texts left = ⊥

abbrev pub Fits : Bool → Account → Lane → Link → Type 0
Fits at_work a lane link =
    ((slot : ℕ) → option_map task_of (attempt_in lane.slots slot) ≡ a.in_flight slot)
    × ((lane.left ≡ []) ⊎ (map task_of lane.left ≡ a.to_give))
    × AreFor link.requests lane.left
    × (link.reader ≡ (read_on AtBegin (so_far a.heard)).1)
    × (map owed_at (unopened at_work lane.marks) ≡ a.to_mark)
    × Holds a.limit a.to_mark lane.slots lane.left

-- Requests

pub for_drop : (texts : List (List ℕ)) (left : List Attempt) → AreFor texts left → AreFor (drop 1 texts) (drop 1 left)
for_drop [] [] h = tt
for_drop (text ∷ texts) (a ∷ left) h = h.1
for_drop [] (a ∷ left) h = absurd h
for_drop (text ∷ texts) [] h = absurd h

pub for_addressed : (o : Option ℕ) (texts : List (List ℕ)) (left : List Attempt) → AreFor texts left → AreFor (addressed o texts) left
for_addressed None texts left h = h
for_addressed (Some slot) [] left h = h
for_addressed (Some slot) (text ∷ texts) (a ∷ left) h = ((slot, h.0.1, ap (to_slot slot) h.0.2), h.1)
for_addressed (Some slot) (text ∷ texts) [] h = absurd h

one_for : (n : ℕ) (sender : List ℕ) (dying done : Bool) (place : ℕ) (address : List ℕ) (rs : List Record) → AreFor (requests_of n sender rs) (attempts_of n dying rs)
    → AreFor (requests_of n sender (record { done = done; place = place; address = address } ∷ rs)) (attempts_of n dying (record { done = done; place = place; address = address } ∷ rs))
one_for n sender dying true place address rs h = h
one_for n sender dying false place address rs h = ((0, sender, refl), h)

pub for_records : (n : ℕ) (sender : List ℕ) (dying : Bool) (rs : List Record) → AreFor (requests_of n sender rs) (attempts_of n dying rs)
for_records n sender dying [] = tt
for_records n sender dying (r ∷ rs) = one_for n sender dying r.done r.place r.address rs (for_records n sender dying rs)

one_task : (n : ℕ) (dying done : Bool) (place : ℕ) (address : List ℕ) (rs : List Record) → map task_of (attempts_of n dying rs) ≡ tasks_by n dying (Some rs)
    → map task_of (attempts_of n dying (record { done = done; place = place; address = address } ∷ rs)) ≡ tasks_by n dying (Some (record { done = done; place = place; address = address } ∷ rs))
one_task n dying true place address rs h = h
one_task n dying false place address rs h = ap (λ (t : List Task). let it : Task = record { n = n; place = place; address = address; dying = dying } in it ∷ t) h

pub tasks_are : (n : ℕ) (dying : Bool) (rs : List Record) → map task_of (attempts_of n dying rs) ≡ tasks_by n dying (Some rs)
tasks_are n dying [] = refl
tasks_are n dying (r ∷ rs) = one_task n dying r.done r.place r.address rs (tasks_are n dying rs)
