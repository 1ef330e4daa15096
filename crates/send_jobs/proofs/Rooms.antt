-- Marks and attempts in flight.
use Rattle.std.proofs.Common.{◌≡◌, ℕ, ◌+◌, ◌<◌, ◌≤◌, List, [], ◌∷◌, length, set, cond, Option, Some, None, refl, ap, ⊎_elim, arith, length-append, length-drop, length-set, count_by}
use Rattle.std.specs.Prelude.{is_some}
use Rattle.std.proofs.lemmas.Bool.{cases_lt}
use Rattle.std.proofs.lemmas.List.{set_past, get_or_past}
use Rattle.std.proofs.lemmas.List.Sums.{sum_by-set, count_by-le-length}
use Rattle.send_jobs.specs.declared.attempts.Attempt.{Attempt}
use Rattle.send_jobs.specs.declared.attempts.Mark.{Mark}
use Rattle.send_jobs.specs.declared.lane.Lane.{Lane}
use Rattle.send_jobs.specs.Sending.{lane}
use Rattle.send_jobs.specs.Lanes.{next, sent, sent_in, reported, owes, mark_settled, IsRoomy}
use Rattle.send_jobs.specs.Slots.{attempt_in, lowest}

-- how many attempts are in flight in slots
abbrev out : List (Option Attempt) → ℕ
out slots = count_by is_some slots

-- with and without the one in a slot
out_freed : (slots : List (Option Attempt)) (slot : ℕ) → slot < length slots → out (set slots slot None) + cond (is_some (attempt_in slots slot)) 1 0 ≡ out slots
out_freed slots slot lt = let e = sum_by-set (λ s. cond (is_some s) 1 0) slots slot None None lt in omega (arith, e)

freed_le : (slots : List (Option Attempt)) (slot : ℕ) → out (set slots slot None) ≤ out slots
freed_le slots slot = ⊎_elim
    (λ lt. let e = out_freed slots slot lt in omega arith)
    (λ ge. let e = ap out (set_past slots slot None ge) in omega arith)
    (cases_lt slot (length slots))

inside : (slots : List (Option Attempt)) (slot : ℕ) (a : Attempt) → attempt_in slots slot ≡ Some a → slot < length slots
inside slots slot a h = ⊎_elim (λ lt. lt) (λ ge. absurd (cc (get_or_past slots slot None ge))) (cases_lt slot (length slots))

pub idle_roomy : (lane : Lane) → lane.marks ≡ [] → IsRoomy lane
idle_roomy lane h = let none = ap length h in let le = count_by-le-length is_some lane.slots in omega arith

sent_marks : (slot : Option ℕ) (a : Option Attempt) (delivery : ℕ) (lane : Lane) → (sent_in slot a delivery lane).marks ≡ lane.marks
sent_marks (Some slot) (Some a) delivery lane = refl
sent_marks (Some slot) None delivery lane = refl
sent_marks None a delivery lane = refl

pub sent_roomy : (lane : Lane) (delivery : ℕ) → lane.marks ≡ [] → IsRoomy (sent delivery lane)
sent_roomy lane delivery h = idle_roomy (sent delivery lane) (cc (sent_marks (lowest lane.slots) (next lane) delivery lane))

pub reported_roomy : (lane : Lane) (slot : ℕ) → IsRoomy lane → IsRoomy (reported slot lane)
reported_roomy lane slot h = let le = freed_le lane.slots slot in let same = length-set lane.slots slot None in omega arith

pub marked_roomy : (lane : Lane) (slot : ℕ) (a : Attempt) (mark : Mark) → IsRoomy lane → attempt_in lane.slots slot ≡ Some a → IsRoomy (owes mark (reported slot lane))
marked_roomy lane slot a mark h is =
    let freed = out_freed lane.slots slot (inside lane.slots slot a is) in
    let one : ◌≡◌ {A = ℕ} (cond (is_some (attempt_in lane.slots slot)) 1 0) 1 = ap (λ s. cond (is_some s) 1 0) is in
    let same = length-set lane.slots slot None in
    let more = length-append lane.marks (mark ∷ []) in
    omega (arith, one)

pub settled_roomy : (lane : Lane) → IsRoomy lane → IsRoomy (mark_settled lane)
settled_roomy lane h = let le = length-drop 1 lane.marks in omega arith
