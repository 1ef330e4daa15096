-- When a number rests.
use Rattle.std.proofs.Common.{◌≡◌, inl, inr, ℕ, ◌+◌, ◌<◌, ◌≤◌, Some, None, sym, subst, arith}
use Rattle.queue_paths.specs.Names.Name.{Of}
use Rattle.queue_paths.specs.Names.Part.{Mess, Info}
use Rattle.queue_paths.specs.Parts.{in_todo}
use Rattle.queue_law.specs.Numbers.{Queue, Entry, look, About, about, IsRecent, IsQueued, Phase, Sound}
use Rattle.queue_law.specs.Numbers.Phase.{Free, Queued, Sorted, Finished}
use Rattle.queue_law.specs.Ready.{IsSpent}
use Rattle.queue_law.specs.Rests.{IsOverdue, IsClosed, RestsAs}
use Rattle.queue_law.specs.Begins.{RestsBegin}

queued_phase : (w : About) (y : Entry) → in_todo w.parts ≡ Some y → Phase w → IsQueued w
queued_phase w y there (Free h) = let none = h.no_todo in absurd (cc)
queued_phase w y there (Queued h) = h
queued_phase w y there (Sorted h) = let none = h.no_todo in absurd (cc)
queued_phase w y there (Finished h) = let none = h.no_todo in absurd (cc)

begins_queued : (now : ℕ) (q : Queue) (n : ℕ) (y : Entry) → Sound q → in_todo (about q n).parts ≡ Some y
    → RestsAs now q n IsQueued
begins_queued now q n y G there =
    let h = queued_phase (about q n) y there (G.fine n) in
    record {
      closed = record {
        mess = h.taken.mess;
        there = h.taken.mess_there;
        shut = inr (record { injection = h.taken.injection; lives = h.taken.lives; accepted = h.taken.accepted });
      };
      rest = h;
    }

begins_old : (now : ℕ) (q : Queue) (n : ℕ) (y : Entry) → Sound q → look q (Of Mess n) ≡ Some y
    → y.file.moment + 129600 < now → IsClosed now q n
begins_old now q n y G there old =
    let right = G.suits (Of Mess n) y there in
    let number = right.0.0 in
    let args = right.0.1.1 in
    let role = right.0.1.2 in
    let recent : args.start ≤ y.file.moment = subst (IsRecent y.file) role right.1 in
    let over : args.start + 129600 < now = omega (arith, recent, old) in
    record {
      mess = y;
      there = there;
      shut = inl (subst (λ k. IsOverdue now (q.role k)) number (subst (IsOverdue now) (sym role) over));
    }

spent_phase : (w : About) → in_todo w.parts ≡ None → w.parts Info ≡ None → Phase w → IsSpent w
spent_phase w todo info (Free h) = record { unsorted = h.unsorted; no_todo = todo }
spent_phase w todo info (Queued h) = let there = h.todo_there in absurd (cc)
spent_phase w todo info (Sorted h) = let there = h.info_there in absurd (cc)
spent_phase w todo info (Finished h) = record { unsorted = h.unsorted; no_todo = todo }

pub rests_begin : RestsBegin
rests_begin = record {
  queued = begins_queued;
  old = begins_old;
  spent = λ now q n G closed todo info. record { closed = closed; rest = spent_phase (about q n) todo info (G.fine n) };
}
