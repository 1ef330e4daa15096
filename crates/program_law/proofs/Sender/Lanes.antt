-- What each event of a channel keeps of what holds of it over the queue, before a mark is written.
use Rattle.std.proofs.Common.{◌≡◌, ℕ, List, Bool, true, false, Option, Some, None, refl, sym, ◌∙◌, subst, ⊎_elim}
use Rattle.std.specs.Prelude.{◌&&◌, ◌==◌, if◌then◌else◌, not, All, Contains}
use Rattle.std.specs.Option.{option_map}
use Rattle.std.specs.List.{list_any}
use Rattle.std.proofs.lemmas.List.Elements.{All-contains, All-contains_itself, All-push, All-weaker}
use Rattle.retry_schedule.specs.Due.{is_due, moved, put, removed}
use Rattle.retry_schedule.proofs.Entries.{in_added, in_removed}
use Rattle.send_core.specs.Desk.{due_on, due_then}
use Rattle.send_jobs.specs.declared.attempts.Attempt.{Attempt}
use Rattle.send_jobs.specs.declared.attempts.Mark.{Mark}
use Rattle.send_known.specs.declared.channel.Channel.{Channel}
use Rattle.send_known.specs.declared.channel.Channel.TheVariants.{Local, Remote}
use Rattle.send_jobs.specs.declared.jobs.Job.{Job}
use Rattle.send_jobs.specs.declared.lane.Lane.{Lane}
use Rattle.send_jobs.specs.declared.slots.Slots.{Slots}
use Rattle.send_jobs.specs.Jobs.{job_of, unmark, unmarked_if}
use Rattle.send_jobs.specs.Lanes.{ended, finished, is_mark_on, job_over, left_unmarked, owes, reported}
use Rattle.send_jobs.specs.Sending.{at_lane, lane}
use Rattle.send_jobs.specs.Slots.{attempt_in}
use Rattle.send_jobs.proofs.JobLemmas.{job_unmarked, job_without}
use Rattle.send_known.specs.declared.messages.Messages.{Messages}
use Rattle.program_law.specs.Channel.Tied.{IsTied}
use Rattle.program_law.specs.Channel.Tied.First.{Unwritten}
use Rattle.program_law.proofs.Channel.Passes.{none_kept, over_kept}
use Rattle.program_law.proofs.Channel.Ties.{report_kept}
use Rattle.queue_law.specs.Numbers.{Queue, about}
use Rattle.program_law.specs.Sender.Views.{files_of}
use Rattle.program_law.specs.Sender.Knows.{IsEntered, Serves}

-- over this queue, of a channel with no mark at work
pub record OnLane (q : Queue) (ch : Channel) (l : Lane) : Type 0 where
  pub tied : IsTied (files_of q ch) Unwritten l
  pub jobs : (n : ℕ) (job : Job) → job_of n l.jobs ≡ Some job → Serves (about q n) ch
  pub marks : All (λ (m : Mark). IsEntered (about q m.attempt.n) ch m) l.marks

abbrev pub OnBoth : Queue → Slots → Type 0
OnBoth q s = (ch : Channel) → OnLane q ch (lane ch s)

some_job : (b : Bool) (o : Option Job) (job : Job) → ◌≡◌ {A = Option Job} (if b then None else o) (Some job) → o ≡ Some job
some_job true o job e = absurd (cc)
some_job false o job e = e

if_job : (b : Bool) (o : Option Job) (job : Job) → ◌≡◌ {A = Option Job} (if b then o else None) (Some job) → o ≡ Some job
if_job true o job e = e
if_job false o job e = absurd (cc)

was_job : (m : ℕ) (o : Option Job) (job : Job) → option_map (unmarked_if m) o ≡ Some job → (was : Job) × (o ≡ Some was)
was_job m None job e = absurd (cc)
was_job m (Some was) job e = (was, refl)

pub unmarked_was : (b : Bool) (m : ℕ) (o : Option Job) (job : Job) → ◌≡◌ {A = Option Job} (if b then option_map (unmarked_if m) o else o) (Some job)
    → (was : Job) × (o ≡ Some was)
unmarked_was true m o job e = was_job m o job e
unmarked_was false m o job e = (job, e)

-- a job that is over is there
pub over_there : (n : ℕ) (l : Lane) (job : Job) → job_over n l ≡ Some job → job_of n l.jobs ≡ Some job
over_there n l job e = if_job (finished n l && not (list_any (is_mark_on n) l.marks)) (job_of n l.jobs) job e

module _ (q : Queue) (ch : Channel) (l : Lane) (h : OnLane q ch l) where
  pub ended_on : (n : ℕ) (job : Job) → job_over n l ≡ Some job → OnLane q ch (ended n l)
  ended_on n job over = record {
    tied = over_kept (files_of q ch) Unwritten l n job h.tied over;
    jobs = λ k other e. h.jobs k other (some_job (n == k) (job_of k l.jobs) other (sym (job_without n k l.jobs) ∙ e));
    marks = h.marks;
  }

  -- no job was there
  pub none_on : (n : ℕ) → job_of n l.jobs ≡ None → OnLane q ch (ended n l)
  none_on n none = record {
    tied = none_kept (files_of q ch) Unwritten l n h.tied none;
    jobs = λ k other e. h.jobs k other (some_job (n == k) (job_of k l.jobs) other (sym (job_without n k l.jobs) ∙ e));
    marks = h.marks;
  }

  jobs_unmarked : (n k : ℕ) (job : Job) → job_of k (unmark n l.jobs) ≡ Some job → Serves (about q k) ch
  jobs_unmarked n k job e = let w = unmarked_was (n == k) n (job_of k l.jobs) job (sym (job_unmarked n k l.jobs) ∙ e) in h.jobs k w.0 w.1

  pub owed_on : (slot : ℕ) (a : Attempt) (m : Mark) → attempt_in l.slots slot ≡ Some a → m.attempt ≡ a → IsEntered (about q m.attempt.n) ch m
      → OnLane q ch (owes m (reported slot l))
  owed_on slot a m there same entered = record {
    tied = (report_kept (files_of q ch) l slot a m h.tied there same).0;
    jobs = h.jobs;
    marks = All-push (λ (x : Mark). IsEntered (about q x.attempt.n) ch x) l.marks m h.marks entered;
  }

  pub left_on : (slot : ℕ) (a : Attempt) → attempt_in l.slots slot ≡ Some a → OnLane q ch (left_unmarked a.n (reported slot l))
  left_on slot a there = record {
    tied = (report_kept (files_of q ch) l slot a (record { attempt = a; note = None }) h.tied there refl).1;
    jobs = λ k job e. jobs_unmarked a.n k job e;
    marks = h.marks;
  }

-- one channel changed
pub lane_on : (q : Queue) (c : Channel) (f : Lane → Lane) (s : Slots) → OnBoth q s → OnLane q c (f (lane c s)) → OnBoth q (at_lane c f s)
lane_on q Local f s h one Local = one
lane_on q Local f s h one Remote = h Remote
lane_on q Remote f s h one Local = h Local
lane_on q Remote f s h one Remote = one

-- Due entries

-- what holds of an entry and of others holds of all once it is put in place of the one of its number
pub put_each : (P : ℕ × ℕ → Type 0) (due n : ℕ) (es : List (ℕ × ℕ)) → P (due, n) → All P es → All P (put (due, n) es)
put_each P due n es p h = All-weaker (Contains (put (due, n) es)) P each (put (due, n) es) (All-contains_itself (put (due, n) es))
  where
    each : (x : ℕ × ℕ) → Contains (put (due, n) es) x → P x
    each x w = ⊎_elim
        (λ same. subst P (sym same) p)
        (λ old. All-contains P es x h ((in_removed n x es).0 old).0)
        ((in_added (due, n) x (removed n es)).0 w)

pub moved_each : (P : ℕ × ℕ → Type 0) (due n : ℕ) (es : List (ℕ × ℕ)) → P (due, n) → All P es → All P (moved (due, n) es)
moved_each P due n es p h = by_due (is_due n es)
  where
    by_due : (b : Bool) → All P (if b then put (due, n) es else es)
    by_due true = put_each P due n es p h
    by_due false = h

pub removed_each : (P : ℕ × ℕ → Type 0) (n : ℕ) (es : List (ℕ × ℕ)) → All P es → All P (removed n es)
removed_each P n es h = All-weaker (Contains (removed n es)) P (λ e w. All-contains P es e h ((in_removed n e es).0 w).0) (removed n es) (All-contains_itself (removed n es))

abbrev OfNumber : (ℕ → Type 0) → ℕ × ℕ → Type 0
OfNumber P e = P e.1

abbrev pub AllServe : Queue → Messages → Type 0
AllServe q m = (ch : Channel) → All (λ (e : ℕ × ℕ). Serves (about q e.1) ch) (due_on ch m)

pub then_on : (q : Queue) (c : Channel) (n due : ℕ) (m : Messages) → Serves (about q n) c → AllServe q m → AllServe q (due_then c n due m)
then_on q Local n due m s h Local = moved_each (OfNumber (λ k. Serves (about q k) Local)) due n m.local s (h Local)
then_on q Local n due m s h Remote = h Remote
then_on q Remote n due m s h Local = h Local
then_on q Remote n due m s h Remote = moved_each (OfNumber (λ k. Serves (about q k) Remote)) due n m.remote s (h Remote)
