-- A message with a job is due at the moment that never comes: what keeps that.
use Rattle.std.proofs.Common.{◌≡◌, ℕ, List, Bool, true, false, Option, Some, None, refl, ap, ◌∙◌, subst}
use Rattle.std.specs.Prelude.{◌==◌, if◌then◌else◌, All, IsSome, is_some}
use Rattle.std.specs.Option.{option_map}
use Rattle.std.proofs.lemmas.Bool.{eq-eqb}
use Rattle.std.proofs.lemmas.List.Elements.{All-weaker}
use Rattle.send_core.specs.Desk.{due_then, file_gone, never}
use Rattle.send_known.specs.declared.channel.Channel.{Channel}
use Rattle.send_known.specs.declared.channel.Channel.TheVariants.{Local, Remote}
use Rattle.send_jobs.specs.declared.jobs.Job.{Job}
use Rattle.send_jobs.specs.declared.lane.Lane.{Lane}
use Rattle.send_jobs.specs.declared.slots.Slots.{Slots}
use Rattle.send_jobs.specs.Jobs.{job_of, unmark, unmarked_if, without}
use Rattle.send_jobs.specs.Lanes.{ended}
use Rattle.send_jobs.specs.Sending.{at_lane, lane}
use Rattle.send_jobs.proofs.JobLemmas.{job_unmarked, job_without}
use Rattle.send_known.specs.declared.messages.Messages.{Messages}
use Rattle.program_law.specs.Sender.Stands.{DueApart}
use Rattle.program_law.proofs.Sender.Lanes.{moved_each, removed_each}

-- an entry of a message with a job is at that moment
abbrev pub IsApart : List Job → ℕ × ℕ → Type 0
IsApart jobs e = IsSome (job_of e.1 jobs) → e.0 ≡ never

-- each message with a job had one
abbrev pub IsFewer : List Job → List Job → Type 0
IsFewer jobs more = (n : ℕ) → IsSome (job_of n jobs) → IsSome (job_of n more)

some_if : (b : Bool) (o : Option Job) → IsSome (if b then None else o) → IsSome o
some_if true o h = absurd (cc)
some_if false o h = h

some_map : (b : Bool) (m : ℕ) (o : Option Job) → IsSome (if b then option_map (unmarked_if m) o else o) → IsSome o
some_map true m None h = h
some_map true m (Some job) h = refl
some_map false m o h = h

pub fewer_ended : (n : ℕ) (jobs : List Job) → IsFewer (without n jobs) jobs
fewer_ended n jobs k h = some_if (n == k) (job_of k jobs) (subst (λ (o : Option Job). IsSome o) (job_without n k jobs) h)

pub fewer_unmarked : (n : ℕ) (jobs : List Job) → IsFewer (unmark n jobs) jobs
fewer_unmarked n jobs k h = some_map (n == k) n (job_of k jobs) (subst (λ (o : Option Job). IsSome o) (job_unmarked n k jobs) h)

-- a job that was ended isn't there
pub none_then : (n : ℕ) (jobs : List Job) → IsSome (job_of n (without n jobs)) → ⊥
none_then n jobs h =
    let same : job_of n (without n jobs) ≡ None = job_without n n jobs ∙ ap (λ b. if b then None else job_of n jobs) (eq-eqb n n refl) in
    let no : is_some (job_of n (without n jobs)) ≡ false = ap (λ o. is_some o) same in
    absurd (cc)

all_fewer : (jobs more : List Job) (es : List (ℕ × ℕ)) → IsFewer jobs more → All (IsApart more) es → All (IsApart jobs) es
all_fewer jobs more es f h = All-weaker (IsApart more) (IsApart jobs) (λ e g some. g (f e.1 some)) es h

-- one channel changed, and has no other jobs
pub apart_lane : (c : Channel) (f : Lane → Lane) (m : Messages) (s : Slots) → IsFewer (f (lane c s)).jobs (lane c s).jobs → DueApart m s → DueApart m (at_lane c f s)
apart_lane Local f m s g h Local = all_fewer (f s.local).jobs s.local.jobs m.local g (h Local)
apart_lane Local f m s g h Remote = h Remote
apart_lane Remote f m s g h Local = h Local
apart_lane Remote f m s g h Remote = all_fewer (f s.remote).jobs s.remote.jobs m.remote g (h Remote)

-- a message is due at another moment
pub apart_then : (c : Channel) (n due : ℕ) (m : Messages) (s : Slots) → (IsSome (job_of n (lane c s).jobs) → due ≡ never) → DueApart m s → DueApart (due_then c n due m) s
apart_then Local n due m s g h Local = moved_each (IsApart s.local.jobs) due n m.local g (h Local)
apart_then Local n due m s g h Remote = h Remote
apart_then Remote n due m s g h Local = h Local
apart_then Remote n due m s g h Remote = moved_each (IsApart s.remote.jobs) due n m.remote g (h Remote)

-- its job is over, and it is due again
pub apart_again : (c : Channel) (n due : ℕ) (m : Messages) (s : Slots) → DueApart m s → DueApart (due_then c n due m) (at_lane c (ended n) s)
apart_again Local n due m s h = apart_then Local n due m (at_lane Local (ended n) s) (λ some. absurd (none_then n s.local.jobs some))
    (apart_lane Local (ended n) m s (fewer_ended n s.local.jobs) h)
apart_again Remote n due m s h = apart_then Remote n due m (at_lane Remote (ended n) s) (λ some. absurd (none_then n s.remote.jobs some))
    (apart_lane Remote (ended n) m s (fewer_ended n s.remote.jobs) h)

removed_apart : (c : Channel) (n : ℕ) (m : Messages) (s : Slots) → DueApart m s → DueApart (file_gone c n m) s
removed_apart Local n m s h Local = removed_each (IsApart s.local.jobs) n m.local (h Local)
removed_apart Local n m s h Remote = h Remote
removed_apart Remote n m s h Local = h Local
removed_apart Remote n m s h Remote = removed_each (IsApart s.remote.jobs) n m.remote (h Remote)

-- its job is over, and its file is gone
pub apart_gone : (c : Channel) (n : ℕ) (m : Messages) (s : Slots) → DueApart m s → DueApart (file_gone c n m) (at_lane c (ended n) s)
apart_gone Local n m s h = removed_apart Local n m (at_lane Local (ended n) s) (apart_lane Local (ended n) m s (fewer_ended n s.local.jobs) h)
apart_gone Remote n m s h = removed_apart Remote n m (at_lane Remote (ended n) s) (apart_lane Remote (ended n) m s (fewer_ended n s.remote.jobs) h)
