-- The passes that go on by a sender's past, and its jobs (qmail-send(8)).
use Rattle.std.specs.Prelude.{◌≡◌, ℕ, List, [], ◌∷◌, true, false, Option, Some, None}
use Rattle.call_fs.specs.Past.{IsRunBy}
use Rattle.call_fs.specs.declared.past.NeedData.{NeedData}
use Rattle.call_fs.specs.declared.past.Own.{Own}
use Rattle.send_core.specs.Past.{account}
use Rattle.send_core.specs.Table.{Next, place_after}
use Rattle.send_jobs.specs.Jobs.{job_of}
use Rattle.send_jobs.specs.Lanes.{job_over, next}
use Rattle.send_jobs.specs.Sending.{lane}
use Rattle.send_jobs.specs.Slots.{attempt_in}
use Rattle.send_known.specs.declared.channel.Channel.{Channel}
use Rattle.send_jobs.specs.declared.jobs.Job.{Job}
use Rattle.send_jobs.specs.declared.lane.Lane.{Lane}
use Rattle.send_runs.specs.DueMoments.Shift.{Begins}
use Rattle.send_runs.specs.DueMoments.{has_unlinked, is_unlink, shift}
use Rattle.send_runs.specs.Dues.{flies, over_at, pass_in, unlinks}

abbrev pub lane_after : Option ℕ → List Own → Channel → Lane
lane_after turns past c = lane c (place_after turns past).slots

-- Of a message on a channel, after a past, where that is done next. If the sender unlinks its file next, or has no job on it, no pass goes on. Else a
-- pass goes on that began when the job did, and the job isn't over.
pub record PassIsJob (turns : Option ℕ) (past : List Own) (due : NeedData) (c : Channel) (n : ℕ) : Type 0 where
  pub unlinked : unlinks c n (has_unlinked past) due ≡ true → pass_in c n past ≡ None
  pub none : job_of n (lane_after turns past c).jobs ≡ None → pass_in c n past ≡ None
  pub goes : (job : Job) → unlinks c n (has_unlinked past) due ≡ false → job_of n (lane_after turns past c).jobs ≡ Some job
      → (pass_in c n past ≡ Some job.begun) × (job_over n (lane_after turns past c) ≡ None)

-- so it is at each event of a run
abbrev pub PassesAreJobs : Type 0
PassesAreJobs = (turns : Option ℕ) (past : List Own) (event : Own) → IsRunBy (Next turns) (event ∷ past) → (c : Channel) (n : ℕ) → PassIsJob turns past event.due c n

-- Nothing is to be given on the channel, nothing is in flight there and nothing to be marked.
pub record IsClear (l : Lane) : Type 0 where
  pub given : next l ≡ None
  pub flies : (slot : ℕ) → attempt_in l.slots slot ≡ None
  pub marks : l.marks ≡ []

-- Then no pass goes on there.
abbrev pub ClearChannelsRest : Type 0
ClearChannelsRest = (turns : Option ℕ) (past : List Own) (event : Own) → IsRunBy (Next turns) (event ∷ past) → (c : Channel) → IsClear (lane_after turns past c)
    → (n : ℕ) → pass_in c n past ≡ None

-- If a pass begins with nothing to be given, in flight or to be marked its file is unlinked next.
abbrev pub EmptyPassesUnlink : Type 0
EmptyPassesUnlink = (turns : Option ℕ) (past : List Own) (event later : Own) → IsRunBy (Next turns) (later ∷ (event ∷ past)) → (c : Channel) (n begun : ℕ)
    → shift c n past event ≡ Begins begun → flies n (account c past) ≡ false → over_at c n past event ≡ true
    → unlinks c n (is_unlink event.due) later.due ≡ true
