-- When messages are due that were tried, and when others, by the sender's past (qmail-send(8)).
use Rattle.std.specs.Prelude.{◌≡◌, ◌≢◌, ◌≤◌, ℕ, List, [], ◌∷◌, Bool, true, false, Option, Some, None, All, Contains}
use Rattle.call_fs.specs.Past.{IsRunBy}
use Rattle.call_fs.specs.declared.past.Own.{Own}
use Rattle.retry_law.specs.Moments.{TellsMoments}
use Rattle.retry_law.specs.Passes.{IsClear, lane_after}
use Rattle.retry_law.specs.Tried.{tried_in}
use Rattle.retry_schedule.specs.Retry.{next_retry}
use Rattle.send_core.specs.Past.{account}
use Rattle.send_core.specs.Table.{Next, place_after}
use Rattle.send_jobs.specs.Channels.{skip_of}
use Rattle.send_jobs.specs.Tries.{due_on}
use Rattle.send_known.specs.declared.channel.Channel.TheVariants.{Local, Remote}
use Rattle.send_known.specs.declared.channel.Channel.{Channel}
use Rattle.send_known.specs.declared.known.Known.{Known}
use Rattle.send_runs.specs.DueMoments.Shift.{Begins, Fails}
use Rattle.send_runs.specs.DueMoments.{has_unlinked, shift}
use Rattle.send_runs.specs.Dues.{due_in, flies, pass_in, retry_at, unlinks}
use Rattle.send_runs.specs.Files.{has_in}

-- Nothing fails at an event for a message on a channel, and no pass of it begins while an attempt at it is in flight.
pub record IsPlain (c : Channel) (n : ℕ) (past : List Own) (event : Own) : Type 0 where
  pub done : shift c n past event ≢ Fails
  pub alone : (begun : ℕ) → shift c n past event ≡ Begins begun → flies n (account c past) ≡ false

abbrev pub ArePlain : Channel → ℕ → List Own → Type 0
ArePlain c n [] = Unit {0}
ArePlain c n (event ∷ past) = ArePlain c n past × IsPlain c n past event

-- By the past alone: when it was tried it is due at the next retry after the last pass that is over, and else at once.
pub record IsRetried (now : ℕ) (past : List Own) (event : Own) (c : Channel) (n : ℕ) : Type 0 where
  pub tried : (begun : ℕ) → tried_in c n past ≡ Some begun → due_in c n event.due past ≡ retry_at past c n begun
  pub untried : tried_in c n past ≡ None → due_in c n event.due past ≤ now

-- So it is of a message that has its channel file, while no pass of it goes on, unless that file is unlinked next.
abbrev pub TriedAreRetried : Type 0
TriedAreRetried = (turns : Option ℕ) (now : ℕ) (past : List Own) (event : Own) → IsRunBy (Next turns) (event ∷ past) → All (λ (e : Own). e.read ≤ now) past
    → (c : Channel) (n : ℕ) → ArePlain c n past → has_in c n past ≡ true → pass_in c n past ≡ None → unlinks c n (has_unlinked past) event.due ≡ false
    → IsRetried now past event c n

-- What the sender keeps

abbrev pub has_file : Channel → Known → Bool
has_file Local k = k.local
has_file Remote k = k.remote

-- A message is due on a channel at the next retry after its last pass there, or at once if there was none.
pub record IsDueAgain (turns : Option ℕ) (now : ℕ) (past : List Own) (c : Channel) (k : Known) : Type 0 where
  pub due : ℕ
  pub entry : Contains (due_on c (place_after turns past).book.messages) (due, k.n)
  pub retried : (begun : ℕ) → tried_in c k.n past ≡ Some begun → due ≡ next_retry k.birth begun (skip_of c)
  pub untried : tried_in c k.n past ≡ None → due ≤ now

-- So is each known message on each channel of which it has a file, when that channel is clear, unless that file is unlinked next.
abbrev pub KnownAreDueAgain : Type 0
KnownAreDueAgain = (turns : Option ℕ) (now : ℕ) (past : List Own) (event : Own) → IsRunBy (Next turns) (event ∷ past)
    → All TellsMoments past → All (λ (e : Own). e.read ≤ now) past
    → (c : Channel) (k : Known) → Contains (place_after turns past).book.messages.known k → has_file c k ≡ true → IsClear (lane_after turns past c)
    → ArePlain c k.n past → unlinks c k.n (has_unlinked past) event.due ≡ false → IsDueAgain turns now past c k
