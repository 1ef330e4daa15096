-- The numbers of deliveries by a sender's past, as its log tells them (qmail-log(5)): the requests that were given are numbered from 1, those of
-- both channels together.
use Rattle.std.specs.Prelude.{◌≡◌, ℕ, List, [], ◌∷◌, ◌++◌, Bool, true, false, ◌||◌, Option, Some, if◌then◌else◌}
use Rattle.call_fs.specs.Maps.{put}
use Rattle.call_fs.specs.Past.{IsRunBy}
use Rattle.call_fs.specs.declared.past.GotData.{GotData}
use Rattle.call_fs.specs.declared.past.NeedData.{NeedData}
use Rattle.call_fs.specs.declared.past.Own.{Own}
use Rattle.mail_bytes.specs.Told.{raised}
use Rattle.send_core.specs.Log.{lines_of}
use Rattle.send_core.specs.Past.{Happening, Task, account}
use Rattle.send_core.specs.Past.Happening.{Gives}
use Rattle.send_core.specs.Table.{Next, place_after}
use Rattle.send_jobs.specs.declared.attempts.Attempt.{Attempt}
use Rattle.send_known.specs.declared.channel.Channel.{Channel}
use Rattle.send_known.specs.declared.channel.Channel.TheVariants.{Local, Remote}
use Rattle.send_jobs.specs.Lines.{channel_word}
use Rattle.send_jobs.specs.Sending.{lane}
use Rattle.send_jobs.specs.Slots.{attempt_in}
use Rattle.send_log.specs.Lines.{starting}
use Rattle.send_runs.specs.Reports.{given_by}
use Rattle.send_runs.specs.Status.{status_after}

abbrev pub is_giving : Happening → Bool
is_giving (Gives slot) = true
is_giving other = false

abbrev pub is_request : NeedData → GotData → Bool
is_request due got = is_giving (given_by due got Local) || is_giving (given_by due got Remote)

-- How many were given; it stays at u64's last value. After a request for the local channel and one for the remote one that is 2.
abbrev pub requests_given : List Own → ℕ
requests_given [] = 0
requests_given (event ∷ before) = if is_request event.due event.came then raised (requests_given before) else requests_given before

-- the number of the request that was given last for a slot
abbrev pub numbered_by : Happening → ℕ → (ℕ → ℕ) → ℕ → ℕ
numbered_by (Gives slot) number of = put of slot number
numbered_by other number of = of

abbrev pub number_in : Channel → List Own → ℕ → ℕ
number_in c [] = λ slot. 0
number_in c (event ∷ before) = numbered_by (given_by event.due event.came c) (requests_given (event ∷ before)) (number_in c before)

-- What a sender counts is that; each attempt in flight has the number of the request that was given last for its slot; and the line of a request
-- that is given tells that number, and the message, the channel and the recipient of the record that comes next of those to be given, and the status
-- line follows it.
pub record DeliveriesAreNumbered : Type 0 where
  pub counted : (turns : Option ℕ) (past : List Own) → IsRunBy (Next turns) past → (place_after turns past).slots.given ≡ requests_given past
  pub numbered : (turns : Option ℕ) (past : List Own) → IsRunBy (Next turns) past → (c : Channel) (slot : ℕ) (a : Attempt)
      → attempt_in (lane c (place_after turns past).slots).slots slot ≡ Some a → a.delivery ≡ number_in c past slot
  pub starts : (turns : Option ℕ) (past : List Own) (event : Own) → IsRunBy (Next turns) (event ∷ past) → (c : Channel) (slot : ℕ) → given_by event.due event.came c ≡ Gives slot
      → (t : Task) (rest : List Task) → (account c past).to_give ≡ t ∷ rest
      → lines_of (place_after turns past) event ≡ starting (requests_given (event ∷ past)) t.n (channel_word c) t.address ++ status_after (event ∷ past)
