-- When nothing fails for a message on a channel, by the rows of the sender (qmail-send(8)).
use Rattle.std.specs.Prelude.{◌≡◌, ℕ, List, [], ◌∷◌, true, false, Option, is_some}
use Rattle.call_fs.specs.Past.{IsRunBy}
use Rattle.call_fs.specs.declared.calls.Fd.{Fd}
use Rattle.call_fs.specs.declared.past.Own.{Own}
use Rattle.retry_law.specs.Retries.{ArePlain}
use Rattle.send_core.specs.Table.{Next, place_after, row_now}
use Rattle.send_parts.specs.declared.row.Point.{Point}
use Rattle.send_parts.specs.declared.row.Row.TheVariants as at
use Rattle.send_parts.specs.declared.row.Row.{Row}
use Rattle.send_jobs.specs.Lanes.{is_in_flight}
use Rattle.send_jobs.specs.Sending.{lane}
use Rattle.send_known.specs.declared.channel.Channel.{Channel}
use Rattle.send_links.specs.Records.{records_of}
use Rattle.send_parts.specs.Replies.{is_fine, said}
use Rattle.send_parts.specs.declared.reading.Reading.TheVariants.{Closing, Going, Opening}

-- the row of an event
abbrev pub row_at : Option ℕ → List Own → Own → Row
row_at turns past event = row_now (place_after turns past) event.read event.ready

-- At an event the channel file that is opened, read or unlinked is there, and what is closed was records alone, of a message of which no attempt is in
-- flight.
pub record IsServed (turns : Option ℕ) (past : List Own) (event : Own) : Type 0 where
  pub opened : (c : Channel) (n begun : ℕ) → row_at turns past event ≡ at.ReadFile c n begun Opening → is_fine (said event.came).way ≡ true
  pub read : (c : Channel) (n begun : ℕ) (fd : Fd) → row_at turns past event ≡ at.ReadFile c n begun (Going fd) → is_fine (said event.came).way ≡ true
  pub whole : (c : Channel) (n begun : ℕ) (fd : Fd) → row_at turns past event ≡ at.ReadFile c n begun (Closing fd) → is_some (records_of (place_after turns past).book.read) ≡ true
  pub alone : (c : Channel) (n begun : ℕ) (fd : Fd) → row_at turns past event ≡ at.ReadFile c n begun (Closing fd) → is_in_flight n (lane c (place_after turns past).slots) ≡ false
  pub unlinked : (c : Channel) (n : ℕ) (p : Point) → row_at turns past event ≡ at.UnlinkFile c n p → is_fine (said event.came).way ≡ true

abbrev pub AreServed : Option ℕ → List Own → Type 0
AreServed turns [] = Unit {0}
AreServed turns (event ∷ past) = AreServed turns past × IsServed turns past event

-- Then nothing fails for any message, and no pass begins while an attempt at its message is in flight.
abbrev pub ServedArePlain : Type 0
ServedArePlain = (turns : Option ℕ) (past : List Own) → IsRunBy (Next turns) past → AreServed turns past → (c : Channel) (n : ℕ) → ArePlain c n past
