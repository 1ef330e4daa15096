-- Where a turn of the sender begins, and what is left to do where it has nothing but to search `todo` (qmail-send(8)).
use Rattle.std.specs.Prelude.{◌≡◌, ◌⊎◌, ◌<◌, ℕ, List, [], true, false, All, None, is_some, slice_get}
use Rattle.call_fs.specs.declared.program.Ready.{Ready}
use Rattle.retry_schedule.specs.Due.{IsInOrder}
use Rattle.send_core.specs.declared.desk.Desk.{Desk}
use Rattle.send_parts.specs.declared.row.Point.TheVariants as point
use Rattle.send_parts.specs.declared.row.Row.{Row}
use Rattle.send_parts.specs.declared.row.Row.TheVariants as at
use Rattle.send_core.specs.Desk.{next_idle, sweep_due}
use Rattle.send_core.specs.Table.{holds, link_of}
use Rattle.send_known.specs.declared.channel.Channel.{Channel}
use Rattle.send_jobs.specs.declared.lane.Lane.{Lane}
use Rattle.send_jobs.specs.Lanes.{next}
use Rattle.send_jobs.specs.Sending.{lane}
use Rattle.send_jobs.specs.Slots.{lowest}
use Rattle.send_jobs.specs.Tries.{due_on}

-- a turn begins here, or the one before ends with nothing to finish or to sweep
abbrev pub BeginsTurn : Row → Type 0
BeginsTurn (at.Turn point.TakeLocal) = Unit {0}
BeginsTurn (at.Turn point.Finish) = Unit {0}
BeginsTurn (at.Turn point.Sweep) = Unit {0}
BeginsTurn row = ⊥

-- the open pass of a channel waits for a free slot; or none is open, and no message is due there
abbrev pub PassRests : ℕ → Lane → List (ℕ × ℕ) → Type 0
PassRests now l due =
    ((is_some (next l) ≡ true) × (lowest l.slots ≡ None))
    ⊎ ((is_some (next l) ≡ false) × (IsInOrder due → All (λ entry. now < entry.0) due))

-- Nothing is to be taken, to be marked, to be given, to be finished or to be swept at this moment.
pub record IsAtRest (d : Desk) (now : ℕ) (ready : Ready) : Type 0 where
  pub links : (c : Channel) → holds (slice_get ready.links (link_of c)) ≡ false
  pub marks : (c : Channel) → (lane c d.slots).marks ≡ []
  pub passes : (c : Channel) → PassRests now (lane c d.slots) (due_on c d.book.messages)
  pub finished : next_idle now d ≡ None
  pub swept : sweep_due now d.swept ≡ false
