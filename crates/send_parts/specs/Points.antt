-- Where a step of a turn comes from, as far as what is ready and the channel decide; and where the start leads.
use Rattle.std.specs.Prelude.{ℕ, Bool, true, false, Option, Some, None, if◌then◌else◌, slice_get}
use Rattle.call_fs.specs.declared.program.Ready.{Ready}
use Rattle.send_known.specs.declared.channel.Channel.{Channel}
use Rattle.send_known.specs.declared.channel.Channel.TheVariants.{Local, Remote}
use Rattle.send_parts.specs.declared.reading.Reading.TheVariants.{Opening}
use Rattle.send_parts.specs.declared.row.Point.TheVariants as point
use Rattle.send_parts.specs.declared.row.Row.{Row}
use Rattle.send_parts.specs.declared.row.Row.TheVariants as at
use Rattle.send_parts.specs.declared.rows.FinishRow.TheVariants as finish
use Rattle.send_parts.specs.declared.rows.StartRow.{StartRow}
use Rattle.send_parts.specs.declared.rows.StartRow.TheVariants as start

abbrev pub or_else : Option Row → Row → Row
or_else None row = row
or_else (Some first) row = first

abbrev pub holds : Option Bool → Bool
holds None = false
holds (Some link) = link

abbrev pub link_of : Channel → ℕ
link_of Local = 1
link_of Remote = 2

-- the taking from a link that holds something or has ended
abbrev pub taking : Channel → Ready → Option Row
taking c ready = if holds (slice_get ready.links (link_of c)) then Some (at.TakeLink c) else None

-- a pass goes on while a slot is free; if none is open, one is begun for the message that is due first
abbrev pub beginning : Channel → Bool → Option (ℕ × ℕ) → Option Row
beginning c false entry = None
beginning c true None = None
beginning c true (Some e) = Some (at.ReadFile c e.1 0 Opening)

abbrev pub going_on : Channel → Option ℕ → Option Row
going_on c None = None
going_on c (Some slot) = Some (at.Request c)

-- the finish of the least number that may be finished
abbrev pub finishing_by : Option ℕ → Option Row
finishing_by None = None
finishing_by (Some n) = Some (at.Finish finish.OpenBounce n)

-- the row at which the sender stands after a step of the start
abbrev pub start_at : StartRow → Row
start_at start.Over = at.Turn point.TakeLocal
start_at (start.Ended status) = at.Ended status
start_at row = at.Start row
