-- The sender's start, and what it goes over into: the first turn, or the end.
use Rattle.std.specs.Prelude.{ℕ, List}
use Rattle.send_jobs.specs.declared.slots.Slots.{Slots}
use Rattle.send_jobs.specs.Sending.{none_out}
use Rattle.send_parts.specs.declared.rows.StartRow.{StartRow}
use Rattle.send_parts.specs.declared.rows.StartRow.TheVariants as start
use Rattle.send_parts.specs.Replies.{Said}
use Rattle.send_parts.specs.Start.{act_start, remote_limit}
use Rattle.send_core.specs.declared.desk.Desk.{Desk}
pub use Rattle.send_parts.specs.Points.{start_at}

-- each channel has as many slots as its spawner's byte says, and no more than its control file
abbrev pub slots_by : StartRow → List ℕ → Desk → Slots
slots_by (start.GreetRemote limit) bytes d = none_out limit (remote_limit bytes d.book.controls)
slots_by row bytes d = d.slots

-- what came at a row of the start, before the sender goes on to the next one
abbrev pub entered : StartRow → Said → Desk → Desk
entered row s d = record d { book = act_start row s d.book; slots = slots_by row s.bytes d }

-- what came at a row of the start
abbrev pub started : StartRow → Said → Desk → Desk
started row s d = let e = entered row s d in record e { row = start_at e.book.row }
