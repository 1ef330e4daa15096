-- What else is known at a row
use Rattle.std.proofs.Common.{◌≡◌, ℕ, Option, Some}
use Rattle.bounce_record.specs.Writing.{Writing}
use Rattle.send_core.specs.declared.desk.Desk.{Desk}
use Rattle.send_parts.specs.declared.row.MarkRow.{MarkRow}
use Rattle.send_parts.specs.declared.row.Marked.{Marked}
use Rattle.send_parts.specs.declared.row.Row.{Row}
use Rattle.send_parts.specs.declared.row.Row.TheVariants as at
use Rattle.send_jobs.specs.declared.attempts.Attempt.{Attempt}
use Rattle.send_jobs.specs.declared.attempts.Mark.{Mark}
use Rattle.send_jobs.specs.Lanes.{next}
use Rattle.send_jobs.specs.Sending.{lane, none_out}
use Rattle.send_jobs.specs.Slots.{lowest}
use Rattle.send_parts.specs.declared.rows.StartRow.{StartRow}
use Rattle.send_parts.specs.declared.rows.StartRow.TheVariants as start
use Rattle.send_core.specs.Past.{Account, Work}
use Rattle.send_core.proofs.Standing.{FitAt}

-- What else is known at a row

abbrev pub Where : Row → Desk → Type 0
Where (at.Request c) d = (slot : ℕ) × (a : Attempt) × (lowest (lane c d.slots).slots ≡ Some slot) × (next (lane c d.slots) ≡ Some a)
Where (at.Start (start.GreetRemote limit)) d = d.slots ≡ none_out 0 0
Where row d = Unit {0}

module _ (P : MarkRow → Option Mark → Marked → Writing → Type 0) (f : Option Work) (al ar : Account) (d : Desk) where
  where_start : (row : StartRow) → FitAt P f al ar (at.Start row) d → Where (at.Start row) d
  where_start (start.Control file reading) h = tt
  where_start start.GreetLocal h = tt
  where_start (start.GreetRemote limit) h = h.0.0
  where_start (start.Scan split) h = tt
  where_start (start.StatTodo split n) h = tt
  where_start (start.ReadInfo split n reading) h = tt
  where_start (start.StatInfo split n) h = tt
  where_start (start.StatLocal split n birth) h = tt
  where_start (start.StatRemote split n birth local) h = tt
  where_start start.Over h = tt
  where_start (start.Ended status) h = tt

  pub where_at : (row : Row) → FitAt P f al ar row d → Where row d
  where_at (at.Start row) h = where_start row h
  where_at (at.Turn p) h = tt
  where_at (at.TakeLink c) h = tt
  where_at (at.Mark row m) h = tt
  where_at (at.UnlinkFile c n p) h = tt
  where_at (at.ReadFile c n begun reading) h = tt
  where_at (at.Request c) h = h.1
  where_at (at.FindTodo search) h = tt
  where_at at.InTodo h = tt
  where_at (at.Finish row n) h = tt
  where_at (at.Sweep row) h = tt
  where_at (at.Ended status) h = tt
