-- Which sender stands for which past, that it doesn't store.
use Rattle.std.specs.Prelude.{◌≡◌, ℕ, List, ◌++◌, Option, Bool, true, false, ◌&&◌, not}
use Rattle.call_fs.specs.declared.past.GotData.{GotData}
use Rattle.call_fs.specs.declared.past.NeedData.{NeedData}
use Rattle.call_fs.specs.declared.past.NeedData.TheVariants as needs
use Rattle.call_fs.specs.declared.past.Own.{Own}
use Rattle.call_fs.specs.declared.program.Ready.{Ready}
use Rattle.send_core.specs.declared.desk.Desk.{Desk}
use Rattle.send_parts.specs.declared.row.Point.TheVariants as point
use Rattle.send_parts.specs.declared.row.Row.{Row}
use Rattle.send_parts.specs.declared.row.Row.TheVariants as at
use Rattle.send_core.specs.Log.{lines_at, log_since}
use Rattle.send_core.specs.Table.{place_after, due_at, moved, moved_by, row_now}

-- A sender: what it keeps; the moment and readiness that it was told last, and whether it was told them since its last event;
-- and its log since that was cleared last.
pub record Machine : Type 0 where
  pub desk : Desk
  pub present : ℕ
  pub ready : Ready
  pub looked : Bool
  pub log : List ℕ

abbrev pub row_of : Machine → Row
row_of m = row_now m.desk m.present m.ready

-- what is due; nothing before it has looked
abbrev pub due_if : Bool → Machine → NeedData
due_if true m = due_at (row_of m) m.desk
due_if false m = needs.Wait

abbrev pub due_now : Machine → NeedData
due_now m = due_if m.looked m

-- after a look
abbrev pub looked_at : Machine → ℕ → Ready → Machine
looked_at m now ready = record m { present = now; ready = ready; looked = true }

-- after this came of its need
abbrev pub gone_on : Machine → GotData → Machine
gone_on m came = record m {
  desk = moved_by (row_of m) m.present came m.desk;
  looked = false;
  log = m.log ++ lines_at (row_of m) m.present came m.desk;
}

-- the sender of so many turns stands for this past, newest event first: it keeps what the table says of that
abbrev pub Stands : Machine → Option ℕ → List Own → Type 0
Stands m turns past = m.desk ≡ place_after turns past

-- It stands for these events since its log was cleared last, after those before; and its log has the lines of these.
abbrev pub Logs : Machine → Option ℕ → List Own → List Own → Type 0
Logs m turns recent before = Stands m turns (recent ++ before) × (m.log ≡ log_since turns recent before)

-- An idle turn has just ended at this event: that was a search of `todo` which led to a new turn, or to the end, and nothing else
-- was done in the turn.
abbrev pub is_search : Row → Bool
is_search (at.FindTodo search) = true
is_search row = false

abbrev pub is_between : Row → Bool
is_between (at.Turn point.TakeLocal) = true
is_between (at.Ended status) = true
is_between row = false

abbrev pub ends_idle : Desk → Own → Bool
ends_idle d event = is_search (row_now d event.read event.ready) && (not d.busy && is_between (moved d event).row)
