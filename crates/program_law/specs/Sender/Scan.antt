-- The scan of the info files at a sender's start (qmail-send(8)): each number that has one and no todo file is known from then on.
use Rattle.std.specs.Prelude.{◌≡◌, ℕ, List}
use Rattle.call_fs.specs.declared.calls.CallData.{CallData}
use Rattle.call_fs.specs.declared.calls.Told.{Told}
use Rattle.call_fs.specs.declared.past.GotData.TheVariants.{Answered}
use Rattle.call_fs.specs.declared.past.NeedData.TheVariants as needs
use Rattle.call_fs.specs.Apply.{Fits, IsReadBy}
use Rattle.send_core.specs.declared.desk.Desk.{Desk}
use Rattle.send_parts.specs.declared.row.Row.TheVariants as at
use Rattle.send_core.specs.Table.{act, due_at}
use Rattle.send_parts.specs.declared.rows.StartRow.{StartRow}
use Rattle.send_parts.specs.declared.rows.StartRow.TheVariants as start
use Rattle.queue_law.specs.Numbers.{Queue, Sound}
use Rattle.queue_law.specs.Senders.{called_queue}
use Rattle.program_law.specs.Sender.Stands.{SenderLeads, StandsAt}

-- its rows
abbrev pub IsScan : StartRow → Type 0
IsScan (start.Scan split) = Unit {0}
IsScan (start.StatTodo split n) = Unit {0}
IsScan (start.ReadInfo split n reading) = Unit {0}
IsScan (start.StatInfo split n) = Unit {0}
IsScan (start.StatLocal split n birth) = Unit {0}
IsScan (start.StatRemote split n birth local) = Unit {0}
IsScan row = ⊥

-- whatever is answered to a call of it that is due
abbrev pub ScansKeep : Type 0
ScansKeep = (now : ℕ) (q : Queue) (a : List ℕ) (row : StartRow) (d : Desk) (read : ℕ) (call : CallData) (told : Told) (wrote : ℕ)
    → IsScan row → Sound q → StandsAt now q a (at.Start row) d → due_at (at.Start row) d ≡ needs.File call
    → Fits q.disk call told.answer wrote → IsReadBy q.disk call told
    → SenderLeads now a q (called_queue q a read call told.answer wrote q.role) (act (at.Start row) read (Answered told) d)
