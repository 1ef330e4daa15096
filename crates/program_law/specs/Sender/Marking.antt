-- The steps of a mark: its note, then open, overwrite and close.
use Rattle.std.specs.Prelude.{◌≡◌, ℕ, List, Option}
use Rattle.call_fs.specs.declared.calls.CallData.{CallData}
use Rattle.call_fs.specs.declared.calls.Told.{Told}
use Rattle.call_fs.specs.declared.past.GotData.TheVariants.{Answered}
use Rattle.call_fs.specs.declared.past.NeedData.TheVariants as needs
use Rattle.call_fs.specs.Apply.{Fits, IsReadBy}
use Rattle.send_core.specs.declared.desk.Desk.{Desk}
use Rattle.send_parts.specs.declared.row.MarkRow.{MarkRow}
use Rattle.send_parts.specs.declared.row.Marked.{Marked}
use Rattle.send_parts.specs.declared.row.Row.TheVariants as at
use Rattle.send_core.specs.Booked.{booked_at}
use Rattle.send_core.specs.Table.{act, due_at}
use Rattle.queue_law.specs.Entered.{Child}
use Rattle.queue_law.specs.Numbers.{Queue, Role, Sound}
use Rattle.queue_law.specs.Senders.{called_queue}
use Rattle.program_law.specs.Sender.Stands.{SenderLeads, StandsAt}
use Rattle.program_law.specs.Sender.Takings.{booked_queue}

-- whatever is answered to a call of a mark that is due
abbrev pub MarksKeep : Type 0
MarksKeep = (now : ℕ) (q : Queue) (a : List ℕ) (child : Option Child) (row : MarkRow) (m : Marked) (d : Desk) (read : ℕ) (call : CallData) (told : Told)
    (wrote : ℕ) → Sound q → StandsAt now q a (at.Mark row m) d → due_at (at.Mark row m) d ≡ needs.File call
    → Fits q.disk call told.answer wrote → IsReadBy q.disk call told
    → (role : ℕ → Role) × SenderLeads now a q (booked_queue child d.book.controls (booked_at (at.Mark row m) (Answered told) d) (called_queue q a read call told.answer wrote role))
    (act (at.Mark row m) read (Answered told) d)
