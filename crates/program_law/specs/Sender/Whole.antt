-- Each event of a sender, over the queue: what holds of the queue holds afterwards, and the sender has what it relies on.
use Rattle.std.specs.Prelude.{◌≡◌, ℕ, ◌≤◌, List, Option}
use Rattle.call_fs.specs.declared.calls.CallData.{CallData}
use Rattle.call_fs.specs.declared.calls.Told.{Told}
use Rattle.call_fs.specs.declared.past.ChildData.{ChildData}
use Rattle.call_fs.specs.declared.past.GotData.{GotData}
use Rattle.call_fs.specs.declared.past.GotData.TheVariants.{Answered}
use Rattle.call_fs.specs.declared.past.NeedData.TheVariants as needs
use Rattle.call_fs.specs.declared.program.Port.{Port}
use Rattle.call_fs.specs.declared.program.Ready.{Ready}
use Rattle.call_fs.specs.Apply.{Fits, IsReadBy}
use Rattle.mail_bytes.specs.Moments.{IsMoment}
use Rattle.send_core.specs.declared.desk.Desk.{Desk}
use Rattle.send_parts.specs.declared.row.Row.{Row}
use Rattle.send_parts.specs.declared.row.Row.TheVariants as at
use Rattle.send_core.specs.Booked.{booked_at}
use Rattle.send_core.specs.Table.{due_at, moved_by, row_now}
use Rattle.todo_pass.specs.declared.row.Row.TheVariants as todo
use Rattle.todo_pass.specs.Table.{answer_row}
use Rattle.queue_law.specs.Entered.{Child}
use Rattle.queue_law.specs.Numbers.{IsPreprocessed, Queue, Role, Sound}
use Rattle.queue_law.specs.Rests.{RestsAs}
use Rattle.queue_law.specs.Senders.{called_queue}
use Rattle.program_law.specs.Sender.Stands.{SenderLeads, SenderStands}
use Rattle.program_law.specs.Sender.Points.{HasChild}
use Rattle.program_law.specs.Sender.Takings.{LeadsThrough, booked_queue}

-- What comes with a taking: after `+` to `todo/N` number N is preprocessed; and the injector whose status is taken is the sender's child.
abbrev pub IsTold : ℕ → Option Child → Queue → Row → GotData → Desk → Type 0
IsTold now child q at.InTodo came d = answer_row came ≡ todo.Done → RestsAs now q d.pass.n IsPreprocessed
IsTold now child q (at.Finish row n) came d = HasChild (booked_at (at.Finish row n) came d) child
IsTold now child q row came d = Unit {0}

-- What a taking or a giving leads to: one step after the other, and what holds of the queue holds then too; and the sender has what it relies on.
pub record SenderTakes (now : ℕ) (a : List ℕ) (q r : Queue) (next : Desk) : Type 0 where
  pub leads : LeadsThrough now a q r
  pub sound : Sound r
  pub stands : SenderStands now r a next

-- A sender that has what it relies on makes a file call that is due, with any answer; it gives what is due, which succeeds or fails; it
-- takes what is due, whatever that is; or it starts the injector of a bounce. By an event at a moment that it reads, and by what it finds
-- ready then. What it did enters its books.
pub record SendersKeep : Type 0 where
  pub calls : (now : ℕ) (q : Queue) (a : List ℕ) (child : Option Child) (d : Desk) (read : ℕ) (ready : Ready) (call : CallData) (told : Told) (wrote : ℕ)
      → Sound q → read ≤ now → IsMoment read → SenderStands now q a d
      → due_at (row_now d read ready) d ≡ needs.File call → Fits q.disk call told.answer wrote → IsReadBy q.disk call told
      → (role : ℕ → Role) × SenderLeads now a q
      (booked_queue child d.book.controls (booked_at (row_now d read ready) (Answered told) d) (called_queue q a read call told.answer wrote role))
      (moved_by (row_now d read ready) read (Answered told) d)
  pub gives : (now : ℕ) (q : Queue) (a : List ℕ) (child : Option Child) (d : Desk) (read : ℕ) (ready : Ready) (port : Port) (bytes : List ℕ) (came : GotData)
      → Sound q → read ≤ now → IsMoment read → SenderStands now q a d → due_at (row_now d read ready) d ≡ needs.Give port bytes
      → SenderTakes now a q (booked_queue child d.book.controls (booked_at (row_now d read ready) came d) q) (moved_by (row_now d read ready) read came d)
  pub takes : (now : ℕ) (q : Queue) (a : List ℕ) (child : Option Child) (d : Desk) (read : ℕ) (ready : Ready) (port : Port) (came : GotData)
      → Sound q → read ≤ now → IsMoment read → SenderStands now q a d
      → due_at (row_now d read ready) d ≡ needs.Take port → IsTold now child q (row_now d read ready) came d
      → SenderTakes now a q (booked_queue child d.book.controls (booked_at (row_now d read ready) came d) q) (moved_by (row_now d read ready) read came d)
  pub starts : (now : ℕ) (q : Queue) (a : List ℕ) (d : Desk) (read : ℕ) (ready : Ready) (asked : ChildData) (came : GotData)
      → read ≤ now → IsMoment read → SenderStands now q a d → due_at (row_now d read ready) d ≡ needs.Start asked
      → SenderStands now q a (moved_by (row_now d read ready) read came d)
