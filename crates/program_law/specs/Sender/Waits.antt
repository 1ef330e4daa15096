-- What a sender waits for, by its table: when it gives a command to its cleaner, and when it takes the answer.
use Rattle.std.specs.Prelude.{◌≡◌, ◌⊎◌, ℕ, List}
use Rattle.bounce_record.specs.declared.return_row.ReturnRow.TheVariants as back
use Rattle.call_fs.specs.declared.past.ChildData.{ChildData}
use Rattle.call_fs.specs.declared.past.ChildData.TheVariants as child
use Rattle.call_fs.specs.declared.past.GotData.{GotData}
use Rattle.call_fs.specs.declared.past.GotData.TheVariants as came
use Rattle.call_fs.specs.declared.past.NeedData.TheVariants as needs
use Rattle.call_fs.specs.declared.program.Port.TheVariants as port
use Rattle.call_fs.specs.declared.program.Ready.{Ready}
use Rattle.todo_pass.specs.declared.row.Row.{Row as PassRow}
use Rattle.todo_pass.specs.declared.row.Row.TheVariants as todo
use Rattle.todo_pass.specs.Table.{Pass}
use Rattle.queue_clean.specs.declared.command.Command.{Command}
use Rattle.queue_clean.specs.declared.command.Command.TheVariants.{Foop, Todo}
use Rattle.queue_clean.specs.Commands.{text_of, ended}
use Rattle.send_parts.specs.declared.rows.FinishRow.TheVariants as finish
use Rattle.send_parts.specs.declared.rows.SweepRow.TheVariants as sweep
use Rattle.send_core.specs.declared.desk.Desk.{Desk}
use Rattle.send_parts.specs.declared.row.Row.{Row}
use Rattle.send_parts.specs.declared.row.Row.TheVariants as at
use Rattle.send_core.specs.Table.{due_at, moved_by, row_now}
use Rattle.program_law.specs.Errand.Errands.{Awaits}
use Rattle.program_law.specs.Errand.Errands.Awaits.{Nothing, Answer, Over}

-- what a pass waits for
abbrev pub awaits_in : PassRow → ℕ → Awaits
awaits_in todo.Answer n = Answer (Todo n)
awaits_in row n = Nothing

-- what a sender waits for at a row
abbrev pub awaits_at : Row → Pass → Awaits
awaits_at at.InTodo p = awaits_in p.row p.n
awaits_at (at.Finish finish.Take n) p = Answer (Foop n)
awaits_at (at.Sweep (sweep.Take split n)) p = Answer (Foop n)
awaits_at (at.Ended status) p = Over
awaits_at row p = Nothing

abbrev pub awaits : Desk → Awaits
awaits d = awaits_at d.row d.pass

-- this command is given at a row
abbrev pub IsPassGive : PassRow → ℕ → Command → Type 0
IsPassGive todo.Give n command = command ≡ Todo n
IsPassGive row n command = ⊥

abbrev pub IsGive : Row → Pass → Command → Type 0
IsGive at.InTodo p command = IsPassGive p.row p.n command
IsGive (at.Finish finish.Give n) p command = command ≡ Foop n
IsGive (at.Sweep (sweep.Give split n)) p command = command ≡ Foop n
IsGive row p command = ⊥

-- What a sender does that gives a command: it waits for nothing, and the text is the command's. Afterwards it waits for its answer; if the
-- giving failed, it ends.
pub record GivesAt (row : Row) (d : Desk) (text : List ℕ) : Type 0 where
  pub command : Command
  pub is : IsGive row d.pass command
  pub text_is : text ≡ ended (text_of command)
  pub idle : awaits_at row d.pass ≡ Nothing
  pub given : (now : ℕ) → awaits (moved_by row now came.Gave d) ≡ Answer command
  pub failed : (now : ℕ) → awaits (moved_by row now came.Failed d) ≡ Over

-- the injector of a bounce is started, with room for that
pub record StartsAt (row : Row) (d : Desk) (asked : ChildData) : Type 0 where
  pub n : ℕ
  pub at_return : row ≡ at.Finish finish.Return n
  pub due : d.bounce.row ≡ back.Start
  pub asked_is : asked ≡ child.Bounce d.bounce.room

-- it waits for nothing, or does nothing more
abbrev pub IsFree : Awaits → Type 0
IsFree w = (w ≡ Nothing) ⊎ (w ≡ Over)

-- The laws

pub record SendersWait : Type 0 where
  -- between two steps it waits for what it waits for at the row that is next
  pub arrives : (d : Desk) (read : ℕ) (ready : Ready) → awaits_at (row_now d read ready) d.pass ≡ awaits d
  -- each giving to the cleaner is of a command
  pub gives : (d : Desk) (row : Row) (text : List ℕ) → due_at row d ≡ needs.Give port.Clean text → GivesAt row d text
  -- it takes from the cleaner only what it waits for, and while it waits it does nothing else
  pub takes : (d : Desk) (row : Row) → due_at row d ≡ needs.Take port.Clean → (command : Command) × (awaits_at row d.pass ≡ Answer command)
  pub waits : (d : Desk) (row : Row) (command : Command) → awaits_at row d.pass ≡ Answer command → due_at row d ≡ needs.Take port.Clean
  -- and if that brings nothing, it does nothing more
  pub lost : (d : Desk) (row : Row) (now : ℕ) (got : GotData) → due_at row d ≡ needs.Take port.Clean → (got ≡ came.End) ⊎ (got ≡ came.Failed)
      → awaits (moved_by row now got d) ≡ Over
  -- it starts no program but the injector of a bounce, and runs no command
  pub starts : (d : Desk) (row : Row) (asked : ChildData) → due_at row d ≡ needs.Start asked → StartsAt row d asked
  pub runs : (d : Desk) (row : Row) (text : List ℕ) → due_at row d ≡ needs.Command text → ⊥
  -- after each event but a giving to the cleaner it waits for nothing, or does nothing more
  pub free : (d : Desk) (read : ℕ) (ready : Ready) (got : GotData) → ((text : List ℕ) → due_at (row_now d read ready) d ≡ needs.Give port.Clean text → ⊥)
      → IsFree (awaits (moved_by (row_now d read ready) read got d))
