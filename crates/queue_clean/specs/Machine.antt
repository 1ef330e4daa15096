-- A cleaner as contracts see it.
use Rattle.std.specs.Prelude.{ℕ, ◌+◌, ◌%◌, List, [], ◌++◌, take, drop, Option, Some, None, Bool, if◌then◌else◌, ◌==◌, position}
use Rattle.call_fs.specs.declared.program.Ready.{Ready}
use Rattle.call_fs.specs.declared.past.NeedData.{NeedData}
use Rattle.call_fs.specs.declared.past.GotData.{GotData}
use Rattle.queue_paths.specs.Names.{Name}
use Rattle.queue_clean.specs.declared.row.Row.{Row}
use Rattle.queue_clean.specs.declared.row.Row.TheVariants as at
use Rattle.queue_clean.specs.Commands.{command_of, first_name, second_name}
use Rattle.queue_clean.specs.Table.{first_row, Step, leads_to, due_at}
use Rattle.queue_clean.specs.Table.Step.{Goes, Finds, Scanned, Takes, Answers}
use Rattle.queue_clean.specs.declared.command.TheConstants.{MOST_COMMAND}
use Rattle.queue_clean.specs.declared.intake.TheConstants.{ROUND}

-- What a cleaner holds of its input: the first bytes of the command that it is reading, at most 100; the bytes that it
-- took and hasn't read yet; and how many commands it has taken up, counted modulo 31.
pub record Intake : Type 0 where
  pub word : List ℕ
  pub pending : List ℕ
  pub turn : ℕ

-- A cleaner: its row; the name that its scan of `pid` got last; what it holds of its input; and the moment and readiness
-- that it was told last.
pub record Machine : Type 0 where
  pub row : Row
  pub name : List ℕ
  pub intake : Intake
  pub present : ℕ
  pub ready : Ready

-- The next command

abbrev pub is_nul : ℕ → Bool
is_nul b = b == 0

-- of a command only its first 100 bytes are kept: with so many and a NUL it is too long
abbrev pub kept : List ℕ → List ℕ → List ℕ
kept word bytes = take MOST_COMMAND (word ++ bytes)

-- the row to which the next command leads, by the place of the first NUL that wasn't read yet; without one, more of the
-- input is taken
abbrev pub row_by : Option ℕ → Intake → Row
row_by None i = at.TakeInput
row_by (Some k) i = first_row (command_of (kept i.word (take k i.pending)))

-- what it holds of its input then
abbrev pub read_by : Option ℕ → Intake → Intake
read_by None i = record i { word = kept i.word i.pending; pending = [] }
read_by (Some k) i = record { word = []; pending = drop (k + 1) i.pending; turn = (i.turn + 1) % ROUND }

abbrev pub next_nul : Intake → Option ℕ
next_nul i = position is_nul i.pending

abbrev pub next_row : Intake → Row
next_row i = row_by (next_nul i) i

abbrev pub after_next : Intake → Intake
after_next i = read_by (next_nul i) i

-- What is due, and where what came leads

abbrev pub due_now : Machine → NeedData
due_now m = due_at m.row m.name m.present

abbrev pub with_next : Machine → Machine
with_next m = record m { row = next_row m.intake; intake = after_next m.intake }

-- it takes more only once all that it took before was read
abbrev pub with_taken : Machine → List ℕ → Machine
with_taken m bytes = record m { intake = record m.intake { pending = bytes } }

abbrev pub step_on : Step → Machine → Machine
step_on (Goes row) m = record m { row = row }
step_on (Finds name) m = record m { row = at.StatPid; name = name }
step_on Scanned m = with_next m
step_on (Takes bytes) m = with_next (with_taken m bytes)
step_on Answers m = if m.intake.turn == 0 then record m { row = at.FindPid; name = [] } else with_next m

abbrev pub gone_on : Machine → GotData → Machine
gone_on m came = step_on (leads_to m.row m.present came) m

-- what the code of the table reads of a row: the name that it unlinks for a command
abbrev pub unlinked : Row → Option Name
unlinked (at.UnlinkIntd command) = Some (first_name command)
unlinked (at.UnlinkSecond command) = Some (second_name command)
unlinked row = None
