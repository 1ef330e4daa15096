-- What a cleaner does next, as a function of its own past (qmail-clean(8); INTERNALS, "Cleanups").
use Rattle.std.specs.Prelude.{ℕ, ◌+◌, ◌%◌, List, [], ◌∷◌, ◌++◌, Bool, true, false, Option, Some, None, if◌then◌else◌, ◌==◌, nat_lt, slice_get, codes}
use Rattle.call_fs.specs.declared.calls.CallData.TheVariants as call
use Rattle.call_fs.specs.declared.calls.Answer.{Answer}
use Rattle.call_fs.specs.declared.calls.Answer.TheVariants as answer
use Rattle.call_fs.specs.declared.calls.FsError.TheVariants.{NotThere}
use Rattle.call_fs.specs.declared.program.Port.TheVariants.{Input, Output}
use Rattle.call_fs.specs.declared.program.Ready.{Ready}
use Rattle.call_fs.specs.declared.past.NeedData.{NeedData}
use Rattle.call_fs.specs.declared.past.NeedData.TheVariants as needs
use Rattle.call_fs.specs.declared.past.GotData.{GotData}
use Rattle.call_fs.specs.declared.past.GotData.TheVariants.{Answered, Took, End, Gave}
use Rattle.call_fs.specs.declared.past.Own.{Own}
use Rattle.queue_paths.specs.Names.{path}
use Rattle.queue_clean.specs.declared.command.Command.{Command}
use Rattle.queue_clean.specs.declared.row.Reply.{Reply}
use Rattle.queue_clean.specs.declared.row.Reply.TheVariants.{Removed, Failed, Unknown}
use Rattle.queue_clean.specs.declared.row.Row.{Row}
use Rattle.queue_clean.specs.declared.row.Row.TheVariants as at
use Rattle.queue_clean.specs.Commands.{commands, command_of, first_name, second_name}
use Rattle.queue_clean.specs.declared.intake.TheConstants.{ROUND}
use Rattle.queue_limits.specs.declared.statuses.TheConstants.{DONE, INPUT, OUTPUT}
use Rattle.queue_limits.specs.declared.times.TheConstants.{PID_NAME_AGE}

-- Where a cleaner stands: its row; the name that its scan of `pid` got last, empty before the first; all that it took of
-- its input; and how many commands it has taken up.
pub record Place : Type 0 where
  pub row : Row
  pub name : List ℕ
  pub taken : List ℕ
  pub begun : ℕ

-- it begins with a scan of `pid`
abbrev pub start : Place
start = record { row = at.FindPid; name = []; taken = []; begun = 0 }

-- The next command

-- A command is carried out, and any other text is answered `x`.
abbrev pub first_row : Option Command → Row
first_row None = at.Answer Unknown
first_row (Some command) = at.UnlinkIntd command

-- it is taken up; while there is none, more of the input is taken
abbrev pub take_up : Option (List ℕ) → Place → Place
take_up None p = record p { row = at.TakeInput }
take_up (Some text) p = record p { row = first_row (command_of text); begun = p.begun + 1 }

abbrev pub next_command : Place → Place
next_command p = take_up (slice_get (commands p.taken) p.begun) p

-- What came

-- the name that a search gave, and none after the last name or a failure
abbrev pub name_told : Answer → Option (List ℕ)
name_told (answer.Name name) = Some name
name_told other = None

abbrev pub name_in : GotData → Option (List ℕ)
name_in (Answered told) = name_told told.answer
name_in other = None

-- the moment that a stat gave
abbrev pub moment_told : Answer → Option ℕ
moment_told (answer.Stat stat) = Some stat.moment
moment_told other = None

abbrev pub moment_in : GotData → Option ℕ
moment_in (Answered told) = moment_told told.answer
moment_in other = None

-- the name that was to be unlinked is gone, or was never there
abbrev pub gone_told : Answer → Bool
gone_told answer.Done = true
gone_told (answer.Refused NotThere) = true
gone_told other = false

abbrev pub is_gone : GotData → Bool
is_gone (Answered told) = gone_told told.answer
is_gone other = false

-- Where it leads

pub data Step : Type 0 where
  -- to another row
  Goes : Row → Step
  -- to the stat of this name in `pid`
  Finds : (name : List ℕ) → Step
  -- the scan is over: to the next command
  Scanned : Step
  -- these bytes came: to the next command
  Takes : (bytes : List ℕ) → Step
  -- an answer was given: before commands 1, 32, 63 and so on to a scan of `pid`, else to the next command
  Answers : Step

abbrev pub found : Option (List ℕ) → Step
found None = Scanned
found (Some name) = Finds name

-- a failed stat is passed over
abbrev pub stated : Option ℕ → Row
stated None = at.FindPid
stated (Some moment) = at.JudgePid moment

abbrev pub took : GotData → Step
took (Took bytes) = Takes bytes
took End = Goes (at.Ended DONE)
took other = Goes (at.Ended INPUT)

abbrev pub gave : GotData → Step
gave Gave = Answers
gave other = Goes (at.Ended OUTPUT)

-- one that isn't gone ends the command with `!`
abbrev pub after_intd : Command → Bool → Row
after_intd command true = at.UnlinkSecond command
after_intd command false = at.Answer Failed

abbrev pub after_second : Bool → Row
after_second true = at.Answer Removed
after_second false = at.Answer Failed

-- a file in `pid` was last written more than 36 hours ago
abbrev pub is_old : ℕ → ℕ → Bool
is_old moment now = nat_lt (moment + PID_NAME_AGE) now

-- what came of a row at this moment; of `JudgePid` it came of the unlink, which is passed over, or of the next search
abbrev pub leads_to : Row → ℕ → GotData → Step
leads_to at.FindPid now came = found (name_in came)
leads_to at.StatPid now came = Goes (stated (moment_in came))
leads_to (at.JudgePid moment) now came = if is_old moment now then Goes at.FindPid else found (name_in came)
leads_to at.TakeInput now came = took came
leads_to (at.UnlinkIntd command) now came = Goes (after_intd command (is_gone came))
leads_to (at.UnlinkSecond command) now came = Goes (after_second (is_gone came))
leads_to (at.Answer reply) now came = gave came
leads_to (at.Ended status) now came = Goes (at.Ended status)

abbrev pub goes_on : Step → Place → Place
goes_on (Goes row) p = record p { row = row }
goes_on (Finds name) p = record p { row = at.StatPid; name = name }
goes_on Scanned p = next_command p
goes_on (Takes bytes) p = next_command (record p { taken = p.taken ++ bytes })
goes_on Answers p = if p.begun % ROUND == 0 then record p { row = at.FindPid; name = [] } else next_command p

abbrev pub moved : Place → Own → Place
moved p event = goes_on (leads_to p.row event.read event.came) p

-- where it stands after a past, newest event first
abbrev pub place_after : List Own → Place
place_after [] = start
place_after (event ∷ before) = moved (place_after before) event

-- What is due

abbrev pub pid_path : List ℕ → List ℕ
pid_path name = codes "pid/" ++ name

abbrev pub search_after : List ℕ → NeedData
search_after name = needs.File (call.NextName (codes "pid") name)

-- removed, `+`; not removed, `!`; no command, `x`
abbrev pub reply_text : Reply → List ℕ
reply_text Removed = codes "+"
reply_text Failed = codes "!"
reply_text Unknown = codes "x"

abbrev pub due_at : Row → List ℕ → ℕ → NeedData
due_at at.FindPid name now = search_after name
due_at at.StatPid name now = needs.File (call.Stat (pid_path name))
due_at (at.JudgePid moment) name now = if is_old moment now then needs.File (call.Unlink (pid_path name)) else search_after name
due_at at.TakeInput name now = needs.Take Input
due_at (at.UnlinkIntd command) name now = needs.File (call.Unlink (path (first_name command)))
due_at (at.UnlinkSecond command) name now = needs.File (call.Unlink (path (second_name command)))
due_at (at.Answer reply) name now = needs.Give Output (reply_text reply)
due_at (at.Ended status) name now = needs.Ended status

abbrev pub due_by : Place → ℕ → NeedData
due_by p now = due_at p.row p.name now

-- What a cleaner does next: after this past, newest event first, at this moment. It has no arguments, and it doesn't
-- matter what it finds ready.
abbrev pub Next : Unit {0} → List Own → ℕ → Ready → NeedData
Next args past now ready = due_by (place_after past) now
