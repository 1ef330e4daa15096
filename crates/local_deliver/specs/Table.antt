-- What a local delivery does next, as a function of its own past (qmail-local(8), dot-qmail(5), qmail-command(8)). Of each row:
-- what is done there (`due_at`), and where what came of it leads (`act`). If no row names what came, it leads where a failure
-- does. If a call, a start or a command found no memory, the delivery makes the calls that follow a failure, and ends with 51.
use Rattle.std.specs.Prelude.{ℕ, List, [], ◌∷◌, ◌++◌, length, Option, Some, None, if◌then◌else◌, ◌==◌, nat_lt, codes}
use Rattle.call_fs.specs.declared.file_system.TheConstants.{PIECE}
use Rattle.call_fs.specs.declared.calls.Answer.{Answer}
use Rattle.call_fs.specs.declared.calls.Answer.TheVariants as answer
use Rattle.call_fs.specs.declared.calls.CallData.TheVariants as call
use Rattle.call_fs.specs.declared.calls.Fd.{Fd}
use Rattle.call_fs.specs.declared.calls.FsError.TheVariants as why
use Rattle.call_fs.specs.declared.calls.How.TheVariants as how
use Rattle.call_fs.specs.declared.past.ChildData.TheVariants as child
use Rattle.call_fs.specs.declared.past.GotData.{GotData}
use Rattle.call_fs.specs.declared.past.GotData.TheVariants as came
use Rattle.call_fs.specs.declared.past.NeedData.{NeedData}
use Rattle.call_fs.specs.declared.past.NeedData.TheVariants as needs
use Rattle.call_fs.specs.declared.past.Own.{Own}
use Rattle.call_fs.specs.declared.program.Port.TheVariants as port
use Rattle.call_fs.specs.declared.program.Ready.{Ready}
use Rattle.dot_qmail.specs.declared.line.Line.{Line}
use Rattle.dot_qmail.specs.declared.choice.Chosen.{Chosen}
use Rattle.dot_qmail.specs.declared.choice.Chosen.TheVariants as chosen
use Rattle.local_parts.specs.declared.arguments.LocalArgs.{LocalArgs}
use Rattle.local_parts.specs.declared.forwarding.Injection.{Injection}
use Rattle.local_parts.specs.Choosing.{chosen_by, file_name}
use Rattle.local_parts.specs.Course.{Course, Work, work_of, begun as begun_course, passed, cut, lines_of, course_of, default_text}
use Rattle.local_parts.specs.Course.Work.{Nothing, ToCommand, ToMaildir, ToMailbox}
use Rattle.local_parts.specs.Endings.{command_report, command_status, forward_report, forward_status}
use Rattle.local_parts.specs.Forwarding.{injection_of}
use Rattle.local_parts.specs.Host.{host_in}
use Rattle.local_parts.specs.Inputs.{message_in}
use Rattle.local_parts.specs.Looping.{is_looping}
use Rattle.local_parts.specs.Names.{last_name}
use Rattle.local_parts.specs.Tally.{did_report, forwarded_report}
use Rattle.local_parts.specs.Texts.{delivered_to}
use Rattle.local_parts.specs.declared.endings.TheConstants.{TEMPORARY}
use Rattle.maildir_drop.specs.Ends.{EndData}
use Rattle.maildir_drop.specs.Ends.EndData.{IsDropped, IsDeferred, LacksMemory}
use Rattle.maildir_drop.specs.Names.{is_name}
use Rattle.queue_limits.specs.declared.statuses.TheConstants.{DONE, MEMORY}
use Rattle.local_deliver.specs.declared.place.Place.{Place}
use Rattle.local_deliver.specs.declared.row.Failure.{Failure}
use Rattle.local_deliver.specs.declared.row.Failure.TheVariants as failure
use Rattle.local_deliver.specs.declared.row.Reading.{Reading}
use Rattle.local_deliver.specs.declared.row.Reading.TheVariants as reading
use Rattle.local_deliver.specs.declared.row.Row.{Row}
use Rattle.local_deliver.specs.declared.row.Row.TheVariants as at
use Rattle.local_deliver.specs.declared.step.Step.{Step}
use Rattle.local_deliver.specs.declared.step.Step.TheVariants as step
use Rattle.local_deliver.specs.declared.row.Wanted.{Wanted}
use Rattle.local_deliver.specs.declared.row.Wanted.TheVariants as wanted
use Rattle.local_deliver.specs.Drops.{Drop, begun_drop, drop_arguments, due_drop, end_drop, moved_drop}
use Rattle.local_deliver.specs.Failures.{text_of, status_of}

-- at first: nothing was taken
abbrev pub begun : Place
begun = record { row = at.TakeInput; message = []; read = []; host = []; names = []; name = []; course = begun_course []; dropping = None; text = []; room = 0; injector = 0 }

-- The ends

abbrev pub fails : Failure → Place → Place
fails reason p = record p { row = at.Fail reason }

abbrev pub ends : ℕ → Place → Place
ends status p = record p { row = at.Ended status }

abbrev pub reports : ℕ → List ℕ → Place → Place
reports status text p = record p { row = at.Report status; text = text }

-- The instructions, line by line

-- after the last line: one injection for all forwards, if there are any
abbrev pub last_step : Option Injection → List Line → Step
last_step None lines = step.Report (did_report lines)
last_step (Some it) lines = step.Start it

-- what these lines lead to, of which this is to be done next; the moment is that of the event just before
abbrev pub step_of : LocalArgs → ℕ → Work → List Line → Place → Step
step_of args now Nothing lines p = last_step (injection_of args p.names p.message lines) lines
step_of args now (ToCommand text) lines p = step.Run text
step_of args now (ToMaildir path) lines p = step.Drop (begun_drop (drop_arguments args now path p.host p.message))
step_of args now (ToMailbox path) lines p = step.Fail failure.Mailbox

-- a drop whose name isn't of the form of one has ended at once: its directory counts as missing
abbrev pub drops_by : Option EndData → Drop → Place → Place
drops_by None d p = record p { row = at.Drop; dropping = Some d }
drops_by (Some end) d p = fails failure.Maildir p

abbrev pub takes : Step → Place → Place
takes (step.Report text) p = reports DONE text p
takes (step.Start it) p = record p { row = at.Start; text = it.text; room = it.room }
takes (step.Run text) p = record p { row = at.Run; text = text }
takes (step.Drop d) p = drops_by (end_drop d) d p
takes (step.Fail reason) p = fails reason p

-- goes on to the next line
abbrev pub goes_on : LocalArgs → ℕ → Place → Place
goes_on args now p = takes (step_of args now (work_of p.course.ahead) (lines_of p.course) p) p

-- the line at work was done
abbrev pub line_done : LocalArgs → ℕ → Place → Place
line_done args now p = goes_on args now (record p { course = passed p.course })

-- the line at work was a command that has the later lines passed over
abbrev pub lines_done : LocalArgs → ℕ → Place → Place
lines_done args now p = goes_on args now (record p { course = cut p.course })

abbrev pub begins_lines : LocalArgs → ℕ → Option Course → Place → Place
begins_lines args now None p = fails failure.BlankFirst p
begins_lines args now (Some course) p = goes_on args now (record p { course = course })

-- The home

abbrev pub by_default : LocalArgs → ℕ → Place → Place
by_default args now p = begins_lines args now (course_of (default_text args)) p

abbrev pub follows : LocalArgs → ℕ → Option Chosen → Place → Place
follows args now None p = fails failure.NoMailbox p
follows args now (Some chosen.Default) p = by_default args now p
follows args now (Some (chosen.File place)) p = record p { row = at.Open wanted.Instructions; read = []; name = file_name args p.names place }

-- its names were told
abbrev pub chooses : LocalArgs → ℕ → Place → Place
chooses args now p = follows args now (chosen_by args p.names) p

-- a home that isn't of the form of a name counts as missing
abbrev pub looks : LocalArgs → Place → Place
looks args p = if is_name args.home then record p { row = at.NextName } else fails failure.Home p

abbrev pub named : LocalArgs → ℕ → Answer → Place → Place
named args now (answer.Name name) p = record p { row = at.NextName; names = p.names ++ name ∷ [] }
named args now answer.NoName p = chooses args now p
named args now (answer.Refused why.Memory) p = ends MEMORY p
named args now told p = fails failure.Home p

-- The name of the host, and then the loop test

abbrev pub hosted : LocalArgs → List ℕ → Place → Place
hosted args host p = if is_looping (delivered_to args) p.message then fails failure.Looping p else looks args (record p { host = host })

abbrev pub hosted_by : LocalArgs → Option (List ℕ) → Place → Place
hosted_by args None p = fails failure.Home p
hosted_by args (Some host) p = hosted args host p

-- Files

-- without control/me the host is `localhost`
abbrev pub missing : LocalArgs → Wanted → Place → Place
missing args wanted.Host p = hosted args (codes "localhost") p
missing args wanted.Instructions p = fails failure.Home p

abbrev pub opened : LocalArgs → Wanted → Answer → Place → Place
opened args what (answer.Opened fd) p = record p { row = at.Read what fd }
opened args what (answer.Refused why.NotThere) p = missing args what p
opened args what (answer.Refused why.Memory) p = ends MEMORY p
opened args what told p = fails failure.Home p

-- a piece that isn't full is the last one
abbrev pub read_row : Wanted → Fd → List ℕ → Row
read_row what fd bytes = if nat_lt (length bytes) PIECE then at.Close what fd reading.Whole else at.Read what fd

abbrev pub read_on : Wanted → Fd → Answer → List ℕ → Place → Place
read_on what fd (answer.Count count) bytes p = record p { row = read_row what fd bytes; read = p.read ++ bytes }
read_on what fd (answer.Refused why.Memory) bytes p = record p { row = at.Close what fd reading.Memory }
read_on what fd told bytes p = record p { row = at.Close what fd reading.Fault }

-- an empty file stands for the default instructions
abbrev pub instructed : LocalArgs → ℕ → List ℕ → Place → Place
instructed args now [] p = by_default args now p
instructed args now (b ∷ bytes) p = begins_lines args now (course_of (b ∷ bytes)) p

abbrev pub read_whole : LocalArgs → ℕ → Wanted → Place → Place
read_whole args now wanted.Host p = hosted_by args (host_in p.read) p
read_whole args now wanted.Instructions p = instructed args now p.read p

-- a close doesn't fail
abbrev pub closed : LocalArgs → ℕ → Wanted → Reading → Place → Place
closed args now what reading.Whole p = read_whole args now what p
closed args now what reading.Fault p = fails failure.Home p
closed args now what reading.Memory p = ends MEMORY p

-- The input

abbrev pub input_ended : Option (List ℕ) → Place → Place
input_ended None p = fails failure.Unreadable p
input_ended (Some message) p = record p { row = at.Open wanted.Host; message = message }

abbrev pub took : GotData → Place → Place
took (came.Took bytes) p = record p { row = at.TakeInput; message = p.message ++ bytes }
took came.End p = input_ended (message_in p.message) p
took other p = fails failure.Unreadable p

-- A drop into a maildir

abbrev pub dropped_by : LocalArgs → ℕ → Option EndData → Drop → Place → Place
dropped_by args now None d p = record p { dropping = Some d }
dropped_by args now (Some (IsDropped name)) d p = line_done args now (record p { dropping = None })
dropped_by args now (Some IsDeferred) d p = fails failure.Maildir (record p { dropping = None })
dropped_by args now (Some LacksMemory) d p = ends MEMORY (record p { dropping = None })

abbrev pub drop_went : LocalArgs → ℕ → Drop → Place → Place
drop_went args now d p = dropped_by args now (end_drop d) d p

-- at its row there is always a drop
abbrev pub dropped : LocalArgs → ℕ → GotData → Option Drop → Place → Place
dropped args now got None p = p
dropped args now got (Some d) p = drop_went args now (moved_drop got d) p

-- A command

abbrev pub command_failed : ℕ → Place → Place
command_failed code p = reports (command_status code) (command_report code) p

-- 99 has the later lines passed over
abbrev pub exited : LocalArgs → ℕ → ℕ → Place → Place
exited args now code p = if code == 0 then line_done args now p else (if code == 99 then lines_done args now p else command_failed code p)

-- one that couldn't be started counts as crashed
abbrev pub ran : LocalArgs → ℕ → GotData → Place → Place
ran args now (came.Ended code) p = exited args now code p
ran args now came.Memory p = ends MEMORY p
ran args now other p = command_failed 0 p

-- The injector of forwards

abbrev pub forward_failed : ℕ → Place → Place
forward_failed code p = reports (forward_status code) (forward_report code) p

abbrev pub started : GotData → Place → Place
started (came.Started pid) p = record p { row = at.Feed; injector = pid }
started came.Memory p = ends MEMORY p
started other p = forward_failed 0 p

abbrev pub fed : GotData → Place → Place
fed came.Gave p = record p { row = at.TakeStatus }
fed other p = ends TEMPORARY p

abbrev pub forwarded : Place → Place
forwarded p = reports DONE (forwarded_report (lines_of p.course) p.injector) p

abbrev pub injected_with : ℕ → Place → Place
injected_with code p = if code == 0 then forwarded p else forward_failed code p

abbrev pub injected : GotData → Place → Place
injected (came.Ended code) p = injected_with code p
injected other p = forward_failed 0 p

-- Its output: a give that fails ends it with 111

abbrev pub gave : ℕ → GotData → Place → Place
gave status came.Gave p = ends status p
gave status other p = ends TEMPORARY p

-- A step

abbrev pub opened_with : LocalArgs → Wanted → GotData → Place → Place
opened_with args what (came.Answered told) p = opened args what told.answer p
opened_with args what other p = fails failure.Home p

abbrev pub read_with : Wanted → Fd → GotData → Place → Place
read_with what fd (came.Answered told) p = read_on what fd told.answer told.bytes p
read_with what fd other p = record p { row = at.Close what fd reading.Fault }

abbrev pub named_with : LocalArgs → ℕ → GotData → Place → Place
named_with args now (came.Answered told) p = named args now told.answer p
named_with args now other p = fails failure.Home p

abbrev pub act : LocalArgs → ℕ → Row → GotData → Place → Place
act args now at.TakeInput got p = took got p
act args now (at.Open what) got p = opened_with args what got p
act args now (at.Read what fd) got p = read_with what fd got p
act args now (at.Close what fd how_read) got p = closed args now what how_read p
act args now at.NextName got p = named_with args now got p
act args now at.Drop got p = dropped args now got p.dropping p
act args now at.Run got p = ran args now got p
act args now at.Start got p = started got p
act args now at.Feed got p = fed got p
act args now at.TakeStatus got p = injected got p
act args now (at.Report status) got p = gave status got p
act args now (at.Fail reason) got p = gave (status_of reason) got p
act args now (at.Ended status) got p = p

-- What is due

abbrev pub file_wanted : Wanted → Place → List ℕ
file_wanted wanted.Host p = codes "control/me"
file_wanted wanted.Instructions p = p.name

abbrev pub due_by_drop : Option Drop → NeedData
due_by_drop None = needs.Wait
due_by_drop (Some d) = due_drop d

abbrev pub due_at : LocalArgs → Row → Place → NeedData
due_at args at.TakeInput p = needs.Take port.Input
due_at args (at.Open what) p = needs.File (call.Open (file_wanted what p) how.Read)
due_at args (at.Read what fd) p = needs.File (call.ReadAt fd (length p.read) PIECE)
due_at args (at.Close what fd how_read) p = needs.File (call.Close fd)
due_at args at.NextName p = needs.File (call.NextName args.home (last_name p.names))
due_at args at.Drop p = due_by_drop p.dropping
due_at args at.Run p = needs.Command p.text
due_at args at.Start p = needs.Start (child.Forward args.uid p.room)
due_at args at.Feed p = needs.Give (port.Program 0) p.text
due_at args at.TakeStatus p = needs.Take (port.Status 0)
due_at args (at.Report status) p = needs.Give port.Output p.text
due_at args (at.Fail reason) p = needs.Give port.Output (text_of reason)
due_at args (at.Ended status) p = needs.Ended status

-- The past

abbrev pub moved : LocalArgs → Place → ℕ → GotData → Place
moved args p now got = act args now p.row got p

-- where it stands after a past, newest event first
abbrev pub place_after : LocalArgs → List Own → Place
place_after args [] = begun
place_after args (event ∷ before) = moved args (place_after args before) event.read event.came

abbrev pub due_by : LocalArgs → Place → NeedData
due_by args p = due_at args p.row p

-- What a local delivery does next: after this past, newest event first. Neither the moment nor what is ready makes a difference;
-- the moments of its past do, in the names of files in maildirs.
abbrev pub Next : LocalArgs → List Own → ℕ → Ready → NeedData
Next args past now ready = due_by args (place_after args past)
