-- What a spawner does next (qmail-lspawn(8), qmail-rspawn(8)). Of each row: where it comes from (`arrive`), what is done there
-- (`due_at`), and where what came of it leads (`act`).
use Rattle.std.specs.Prelude.{◌≡◌, ℕ, List, [], ◌∷◌, ◌++◌, length, replicate, set, Bool, true, false, ◌&&◌, not, Option, Some, None, if◌then◌else◌, nat_lt, slice_index_or, codes}
use Rattle.std.specs.List.{list_any}
use Rattle.call_fs.specs.declared.file_system.TheConstants.{PIECE}
use Rattle.call_fs.specs.declared.calls.Answer.{Answer}
use Rattle.call_fs.specs.declared.calls.Answer.TheVariants as answer
use Rattle.call_fs.specs.declared.calls.CallData.TheVariants as call
use Rattle.call_fs.specs.declared.calls.Fd.{Fd}
use Rattle.call_fs.specs.declared.calls.FsError.TheVariants as why
use Rattle.call_fs.specs.declared.calls.How.TheVariants as how
use Rattle.call_fs.specs.declared.past.ChildData.{ChildData}
use Rattle.call_fs.specs.declared.past.GotData.{GotData}
use Rattle.call_fs.specs.declared.past.GotData.TheVariants as came
use Rattle.call_fs.specs.declared.past.NeedData.{NeedData}
use Rattle.call_fs.specs.declared.past.NeedData.TheVariants as needs
use Rattle.call_fs.specs.declared.program.Port.TheVariants as port
use Rattle.call_fs.specs.declared.program.Ready.{Ready}
use Rattle.outside.specs.declared.spawner.Status.{Status}
use Rattle.outside.specs.declared.spawner.Status.TheVariants as status
use Rattle.queue_limits.specs.declared.statuses.TheConstants.{DONE, INPUT, MALFORMED, OUTPUT}
use Rattle.spawn_protocol.specs.Inbox.{empty, ended, pull, with_more}
use Rattle.spawn_protocol.specs.Report.{numbered}
use Rattle.spawn_protocol.specs.declared.inbox.Intake.{Intake}
use Rattle.spawn_protocol.specs.declared.inbox.Intake.TheVariants as intake
use Rattle.spawn_protocol.specs.declared.inbox.Pulled.{Pulled}
use Rattle.spawn_protocol.specs.declared.request.Request.{Request}
use Rattle.spawner_parts.specs.declared.place.Place.{Place}
use Rattle.spawner_parts.specs.declared.place.TheConstants.{SLOTS}
use Rattle.spawner_parts.specs.declared.row.Row.{Row}
use Rattle.spawner_parts.specs.declared.row.Row.TheVariants as at
use Rattle.spawner_parts.specs.Asked.{name_of_mess, runs_in, is_bad}

-- at first: no request, and no program in any slot
abbrev pub no_request : Request
no_request = record { slot = 0; mess = []; sender = []; recipient = [] }

abbrev pub begun : Place
begun = record { row = at.Greet; inbox = empty; request = no_request; name = []; message = []; output = []; report = []; running = replicate SLOTS false }

-- Where a step comes from: between two steps, from what is ready. Nothing is changed by it, so a later look may come out
-- otherwise.

abbrev pub any_runs : List Bool → Bool
any_runs running = list_any (λ runs. runs) running

abbrev pub none_runs : List Bool → Bool
none_runs running = not (any_runs running)

-- once no program is left it ends: with 0 after the end of its requests, with 91 after a field that was too long
abbrev pub ended_by : Intake → Row
ended_by intake.Open = at.Idle
ended_by intake.Ended = at.Ended DONE
ended_by intake.TooLong = at.Ended MALFORMED

abbrev pub resting : Place → Row
resting p = if none_runs p.running then ended_by p.inbox.intake else at.Idle

-- the lowest program that has ended
abbrev pub turning : Place → Option ℕ → Row
turning p None = resting p
turning p (Some slot) = if runs_in p.running slot then at.TakeOutput slot else resting p

abbrev pub is_open : Intake → Bool
is_open intake.Open = true
is_open intake.Ended = false
is_open intake.TooLong = false

-- requests come before programs that have ended
abbrev pub is_asked : Place → Ready → Bool
is_asked p ready = is_open p.inbox.intake && slice_index_or ready.links 0 false

abbrev pub arrive : Row → Place → Ready → Row
arrive at.Idle p ready = if is_asked p ready then at.TakeInput else turning p ready.child
arrive row p ready = row

abbrev pub row_now : Place → Ready → Row
row_now p ready = arrive p.row p ready

-- The next request

abbrev pub bad_request : List ℕ
bad_request = codes "ZBad request. (#4.3.0)"

abbrev pub unable : List ℕ
unable = codes "ZUnable to open the message. (#4.3.0)"

abbrev pub no_memory : List ℕ
no_memory = codes "ZOut of memory. (#4.3.0)"

-- the report of this slot is due
abbrev pub reports : List ℕ → ℕ → Place → Place
reports report slot p = record p { row = at.Report; report = numbered slot report }

-- the report of the request at work
abbrev pub answers : List ℕ → Place → Place
answers report p = reports report p.request.slot p

abbrev pub opens : Request → Place → Place
opens r p = record p { row = at.OpenMess; request = r; name = name_of_mess r.mess; message = [] }

abbrev pub heeded : Option Request → Place → Place
heeded None p = record p { row = at.Idle }
heeded (Some r) p = if is_bad p.running r then reports bad_request r.slot p else opens r p

abbrev pub with_pulled : Pulled → Place → Place
with_pulled it p = heeded it.request (record p { inbox = it.inbox })

abbrev pub next_request : Place → Place
next_request p = with_pulled (pull p.inbox) p

-- Where what came leads. What isn't of the kind of its need counts as a failure.

-- a report, or the first byte
abbrev pub gave : GotData → Place → Place
gave came.Gave p = next_request p
gave other p = record p { row = at.Ended OUTPUT }

abbrev pub took : GotData → Place → Place
took (came.Took bytes) p = next_request (record p { inbox = with_more bytes p.inbox })
took came.End p = record p { row = at.Idle; inbox = ended }
took other p = record p { row = at.Ended INPUT }

abbrev pub opened_by : Answer → Place → Place
opened_by (answer.Opened fd) p = record p { row = at.ReadMess fd }
opened_by (answer.Refused why.Memory) p = answers no_memory p
opened_by told p = answers unable p

abbrev pub opened : GotData → Place → Place
opened (came.Answered told) p = opened_by told.answer p
opened other p = answers unable p

-- a piece that isn't full is the last one
abbrev pub read_row : Fd → List ℕ → Row
read_row fd bytes = if nat_lt (length bytes) PIECE then at.CloseMess fd true else at.ReadMess fd

abbrev pub read_by : Fd → Answer → List ℕ → Place → Place
read_by fd (answer.Count count) bytes p = record p { row = read_row fd bytes; message = p.message ++ bytes }
read_by fd told bytes p = record p { row = at.CloseMess fd false }

abbrev pub read_on : Fd → GotData → Place → Place
read_on fd (came.Answered told) p = read_by fd told.answer told.bytes p
read_on fd other p = record p { row = at.CloseMess fd false }

-- What a spawner does in its own way: what becomes of a message that was read, what of it a program is given, and what it tells
-- of a program that couldn't be started, and of one that has ended.
pub record Kind : Type 0 where
  pub readied : Place → Place
  pub given : List ℕ → List ℕ
  pub unstarted : List ℕ
  pub ended : Status → List ℕ → List ℕ

-- A request whose message was read is answered at once, or a program is to be started and given the message.
pub data IsReadied (given : List ℕ → List ℕ) (p q : Place) : Type 0 where
  IsAnswered : (report : List ℕ) → q ≡ answers report p → IsReadied given p q
  IsGiven : q ≡ record p { row = at.Start; message = given p.message } → IsReadied given p q

abbrev pub IsKind : Kind → Type 0
IsKind kind = (p : Place) → IsReadied kind.given p (kind.readied p)

-- a close doesn't fail
abbrev pub closed : Kind → Bool → Place → Place
closed kind true p = kind.readied p
closed kind false p = answers unable p

-- a program that couldn't be started has its report
abbrev pub launched : List ℕ → GotData → Place → Place
launched report (came.Started pid) p = record p { row = at.Feed; running = set p.running p.request.slot true }
launched report came.Memory p = answers no_memory p
launched report other p = answers report p

-- a failed give to the program is passed over: its status counts
abbrev pub fed : Place → Place
fed p = record (next_request p) { message = [] }

-- its output is taken to its end, then its status
abbrev pub printed : ℕ → GotData → Place → Place
printed slot (came.Took bytes) p = record p { row = at.TakeOutput slot; output = p.output ++ bytes }
printed slot came.End p = record p { row = at.TakeStatus slot }
printed slot other p = record p { row = at.Ended INPUT }

abbrev pub status_of : GotData → Status
status_of (came.Ended code) = status.Ended code
status_of came.Crashed = status.Crashed
status_of other = status.Failed

-- the slot is free once the status was taken
abbrev pub exited : ℕ → List ℕ → Place → Place
exited slot report p = record p {
  row = at.Report;
  output = [];
  report = numbered slot report;
  running = set p.running slot false;
}

abbrev pub act : Kind → Row → GotData → Place → Place
act kind at.Greet got p = gave got p
act kind at.Idle got p = p
act kind at.TakeInput got p = took got p
act kind at.OpenMess got p = opened got p
act kind (at.ReadMess fd) got p = read_on fd got p
act kind (at.CloseMess fd whole) got p = closed kind whole p
act kind at.Start got p = launched kind.unstarted got p
act kind at.Feed got p = fed p
act kind (at.TakeOutput slot) got p = printed slot got p
act kind (at.TakeStatus slot) got p = exited slot (kind.ended (status_of got) p.output) p
act kind at.Report got p = gave got p
act kind (at.Ended code) got p = p

-- What is due

-- how many programs it runs at once
abbrev pub greeting : List ℕ
greeting = SLOTS ∷ []

-- each row but a start, which each spawner makes in its own way
abbrev pub IsNoStart : Row → Type 0
IsNoStart at.Start = ⊥
IsNoStart row = Unit {0}

-- at a start it starts this program
abbrev pub due_at : ChildData → Row → Place → NeedData
due_at program at.Greet p = needs.Give port.Output greeting
due_at program at.Idle p = needs.Wait
due_at program at.TakeInput p = needs.Take port.Input
due_at program at.OpenMess p = needs.File (call.Open p.name how.Read)
due_at program (at.ReadMess fd) p = needs.File (call.ReadAt fd (length p.message) PIECE)
due_at program (at.CloseMess fd whole) p = needs.File (call.Close fd)
due_at program at.Start p = needs.Start program
due_at program at.Feed p = needs.Give (port.Program p.request.slot) p.message
due_at program (at.TakeOutput slot) p = needs.Take (port.Program slot)
due_at program (at.TakeStatus slot) p = needs.Take (port.Status slot)
due_at program at.Report p = needs.Give port.Output p.report
due_at program (at.Ended code) p = needs.Ended code
