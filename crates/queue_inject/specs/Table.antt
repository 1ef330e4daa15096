-- What an injector does next, as a function of its own past (qmail-queue(8); INTERNALS, "How messages enter the
-- queue").
use Rattle.std.specs.Prelude.{ℕ, ◌+◌, List, [], ◌∷◌, length, take, drop, Bool, true, false, Option, Some, None, if◌then◌else◌, nat_lt, nat_le}
use Rattle.call_fs.specs.declared.calls.CallData.TheVariants as call
use Rattle.call_fs.specs.declared.calls.Answer.{Answer}
use Rattle.call_fs.specs.declared.calls.Answer.TheVariants.{Created, Done, Refused}
use Rattle.call_fs.specs.declared.calls.FsError.TheVariants.{NotThere, Exists, Memory}
use Rattle.call_fs.specs.declared.program.Ready.{Ready}
use Rattle.call_fs.specs.declared.past.NeedData.{NeedData}
use Rattle.call_fs.specs.declared.past.NeedData.TheVariants as needs
use Rattle.call_fs.specs.declared.past.Own.{Own}
use Rattle.call_fs.specs.declared.past.GotData.{GotData}
use Rattle.call_fs.specs.declared.past.GotData.TheVariants.{Answered}
use Rattle.queue_inject.specs.declared.injection.Arguments.{Arguments}
use Rattle.queue_inject.specs.declared.row.Row.{Row}
use Rattle.queue_inject.specs.declared.row.Row.TheVariants as at
use Rattle.queue_paths.specs.Names.{path}
use Rattle.queue_paths.specs.Names.Name.{Pid, Of}
use Rattle.queue_paths.specs.Names.Part.{Mess, Intd, Todo}
use Rattle.queue_inject.specs.Texts.{Text, message_text, intd_text}
use Rattle.call_fs.specs.declared.file_system.TheConstants.{PIECE}
use Rattle.queue_limits.specs.declared.statuses.TheConstants.{DONE, IN_INTD, IN_MESS, IN_PID, IN_TODO, LATE, MEMORY, OUTPUT}
use Rattle.queue_limits.specs.declared.times.TheConstants.{DAY}

-- what an injector's table reads of its arguments: its process number, its start and the two texts that it writes
pub record Work : Type 0 where
  pub pid : ℕ
  pub start : ℕ
  pub message : Text
  pub todo : Text

abbrev pub work_of : Arguments → Work
work_of args = record { pid = args.pid; start = args.start; message = message_text args; todo = intd_text args }

-- the bytes of one write
abbrev pub piece_size : ℕ
piece_size = PIECE

-- a failed call ends with this status: out of memory has its own
abbrev pub failure : Answer → ℕ → ℕ
failure (Refused Memory) status = MEMORY
failure answer status = status

-- After so many bytes of a text were written: the next piece, what follows the text, or the clean up if the input failed.
-- A full piece is written before the fault after it is found, and no write is empty.
abbrev pub past_piece : List ℕ → Option ℕ → ℕ → Row → Row → (ℕ → Row) → Row
past_piece bytes None done more end bad = if nat_lt done (length bytes) then more else end
past_piece bytes (Some status) done more end bad = if nat_le (done + piece_size) (length bytes) then more else bad status

abbrev pub in_message : Text → ℕ → ℕ → ℕ → Row
in_message text n fd done =
    past_piece text.bytes text.fault done (at.AppendMess n (record { 0 = fd }) done) (at.SyncMess n (record { 0 = fd })) (λ status. at.CleanMess n status)

abbrev pub in_todo : Text → ℕ → ℕ → ℕ → Row
in_todo text n fd done =
    past_piece text.bytes text.fault done (at.AppendTodo n (record { 0 = fd }) done) (at.SyncTodo n (record { 0 = fd })) (λ status. at.CleanIntd n status)

-- Where an answer leads, with no look at the texts; of each row the answer that goes on, and what any other answer leads
-- to. After an append this is the next one, whether the text has more bytes or not.
abbrev pub goes_to : Row → Answer → Row
goes_to (at.Create seq) (Created fd n) = at.LinkMess seq n fd
goes_to (at.Create seq) (Refused Exists) = if nat_lt seq 9 then at.Create (seq + 1) else at.Failed IN_PID
goes_to (at.Create seq) answer = at.Failed (failure answer IN_PID)
goes_to (at.LinkMess seq n fd) Done = at.UnlinkPid seq n fd
goes_to (at.LinkMess seq n fd) answer = at.Failed (failure answer IN_MESS)
goes_to (at.UnlinkPid seq n fd) Done = at.AppendMess n fd 0
goes_to (at.UnlinkPid seq n fd) answer = at.CleanMess n (failure answer IN_PID)
goes_to (at.AppendMess n fd done) Done = at.AppendMess n fd (done + piece_size)
goes_to (at.AppendMess n fd done) answer = at.CleanMess n (failure answer OUTPUT)
goes_to (at.SyncMess n fd) Done = at.CreateIntd n
goes_to (at.SyncMess n fd) answer = at.CleanMess n (failure answer OUTPUT)
goes_to (at.CreateIntd n) (Created fd i) = at.AppendTodo n fd 0
goes_to (at.CreateIntd n) answer = at.CleanMess n (failure answer IN_INTD)
goes_to (at.AppendTodo n fd done) Done = at.AppendTodo n fd (done + piece_size)
goes_to (at.AppendTodo n fd done) answer = at.CleanIntd n (failure answer OUTPUT)
goes_to (at.SyncTodo n fd) Done = at.LinkTodo n
goes_to (at.SyncTodo n fd) answer = at.CleanIntd n (failure answer OUTPUT)
goes_to (at.LinkTodo n) Done = at.Queued
goes_to (at.LinkTodo n) answer = at.Failed (failure answer IN_TODO)
goes_to (at.CleanIntd n status) Done = at.CleanMess n status
goes_to (at.CleanIntd n status) (Refused NotThere) = at.CleanMess n status
goes_to (at.CleanIntd n status) answer = at.Failed status
goes_to (at.CleanMess n status) answer = at.Failed status
goes_to at.Queued answer = at.Queued
goes_to (at.Failed status) answer = at.Failed status

-- what follows the written bytes of a text, by that text
abbrev pub past_bytes : Work → Row → Row
past_bytes work (at.AppendMess n fd done) = in_message work.message n fd.0 done
past_bytes work (at.AppendTodo n fd done) = in_todo work.todo n fd.0 done
past_bytes work row = row

-- the row after an answer
abbrev pub answered : Work → Row → Answer → Row
answered work row answer = past_bytes work (goes_to row answer)

abbrev pub moved : Arguments → Row → Answer → Row
moved args row answer = answered (work_of args) row answer

-- the row after what came of a call; nothing else comes to an injector
abbrev pub after_came : Arguments → Row → GotData → Row
after_came args row (Answered told) = moved args row told.answer
after_came args row other = row

-- where an injector stands is its row
abbrev pub Place : Type 0
Place = Row

-- where it stands after a past, newest event first
abbrev pub place_after : Arguments → List Own → Place
place_after args [] = at.Create 1
place_after args (event ∷ before) = after_came args (place_after args before) event.came

-- the bytes that the append of a row writes
abbrev pub next_piece : Work → Row → List ℕ
next_piece work (at.AppendMess n fd done) = take piece_size (drop done work.message.bytes)
next_piece work (at.AppendTodo n fd done) = take piece_size (drop done work.todo.bytes)
next_piece work row = []

-- the call of a row, by the process number, the start and the bytes that its append writes, or the end
abbrev pub call_at : ℕ → ℕ → List ℕ → Row → NeedData
call_at pid start piece (at.Create seq) = needs.File (call.CreateExcl (path (Pid pid start seq)))
call_at pid start piece (at.LinkMess seq n fd) = needs.File (call.Link (path (Pid pid start seq)) (path (Of Mess n)))
call_at pid start piece (at.UnlinkPid seq n fd) = needs.File (call.Unlink (path (Pid pid start seq)))
call_at pid start piece (at.AppendMess n fd done) = needs.File (call.Append fd piece)
call_at pid start piece (at.SyncMess n fd) = needs.File (call.Sync fd)
call_at pid start piece (at.CreateIntd n) = needs.File (call.CreateExcl (path (Of Intd n)))
call_at pid start piece (at.AppendTodo n fd done) = needs.File (call.Append fd piece)
call_at pid start piece (at.SyncTodo n fd) = needs.File (call.Sync fd)
call_at pid start piece (at.LinkTodo n) = needs.File (call.Link (path (Of Intd n)) (path (Of Todo n)))
call_at pid start piece (at.CleanIntd n status) = needs.File (call.Unlink (path (Of Intd n)))
call_at pid start piece (at.CleanMess n status) = needs.File (call.Unlink (path (Of Mess n)))
call_at pid start piece at.Queued = needs.Ended DONE
call_at pid start piece (at.Failed status) = needs.Ended status

abbrev pub asked : Work → Row → NeedData
asked work row = call_at work.pid work.start (next_piece work row) row

abbrev pub due_by : Arguments → Place → NeedData
due_by args row = asked (work_of args) row

-- the first of some links, false if there is none
abbrev pub first_link : List Bool → Bool
first_link [] = false
first_link (link ∷ links) = link

-- its input, the first link, is ready
abbrev pub has_input : Ready → Bool
has_input ready = first_link ready.links

-- it has run for more than a day
abbrev pub is_late : Arguments → ℕ → Bool
is_late args now = nat_lt (args.start + DAY) now

-- An injector that has ended stays so. It waits while its input isn't ready, and makes no call after a day.
abbrev pub in_time : Bool → Bool → NeedData → NeedData
in_time input late (needs.Ended status) = needs.Ended status
in_time true true (needs.File call) = needs.Ended LATE
in_time true false (needs.File call) = needs.File call
in_time false late (needs.File call) = needs.Wait
in_time input late due = due

-- what an injector with these arguments does next: after this past, newest event first, at this moment, with this ready
abbrev pub Next : Arguments → List Own → ℕ → Ready → NeedData
Next args past now ready = in_time (has_input ready) (is_late args now) (due_by args (place_after args past))
