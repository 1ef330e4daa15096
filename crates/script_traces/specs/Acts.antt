-- The line of what an actor did, as a trace prints it.
use Rattle.std.specs.Prelude.{ℕ, List, [], ◌∷◌, ◌++◌, length, codes}
use Rattle.mail_bytes.specs.Decimal.{digits}
use Rattle.mail_bytes.specs.Escape.{escaped}
use Rattle.call_fs.specs.declared.calls.Fd.{Fd}
use Rattle.call_fs.specs.declared.calls.FsError.{FsError}
use Rattle.call_fs.specs.declared.calls.FsError.TheVariants.{NotThere, Exists, Fault, Memory}
use Rattle.call_fs.specs.declared.calls.CallData.{CallData}
use Rattle.call_fs.specs.declared.calls.CallData.TheVariants.{CreateExcl, Open, ReadAt, WriteAt, Append, Truncate, Sync, Close, Link, Unlink, Stat, NextName}
use Rattle.call_fs.specs.declared.calls.Answer.{Answer}
use Rattle.call_fs.specs.declared.calls.Answer.TheVariants as answer
use Rattle.call_fs.specs.declared.past.NeedData.{NeedData}
use Rattle.call_fs.specs.declared.past.ChildData.{ChildData}
use Rattle.call_fs.specs.declared.past.ChildData.TheVariants as child
use Rattle.call_fs.specs.declared.past.NeedData.TheVariants.{File, Take, Give, Start as Starts, Command, Wait}
use Rattle.call_fs.specs.declared.past.NeedData.TheVariants as needs
use Rattle.call_fs.specs.declared.past.GotData.{GotData}
use Rattle.call_fs.specs.declared.past.GotData.TheVariants.{Answered, Took, End as Ends, Ended, Crashed, Gave, Started}
use Rattle.call_fs.specs.declared.program.Port.{Port}
use Rattle.call_fs.specs.declared.program.Port.TheVariants as port
use Rattle.queue_states.specs.Lines.{line_of}

-- `WORD PATH`
abbrev pub with_path : List ℕ → List ℕ → List ℕ
with_path word path = word ++ 32 ∷ escaped path

-- `WORD #N`
abbrev pub with_descriptor : List ℕ → Fd → List ℕ
with_descriptor word fd = word ++ 32 ∷ 35 ∷ digits fd.0

-- `WORD #N LEN`
abbrev pub with_count : List ℕ → Fd → ℕ → List ℕ
with_count word fd count = with_descriptor word fd ++ 32 ∷ digits count

-- how many bytes a read got, none if it was refused
abbrev pub count_told : Answer → ℕ
count_told (answer.Count count) = count
count_told other = 0

-- a call; a read with the count that it got, a write with that of its bytes, a truncate with the length that it asks for
abbrev pub call_text : CallData → Answer → List ℕ
call_text (CreateExcl name) told = with_path (codes "create") name
call_text (Open name how) told = with_path (codes "open") name
call_text (ReadAt fd at len) told = with_count (codes "read") fd (count_told told)
call_text (WriteAt fd at bytes) told = with_count (codes "write") fd (length bytes)
call_text (Append fd bytes) told = with_count (codes "append") fd (length bytes)
call_text (Truncate fd len) told = with_count (codes "truncate") fd len
call_text (Sync fd) told = with_descriptor (codes "sync") fd
call_text (Close fd) told = with_descriptor (codes "close") fd
call_text (Link old new) told = with_path (codes "link") old ++ 32 ∷ escaped new
call_text (Unlink name) told = with_path (codes "unlink") name
call_text (Stat name) told = with_path (codes "stat") name
call_text (NextName dir after) told = with_path (codes "next") dir

-- why a call was refused; a play is over at a call without memory, so that `memory` is never printed
abbrev pub refusal_text : FsError → List ℕ
refusal_text NotThere = codes "notthere"
refusal_text Exists = codes "exists"
refusal_text Fault = codes "fault"
refusal_text Memory = codes "memory"

-- what was answered: the number of a new file, the name that was found, or that it was done
abbrev pub answer_text : Answer → List ℕ
answer_text (answer.Created fd number) = digits number
answer_text (answer.Opened fd) = codes "ok"
answer_text (answer.Count count) = codes "ok"
answer_text answer.Done = codes "ok"
answer_text (answer.Stat stat) = codes "ok"
answer_text (answer.Name name) = escaped name
answer_text answer.NoName = codes "none"
answer_text (answer.Refused why) = refusal_text why

-- the word of a port
abbrev pub port_text : Port → List ℕ
port_text port.Input = codes "input"
port_text port.Output = codes "output"
port_text port.Clean = codes "clean"
port_text port.Lspawn = codes "lspawn"
port_text port.Rspawn = codes "rspawn"
port_text port.Todo = codes "todo"
port_text (port.Program slot) = codes "program." ++ digits slot
port_text (port.Status slot) = codes "status." ++ digits slot

-- `WORD PORT LEN`
abbrev pub with_port : List ℕ → Port → ℕ → List ℕ
with_port word port count = word ++ 32 ∷ (port_text port ++ 32 ∷ digits count)

-- `ACTOR take PORT LEN`, with 0 for an end or a status
abbrev pub taken_line : List ℕ → Port → GotData → List ℕ
taken_line a port (Took bytes) = line_of a (with_port (codes "take") port (length bytes))
taken_line a port Ends = line_of a (with_port (codes "take") port 0)
taken_line a port (Ended status) = line_of a (with_port (codes "take") port 0)
taken_line a port Crashed = line_of a (with_port (codes "take") port 0)
taken_line a port other = []

-- `ACTOR give PORT LEN`
abbrev pub given_line : List ℕ → Port → List ℕ → GotData → List ℕ
given_line a port bytes Gave = line_of a (with_port (codes "give") port (length bytes))
given_line a port bytes other = []

-- `ACTOR start SLOT`, of a remote program
abbrev pub remote_line : List ℕ → ℕ → GotData → List ℕ
remote_line a slot (Started pid) = line_of a (codes "start " ++ digits slot)
remote_line a slot other = []

-- a child's start has the line of its own event
abbrev pub started_line : List ℕ → ChildData → GotData → List ℕ
started_line a (child.Remote slot domain sender recipient) came = remote_line a slot came
started_line a other came = []

-- `ACTOR command = STATUS`
abbrev pub command_line : List ℕ → GotData → List ℕ
command_line a (Ended status) = line_of a (codes "command = " ++ digits status)
command_line a other = []

-- `ACTOR CALL = ANSWER`
abbrev pub call_line : List ℕ → CallData → GotData → List ℕ
call_line a call (Answered told) = line_of a (call_text call told.answer ++ (codes " = " ++ answer_text told.answer))
call_line a call other = []

-- The line of what an actor did. What failed has none, a file call excepted: in a world nothing else fails.
abbrev pub act_line : List ℕ → NeedData → GotData → List ℕ
act_line a (File call) came = call_line a call came
act_line a (Take port) came = taken_line a port came
act_line a (Give port bytes) came = given_line a port bytes came
act_line a (Starts asked) came = started_line a asked came
act_line a (Command bytes) came = command_line a came
act_line a Wait came = []
act_line a (needs.Ended status) came = []
