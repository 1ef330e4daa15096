-- Which senders a message has by a sender's past (qmail-send(8)), from its events alone: what its info file said, that was read whole in
-- the scan of the start, or its todo file, that was read whole in a pass.
use Rattle.std.specs.Prelude.{◌≡◌, ◌⊎◌, ℕ, List, [], ◌∷◌, ◌++◌, length, Bool, true, false, ◌&&◌, Option, Some, None, Result, Ok, Err, if◌then◌else◌, ◌==◌, nat_lt}
use Rattle.call_fs.specs.declared.calls.Answer.{Answer}
use Rattle.call_fs.specs.declared.calls.Answer.TheVariants as answer
use Rattle.call_fs.specs.declared.calls.CallData.{CallData}
use Rattle.call_fs.specs.declared.calls.CallData.TheVariants as call
use Rattle.call_fs.specs.declared.calls.Fd.{Fd}
use Rattle.call_fs.specs.declared.calls.How.TheVariants as how
use Rattle.call_fs.specs.declared.calls.Told.{Told}
use Rattle.call_fs.specs.declared.past.GotData.{GotData}
use Rattle.call_fs.specs.declared.past.GotData.TheVariants as came
use Rattle.call_fs.specs.declared.past.NeedData.{NeedData}
use Rattle.call_fs.specs.declared.past.NeedData.TheVariants as needs
use Rattle.call_fs.specs.declared.past.Own.{Own}
use Rattle.queue_paths.specs.Names.{Name, parse}
use Rattle.queue_paths.specs.Names.Name.{Of}
use Rattle.queue_paths.specs.Names.Part.{Info as InfoFile, Todo as TodoFile}
use Rattle.send_parts.specs.Files.{is_info, sender_in}
use Rattle.todo_pass.specs.Todo.{Todo, read_todo}

-- The info or todo file that is being read

-- whether it is a todo file, whose it is, its descriptor, the bytes so far, and whether the last read brought fewer bytes than were
-- asked for
pub record Letter : Type 0 where
  pub todo : Bool
  pub n : ℕ
  pub fd : Fd
  pub bytes : List ℕ
  pub over : Bool

abbrev pub letter_of : Option Name → Fd → Option Letter
letter_of (Some (Of InfoFile n)) fd = Some (record { todo = false; n = n; fd = fd; bytes = []; over = false })
letter_of (Some (Of TodoFile n)) fd = Some (record { todo = true; n = n; fd = fd; bytes = []; over = false })
letter_of other fd = None

abbrev pub opened_as : Option Name → Answer → Option Letter
opened_as name (answer.Opened fd) = letter_of name fd
opened_as name other = None

abbrev pub longer : Letter → ℕ → Answer → List ℕ → Option Letter
longer l len (answer.Count count) bytes = Some (record l { bytes = l.bytes ++ bytes; over = nat_lt (length bytes) len })
longer l len told bytes = None

abbrev pub goes_on : Letter → Fd → ℕ → Bool
goes_on l fd at = (fd.0 == l.fd.0) && (at == length l.bytes)

abbrev pub read_more : Option Letter → Fd → ℕ → ℕ → Told → Option Letter
read_more None fd at len told = None
read_more (Some l) fd at len told = if goes_on l fd at then longer l len told.answer told.bytes else Some l

abbrev pub letter_on : Option Letter → CallData → Told → Option Letter
letter_on before (call.Open name how.Read) told = opened_as (parse name) told.answer
letter_on before (call.ReadAt fd at len) told = read_more before fd at len told
letter_on before (call.Close fd) told = None
letter_on before call told = before

abbrev pub letter_by : Option Letter → NeedData → GotData → Option Letter
letter_by before (needs.File call) (came.Answered told) = letter_on before call told
letter_by before due came = before

-- after a past, newest event first
abbrev pub letter : List Own → Option Letter
letter [] = None
letter (event ∷ before) = letter_by (letter before) event.due event.came

-- What it says when it was read whole

abbrev pub by_todo : Result Todo ℕ → Option (List ℕ)
by_todo (Ok it) = Some it.sender
by_todo (Err at) = None

abbrev pub sender_if : Bool → List ℕ → Option (List ℕ)
sender_if true bytes = Some (sender_in bytes)
sender_if false bytes = None

-- an info file is `F`, the sender, NUL
abbrev pub says : Bool → List ℕ → Option (List ℕ)
says true bytes = by_todo (read_todo bytes)
says false bytes = sender_if (is_info bytes) bytes

-- of which message, and which sender
pub record Saying : Type 0 where
  pub n : ℕ
  pub sender : List ℕ

abbrev pub saying_by : ℕ → Option (List ℕ) → Option Saying
saying_by n None = None
saying_by n (Some sender) = Some (record { n = n; sender = sender })

abbrev pub said_if : Bool → Letter → Option Saying
said_if true l = saying_by l.n (says l.todo l.bytes)
said_if false l = None

-- at its close, after a read that brought fewer bytes than were asked for
abbrev pub said_at : NeedData → Option Letter → Option Saying
said_at (needs.File (call.Close fd)) (Some l) = said_if ((fd.0 == l.fd.0) && l.over) l
said_at due l = None

-- It is a sender that was said of the message. When `info/7/7` was opened as descriptor 1, a read of 8192 bytes from 0 brought `Fa@x`,
-- NUL, and 1 was closed, a@x was said of 7.
abbrev pub IsSaid : List Own → ℕ → List ℕ → Type 0
IsSaid [] n sender = ⊥
IsSaid (event ∷ before) n sender = (said_at event.due (letter before) ≡ Some (record { n = n; sender = sender })) ⊎ IsSaid before n sender
