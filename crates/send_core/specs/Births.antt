-- When a message was born by a sender's past (qmail-send(8)), from its events alone: when its info file was last written. In the
-- scan of the start a stat tells that; in a todo pass it is the moment of the last append.
use Rattle.std.specs.Prelude.{ℕ, ◌+◌, List, [], ◌∷◌, Bool, Option, Some, None, if◌then◌else◌, ◌==◌, nat_lt, bytes_eq}
use Rattle.call_fs.specs.declared.calls.Answer.{Answer}
use Rattle.call_fs.specs.declared.calls.Answer.TheVariants as answer
use Rattle.call_fs.specs.declared.calls.CallData.{CallData}
use Rattle.call_fs.specs.declared.calls.CallData.TheVariants as call
use Rattle.call_fs.specs.declared.calls.Fd.{Fd}
use Rattle.call_fs.specs.declared.calls.FsError.TheVariants as why
use Rattle.call_fs.specs.declared.past.GotData.{GotData}
use Rattle.call_fs.specs.declared.past.GotData.TheVariants as came
use Rattle.call_fs.specs.declared.past.NeedData.{NeedData}
use Rattle.call_fs.specs.declared.past.NeedData.TheVariants as needs
use Rattle.call_fs.specs.declared.past.Own.{Own}
use Rattle.call_fs.specs.declared.program.Port.TheVariants as port
use Rattle.call_fs.specs.Maps.{put}
use Rattle.queue_paths.specs.Names.{Name, parse}
use Rattle.queue_paths.specs.Names.Name.{Of}
use Rattle.queue_paths.specs.Names.Part.{Info as InfoFile, Remote as RemoteFile}
use Rattle.todo_pass.specs.Table.{command_text}
use Rattle.send_core.specs.Papers.{controls_told}

-- the info file that is being made
pub record Making : Type 0 where
  pub n : ℕ
  pub fd : Fd

-- a message, and when its info file was last written
pub record Birth : Type 0 where
  pub n : ℕ
  pub moment : ℕ

-- The info file that is being made; the birth that was told last; the command that the cleaner was given last; and of each message
-- its birth.
pub record Births : Type 0 where
  pub made : Option Making
  pub last : Option Birth
  pub command : List ℕ
  pub of : ℕ → ℕ

abbrev pub none_born : Births
none_born = record { made = None; last = None; command = []; of = λ n. 0 }

abbrev pub made_as : Option Name → Answer → Option Making
made_as (Some (Of InfoFile n)) (answer.Created fd number) = Some (record { n = n; fd = fd })
made_as name told = None

abbrev pub written_last : Option Making → Fd → Answer → ℕ → Option Birth → Option Birth
written_last (Some m) fd answer.Done now last = if fd.0 == m.fd.0 then Some (record { n = m.n; moment = now }) else last
written_last m fd told now last = last

-- The scan looks for a remote file last: then the message has the birth that its info file told. In a sweep no message gets one.
abbrev pub found : Option Birth → ℕ → (ℕ → ℕ) → ℕ → ℕ
found None n of = of
found (Some it) n of = if it.n == n then put of n it.moment else of

abbrev pub stated : Option Name → Answer → Births → Births
stated (Some (Of InfoFile n)) (answer.Stat stat) b = record b { last = Some (record { n = n; moment = stat.moment }) }
stated (Some (Of RemoteFile n)) (answer.Stat stat) b = record b { of = found b.last n b.of }
stated (Some (Of RemoteFile n)) (answer.Refused why.NotThere) b = record b { of = found b.last n b.of }
stated name told b = b

-- a pass is done when the cleaner answers `+` to its command
abbrev pub passed : Option Birth → List ℕ → (ℕ → ℕ) → ℕ → ℕ
passed None command of = of
passed (Some it) command of = if bytes_eq command (command_text it.n) then put of it.n it.moment else of

abbrev pub cleaned : Bool → Births → Births
cleaned good b = if good then record b { of = passed b.last b.command b.of } else b

abbrev pub births_on : Births → ℕ → CallData → Answer → Births
births_on b now (call.CreateExcl name) told = record b { made = made_as (parse name) told }
births_on b now (call.Append fd bytes) told = record b { last = written_last b.made fd told now b.last }
births_on b now (call.Close fd) told = record b { made = None }
births_on b now (call.Stat name) told = stated (parse name) told b
births_on b now call told = b

abbrev pub births_by : Births → ℕ → NeedData → GotData → Births
births_by b now (needs.File call) (came.Answered told) = births_on b now call told.answer
births_by b now (needs.Give port.Clean text) came.Gave = record b { command = text }
births_by b now (needs.Take port.Clean) (came.Took bytes) = cleaned (bytes_eq bytes (43 ∷ [])) b
births_by b now due came = b

-- after a past, newest event first
abbrev pub births : List Own → Births
births [] = none_born
births (event ∷ before) = births_by (births before) event.read event.due event.came

-- A pass over a message that begins then is a dying one: the message has been in the queue for longer than queuelifetime. When it
-- was born at 5 and queuelifetime is 9, one that begins at 15 is, and one that begins at 14 isn't.
abbrev pub is_late : List Own → ℕ → ℕ → Bool
is_late past n begun = nat_lt ((births past).of n + (controls_told past).queue_lifetime) begun
