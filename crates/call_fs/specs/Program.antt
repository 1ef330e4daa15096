-- The shape of a program, as owned data: what it needs next, what came of it, and its past.
use Rattle.std.specs.Prelude.{ℕ, ◌<◌, ◌≤◌, length, Option, Some, None}
use Rattle.call_fs.specs.declared.program.Child.{Child}
use Rattle.call_fs.specs.declared.program.Child.TheVariants as child
use Rattle.call_fs.specs.declared.program.DeliveryWords.{DeliveryWords}
use Rattle.call_fs.specs.declared.program.Got.{Got}
use Rattle.call_fs.specs.declared.program.Got.TheVariants as got
use Rattle.call_fs.specs.declared.program.Need.{Need}
use Rattle.call_fs.specs.declared.program.Need.TheVariants as need
use Rattle.call_fs.specs.declared.program.Port.{Port}
use Rattle.call_fs.specs.declared.program.Port.TheVariants as port
use Rattle.call_fs.specs.declared.past.ChildData.{ChildData}
use Rattle.call_fs.specs.declared.past.ChildData.TheVariants.{Bounce, Forward, Local, Remote}
use Rattle.call_fs.specs.declared.past.DeliveryWordsData.{DeliveryWordsData}
use Rattle.call_fs.specs.declared.past.NeedData.{NeedData}
use Rattle.call_fs.specs.declared.past.NeedData.TheVariants.{File, Take, Give, Start, Command, Wait, Ended}
use Rattle.call_fs.specs.declared.past.GotData.{GotData}
use Rattle.call_fs.specs.declared.past.GotData.TheVariants as came
use Rattle.call_fs.specs.Calls.{data_of}
use Rattle.call_fs.specs.Columns.{IsAnswerTo, IsMomentIn}

-- the words of a local delivery, with their bytes
abbrev pub words_data : DeliveryWords → DeliveryWordsData
words_data words = record {
  user = words.user.now;
  home = words.home.now;
  local = words.local.now;
  dash = words.dash.now;
  ext = words.ext.now;
  domain = words.domain.now;
  sender = words.sender.now;
  line = words.line.now;
}

-- a program that is started, with its bytes
abbrev pub child_data : Child → ChildData
child_data (child.Bounce room) = Bounce room
child_data (child.Forward uid room) = Forward uid room
child_data (child.Local slot words uid) = Local slot (words_data words) uid
child_data (child.Remote slot domain sender recipient) = Remote slot domain.now sender.now recipient.now

-- what a machine asks for, with its bytes
abbrev pub due_of : Need → NeedData
due_of (need.File call) = File (data_of call)
due_of (need.Take port) = Take port
due_of (need.Give port bytes) = Give port bytes.now
due_of (need.Start started) = Start (child_data started)
due_of (need.Command bytes) = Command bytes.now
due_of need.Wait = Wait
due_of (need.Ended status) = Ended status

-- what is handed to a machine, with its bytes
abbrev pub came_of : Got → GotData
came_of (got.File answer bytes) = came.Answered (record { answer = answer; bytes = bytes.now })
came_of (got.Took bytes) = came.Took bytes.now
came_of got.End = came.End
came_of (got.Ended status) = came.Ended status
came_of got.Crashed = came.Crashed
came_of got.Gave = came.Gave
came_of (got.Started pid) = came.Started pid
came_of got.Failed = came.Failed
came_of got.Memory = came.Memory

-- what may come of a taking: of a program's status how it ended, of any other port bytes or the end
abbrev pub IsTaken : Port → GotData → Type 0
IsTaken (port.Status d) (came.Ended status) = Unit {0}
IsTaken (port.Status d) came.Crashed = Unit {0}
IsTaken (port.Status d) came.Failed = Unit {0}
IsTaken (port.Status d) other = ⊥
IsTaken port (came.Took bytes) = Unit {0}
IsTaken port came.End = Unit {0}
IsTaken port came.Failed = Unit {0}
IsTaken port other = ⊥

-- Which kind of thing may come of a need. Nothing comes of a wait or of an end.
abbrev pub IsKind : NeedData → GotData → Type 0
IsKind (File call) (came.Answered told) = IsMomentIn told.answer
IsKind (Take port) got = IsTaken port got
IsKind (Give port bytes) came.Gave = Unit {0}
IsKind (Give port bytes) came.Failed = Unit {0}
IsKind (Start started) (came.Started pid) = Unit {0}
IsKind (Start started) came.Failed = Unit {0}
IsKind (Start started) came.Memory = Unit {0}
IsKind (Command bytes) (came.Ended status) = Unit {0}
IsKind (Command bytes) came.Crashed = Unit {0}
IsKind (Command bytes) came.Failed = Unit {0}
IsKind (Command bytes) came.Memory = Unit {0}
IsKind due other = ⊥

-- so, and of a file call it is an answer to that call
abbrev pub MayCome : NeedData → GotData → Type 0
MayCome (File call) (came.Answered told) = IsAnswerTo call told.answer
MayCome due got = IsKind due got

-- a taking brought no more bytes than this
abbrev pub IsWithin : ℕ → GotData → Type 0
IsWithin most (came.Took bytes) = length bytes ≤ most
IsWithin most other = Unit {0}

-- fewer events are ahead than before, if it was bounded how many
abbrev pub IsNearer : Option ℕ → Option ℕ → Type 0
IsNearer (Some before) (Some now) = now < before
IsNearer (Some before) None = ⊥
IsNearer None now = Unit {0}
