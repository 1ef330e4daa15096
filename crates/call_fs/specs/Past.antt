-- A program's own past, newest event first: what it did to a disk, what it asked of a clock, and what it holds open.
use Rattle.std.specs.Prelude.{◌≡◌, ◌⊎◌, ℕ, ◌≤◌, List, [], ◌∷◌, ◌++◌, Option, Some, None, IsSome, IsSomeAnd}
use Rattle.call_fs.specs.declared.file_system.TheConstants.{PIECE}
use Rattle.call_fs.specs.declared.calls.CallData.{CallData}
use Rattle.call_fs.specs.declared.calls.CallData.TheVariants.{Open, ReadAt, WriteAt, Append, Truncate, Sync, Close}
use Rattle.call_fs.specs.declared.calls.Answer.{Answer}
use Rattle.call_fs.specs.declared.calls.Answer.TheVariants.{Created as Creation, Opened as Opening, Done, Refused}
use Rattle.call_fs.specs.declared.calls.FsError.TheVariants.{Fault}
use Rattle.call_fs.specs.declared.calls.Told.{Told}
use Rattle.call_fs.specs.declared.calls.Recorded.{Recorded}
use Rattle.call_fs.specs.declared.program.Ready.{Ready}
use Rattle.call_fs.specs.declared.past.NeedData.{NeedData}
use Rattle.call_fs.specs.declared.past.NeedData.TheVariants.{File, Take}
use Rattle.call_fs.specs.declared.past.GotData.{GotData}
use Rattle.call_fs.specs.declared.past.GotData.TheVariants.{Answered, Took}
use Rattle.call_fs.specs.declared.past.Own.{Own}
use Rattle.call_fs.specs.declared.program.Port.TheVariants.{Input}
use Rattle.mail_bytes.specs.Moments.{IsMoment}
use Rattle.call_fs.specs.Maps.{put}
use Rattle.call_fs.specs.Disk.{Disk, IsForAppend, IsForWrite, IsForCut}
use Rattle.call_fs.specs.declared.modes.Mode.{Mode}
use Rattle.call_fs.specs.declared.modes.Mode.TheVariants.{Created, Opened}
use Rattle.call_fs.specs.Apply.{Apply, IsReadBy}
use Rattle.call_fs.specs.Program.{MayCome}

-- Runs

-- what a program must do next: after a past, at a moment, with what it finds ready
abbrev pub Table : Type 0
Table = List Own → ℕ → Ready → NeedData

-- what was due after this past is what the table says, and what came may come of it
abbrev pub IsDueBy : Table → List Own → Own → Type 0
IsDueBy next before event = (next before event.read event.ready ≡ event.due) × MayCome event.due event.came

-- each event was due after those before it
abbrev pub IsRunBy : Table → List Own → Type 0
IsRunBy next [] = Unit {0}
IsRunBy next (event ∷ before) = IsRunBy next before × IsDueBy next before event

-- Calls

-- it is a call with an answer of which this holds
pub record HoldsOf (P : CallData → Answer → Type 0) (event : Own) : Type 0 where
  pub call : CallData
  pub told : Told
  pub due : event.due ≡ File call
  pub came : event.came ≡ Answered told
  pub holds : P call told.answer

-- some event of the past is a call with an answer of which this holds
abbrev pub HasCall : List Own → (CallData → Answer → Type 0) → Type 0
HasCall [] P = ⊥
HasCall (event ∷ before) P = HoldsOf P event ⊎ HasCall before P

-- a call failed
abbrev pub IsFault : CallData → Answer → Type 0
IsFault call answer = answer ≡ Refused Fault

-- the calls, in order, as a disk keeps them with what came of them
abbrev pub kept_as : NeedData → GotData → List Recorded
kept_as (File call) (Answered told) = record { call = call; told = told } ∷ []
kept_as due came = []

abbrev pub calls_of : List Own → List Recorded
calls_of [] = []
calls_of (event ∷ before) = calls_of before ++ kept_as event.due event.came

-- one event did this to a disk: a file call what it may do, any other event nothing
abbrev pub Makes : Disk → ℕ → NeedData → GotData → Disk → Type 0
Makes before read (File call) (Answered told) after = Apply before read call told.answer after × IsReadBy before call told
Makes before read due came after = after ≡ before

-- the events, one after the other, led from this disk to that one
abbrev pub LeadsTo : Disk → List Own → Disk → Type 0
LeadsTo first [] last = last ≡ first
LeadsTo first (event ∷ before) last = (mid : Disk) × LeadsTo first before mid × Makes mid event.read event.due event.came last

-- Moments

-- the moments that it read, in order
abbrev pub moments_of : List Own → List ℕ
moments_of [] = []
moments_of (event ∷ before) = moments_of before ++ event.read ∷ []

-- the moment of the newest event, or that of the start
abbrev pub latest_from : ℕ → List Own → ℕ
latest_from start [] = start
latest_from start (event ∷ before) = event.read

-- each moment is one that a clock may tell, and none is before the one before
abbrev pub InOrder : ℕ → List Own → Type 0
InOrder start [] = Unit {0}
InOrder start (event ∷ before) = (latest_from start before ≤ event.read) × IsMoment event.read × InOrder start before

-- What it holds open

-- how each descriptor came to be that is held after a call
abbrev pub held_after : (ℕ → Option Mode) → CallData → Answer → ℕ → Option Mode
held_after held call (Creation fd n) = put held fd.0 (Some Created)
held_after held (Open name how) (Opening fd) = put held fd.0 (Some (Opened how))
held_after held (Close fd) Done = put held fd.0 None
held_after held call answer = held

abbrev pub held_by : (ℕ → Option Mode) → NeedData → GotData → ℕ → Option Mode
held_by held (File call) (Answered told) = held_after held call told.answer
held_by held due came = held

-- what a past holds open: what it created or opened, and has not closed
abbrev pub held : List Own → ℕ → Option Mode
held [] = λ _. None
held (event ∷ before) = held_by (held before) event.due event.came

-- The call uses only what is held, in a mode that fits, and a read asks for at most 8192 bytes.
abbrev pub Uses : (ℕ → Option Mode) → CallData → Type 0
Uses held (ReadAt fd at len) = IsSome (held fd.0) × (len ≤ PIECE)
Uses held (WriteAt fd at bytes) = IsSomeAnd (held fd.0) IsForWrite
Uses held (Append fd bytes) = IsSomeAnd (held fd.0) IsForAppend
Uses held (Truncate fd len) = IsSomeAnd (held fd.0) IsForCut
Uses held (Sync fd) = IsSome (held fd.0)
Uses held (Close fd) = IsSome (held fd.0)
Uses held call = Unit {0}

-- if a call is due, it uses only what is held
abbrev pub UsesHeld : (ℕ → Option Mode) → NeedData → Type 0
UsesHeld held (File call) = Uses held call
UsesHeld held due = Unit {0}

-- A disk has open what is held.
abbrev pub Backs : Disk → (ℕ → Option Mode) → Type 0
Backs d held = (fd : ℕ) (mode : Mode) → held fd ≡ Some mode → (n : ℕ) × (d.opens fd ≡ Some (record { number = n; mode = mode }))

-- What was taken

-- the bytes of its input, after one event
abbrev pub taken_by : List ℕ → NeedData → GotData → List ℕ
taken_by old (Take Input) (Took bytes) = old ++ bytes
taken_by old due got = old

-- the bytes of its input
abbrev pub taken : List Own → List ℕ
taken [] = []
taken (event ∷ before) = taken_by (taken before) event.due event.came
