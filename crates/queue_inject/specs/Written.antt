-- The calls of a run from its first to its end, as one written-out list (qmail-queue(8)).
use Rattle.std.specs.Prelude.{◌≡◌, ◌≢◌, ◌⊎◌, ℕ, zero, suc, ◌+◌, ◌≤◌, ◌<◌, List, [], ◌∷◌, ◌++◌, length, Some}
use Rattle.std.specs.List.{concat}
use Rattle.call_fs.specs.declared.calls.CallData.{CallData}
use Rattle.call_fs.specs.declared.calls.CallData.TheVariants.{CreateExcl, Append, Sync, Link, Unlink}
use Rattle.call_fs.specs.declared.calls.Answer.{Answer}
use Rattle.call_fs.specs.declared.calls.Answer.TheVariants.{Created, Done, Refused}
use Rattle.call_fs.specs.declared.calls.Fd.{Fd}
use Rattle.call_fs.specs.declared.calls.FsError.{FsError}
use Rattle.call_fs.specs.declared.calls.FsError.TheVariants.{NotThere, Exists}
use Rattle.call_fs.specs.declared.past.GotData.{GotData}
use Rattle.call_fs.specs.declared.past.GotData.TheVariants.{Answered}
use Rattle.call_fs.specs.declared.past.NeedData.{NeedData}
use Rattle.call_fs.specs.declared.past.NeedData.TheVariants as needs
use Rattle.call_fs.specs.declared.past.Own.{Own}
use Rattle.queue_limits.specs.declared.times.TheConstants.{DAY}
use Rattle.queue_paths.specs.Names.{path}
use Rattle.queue_paths.specs.Names.Name.{Of}
use Rattle.queue_paths.specs.Names.Part.{Mess, Intd, Todo}
use Rattle.queue_inject.specs.declared.injection.Arguments.{Arguments}
use Rattle.queue_inject.specs.Texts.{Text, message_text, intd_text}
use Rattle.queue_inject.specs.Table.{piece_size}
use Rattle.queue_inject.specs.Causes.{first_fault, pid_name, FailsWith}

-- Calls with their answers

abbrev pub Act : Type 0
Act = CallData × Answer

abbrev pub act : CallData → Answer → Act
act call answer = (call, answer)

abbrev pub act_of : NeedData → GotData → List Act
act_of (needs.File call) (Answered told) = act call told.answer ∷ []
act_of due came = []

-- those of a past, oldest first
abbrev pub acts_of : List Own → List Act
acts_of [] = []
acts_of (event ∷ before) = acts_of before ++ act_of event.due event.came

-- Texts in pieces

-- a piece before these others: each has 8192 bytes, except the last one, which has from 1 to 8192
abbrev pub IsPiece : List ℕ → List (List ℕ) → Type 0
IsPiece piece [] = (1 ≤ length piece) × (length piece ≤ piece_size)
IsPiece piece (next ∷ more) = length piece ≡ piece_size

abbrev pub ArePieces : List (List ℕ) → Type 0
ArePieces [] = Unit {0}
ArePieces (piece ∷ more) = IsPiece piece more × ArePieces more

-- the pieces are those of the text
pub record AreCut (text : List ℕ) (pieces : List (List ℕ)) : Type 0 where
  pub joined : concat pieces ≡ text
  pub sized : ArePieces pieces

-- each of them is appended
abbrev pub appends : Fd → List (List ℕ) → List Act
appends fd [] = []
appends fd (piece ∷ more) = act (Append fd piece) Done ∷ appends fd more

-- The written-out list

-- What a run learns from the disk, and the pieces of its two texts: how many pid names are taken, the number of the
-- message, and the open files in mess and in intd.
pub record Chosen : Type 0 where
  pub taken : ℕ
  pub number : ℕ
  pub mess_fd : Fd
  pub mess : List (List ℕ)
  pub intd_fd : Fd
  pub intd_number : ℕ
  pub todo : List (List ℕ)

-- At most eight names are taken when one is made, and the pieces are those of the two texts.
pub record IsChosen (args : Arguments) (c : Chosen) : Type 0 where
  pub few : c.taken ≤ 8
  pub mess_cut : AreCut (message_text args).bytes c.mess
  pub todo_cut : AreCut (intd_text args).bytes c.todo

-- the first pid name that isn't taken, and the three names of the message
abbrev pub own_pid : Arguments → Chosen → List ℕ
own_pid args c = pid_name args (suc c.taken)

abbrev pub mess_name : Chosen → List ℕ
mess_name c = path (Of Mess c.number)

abbrev pub intd_name : Chosen → List ℕ
intd_name c = path (Of Intd c.number)

abbrev pub todo_name : Chosen → List ℕ
todo_name c = path (Of Todo c.number)

-- before the list: so many pid names, from the first, are found taken
abbrev pub taken_names : Arguments → ℕ → List Act
taken_names args zero = []
taken_names args (suc k) = taken_names args k ++ act (CreateExcl (pid_name args (suc k))) (Refused Exists) ∷ []

-- The calls while the number is in S1, no file of it being there: the last one gives the message file its name.
abbrev pub in_s1 : Arguments → Chosen → List Act
in_s1 args c = act (CreateExcl (own_pid args c)) (Created c.mess_fd c.number) ∷ (act (Link (own_pid args c) (mess_name c)) Done ∷ [])

-- what follows the message in its file
abbrev pub after_mess : Chosen → List Act
after_mess c = act (Sync c.mess_fd) Done ∷ (act (CreateExcl (intd_name c)) (Created c.intd_fd c.intd_number) ∷ [])

-- The calls in S2: the message is written and synced, and intd/N made.
abbrev pub in_s2 : Arguments → Chosen → List Act
in_s2 args c = act (Unlink (own_pid args c)) Done ∷ (appends c.mess_fd c.mess ++ after_mess c)

-- what follows the todo text in its file
abbrev pub after_todo : Chosen → List Act
after_todo c = act (Sync c.intd_fd) Done ∷ []

-- The calls in S3 but the last: the todo text is written and synced.
abbrev pub in_s3 : Chosen → List Act
in_s3 c = appends c.intd_fd c.todo ++ after_todo c

-- the call that leads to S4, by which the message is queued
abbrev pub to_s4 : Chosen → List Act
to_s4 c = act (Link (intd_name c) (todo_name c)) Done ∷ []

-- all of them, each answered Ok
abbrev pub written : Arguments → Chosen → List Act
written args c = in_s1 args c ++ (in_s2 args c ++ (in_s3 c ++ to_s4 c))

-- Why a run makes no more of them

abbrev pub AreWhole : List (List ℕ) → Type 0
AreWhole [] = Unit {0}
AreWhole (piece ∷ more) = (length piece ≡ piece_size) × AreWhole more

-- Of these calls, which write and sync a text, the first is refused in place of being answered Ok; or none is made, since
-- the text has a fault: only its whole pieces are written before the fault is found, so under 8192 bytes of it are left,
-- and it isn't synced.
pub data Stops (args : Arguments) (status : ℕ) (text : Text) (pieces : List (List ℕ)) (fd : Fd) : List Act → List Act → Type 0 where
  ByCall : (call : CallData) (ok : Answer) (why : FsError) (rest : List Act) → FailsWith args status call (Refused why)
      → Stops args status text pieces fd (act call ok ∷ rest) (act call (Refused why) ∷ [])
  ByInput : (whole left : List (List ℕ)) (rest : List Act) → first_fault args ≡ Some status → text.fault ≡ Some status → pieces ≡ whole ++ left → AreWhole whole
      → length (concat left) < piece_size → Stops args status text pieces fd (appends fd left ++ act (Sync fd) Done ∷ rest) []

-- The clean up

-- it isn't there any more
abbrev pub IsGone : Answer → Type 0
IsGone answer = (answer ≡ Done) ⊎ (answer ≡ Refused NotThere)

-- These names are removed, one after the other, until one can't be.
pub data AreRemoved : List (List ℕ) → List Act → Type 0 where
  All : AreRemoved [] []
  Next : (name : List ℕ) (names : List (List ℕ)) (answer : Answer) (more : List Act) → IsGone answer → AreRemoved names more
      → AreRemoved (name ∷ names) (act (Unlink name) answer ∷ more)
  Stays : (name : List ℕ) (names : List (List ℕ)) (answer : Answer) → ¬ (IsGone answer) → AreRemoved (name ∷ names) (act (Unlink name) answer ∷ [])

-- After these calls of the list, each answered Ok, a run stops: a call is refused or its input has a fault, and then it
-- removes what it made. In S1 and after a refused link to todo, which may have been made all the same, it removes nothing;
-- in S2 it removes mess/N, in S3 intd/N first.
pub data IsStopped (args : Arguments) (c : Chosen) (status : ℕ) : List Act → List Act → Type 0 where
  InS1 : (made rest : List Act) (call : CallData) (ok : Answer) (why : FsError) → in_s1 args c ≡ made ++ act call ok ∷ rest
      → FailsWith args status call (Refused why) → IsStopped args c status made (act call (Refused why) ∷ [])
  InS2 : (made rest stop removed : List Act) → in_s2 args c ≡ made ++ rest → Stops args status (message_text args) c.mess c.mess_fd rest stop
      → AreRemoved (mess_name c ∷ []) removed → IsStopped args c status (in_s1 args c ++ made) (stop ++ removed)
  InS3 : (made rest stop removed : List Act) → in_s3 c ≡ made ++ rest → Stops args status (intd_text args) c.todo c.intd_fd rest stop
      → AreRemoved (intd_name c ∷ (mess_name c ∷ [])) removed → IsStopped args c status ((in_s1 args c ++ in_s2 args c) ++ made) (stop ++ removed)
  AtTodo : (why : FsError) → FailsWith args status (Link (intd_name c) (todo_name c)) (Refused why)
      → IsStopped args c status ((in_s1 args c ++ in_s2 args c) ++ in_s3 c) (act (Link (intd_name c) (todo_name c)) (Refused why) ∷ [])

-- The end

-- How a run ends that made these calls of the list, with these left, and then others: all were made; it stopped; or a call
-- was due more than a day after its start, one of the list or of a clean up, which is then cut short.
pub data Ends (args : Arguments) (now : ℕ) (c : Chosen) : List Act → List Act → List Act → ℕ → Type 0 where
  Queued : (made : List Act) → Ends args now c made [] [] 0
  Stopped : (made rest after : List Act) (status : ℕ) → IsStopped args c status made after → Ends args now c made rest after status
  Late : (made rest : List Act) → args.start + DAY < now → rest ≢ [] → Ends args now c made rest [] 52
  CutShort : (made rest after more : List Act) (status : ℕ) → args.start + DAY < now → more ≢ [] → IsStopped args c status made (after ++ more)
      → Ends args now c made rest after 52

-- The calls of a run that ended at this moment with this status: pid names that are found taken, then a prefix of the
-- written-out list, then what its end adds.
pub record IsWritten (args : Arguments) (past : List Own) (now status : ℕ) : Type 0 where
  pub chosen : Chosen
  pub fits : IsChosen args chosen
  pub made : List Act
  pub rest : List Act
  pub after : List Act
  pub calls : acts_of past ≡ taken_names args chosen.taken ++ (made ++ after)
  pub whole : written args chosen ≡ made ++ rest
  pub end : Ends args now chosen made rest after status
