-- What a run leaves in the queue, by what its calls were answered: "Left" of the exit statuses of qmail-queue(8).
use Rattle.std.specs.Prelude.{◌≡◌, ◌⊎◌, ◌↔◌, ℕ, List, [], ◌∷◌, Bool, true, false, IsTrue, ◌||◌, ◌==◌}
use Rattle.call_fs.specs.declared.calls.CallData.{CallData}
use Rattle.call_fs.specs.declared.calls.CallData.TheVariants.{CreateExcl, Link, Unlink}
use Rattle.call_fs.specs.declared.calls.Answer.{Answer}
use Rattle.call_fs.specs.declared.calls.Answer.TheVariants.{Created, Done, Refused}
use Rattle.call_fs.specs.declared.calls.FsError.{FsError}
use Rattle.call_fs.specs.declared.calls.FsError.TheVariants.{NotThere, Fault}
use Rattle.call_fs.specs.declared.past.Own.{Own}
use Rattle.call_fs.specs.Maps.{put_at}
use Rattle.call_fs.specs.Past.{HasCall}
use Rattle.queue_paths.specs.Names.{path}
use Rattle.queue_paths.specs.Names.Name.{Of}
use Rattle.queue_paths.specs.Names.Part.{Mess, Intd, Todo}
use Rattle.queue_inject.specs.declared.injection.Arguments.{Arguments}
use Rattle.queue_inject.specs.Causes.{pid_name, is_of_input}
use Rattle.queue_inject.specs.Written.{Act, acts_of}

-- The names that are there

-- A creation or a link that answered Ok makes its name; after an unlink that answered Ok, or that there is no such name,
-- the name isn't there.
abbrev pub there_after : (List ℕ → Bool) → CallData → Answer → List ℕ → Bool
there_after there (CreateExcl name) (Created fd n) = put_at there name true
there_after there (Link old new) Done = put_at there new true
there_after there (Unlink name) Done = put_at there name false
there_after there (Unlink name) (Refused NotThere) = put_at there name false
there_after there call answer = there

abbrev pub left_from : (List ℕ → Bool) → List Act → List ℕ → Bool
left_from there [] = there
left_from there (one ∷ more) = left_from (there_after there one.0 one.1) more

-- whether a name is there that these calls made
abbrev pub left_by : List Act → List ℕ → Bool
left_by acts = left_from (λ name. false) acts

abbrev pub IsOneOf : List (List ℕ) → List ℕ → Type 0
IsOneOf [] name = ⊥
IsOneOf (one ∷ names) name = (name ≡ one) ⊎ IsOneOf names name

-- the calls leave just these names
abbrev pub LeavesJust : List Act → List (List ℕ) → Type 0
LeavesJust acts names = (name : List ℕ) → (left_by acts name ≡ true) ↔ IsOneOf names name

-- What each status leaves

-- this call was refused
abbrev pub IsRefused : CallData → CallData → Answer → Type 0
IsRefused due call answer = (why : FsError) × (call ≡ due) × (answer ≡ Refused why)

-- a name couldn't be removed
abbrev pub IsStaying : CallData → Answer → Type 0
IsStaying call answer = (name : List ℕ) × (call ≡ Unlink name) × (answer ≡ Refused Fault)

-- the statuses of a failure after which a run removes what it made: of the input, and 51, 53, 63 and 65
abbrev pub is_removing : ℕ → Bool
is_removing status = is_of_input status || ((status == 51) || ((status == 53) || ((status == 63) || (status == 65))))

-- what a run may have made before the link to todo: the pid name, the message's name beside it, S2 and S3
pub data IsPartly (args : Arguments) : List (List ℕ) → Type 0 where
  OfPid : (k : ℕ) → IsPartly args (pid_name args k ∷ [])
  OfBoth : (k n : ℕ) → IsPartly args (path (Of Mess n) ∷ (pid_name args k ∷ []))
  OfS2 : (n : ℕ) → IsPartly args (path (Of Mess n) ∷ [])
  OfS3 : (n : ℕ) → IsPartly args (path (Of Intd n) ∷ (path (Of Mess n) ∷ []))

-- Which names a run leaves with its status.
pub data Leaves (args : Arguments) (past : List Own) : ℕ → List (List ℕ) → Type 0 where
  -- S4
  Queues : (n : ℕ) → Leaves args past 0 (path (Of Todo n) ∷ (path (Of Intd n) ∷ (path (Of Mess n) ∷ [])))
  -- S3 if the link to todo was refused, the pid name if the link to mess was
  AtTodo : (n status : ℕ) → (status ≡ 66) ⊎ (status ≡ 51) → HasCall past (IsRefused (Link (path (Of Intd n)) (path (Of Todo n))))
      → Leaves args past status (path (Of Intd n) ∷ (path (Of Mess n) ∷ []))
  AtMess : (k n status : ℕ) → (status ≡ 64) ⊎ (status ≡ 51) → HasCall past (IsRefused (Link (pid_name args k) (path (Of Mess n))))
      → Leaves args past status (pid_name args k ∷ [])
  -- nothing after any other failure, unless a name couldn't be removed
  Nothing : (status : ℕ) → IsTrue (is_removing status) → Leaves args past status []
  Stays : (status : ℕ) (names : List (List ℕ)) → IsTrue (is_removing status) → HasCall past IsStaying → IsPartly args names → Leaves args past status names
  -- what was there by then once the day is over
  Late : (names : List (List ℕ)) → (names ≡ []) ⊎ IsPartly args names → Leaves args past 52 names

-- What the run that this past is left, when it ended with this status.
pub record IsLeft (args : Arguments) (past : List Own) (status : ℕ) : Type 0 where
  pub names : List (List ℕ)
  pub just : LeavesJust (acts_of past) names
  pub leaves : Leaves args past status names
