-- What the command `audit` prints, and the causes of its exit statuses. On a disk with the names `pid/77.0.1` and
-- `mess/1/1` alone it prints `pid 1` and `1 S2`.
use Rattle.std.specs.Prelude.{◌≡◌, ◌⊎◌, ℕ, List, [], ◌∷◌, ◌++◌, flat_map, Option, Contains}
use Rattle.mail_bytes.specs.Told.{Meets, OnTold, Rose}
use Rattle.call_fs.specs.Disk.{Disk}
use Rattle.queue_states.specs.declared.state.State.{State}
use Rattle.queue_states.specs.declared.outcome.Audit.{Audit}
use Rattle.queue_states.specs.declared.outcome.AuditError.{AuditError}
use Rattle.queue_states.specs.declared.outcome.AuditError.TheVariants.{Fault, Missing, Memory}
use Rattle.queue_states.specs.Lines.{count_line, state_line}
use Rattle.queue_states.specs.Audit.{HasQueueDirs, IsAuditOf}
use Rattle.queue_states.specs.Searches.{DiskTold, IsSearched}
use Rattle.queue_limits.specs.declared.statuses.TheConstants.{DONE, INPUT, MEMORY, OUTPUT}

-- a line for each number
abbrev pub lines_of : List (ℕ × State) → List ℕ
lines_of states = flat_map (λ entry. state_line entry.0 entry.1) states

-- `pid COUNT`, and then a line for each number
abbrev pub text_of : Audit → List ℕ
text_of audit = count_line audit.pids ++ lines_of audit.states

-- the text of an audit of a disk that may tell what it holds
abbrev pub IsTextOf : Option Disk → List ℕ → Type 0
IsTextOf told text = (audit : Audit) × IsAuditOf told audit × (text ≡ text_of audit)

-- A sink, before and after: what it took, if it tells, and how often it failed.
pub record Output : Type 0 where
  pub old : Option (List ℕ)
  pub new : Option (List ℕ)
  pub faults_old : ℕ
  pub faults_new : ℕ

-- A text was given to a sink: with 0 it took all, with 53 it failed and took a prefix.
pub record Prints (out : Output) (text : List ℕ) (status : ℕ) : Type 0 where
  pub known : (status ≡ DONE) ⊎ (status ≡ OUTPUT)
  pub all : status ≡ DONE → Meets out.old out.new (λ before after. after ≡ before ++ text)
  pub part : status ≡ OUTPUT → Meets out.old out.new (λ before after. (taken : List ℕ) × (rest : List ℕ) × (text ≡ taken ++ rest) × (after ≡ before ++ taken))
  pub failed : status ≡ OUTPUT → Rose out.faults_old out.faults_new

-- the exit status of a failed audit
abbrev pub status_of : AuditError → ℕ
status_of Fault = INPUT
status_of (Missing dir) = INPUT
status_of Memory = MEMORY

-- A queue was looked at, and what it holds was printed. 54 only if the disk failed, or a directory is missing; if all
-- directories are there, and nothing failed, 0 or 51.
pub record HasAudited (old new : DiskTold) (out : Output) (status : ℕ) : Type 0 where
  pub known : Contains (DONE ∷ MEMORY ∷ OUTPUT ∷ INPUT ∷ []) status
  pub searched : IsSearched old new
  pub printed : (status ≡ DONE) ⊎ (status ≡ OUTPUT) → (text : List ℕ) × IsTextOf old.disk text × Prints out text status
  pub unread : status ≡ INPUT → Rose old.faults new.faults ⊎ OnTold old.disk (λ d. ¬ (HasQueueDirs d))
  pub complete : OnTold old.disk (λ d. HasQueueDirs d → ¬ (Rose old.faults new.faults) → ¬ (Rose out.faults_old out.faults_new) → (status ≡ DONE) ⊎ (status ≡ MEMORY))
