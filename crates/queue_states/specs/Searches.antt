-- What a search of a queue does to its disk, and why it ends early.
use Rattle.std.specs.Prelude.{◌≡◌, ℕ, ◌≤◌, List, ◌++◌, Bool, Option, Some, None, Result, Ok, Err, IfOk, IfErr, All, Contains}
use Rattle.call_fs.specs.declared.calls.FsError.{FsError}
use Rattle.call_fs.specs.declared.calls.FsError.TheVariants as failed
use Rattle.call_fs.specs.declared.calls.CallData.TheVariants.{NextName}
use Rattle.call_fs.specs.declared.calls.Recorded.{Recorded}
use Rattle.call_fs.specs.Disk.{Disk}
use Rattle.mail_bytes.specs.Told.{OnTold, Rose}
use Rattle.queue_states.specs.declared.outcome.AuditError.{AuditError}
use Rattle.queue_states.specs.declared.outcome.AuditError.TheVariants.{Fault, Missing, Memory}

-- What a disk tells: what it holds and the calls that it was asked for; and how often it failed.
pub record DiskTold : Type 0 where
  pub disk : Option Disk
  pub calls : Option (List Recorded)
  pub faults : ℕ

abbrev pub IsSearch : Recorded → Type 0
IsSearch entry = (dir : List ℕ) × (after : List ℕ) × (entry.call ≡ NextName dir after)

-- Only next names were asked for, if the calls are kept; from the first one on for which there is no room, none is.
abbrev pub AreSearches : Option (List Recorded) → Option (List Recorded) → Type 0
AreSearches (Some old) (Some new) = (more : List Recorded) × (new ≡ old ++ more) × All IsSearch more
AreSearches told None = Unit {0}
AreSearches None (Some new) = ⊥

-- The disk was only searched: it holds what it held.
pub record IsSearched (old new : DiskTold) : Type 0 where
  pub same : new.disk ≡ old.disk
  pub asked : AreSearches old.calls new.calls
  pub later : old.faults ≤ new.faults

-- A search fails only if the disk counted a failure; a directory counts as missing only if it is one of these, and
-- isn't there.
abbrev pub IsWhy : List (List ℕ) → DiskTold → DiskTold → AuditError → Type 0
IsWhy dirs old new Fault = Rose old.faults new.faults
IsWhy dirs old new (Missing dir) = Contains dirs dir × OnTold old.disk (λ d. ¬ (Contains d.dirs dir))
IsWhy dirs old new Memory = Unit {0}

-- These directories were searched: each of them is there, or there is a reason why not all of it was done.
pub record HasSearched {T : Type 0} (dirs : List (List ℕ)) (old new : DiskTold) (result : Result T AuditError) : Type 0 where
  pub only : IsSearched old new
  pub there : IfOk result (λ _. OnTold old.disk (λ d. All (Contains d.dirs) dirs))
  pub why : IfErr result (IsWhy dirs old new)

-- what one answer of a disk comes to, in this directory
abbrev pub IsWhyOf : List ℕ → Result Bool FsError → AuditError → Type 0
IsWhyOf dir answer Fault = answer ≡ Err failed.Fault
IsWhyOf dir answer (Missing missing) = (answer ≡ Err failed.NotThere) × (missing ≡ dir)
IsWhyOf dir answer Memory = Unit {0}
