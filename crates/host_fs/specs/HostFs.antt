-- What a caller knows of a real directory: its root, what is open, and how often it has failed.
use Rattle.std.specs.Prelude.{◌≡◌, ℕ, List, Option, None}
use Rattle.call_fs.specs.declared.modes.Mode.{Mode}
use Rattle.call_fs.specs.declared.calls.CallData.{CallData}
use Rattle.call_fs.specs.declared.calls.Answer.{Answer}
use Rattle.call_fs.specs.declared.calls.Answer.TheVariants.{Refused}
use Rattle.call_fs.specs.declared.calls.FsError.TheVariants.{Fault}
use Rattle.call_fs.specs.declared.calls.Told.{Told}
use Rattle.call_fs.specs.Went.{Went}
use Rattle.host_fs.specs.declared.host_fs.HostFs.{HostFs}
use Rattle.host_fs.specs.Modes.{mode_at, Leaves, FitsOpen}
use Rattle.host_fs.specs.Names.{LacksPath}
use Rattle.host_fs.specs.Listing.{ComesAfter}
use Rattle.host_fs.specs.Refusals.{count_told}

-- the directory that its names stand under
abbrev pub root_of : {S F L : Type 0} → HostFs S F L → List ℕ
root_of disk = disk.root

-- which descriptors are open, and how each came to be
abbrev pub opens_of : {S F L : Type 0} → HostFs S F L → ℕ → Option Mode
opens_of disk = mode_at disk.table.slots.items

-- how often it has failed
abbrev pub faults_of : {S F L : Type 0} → HostFs S F L → ℕ
faults_of disk = disk.faults

-- how a call went, as a real directory tells it: how often it has failed, and nothing else
abbrev pub HostWent : {S F L : Type 0} → HostFs S F L → HostFs S F L → ℕ → CallData → Told → Type 0
HostWent = Went (λ disk. None) (λ disk. None) (λ disk. None) faults_of

-- What a call with its answer does to a real directory.
pub record Serves {S F L : Type 0} (old new : HostFs S F L) (call : CallData) (answer : Answer) : Type 0 where
  -- the root stays
  pub root : root_of new ≡ root_of old
  -- a fault, and nothing else, is counted
  pub count : faults_of new ≡ count_told (faults_of old) answer
  -- a name without a path is a fault
  pub no_path : LacksPath (root_of old) call → answer ≡ Refused Fault
  -- what it opened wasn't open and is now, what it closed isn't any more, and nothing else changed
  pub opens : Leaves call answer (opens_of old) (opens_of new)
  -- a descriptor that it used was open, and fitted
  pub fits : FitsOpen call answer (opens_of old)
  -- a name that was found stands after the one asked for
  pub later : ComesAfter call answer
