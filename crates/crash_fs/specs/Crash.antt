-- A disk in memory whose machine can be stopped.
use Rattle.std.specs.Prelude.{◌≡◌, ◌≢◌, ℕ, Option, Some, None}
use Rattle.std.specs.Option.{option_map}
use Rattle.call_fs.specs.declared.calls.FsError.TheVariants.{Fault}
use Rattle.call_fs.specs.declared.calls.CallData.{CallData}
use Rattle.call_fs.specs.declared.calls.Told.{Told}
use Rattle.call_fs.specs.declared.calls.Answer.{Answer}
use Rattle.call_fs.specs.declared.calls.Answer.TheVariants.{Refused}
use Rattle.mail_bytes.specs.Told.{raised, summed}
use Rattle.call_fs.specs.Disk.{Disk}
use Rattle.call_fs.specs.Plan.{Plan, no_plan, plan_left}
use Rattle.call_fs.specs.Went.{Went}
use Rattle.mem_fs.specs.MemDisk.{Planned, Held, disk_of, empty_plan, Counts, with_held}

-- The disk below, which call fails next and which number the next new file takes, and how many calls have failed by that
-- choice.
pub record Crash : Type 0 where
  pub below : Planned
  pub plan : Plan
  pub failed : ℕ

-- what it holds
abbrev pub crash_disk : Crash → Disk
crash_disk c = disk_of c.below.held

-- how many calls have failed, by either plan
abbrev pub crash_faults : Crash → ℕ
crash_faults c = summed c.below.faults c.failed

-- what is chosen; if the disk below has a plan of its own, that isn't all
abbrev pub crash_plan : Crash → Option Plan
crash_plan c = option_map (λ none. c.plan) (empty_plan c.below.picks c.below.plan)

-- A call was counted.
pub record Passes (old new : Crash) (answer : Answer) : Type 0 where
  -- what is chosen is nearer by one call; a new file has used the number up
  pub left : new.plan ≡ plan_left old.plan answer
  -- the chosen call failed, and the disk below wasn't asked
  pub due : old.plan.fault ≡ Some 1 → (answer ≡ Refused Fault) × (new.below ≡ old.below) × (new.failed ≡ raised old.failed)
  -- any other was made by that disk, with the chosen number
  pub passed : old.plan.fault ≢ Some 1 → Counts old.below new.below old.plan.pick answer × (new.failed ≡ old.failed)

-- nothing is chosen, and nothing has failed by a choice
abbrev pub crash_over : Planned → Crash
crash_over m = record { below = m; plan = no_plan; failed = 0 }

-- only what the disk below holds changed
abbrev pub with_below : Crash → Held → Crash
with_below c h = record { below = with_held c.below h; plan = c.plan; failed = c.failed }

-- only what is chosen changed
abbrev pub with_plan : Crash → Plan → Crash
with_plan c plan = record { below = c.below; plan = plan; failed = c.failed }

-- how a call went, as such a disk tells it: it keeps no calls
abbrev pub CrashWent : Crash → Crash → ℕ → CallData → Told → Type 0
CrashWent = Went (λ c. Some (crash_disk c)) (λ c. None) crash_plan crash_faults
