-- What the plan of a disk says of an event.
use Rattle.std.specs.Prelude.{◌≡◌, Option}
use Rattle.call_fs.specs.declared.past.NeedData.{NeedData}
use Rattle.call_fs.specs.declared.past.NeedData.TheVariants.{File}
use Rattle.call_fs.specs.declared.past.GotData.{GotData}
use Rattle.call_fs.specs.declared.past.GotData.TheVariants.{Answered}
use Rattle.call_fs.specs.Disk.{Disk}
use Rattle.call_fs.specs.Plan.{Plan, CallKeepsPlan}

-- what the plan of a disk says of an event of an actor: a file call is by the plan
abbrev pub IsPlannedOwn : NeedData → GotData → Option Plan → Option Plan → Option Disk → Option Disk → Type 0
IsPlannedOwn (File call) (Answered told) old new disk disk_after = CallKeepsPlan call old new disk disk_after told.answer
IsPlannedOwn due came old new disk disk_after = new ≡ old
