-- A sender that runs over a disk.
use Rattle.std.specs.Prelude.{List, Option, ℕ}
use Rattle.call_fs.specs.declared.past.GotData.{GotData}
use Rattle.call_fs.specs.declared.past.GotData.TheVariants.{Took, Failed}
use Rattle.call_fs.specs.declared.past.Own.{Own}
use Rattle.call_fs.specs.declared.program.Port.{Port}
use Rattle.call_fs.specs.declared.program.Port.TheVariants.{Clean, Lspawn, Rspawn}
use Rattle.call_fs.specs.declared.modes.Mode.{Mode}
use Rattle.call_fs.specs.Disk.{Disk}
use Rattle.call_fs.specs.Past.{IsRunBy, Backs, held}
use Rattle.mail_bytes.specs.Told.{OnTold}
use Rattle.send_core.specs.Stands.{Machine, Stands}
use Rattle.send_core.specs.Table.{Next}

-- it stands for a run, whose open files are open on the disk, if that tells
pub record IsRunning (machine : Machine) (disk : Option Disk) : Type 0 where
  pub turns : Option ℕ
  pub past : List Own
  pub stands : Stands machine turns past
  pub run : IsRunBy (Next turns) past
  pub backs : OnTold disk (λ d. Backs d (held past))

-- what is open stays open
abbrev pub KeepsOpen : Option Disk → Option Disk → Type 0
KeepsOpen before after = (h : ℕ → Option Mode) → OnTold before (λ d. Backs d h) → OnTold after (λ d. Backs d h)

-- what comes of a taking: these bytes, or a failure if it isn't one of a link
abbrev pub taken_of : Port → List ℕ → GotData
taken_of Clean bytes = Took bytes
taken_of Lspawn bytes = Took bytes
taken_of Rspawn bytes = Took bytes
taken_of port bytes = Failed
