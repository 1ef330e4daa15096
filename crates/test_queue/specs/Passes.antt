-- A pass that runs over a disk.
use Rattle.std.specs.Prelude.{List, Option}
use Rattle.call_fs.specs.declared.past.Own.{Own}
use Rattle.call_fs.specs.Disk.{Disk}
use Rattle.call_fs.specs.Past.{IsRunBy, Backs, held}
use Rattle.mail_bytes.specs.Told.{OnTold}
use Rattle.todo_pass.specs.declared.arguments.Arguments.{Arguments}
use Rattle.todo_pass.specs.declared.machine.TodoPass.{TodoPass}
use Rattle.todo_pass.specs.Stands.{Stands}
use Rattle.todo_pass.specs.Table.{Next}

-- it stands for a run, whose open files are open on the disk, if that tells
pub record IsRunning (machine : TodoPass) (disk : Option Disk) : Type 0 where
  pub args : Arguments
  pub past : List Own
  pub stands : Stands machine args past
  pub run : IsRunBy (Next args) past
  pub backs : OnTold disk (λ d. Backs d (held past))
