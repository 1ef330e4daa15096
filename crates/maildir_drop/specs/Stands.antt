-- Which drop stands for which past, that it doesn't store.
use Rattle.std.specs.Prelude.{◌≡◌, List}
use Rattle.call_fs.specs.declared.past.NeedData.{NeedData}
use Rattle.call_fs.specs.declared.past.Own.{Own}
use Rattle.maildir_drop.specs.declared.arguments.Arguments.{Arguments}
use Rattle.maildir_drop.specs.declared.machine.MaildirDrop.{MaildirDrop}
use Rattle.maildir_drop.specs.Names.{names_of}
use Rattle.maildir_drop.specs.Table.{Place, place_after, due_at}

abbrev pub place_of : MaildirDrop → Place
place_of machine = record { row = machine.row; left = machine.left }

-- it has the names of these arguments, and stands where a drop does after this past, newest event first
pub record Stands (machine : MaildirDrop) (args : Arguments) (past : List Own) : Type 0 where
  pub names_are : machine.names ≡ names_of args
  pub place_is : place_of machine ≡ place_after args past

abbrev pub due_now : MaildirDrop → NeedData
due_now machine = due_at machine.names machine.row machine.left
