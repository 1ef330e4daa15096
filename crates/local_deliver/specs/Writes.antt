-- What a local delivery rests on while a drop is at work: what that drop wrote, on a disk.
use Rattle.std.specs.Prelude.{◌≡◌, ℕ, List, Option, Some, None, IfSome, Contains}
use Rattle.call_fs.specs.declared.past.Own.{Own}
use Rattle.call_fs.specs.Disk.{Disk}
use Rattle.dot_qmail.specs.declared.line.Line.{Line}
use Rattle.dot_qmail.specs.declared.line.Line.TheVariants.{Maildir}
use Rattle.local_parts.specs.declared.arguments.LocalArgs.{LocalArgs}
use Rattle.local_parts.specs.Inputs.{message_in}
use Rattle.maildir_drop.specs.Names.{names_of}
use Rattle.maildir_drop.specs.Rests.{RestsOn}
use Rattle.local_deliver.specs.declared.place.Place.{Place}
use Rattle.local_deliver.specs.declared.row.Row.{Row}
use Rattle.local_deliver.specs.declared.row.Row.TheVariants as at
use Rattle.local_deliver.specs.Carried.{instructions}
use Rattle.call_fs.specs.Past.{taken}
use Rattle.local_deliver.specs.Drops.{Drop, drop_arguments}
use Rattle.local_deliver.specs.Table.{place_after}

-- the drop that is at work, if one is
abbrev pub at_work : Row → Option Drop → Option Drop
at_work at.Drop drop = drop
at_work row drop = None

abbrev pub AtWork : (Drop → Type 0) → Place → Type 0
AtWork Q p = IfSome (at_work p.row p.dropping) Q

-- The drop puts the message that was taken into the maildir of a line of the instructions, under names of some moment, and rests
-- on this disk.
pub record Writes (args : LocalArgs) (past : List Own) (d : Disk) (it : Drop) : Type 0 where
  pub message : List ℕ
  pub lines : List Line
  pub moment : ℕ
  pub path : List ℕ
  pub host : List ℕ
  pub input : message_in (taken past) ≡ Some message
  pub told : instructions args past ≡ Some lines
  pub line : Contains lines (Maildir path)
  pub names : it.names ≡ names_of (drop_arguments args moment path host message)
  pub rests : RestsOn (drop_arguments args moment path host message) it.place d

-- After this past, the delivery rests on this disk: the drop that is at work does, if one is.
abbrev pub WritesOn : LocalArgs → List Own → Disk → Type 0
WritesOn args past d = AtWork (Writes args past d) (place_after args past)
