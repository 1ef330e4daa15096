-- A drop into a maildir within a local delivery (maildir(5)).
use Rattle.std.specs.Prelude.{ℕ, List, Bool, Option}
use Rattle.call_fs.specs.declared.past.GotData.{GotData}
use Rattle.call_fs.specs.declared.past.NeedData.{NeedData}
use Rattle.dot_qmail.specs.Paths.{path_in}
use Rattle.local_parts.specs.declared.arguments.LocalArgs.{LocalArgs}
use Rattle.local_parts.specs.Texts.{maildir_text}
use Rattle.maildir_drop.specs.declared.arguments.Arguments.{Arguments}
use Rattle.maildir_drop.specs.declared.names.DropNames.{DropNames}
use Rattle.maildir_drop.specs.Ends.{EndData, end_at, is_linked as is_linked_row}
use Rattle.maildir_drop.specs.Names.{names_of}
use Rattle.maildir_drop.specs.Table.{begun, due_at, moved, Place as DropPlace}

-- its names, and where it stands
pub record Drop : Type 0 where
  pub names : DropNames
  pub place : DropPlace

-- the message, with its lines before it, into the maildir to which this path leads; the moment is one of its name
abbrev pub drop_arguments : (args : LocalArgs) (now : ℕ) (path host message : List ℕ) → Arguments
drop_arguments args now path host message = record {
  dir = path_in args.home path;
  moment = now;
  pid = args.pid;
  host = host;
  bytes = maildir_text args message;
}

abbrev pub begun_drop : Arguments → Drop
begun_drop args = record { names = names_of args; place = begun args }

abbrev pub moved_drop : GotData → Drop → Drop
moved_drop got d = record { names = d.names; place = moved d.names d.place got }

abbrev pub due_drop : Drop → NeedData
due_drop d = due_at d.names d.place.row d.place.left

abbrev pub end_drop : Drop → Option EndData
end_drop d = end_at d.names d.place.row

-- its link was made, and only the unlink is left
abbrev pub is_linked : Drop → Bool
is_linked d = is_linked_row d.place.row
