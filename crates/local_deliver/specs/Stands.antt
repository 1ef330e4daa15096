-- Which local delivery stands for which past, that it doesn't store.
use Rattle.std.specs.Prelude.{◌≡◌, List}
use Rattle.call_fs.specs.declared.past.GotData.{GotData}
use Rattle.call_fs.specs.declared.past.NeedData.{NeedData}
use Rattle.call_fs.specs.declared.past.Own.{Own}
use Rattle.local_parts.specs.declared.arguments.LocalArgs.{LocalArgs}
use Rattle.local_deliver.specs.declared.machine.Local.{Local}
use Rattle.local_deliver.specs.Table.{due_by, moved, place_after}

-- it has these arguments, and keeps what the table says of this past, newest event first
pub record Stands (m : Local) (args : LocalArgs) (past : List Own) : Type 0 where
  pub args_are : m.args ≡ args
  pub place_is : m.place ≡ place_after args past

abbrev pub due_now : Local → NeedData
due_now m = due_by m.args m.place

-- after this came of its need
abbrev pub gone_on : Local → GotData → Local
gone_on m got = record m { place = moved m.args m.place m.present got }
