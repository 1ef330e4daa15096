-- What the fields of a drop keep.
use Rattle.std.specs.Prelude.{Option}
use Rattle.std.specs.Option.{option_map}
use Rattle.local_deliver.specs.declared.dropping.Dropping.TheInside.{Inside}
use Rattle.local_deliver.specs.Drops.{Drop}
use Rattle.maildir_drop.specs.declared.row.End.{End}
use Rattle.maildir_drop.specs.Ends.{EndData, end_data}
use Rattle.maildir_drop.specs.Stands.{place_of}

abbrev pub drop_inside : Inside → Drop
drop_inside i = record { names = i.machine.names; place = place_of i.machine }

abbrev pub told_end : Option End → Option EndData
told_end end = option_map end_data end
