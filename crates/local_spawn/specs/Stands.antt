-- Which local spawner stands for which past, that it doesn't store.
use Rattle.std.specs.Prelude.{◌≡◌, List}
use Rattle.call_fs.specs.declared.past.GotData.{GotData}
use Rattle.call_fs.specs.declared.past.NeedData.{NeedData}
use Rattle.call_fs.specs.declared.past.Own.{Own}
use Rattle.local_spawn.specs.declared.machine.LocalSpawn.{LocalSpawn}
use Rattle.local_spawn.specs.Table.{act, due_by, place_after}

abbrev pub due_now : LocalSpawn → NeedData
due_now m = due_by m.place m.ready

-- after this came of its need
abbrev pub gone_on : LocalSpawn → GotData → LocalSpawn
gone_on m came = record m { place = act m.place.row m.ready came m.place }

-- it keeps what the table says of this past, newest event first
abbrev pub Stands : LocalSpawn → Unit {0} → List Own → Type 0
Stands m args past = m.place ≡ place_after past
