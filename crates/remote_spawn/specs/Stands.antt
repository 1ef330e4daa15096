-- Which remote spawner stands for which past, that it doesn't store.
use Rattle.std.specs.Prelude.{◌≡◌, List}
use Rattle.call_fs.specs.declared.past.GotData.{GotData}
use Rattle.call_fs.specs.declared.past.NeedData.{NeedData}
use Rattle.call_fs.specs.declared.past.Own.{Own}
use Rattle.remote_spawn.specs.declared.machine.RemoteSpawn.{RemoteSpawn}
use Rattle.spawner_parts.specs.declared.row.Row.{Row}
use Rattle.spawner_parts.specs.Table.{act, row_now}
use Rattle.remote_spawn.specs.Table.{due_from, place_after, remote}

abbrev pub row_of : RemoteSpawn → Row
row_of m = row_now m.place m.ready

abbrev pub due_now : RemoteSpawn → NeedData
due_now m = due_from (row_of m) m.place

-- after this came of its need
abbrev pub gone_on : RemoteSpawn → GotData → RemoteSpawn
gone_on m came = record m { place = act remote (row_of m) came m.place }

-- it keeps what the table says of this past, newest event first
abbrev pub Stands : RemoteSpawn → Unit {0} → List Own → Type 0
Stands m args past = m.place ≡ place_after past
