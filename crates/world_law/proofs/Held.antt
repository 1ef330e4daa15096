-- What a spawner holds open stays open through what others do.
use Rattle.std.proofs.Common.{ℕ, List}
use Rattle.call_fs.specs.Disk.{Open}
use Rattle.local_spawn.specs.declared.place.Place.{Place}
use Rattle.local_spawn.specs.declared.row.Row.{Row as LocalRow}
use Rattle.local_spawn.specs.declared.row.Row.TheVariants as local
use Rattle.spawner_parts.specs.declared.row.Row.{Row}
use Rattle.spawner_parts.specs.declared.row.Row.TheVariants as spawn
use Rattle.queue_law.specs.Injectors.{IsHeld}
use Rattle.queue_law.specs.Numbers.{Queue}
use Rattle.world_law.specs.Fares.{HoldsUsers, LspawnHolds, SpawnerHolds}

module _ (q r : Queue) (o : List ℕ) (still : (fd : ℕ) (how : Open) → IsHeld q.disk.opens q.holder o fd how → IsHeld r.disk.opens r.holder o fd how) where
  pub spawner_holds : (row : Row) → SpawnerHolds q o row → SpawnerHolds r o row
  spawner_holds (spawn.ReadMess fd) h = (h.0, still fd.0 h.0 h.1)
  spawner_holds (spawn.CloseMess fd whole) h = (h.0, still fd.0 h.0 h.1)
  spawner_holds row h = tt

  users_held : (row : LocalRow) (work : Row) → HoldsUsers q o row work → HoldsUsers r o row work
  users_held local.OpenUsers work h = h
  users_held (local.ReadUsers fd) work h = ((h.0.0, still fd.0 h.0.0 h.0.1), h.1)
  users_held (local.CloseUsers fd whole) work h = ((h.0.0, still fd.0 h.0.0 h.0.1), h.1)
  users_held local.Serves work h = spawner_holds work h
  users_held local.OutOfMemory work h = tt

  pub lspawn_holds : (p : Place) → LspawnHolds q o p → LspawnHolds r o p
  lspawn_holds p h = users_held p.row p.work.row h
