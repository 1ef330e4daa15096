-- What each actor has, by its program: what an injector rests on and how it has fared, what a living cleaner and a living sender rely on,
-- what a living spawner holds open, and what a delivery rests on and did.
use Rattle.std.specs.Prelude.{◌≡◌, ℕ, List, true, None}
use Rattle.call_fs.specs.declared.past.Own.{Own}
use Rattle.queue_clean.specs.Table.{place_after}
use Rattle.send_core.specs.declared.desk.Desk.{Desk}
use Rattle.send_core.specs.Table.{place_after as sender_after}
use Rattle.spawner_parts.specs.declared.row.Row.{Row as SpawnRow}
use Rattle.spawner_parts.specs.declared.row.Row.TheVariants as spawn
use Rattle.local_spawn.specs.declared.place.Place.{Place as LocalPlace}
use Rattle.local_spawn.specs.declared.row.Row.{Row as LocalRow}
use Rattle.local_spawn.specs.declared.row.Row.TheVariants as local
use Rattle.local_spawn.specs.Table.{place_after as local_after}
use Rattle.remote_spawn.specs.Table.{place_after as spawn_after}
use Rattle.program_law.specs.Delivery.Rests.{DeliveryRests}
use Rattle.local_deliver.specs.Carried.{IsCarried}
use Rattle.local_parts.specs.declared.arguments.LocalArgs.{LocalArgs}
use Rattle.queue_law.specs.Cleaners.{CleanerStands}
use Rattle.queue_law.specs.Injectors.{InjectorFares}
use Rattle.queue_law.specs.Numbers.{Queue}
use Rattle.queue_law.specs.Passes.{HasOpen}
use Rattle.program_law.specs.Sender.Asking.{TextsStand}
use Rattle.program_law.specs.Sender.Stands.{SenderStands}
use Rattle.world_events.specs.declared.event.Program.{Program}
use Rattle.world_events.specs.declared.event.Program.TheVariants.{Injector, Cleaner, Sender, LocalSpawner, RemoteSpawner, Delivery}
use Rattle.mail_world.specs.History.{Life}
use Rattle.mail_world.specs.History.Life.{Alive}
use Rattle.world_law.specs.Crew.{is_alive, is_well}
use Rattle.world_law.specs.Deliveries.{AreForwarded}

-- while it lives
abbrev pub IfAlive : Life → Type 0 → Type 0
IfAlive Alive T = T
IfAlive life T = Unit {0}

-- the sender with this desk has what it relies on, and its requests are those of records
pub record SenderFares (now : ℕ) (q : Queue) (a : List ℕ) (d : Desk) : Type 0 where
  pub stands : SenderStands now q a d
  pub texts : TextsStand q d

-- what a spawner holds open at a row, as it serves requests
abbrev pub SpawnerHolds : Queue → List ℕ → SpawnRow → Type 0
SpawnerHolds q a (spawn.ReadMess fd) = HasOpen q a fd.0
SpawnerHolds q a (spawn.CloseMess fd whole) = HasOpen q a fd.0
SpawnerHolds q a row = Unit {0}

-- and a local spawner, which first reads users/assign, before any work
abbrev pub HoldsUsers : Queue → List ℕ → LocalRow → (work : SpawnRow) → Type 0
HoldsUsers q a local.OpenUsers work = work ≡ spawn.Greet
HoldsUsers q a (local.ReadUsers fd) work = HasOpen q a fd.0 × (work ≡ spawn.Greet)
HoldsUsers q a (local.CloseUsers fd whole) work = HasOpen q a fd.0 × (work ≡ spawn.Greet)
HoldsUsers q a local.Serves work = SpawnerHolds q a work
HoldsUsers q a local.OutOfMemory work = Unit {0}

abbrev pub LspawnHolds : Queue → List ℕ → LocalPlace → Type 0
LspawnHolds q a p = HoldsUsers q a p.row p.work.row

-- A living delivery has what its drops rest on; the injections of its forwards that ended with 0 were accepted; and if it ended with 0 itself,
-- its instructions were carried out.
pub record DeliveryFares (q : Queue) (a : List ℕ) (args : LocalArgs) (past : List Own) (life : Life) : Type 0 where
  pub rests : IfAlive life (DeliveryRests q a args past)
  pub forwards : AreForwarded q.books past
  pub well : is_well life ≡ true → IsCarried args past

abbrev pub FaresBy : ℕ → Queue → List ℕ → Program → List Own → Life → Type 0
FaresBy now q a (Injector args) past life = InjectorFares now q a args past (is_alive life) (is_well life)
FaresBy now q a (Cleaner start) past life = IfAlive life (CleanerStands now q (place_after past))
FaresBy now q a (Sender start) past life = IfAlive life (SenderFares now q a (sender_after None past))
FaresBy now q a (LocalSpawner start) past life = IfAlive life (LspawnHolds q a (local_after past))
FaresBy now q a (RemoteSpawner start) past life = IfAlive life (SpawnerHolds q a (spawn_after past).row)
FaresBy now q a (Delivery start args) past life = DeliveryFares q a args past life
