-- When nothing is in flight at the end of an idle turn.
use Rattle.std.specs.Prelude.{◌≡◌, ℕ, List, ◌++◌, true, false, Some, None, codes}
use Rattle.call_fs.specs.Disk.{Disk}
use Rattle.send_known.specs.declared.channel.Channel.{Channel}
use Rattle.send_jobs.specs.Sending.{lane}
use Rattle.send_jobs.specs.Slots.{attempt_in}
use Rattle.spawner_parts.specs.Table.{none_runs}
use Rattle.queue_inject.specs.declared.injection.Arguments.{Arguments}
use Rattle.world_pipes.specs.Pipework.Tenant.{Runs}
use Rattle.world_events.specs.declared.event.Program.TheVariants.{Injector}
use Rattle.mail_world.specs.History.{Actor, Event, IsSender, after as after_events}
use Rattle.mail_world.specs.History.Life.{Alive}
use Rattle.world_events.specs.Searches.{searches}
use Rattle.scenario.specs.Deeds.{Deed, after}
use Rattle.settle_law.specs.Ends.{Turn, deeds_of}
use Rattle.world_law.specs.Spawned.{IsSpawner, spawner_name, stands_after}
use Rattle.settle_law.specs.Promised.{IsRest, OthersWait}
use Rattle.settle_law.specs.Suffices.{desk_of}
use Rattle.settle_law.specs.Well.{GoesWell}

-- If nobody has anything to do but who searches, no program of a living spawner runs: no delivery, and no remote program.
abbrev pub OthersRunNone : Type 0
OthersRunNone = (d : Disk) (h : List Event) → GoesWell d h → OthersWait (after_events d h) → (c : Channel) (y : Actor)
    → (after_events d h).actors (spawner_name c) ≡ Some y → y.life ≡ Alive → IsSpawner c y.program → none_runs (stands_after c y.past).running ≡ true

-- Nor does an injector of a mail live then, which has its input in its start, nor who runs in a slot of one that lives, but of the sender.
pub record OthersEnd : Type 0 where
  pub mails : (d : Disk) (h : List Event) → GoesWell d h → OthersWait (after_events d h) → (a : List ℕ) (x : Actor) (args : Arguments)
      → (after_events d h).actors a ≡ Some x → x.life ≡ Alive → searches a ≡ false → x.program ≡ Injector args → (after_events d h).pipework.slots a ≡ None → ⊥
  pub children : (d : Disk) (h : List Event) → GoesWell d h → OthersWait (after_events d h) → (a b : List ℕ) (slot : ℕ) (y z : Actor)
      → (after_events d h).actors a ≡ Some y → y.life ≡ Alive → (IsSender y.program → ⊥) → (after_events d h).pipework.programs a slot ≡ Some (Runs b)
      → (after_events d h).actors b ≡ Some z → z.life ≡ Alive → ⊥

-- At a rest the sender has nothing in flight.
abbrev pub RestsFree : Type 0
RestsFree = (d : Disk) (turns : List Turn) (before : List Deed) → IsRest d turns before → (x : Actor) → (after d (deeds_of turns ++ before)).actors (codes "sender") ≡ Some x
    → (c : Channel) (slot : ℕ) → attempt_in (lane c (desk_of x.past).slots).slots slot ≡ None
