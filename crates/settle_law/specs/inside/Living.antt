-- That who serves a sender lives as long as it.
use Rattle.std.specs.Prelude.{◌≡◌, ℕ, List, Some, codes}
use Rattle.call_fs.specs.Disk.{Disk}
use Rattle.send_known.specs.declared.channel.Channel.{Channel}
use Rattle.world_events.specs.declared.event.Program.{Program}
use Rattle.mail_world.specs.History.{Actor, Event, IsCleaner, IsSender, State, after}
use Rattle.mail_world.specs.History.Life.{Alive}
use Rattle.world_law.specs.Spawned.{IsSpawner, spawner_name}
use Rattle.settle_law.specs.Well.{GoesWell}

-- its cleaner, or the spawner of a channel
pub data Servant : Type 0 where
  Cleans : Servant
  Spawns : (c : Channel) → Servant

abbrev pub servant_name : Servant → List ℕ
servant_name Cleans = codes "clean"
servant_name (Spawns c) = spawner_name c

abbrev pub RunsAs : Servant → Program → Type 0
RunsAs Cleans program = IsCleaner program
RunsAs (Spawns c) program = IsSpawner c program

-- It is there, and lives.
pub record IsServed (m : Servant) (s : State) : Type 0 where
  pub actor : Actor
  pub is : s.actors (servant_name m) ≡ Some actor
  pub serves : RunsAs m actor.program
  pub alive : actor.life ≡ Alive

-- Where nothing fails that is so as long as the sender lives.
abbrev pub ServantsLive : Type 0
ServantsLive = (d : Disk) (h : List Event) → GoesWell d h → (m : Servant) (x : Actor) → (after d h).actors (codes "sender") ≡ Some x → x.life ≡ Alive
    → IsSender x.program → IsServed m (after d h)
