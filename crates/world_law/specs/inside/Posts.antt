-- What lies between the sender and the local spawner, by the state.
use Rattle.std.specs.Prelude.{◌≡◌, ℕ, List, ◌∷◌, ◌++◌, Bool, false, ◌&&◌, Option, Some, None, codes}
use Rattle.call_fs.specs.Disk.{Among}
use Rattle.call_fs.specs.declared.past.Own.{Own}
use Rattle.call_fs.specs.declared.program.Port.TheVariants as port
use Rattle.local_spawn.specs.declared.place.Place.{Place}
use Rattle.local_spawn.specs.Table.{begun as spawner_begun, place_after}
use Rattle.local_parts.specs.declared.arguments.LocalArgs.{LocalArgs}
use Rattle.send_core.specs.declared.desk.Desk.{Desk}
use Rattle.send_core.specs.Desk.{link}
use Rattle.send_core.specs.Table.{begun, place_after as sender_after}
use Rattle.send_known.specs.declared.channel.Channel.TheVariants.{Local}
use Rattle.send_jobs.specs.Sending.{lane}
use Rattle.spawn_protocol.specs.declared.request.Request.{Request}
use Rattle.program_law.specs.Post.Posts.{Done, Post, Posted, Task}
use Rattle.program_law.specs.Post.Posts.Spawner.{Local as LocalAt}
use Rattle.program_law.specs.Post.Senders.{IsFirst, heard_at, is_on}
use Rattle.world_pipes.specs.Pipework.{Pipework}
use Rattle.world_pipes.specs.Pipework.Tenant.{Runs}
use Rattle.world_events.specs.declared.event.Program.{Program}
use Rattle.world_events.specs.declared.event.Program.TheVariants.{Delivery, LocalSpawner, Sender}
use Rattle.mail_world.specs.History.{Actor, Life, State}
use Rattle.mail_world.specs.History.Life.{Over}
use Rattle.world_law.specs.Crew.{is_alive}

-- Both sides, by their actors. Where there is none, or another program, it is one that begins and isn't there.

abbrev pub desk_by : Program → List Own → Desk
desk_by (Sender since) past = sender_after None past
desk_by program past = begun None

abbrev pub desk_in : Option Actor → Desk
desk_in None = begun None
desk_in (Some x) = desk_by x.program x.past

abbrev pub sends_by : Program → Life → Bool
sends_by (Sender since) life = is_alive life
sends_by program life = false

abbrev pub sends_in : Option Actor → Bool
sends_in None = false
sends_in (Some x) = sends_by x.program x.life

abbrev pub place_by : Program → List Own → Place
place_by (LocalSpawner since) past = place_after past
place_by program past = spawner_begun

abbrev pub place_in : Option Actor → Place
place_in None = spawner_begun
place_in (Some x) = place_by x.program x.past

abbrev pub serves_by : Program → Life → Bool
serves_by (LocalSpawner since) life = is_alive life
serves_by program life = false

abbrev pub serves_in : Option Actor → Bool
serves_in None = false
serves_in (Some x) = serves_by x.program x.life

-- what is seen of both in a state, and of the two pipes between them
pub record View : Type 0 where
  pub desk : Desk
  pub sends : Bool
  pub place : Place
  pub serves : Bool
  pub told : List ℕ
  pub asked : List ℕ

abbrev pub view_of : (List ℕ → Option Actor) → Pipework → View
view_of actors w = record {
  desk = desk_in (actors (codes "sender"));
  sends = sends_in (actors (codes "sender"));
  place = place_in (actors (codes "lspawn"));
  serves = serves_in (actors (codes "lspawn"));
  told = (w.pipes (codes "sender") port.Lspawn).bytes;
  asked = (w.pipes (codes "lspawn") port.Input).bytes;
}

-- as a post, with what is remembered
abbrev pub post_of : View → (ℕ → Option Task) → (ℕ → Option Request) → List Done → Post
post_of v tasks last done = record {
  lives = v.sends && is_on v.desk.row;
  slots = (lane Local v.desk.slots).slots;
  heard = heard_at v.desk.row Local (link Local v.desk).reader;
  told = v.told;
  serves = v.serves;
  spawner = LocalAt v.place;
  asked = v.asked;
  tasks = tasks;
  last = last;
  done = done;
}

-- a delivery that is for this sender and this recipient
pub record IsDeliveryFor (s : State) (t : Task) : Type 0 where
  pub delivery : Actor
  pub is : s.actors t.name ≡ Some delivery
  pub start : ℕ
  pub args : LocalArgs
  pub program : delivery.program ≡ Delivery start args
  pub sender : t.sender ≡ args.sender
  pub recipient : t.recipient ≡ args.local ++ 64 ∷ args.domain

-- it runs in this slot of the local spawner
pub record IsTaskIn (s : State) (slot : ℕ) (t : Task) : Type 0 where
  pub runs : s.pipework.programs (codes "lspawn") slot ≡ Some (Runs t.name)
  pub is_for : IsDeliveryFor s t

-- or it was started in that slot and has ended with 0
pub record WasDone (s : State) (x : Done) : Type 0 where
  pub is_for : IsDeliveryFor s x.task
  pub in_slot : s.pipework.slots x.task.name ≡ Some (record { parent = codes "lspawn"; number = x.slot })
  pub over : is_for.delivery.life ≡ Over 0

-- What holds of them after each event, with some deliveries in the slots, some requests that were given last, and some deliveries that were
-- done.
pub record PostsStand (s : State) : Type 0 where
  pub tasks : ℕ → Option Task
  pub last : ℕ → Option Request
  pub done : List Done
  pub posted : Posted (post_of (view_of s.actors s.pipework) tasks last done)
  pub first : IsFirst (desk_in (s.actors (codes "sender"))).row (desk_in (s.actors (codes "sender")))
  pub run : (slot : ℕ) (t : Task) → tasks slot ≡ Some t → IsTaskIn s slot t
  pub was : (x : Done) → Among x done → WasDone s x
