-- What a spawner has in hand, by its own place and whatever has become of the sender, is of messages in S5.
use Rattle.std.specs.Prelude.{◌≡◌, ℕ, List, [], ◌∷◌, ◌++◌, flat_map, true, Option, Some, None, codes}
use Rattle.call_fs.specs.Disk.{Among, Disk}
use Rattle.call_fs.specs.Maps.{put}
use Rattle.call_fs.specs.declared.past.GotData.{GotData}
use Rattle.call_fs.specs.declared.past.GotData.TheVariants as came
use Rattle.call_fs.specs.declared.past.NeedData.{NeedData}
use Rattle.call_fs.specs.declared.past.NeedData.TheVariants as needs
use Rattle.call_fs.specs.declared.past.Own.{Own}
use Rattle.call_fs.specs.declared.program.Port.TheVariants as port
use Rattle.local_spawn.specs.Table.{place_after as local_after}
use Rattle.program_law.specs.Post.Posts.{HasPlainFields}
use Rattle.queue_paths.specs.Names.{split_text}
use Rattle.queue_states.specs.declared.state.State.TheVariants.{S5}
use Rattle.queue_states.specs.States.{state_of}
use Rattle.remote_spawn.specs.Table.{place_after as remote_after}
use Rattle.send_known.specs.declared.channel.Channel.{Channel}
use Rattle.send_known.specs.declared.channel.Channel.TheVariants as channel
use Rattle.spawn_protocol.specs.declared.inbox.Intake.TheVariants as intake
use Rattle.spawn_protocol.specs.declared.request.Request.{Request}
use Rattle.spawn_protocol.specs.Request.{request_text}
use Rattle.spawner_parts.specs.declared.place.Place.{Place}
use Rattle.spawner_parts.specs.Asked.{runs_in}
use Rattle.world_events.specs.declared.event.Program.{Program}
use Rattle.mail_world.specs.History.{Actor, Event, IsLocalSpawner, IsRemoteSpawner, Legal, State, after}
use Rattle.mail_world.specs.History.Life.{Alive}
use Rattle.world_law.specs.Standing.{is_at_work}

-- The spawner of a channel

abbrev pub spawner_name : Channel → List ℕ
spawner_name channel.Local = codes "lspawn"
spawner_name channel.Remote = codes "rspawn"

abbrev pub IsSpawner : Channel → Program → Type 0
IsSpawner channel.Local program = IsLocalSpawner program
IsSpawner channel.Remote program = IsRemoteSpawner program

-- where it stands after its past
abbrev pub stands_after : Channel → List Own → Place
stands_after channel.Local past = (local_after past).work
stands_after channel.Remote past = remote_after past

-- the request for which it started last what runs in a slot, by its past: the one at work then
abbrev pub started_by : NeedData → GotData → Request → (ℕ → Option Request) → ℕ → Option Request
started_by (needs.Start asked) (came.Started pid) r old = put old r.slot (Some r)
started_by due got r old = old

abbrev pub started_after : Channel → List Own → ℕ → Option Request
started_after c [] = λ slot. None
started_after c (event ∷ before) = started_by event.due event.came (stands_after c before).request (started_after c before)

-- What it has in hand

-- a request is of a message in S5
pub record IsOfStanding (s : State) (r : Request) : Type 0 where
  pub number : ℕ
  pub mess : r.mess ≡ split_text number
  pub stays : state_of s.disk number ≡ S5

-- So is each request that the spawner hasn't read or taken up, the one at work, and the one of what runs in each slot. Of the last request
-- that it hasn't read some bytes may be missing: a sender that gave it in part gives no more. Their fields have no NUL, so what it hasn't read
-- is no other requests. After a field that is too long the spawner reads no more, and nothing is said of what lies unread.
pub record HoldsStanding (s : State) (p : Place) (started : ℕ → Option Request) (given : List ℕ) : Type 0 where
  pub waits : List Request
  pub missing : List ℕ
  pub text : p.inbox.intake ≡ intake.Open → p.inbox.ahead ++ (given ++ missing) ≡ flat_map request_text waits
  pub plain : (r : Request) → Among r waits → HasPlainFields r
  pub unread : (r : Request) → Among r waits → IsOfStanding s r
  pub work : is_at_work p.row ≡ true → IsOfStanding s p.request
  pub runs : (slot : ℕ) → runs_in p.running slot ≡ true → (r : Request) × (started slot ≡ Some r) × IsOfStanding s r

-- So it is while a spawner lives, the local one and the remote one, also once the sender has ended or was stopped.
abbrev pub RequestsStand : Type 0
RequestsStand = (d : Disk) (before : List Event) → Legal d before → (c : Channel)
    → (y : Actor) → (after d before).actors (spawner_name c) ≡ Some y → y.life ≡ Alive → IsSpawner c y.program
    → HoldsStanding (after d before) (stands_after c y.past) (started_after c y.past) ((after d before).pipework.pipes (spawner_name c) port.Input).bytes
