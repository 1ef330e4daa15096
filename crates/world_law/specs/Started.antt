-- For which attempt a local delivery was started (qmail-lspawn(8)): for the one whose request was given last for its slot.
use Rattle.std.specs.Prelude.{◌≡◌, ◌≢◌, ℕ, List, [], ◌∷◌, ◌++◌, Some, codes, slice_get}
use Rattle.call_fs.specs.Disk.{Disk}
use Rattle.call_fs.specs.declared.past.GotData.TheVariants as came
use Rattle.call_fs.specs.declared.past.NeedData.TheVariants as needs
use Rattle.call_fs.specs.declared.past.Own.{Own}
use Rattle.call_fs.specs.declared.program.Port.TheVariants as port
use Rattle.send_core.specs.Past.{Task, account}
use Rattle.send_core.specs.Past.Happening.{Gives}
use Rattle.send_known.specs.declared.channel.Channel.TheVariants.{Local}
use Rattle.send_runs.specs.Reports.{given_by}
use Rattle.world_events.specs.declared.event.Program.{Program}
use Rattle.world_events.specs.declared.event.Program.TheVariants.{Sender}
use Rattle.mail_world.specs.History.{Actor, Event, after, slot_by}
use Rattle.mail_world.specs.History.Event.{Act, Child, Generation}

-- with this event no request for the slot is given to the local spawner, and no generation starts
abbrev pub Stays : ℕ → Event → Type 0
Stays slot (Act a own wrote) = given_by own.due own.came Local ≢ Gives slot
Stays slot (Generation crew) = ⊥
Stays slot event = Unit {0}

-- so it is with each of these
abbrev pub AllStay : ℕ → List Event → Type 0
AllStay slot [] = Unit {0}
AllStay slot (event ∷ before) = AllStay slot before × Stays slot event

-- The attempt at this record was asked for in this slot: its sender gave a request for the slot, when the record came next of those to be given by its
-- past; and since then no other one was given for it, and no generation started.
pub record WasAsked (d : Disk) (h : List Event) (slot : ℕ) (t : Task) : Type 0 where
  pub own : Own
  pub wrote : ℕ
  pub since : List Event
  pub earlier : List Event
  pub all : h ≡ since ++ Act (codes "sender") own wrote ∷ earlier
  pub sender : Actor
  pub is : (after d earlier).actors (codes "sender") ≡ Some sender
  pub start : ℕ
  pub program : sender.program ≡ Sender start
  pub rest : List ℕ
  pub due : own.due ≡ needs.Give port.Lspawn (slot ∷ rest)
  pub came_is : own.came ≡ came.Gave
  pub next : slice_get (account Local sender.past).to_give 0 ≡ Some t
  pub stays : AllStay slot since

-- The delivery of this name was started for it: by the local spawner, in that slot, since the request was given.
pub record WasStartedFor (d : Disk) (h : List Event) (name : List ℕ) (slot : ℕ) (t : Task) : Type 0 where
  pub asked : WasAsked d h slot t
  pub own : Own
  pub program : Program
  pub later : List Event
  pub before : List Event
  pub among : asked.since ≡ later ++ Child (codes "lspawn") own name program ∷ before
  pub slot_is : slot_by own.due ≡ slot
