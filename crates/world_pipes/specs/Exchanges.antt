-- What an actor does with its pipes and slots, as they are kept and in the model.
use Rattle.std.specs.Prelude.{◌≡◌, ◌≢◌, ◌<◌, ℕ, ◌==◌, List, length, set, Bool, true, false, not, if◌then◌else◌, nat_lt, Option, Some, None}
use Rattle.std.specs.List.{slice_get}
use Rattle.actor_names.specs.declared.member.Member.{Member}
use Rattle.actor_names.specs.declared.member.Member.TheVariants as member
use Rattle.actor_names.specs.MailNames.{members}
use Rattle.actor_names.specs.Members.{seat_of, member_at}
use Rattle.call_fs.specs.Program.{IsKind, IsWithin}
use Rattle.call_fs.specs.declared.program.Port.{Port}
use Rattle.call_fs.specs.declared.program.Port.TheVariants as port
use Rattle.call_fs.specs.declared.past.ChildData.{ChildData}
use Rattle.call_fs.specs.declared.past.ChildData.TheVariants as child
use Rattle.call_fs.specs.declared.past.GotData.{GotData}
use Rattle.call_fs.specs.declared.past.GotData.TheVariants as got
use Rattle.call_fs.specs.declared.past.NeedData.{NeedData}
use Rattle.call_fs.specs.declared.past.NeedData.TheVariants as needs
use Rattle.world_pipes.specs.declared.mouths.Mouths.{Mouths}
use Rattle.world_pipes.specs.Mouths.{pipe_of, tenant_of, ended_of, change_at, is_remote, IsSame}
use Rattle.world_pipes.specs.Pipes.{offered, left_by}
use Rattle.world_pipes.specs.Pipework.{Pipe, Pipework, fresh, given, closed, is_ready, is_by, pipework_after, without_writer}
use Rattle.world_pipes.specs.Pipework.Tenant.{Runs, Remote}
use Rattle.world_pipes.specs.Commands.{command_exits}
use Rattle.world_pipes.specs.Wired.{tenant_in, IsOwnPort, AreWired, HasWires, HaveSlots, HaveChildren, AreOver}

-- what is given to a slot of the actor at this place is given to no actor
abbrev pub GivesNoActor : List Mouths → ℕ → NeedData → Type 0
GivesNoActor mouths at (needs.Give (port.Program d) bytes) = (c : List ℕ) → tenant_in (slice_get mouths at) d ≡ Some (Runs c) → ⊥
GivesNoActor mouths at due = Unit {0}

-- the actor at this place may do this there: it takes by a port of its own; a member alone starts a remote program; and none starts an actor
abbrev pub SuitsPlace : ℕ → NeedData → Type 0
SuitsPlace at (needs.Take port) = IsOwnPort at port
SuitsPlace at (needs.Start (child.Remote slot domain sender recipient)) = at < length members
SuitsPlace at (needs.Start asked) = ⊥
SuitsPlace at due = Unit {0}

-- no file call and no end
abbrev pub IsNoAct : NeedData → Type 0
IsNoAct (needs.File c) = ⊥
IsNoAct (needs.Ended status) = ⊥
IsNoAct other = Unit {0}

-- What comes by pipes and slots of what is due to an actor, which takes at most so many bytes at once, if the next process has
-- this number.
abbrev pub Brings : Pipework → ℕ → ℕ → List ℕ → NeedData → GotData → Type 0
Brings w pid most a (needs.Take (port.Status d)) came = (w.programs a d ≡ Some (Remote true)) × (came ≡ got.Ended 0)
Brings w pid most a (needs.Take port) came = offered most (w.pipes a port) ≡ Some came
Brings w pid most a (needs.Give port bytes) came = came ≡ got.Gave
Brings w pid most a (needs.Start (child.Remote slot domain sender recipient)) came = came ≡ got.Started pid
Brings w pid most a (needs.Command bytes) came = came ≡ got.Ended (command_exits bytes)
Brings w pid most a other came = ⊥

-- nothing can come of it yet
abbrev pub BringsNone : Pipework → List ℕ → NeedData → Type 0
BringsNone w a needs.Wait = Unit {0}
BringsNone w a (needs.Take (port.Status d)) = is_remote true (w.programs a d) ≡ false
BringsNone w a (needs.Take port) = is_ready (w.pipes a port) ≡ false
BringsNone w a other = ⊥

-- as many places and slots, in which no actor runs that didn't, and who is over is the same
pub record Keep (old new : List Mouths) : Type 0 where
  pub many : length new ≡ length old
  pub slots : HaveSlots old → HaveSlots new
  pub children : HaveChildren old → HaveChildren new
  pub over : (gone : List ℕ → Bool) → AreOver gone old → AreOver gone new

-- the pipes are those that they were, with room for more
pub record AreAsBefore (old new : List Mouths) : Type 0 where
  pub keep : Keep old new
  pub wired : (wires : List ℕ → Option ℕ) (w : Pipework) → AreWired wires old w → AreWired wires new w

-- one of its pipes has another content
pub record HasPiped (old new : Mouths) (at : Port) (change : Pipe → Pipe) : Type 0 where
  pub pipes : (port : Port) → pipe_of new port ≡ change_at at change (pipe_of old) port
  pub tenants : (d : ℕ) → tenant_of new d ≡ tenant_of old d
  pub ended : (d : ℕ) → ended_of new d ≡ ended_of old d
  pub slots : length new.slots.items ≡ length old.slots.items

-- what was taken from one of its pipes
abbrev pub HasTaken : Mouths → Mouths → Port → ℕ → Option GotData → Type 0
HasTaken old new at most came = (came ≡ offered most (pipe_of old at)) × HasPiped old new at (left_by came)

-- the status of the program in one of its slots was taken, or can't be yet
pub record HasFreed (old new : Mouths) (slot : ℕ) : Type 0 where
  pub runs : tenant_of old slot ≡ Some (Remote true)
  pub pipes : (port : Port) → pipe_of new port ≡ pipe_of old port
  pub tenants : (d : ℕ) → tenant_of new d ≡ (if d == slot then None else tenant_of old d)
  pub ended : (d : ℕ) → ended_of new d ≡ (if d == slot then false else ended_of old d)
  pub slots : length new.slots.items ≡ length old.slots.items

abbrev pub HasFreedBy : Mouths → Mouths → ℕ → Option GotData → Type 0
HasFreedBy old new slot None = IsSame old new × (is_remote true (tenant_of old slot) ≡ false)
HasFreedBy old new slot (Some came) = HasFreed old new slot × (came ≡ got.Ended 0)

-- a remote program started in a slot
pub record HasBegun (old new : Mouths) (slot : ℕ) : Type 0 where
  pub pipes : (at : Port) → pipe_of new at ≡ change_at (port.Program slot) (λ _. fresh) (pipe_of old) at
  pub tenants : (d : ℕ) → tenant_of new d ≡ (if d == slot then Some (Remote false) else tenant_of old d)
  pub ended : (d : ℕ) → ended_of new d ≡ (if d == slot then false else ended_of old d)
  pub slots : length new.slots.items ≡ length old.slots.items

-- a remote program is to start, and there are as many slots as there are numbers of one
abbrev pub HasSlotFor : Mouths → ChildData → Type 0
HasSlotFor m (child.Remote slot domain sender recipient) = length m.slots.items ≡ 256
HasSlotFor m asked = ⊥

abbrev pub HasStarted : Mouths → Mouths → ℕ → ChildData → GotData → Type 0
HasStarted old new pid (child.Remote slot domain sender recipient) came = HasBegun old new slot × (came ≡ got.Started pid)
HasStarted old new pid asked came = ⊥

-- by any port
abbrev pub HasTakenBy : Mouths → Mouths → Port → ℕ → Option GotData → Type 0
HasTakenBy old new (port.Status slot) most came = HasFreedBy old new slot came
HasTakenBy old new at most came = HasTaken old new at most came

-- the actor of this name runs in this slot, which is that of the actor at its place
abbrev pub is_in : List Mouths → ℕ × ℕ → List ℕ → Bool
is_in mouths slot a = is_by a (tenant_in (slice_get mouths slot.0) slot.1)

-- where the output of an actor that is no member is taken: by its parent, while it runs in its slot
abbrev pub slot_leads : List Mouths → Option (ℕ × ℕ) → List ℕ → Option (ℕ × Port)
slot_leads mouths None a = None
slot_leads mouths (Some slot) a = if is_in mouths slot a then Some (slot.0, port.Program slot.1) else None

-- that of a member is taken by the sender, whose own nobody takes
abbrev pub member_leads : Member → Option (ℕ × Port)
member_leads member.Sender = None
member_leads member.Cleaner = Some (seat_of member.Sender, port.Clean)
member_leads member.LocalSpawner = Some (seat_of member.Sender, port.Lspawn)
member_leads member.RemoteSpawner = Some (seat_of member.Sender, port.Rspawn)

abbrev pub output_leads : Option Member → Option (ℕ × Port) → Option (ℕ × Port)
output_leads (Some member) own = member_leads member
output_leads None own = own

-- where what the actor at a place gives to a port is taken: at which place, and by which port
abbrev pub leads : List Mouths → ℕ → Option (ℕ × ℕ) → List ℕ → Port → Option (ℕ × Port)
leads mouths at slot a port.Clean = Some (seat_of member.Cleaner, port.Input)
leads mouths at slot a port.Lspawn = Some (seat_of member.LocalSpawner, port.Input)
leads mouths at slot a port.Rspawn = Some (seat_of member.RemoteSpawner, port.Input)
leads mouths at slot a port.Output = output_leads (member_at at) (slot_leads mouths slot a)
leads mouths at slot a other = None

-- bytes were given there, or nowhere
abbrev pub HasGivenTo : Option (ℕ × Port) → List ℕ → List Mouths → List Mouths → Type 0
HasGivenTo None bytes old new = new ≡ old
HasGivenTo (Some to) bytes old new = (m : Mouths) × (n : Mouths) × (slice_get old to.0 ≡ Some m) × (new ≡ set old to.0 n) × HasPiped m n to.1 (given bytes)

abbrev pub IsSameAt : Option (ℕ × Port) → List Mouths → List Mouths → Type 0
IsSameAt None old new = new ≡ old
IsSameAt (Some to) old new = (m : Mouths) × (n : Mouths) × (slice_get old to.0 ≡ Some m) × (new ≡ set old to.0 n) × IsSame m n

-- it gives the input of who is a member, or is none: the sender that of the members, and the local spawner that of the others
abbrev pub gives_input : Member → Bool → Bool
gives_input member.Sender to_member = to_member
gives_input member.LocalSpawner to_member = not to_member
gives_input other to_member = false

-- what a member gives is taken by this port of the pipes at a place: an input; or the port of its own, by whoever takes there
abbrev pub gives_at : Member → ℕ → Port → Bool
gives_at giver place port.Input = gives_input giver (nat_lt place (length members))
gives_at member.Cleaner place port.Clean = true
gives_at member.LocalSpawner place port.Lspawn = true
gives_at member.RemoteSpawner place port.Rspawn = true
gives_at giver place other = false

-- the pipes by these ports are shut
pub record HasShut (shuts : Port → Bool) (old new : Mouths) : Type 0 where
  pub pipes : (port : Port) → pipe_of new port ≡ (if shuts port then closed (pipe_of old port) else pipe_of old port)
  pub tenants : (d : ℕ) → tenant_of new d ≡ tenant_of old d
  pub ended : (d : ℕ) → ended_of new d ≡ ended_of old d
  pub slots : length new.slots.items ≡ length old.slots.items

pub record AreShut (giver : Member) (old new : List Mouths) : Type 0 where
  pub many : length new ≡ length old
  pub each : (i : ℕ) (m n : Mouths) → slice_get old i ≡ Some m → slice_get new i ≡ Some n → HasShut (gives_at giver i) m n

-- the output of the actor in a slot is shut, and it is marked as over
pub record HasOver (old new : Mouths) (slot : ℕ) : Type 0 where
  pub pipes : (at : Port) → pipe_of new at ≡ change_at (port.Program slot) closed (pipe_of old) at
  pub tenants : (d : ℕ) → tenant_of new d ≡ tenant_of old d
  pub ended : (d : ℕ) → ended_of new d ≡ (if d == slot then true else ended_of old d)
  pub slots : length new.slots.items ≡ length old.slots.items

-- so it is with the actor that runs there
abbrev pub SlotIsShut : Bool → ℕ × ℕ → List Mouths → List Mouths → Type 0
SlotIsShut true slot old new = (m : Mouths) × (n : Mouths) × (slice_get old slot.0 ≡ Some m) × (new ≡ set old slot.0 n) × HasOver m n slot.1
SlotIsShut false slot old new = new ≡ old

abbrev pub OwnIsShut : Option (ℕ × ℕ) → List ℕ → List Mouths → List Mouths → Type 0
OwnIsShut None a old new = new ≡ old
OwnIsShut (Some slot) a old new = SlotIsShut (is_in old slot a) slot old new

-- the member whose pipes are at a place
abbrev pub member_with : Option ℕ → Option Member
member_with None = None
member_with (Some at) = member_at at

-- What an actor gives to is shut: what a member does, and of any other one its output, in its slot.
abbrev pub ShutsBy : Option Member → Option (ℕ × ℕ) → List ℕ → List Mouths → List Mouths → Type 0
ShutsBy (Some giver) slot a old new = AreShut giver old new
ShutsBy None slot a old new = OwnIsShut slot a old new

-- so by the place of its pipes
abbrev pub HaveShut : Option ℕ → Option (ℕ × ℕ) → List ℕ → List Mouths → List Mouths → Type 0
HaveShut wire slot a old new = ShutsBy (member_with wire) slot a old new

-- what an actor with this place and this slot did with its pipes and slots is what the model says
pub record Exchanges (wire : Option ℕ) (slot : Option (ℕ × ℕ)) (old new : List Mouths) (pid most : ℕ) (a : List ℕ) (due : NeedData) (came : GotData) : Type 0 where
  pub keep : Keep old new
  pub kind : IsKind due came
  pub within : IsWithin most came
  pub brings : (wires : List ℕ → Option ℕ) (w : Pipework) → HasWires wires old w a wire slot → Brings w pid most a due came
  pub wired : (wires : List ℕ → Option ℕ) (w : Pipework) → HasWires wires old w a wire slot → AreWired wires new (pipework_after w a due came 0)

-- nothing came of it, and the pipes are as before
pub record IsStuck (wire : Option ℕ) (slot : Option (ℕ × ℕ)) (old new : List Mouths) (a : List ℕ) (due : NeedData) : Type 0 where
  pub same : AreAsBefore old new
  pub none : (wires : List ℕ → Option ℕ) (w : Pipework) → HasWires wires old w a wire slot → BringsNone w a due

abbrev pub HasExchanged : Option ℕ → Option (ℕ × ℕ) → List Mouths → List Mouths → ℕ → ℕ → List ℕ → NeedData → Option GotData → Type 0
HasExchanged wire slot old new pid most a due None = IsStuck wire slot old new a due
HasExchanged wire slot old new pid most a due (Some came) = Exchanges wire slot old new pid most a due came

-- it is over besides those who were
pub record IsGoneToo (a : List ℕ) (gone now : List ℕ → Bool) : Type 0 where
  pub is : now a ≡ true
  pub others : (b : List ℕ) → b ≢ a → now b ≡ gone b

-- an actor with this place and this slot is over, and gives nothing more
pub record ShutsAfter (wire : Option ℕ) (slot : Option (ℕ × ℕ)) (old new : List Mouths) (a : List ℕ) : Type 0 where
  pub many : length new ≡ length old
  pub slots : HaveSlots old → HaveSlots new
  pub children : HaveChildren old → HaveChildren new
  pub over : (wires : List ℕ → Option ℕ) (w : Pipework) → HasWires wires old w a wire slot → HaveChildren old → (gone now : List ℕ → Bool) → IsGoneToo a gone now → AreOver gone old → AreOver now new
  pub wired : (wires : List ℕ → Option ℕ) (w : Pipework) → HasWires wires old w a wire slot → HaveChildren old → AreWired wires new (without_writer w a)
