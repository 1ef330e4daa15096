-- The children of actors, as a world keeps them.
use Rattle.std.specs.Prelude.{◌≡◌, ℕ, List, [], ◌∷◌, ◌++◌, length, reverse, set, Bool, true, false, Option, Some, None, is_some}
use Rattle.std.specs.List.{slice_get}
use Rattle.call_fs.specs.declared.past.ChildData.{ChildData}
use Rattle.call_fs.specs.declared.past.ChildData.TheVariants as child
use Rattle.local_parts.specs.Arguments.{local_args}
use Rattle.call_fs.specs.declared.past.NeedData.{NeedData}
use Rattle.call_fs.specs.declared.past.NeedData.TheVariants as needs
use Rattle.call_fs.specs.declared.past.Own.{Own}
use Rattle.call_fs.specs.declared.program.Port.TheVariants as port
use Rattle.call_fs.specs.declared.program.Ready.{Ready}
use Rattle.call_fs.specs.Program.{IsKind, IsWithin}
use Rattle.call_fs.specs.Disk.{Disk}
use Rattle.world_events.specs.declared.event.Event.{Event as Kept}
use Rattle.world_events.specs.declared.event.Program.{Program}
use Rattle.world_events.specs.declared.event.Program.TheVariants.{Injector, Delivery}
use Rattle.world_events.specs.Inputs.{bounce, forward, with_texts}
use Rattle.world_events.specs.declared.answers.Did.{Did}
use Rattle.world_pipes.specs.Mouths.{actor_of}
use Rattle.mail_world.specs.declared.actor.Actor.{Actor as Held}
use Rattle.world_events.specs.declared.asking.Setting.{Setting}
use Rattle.mail_world.specs.declared.any_machine.AnyMachine.{AnyMachine}
use Rattle.mail_world.specs.History.{Actor, next_of}
use Rattle.mail_world.specs.History.Life.{Alive}
use Rattle.mail_world.specs.ByKind.{IsMail, Follows, CanFind, awaits_of}
use Rattle.mail_world.specs.Known.{known}
use Rattle.mail_world.specs.Readiness.{found_in}
use Rattle.mail_world.specs.World.{Seen, GoesOn, IsStep, next_pid}
use Rattle.mail_world.specs.Inside.{StandsFor, Owes}
use Rattle.mail_world.specs.Generations.{idled_in, has_idled, starts_of}
use Rattle.mail_world.specs.Starts.{place_in}
use Rattle.mail_world.specs.Acting.{is_due_of_child, IsOwed, StaysAt}
-- where the child in a slot stands
pub use Rattle.world_events.specs.Places.{place_by_name, child_place}
-- what is due gives an injector two texts
pub use Rattle.fed_injector.specs.Texts.{GivesTexts, GivesTwo}

-- this is due to that living actor of a world, and a child's
pub record IsDueOfChild {D : Type 0} (w : Seen D) (a : List ℕ) (due : NeedData) : Type 0 where
  pub actor : Actor
  pub is : (known w.events).actors a ≡ Some actor
  pub alive : actor.life ≡ Alive
  pub due_is : next_of actor.program actor.past w.present (found_in (known w.events) a) ≡ due
  pub of_child : is_due_of_child (λ d. is_some (actor_of ((known w.events).pipework.programs a d))) due ≡ true

-- what a step of an actor goes by in a world
pub record IsSetting {D : Type 0} (w : Seen D) (a : List ℕ) (at : Setting) : Type 0 where
  pub now : at.now ≡ w.present
  pub ready : at.ready ≡ found_in (known w.events) a
  pub pid : at.pid ≡ next_pid w.events
  pub place : place_in (starts_of (reverse w.events)) a ≡ Some at.place

-- it is the start of a child, the whole input of one, or its status
abbrev pub IsStart : NeedData → Type 0
IsStart (needs.Start (child.Bounce room)) = Unit {0}
IsStart (needs.Start (child.Forward uid room)) = Unit {0}
IsStart (needs.Start (child.Local slot words uid)) = Unit {0}
IsStart other = ⊥

abbrev pub IsGive : NeedData → Type 0
IsGive (needs.Give (port.Program d) bytes) = Unit {0}
IsGive other = ⊥

abbrev pub IsTake : NeedData → Type 0
IsTake (needs.Take (port.Status d)) = Unit {0}
IsTake other = ⊥

-- the machine of an actor that starts stands for its program, and an injector awaits its input
pub record Begins (machine : AnyMachine) (program : Program) : Type 0 where
  pub follows : Follows machine program []
  pub awaits : IsMail program → awaits_of machine ≡ true

-- so does that of a child which is started with this process number at this moment
abbrev pub IsMachineOf : ChildData → ℕ → ℕ → AnyMachine → Type 0
IsMachineOf (child.Bounce room) pid start machine = Begins machine (Injector (bounce pid start))
IsMachineOf (child.Forward uid room) pid start machine = Begins machine (Injector (forward uid pid start))
IsMachineOf (child.Local slot words uid) pid start machine = Begins machine (Delivery start (local_args words uid pid))
IsMachineOf (child.Remote slot domain sender recipient) pid start machine = ⊥

-- its machine was handed what it owed
pub record IsPaid (x z : Held) (events : List Kept) : Type 0 where
  pub follows : (program : Program) (past : List Own) → ((at : ℕ) → x.owed ≡ Some at → Owes x events past at) → StandsFor x program past → Follows z.machine program past
  pub name : z.name ≡ x.name
  pub ended : z.ended ≡ x.ended
  pub status : z.status ≡ x.status
  pub awaits : awaits_of z.machine ≡ awaits_of x.machine
  pub paid : z.owed ≡ None
  pub descriptors : z.descriptors.items ≡ x.descriptors.items
  pub stays : StaysAt x z

-- an actor whose machine is given no input any more
pub record IsCut (x y : Held) : Type 0 where
  pub follows : (program : Program) (past : List Own) → Follows x.machine program past → Follows y.machine program past
  pub awaits : awaits_of y.machine ≡ false
  pub same : awaits_of x.machine ≡ false → y.machine ≡ x.machine
  pub name : y.name ≡ x.name
  pub descriptors : y.descriptors.items ≡ x.descriptors.items
  pub ended : y.ended ≡ x.ended
  pub status : y.status ≡ x.status
  pub owed : y.owed ≡ x.owed
  pub stays : StaysAt x y

-- an actor that was given this input, if it awaited it
pub record IsFed (message envelope : List ℕ) (x y : Held) : Type 0 where
  pub stands : awaits_of x.machine ≡ true → (program : Program) (past : List Own) → Follows x.machine program past → Follows y.machine (with_texts message envelope program) past
  pub awaits : awaits_of y.machine ≡ false
  pub name : y.name ≡ x.name
  pub descriptors : y.descriptors.items ≡ x.descriptors.items
  pub ended : y.ended ≡ x.ended
  pub status : y.status ≡ x.status
  pub owed : y.owed ≡ x.owed
  pub stays : StaysAt x y

-- an actor is over: its child, which has this place, is given no input any more
abbrev pub HasLeft : Option ℕ → List Held → List Held → Type 0
HasLeft None old new = new ≡ old
HasLeft (Some child) old new = (x : Held) × (y : Held) × (slice_get old child ≡ Some x) × (new ≡ set old child y) × IsCut x y

abbrev pub HasLeftIf : Bool → Option ℕ → List Held → List Held → Type 0
HasLeftIf true child old new = HasLeft child old new
HasLeftIf false child old new = new ≡ old

-- This is due to an actor at this moment, with this ready, and came: its machine may be handed it.
pub record MayTakeIn (machine : AnyMachine) (now : ℕ) (ready : Ready) (own : Own) : Type 0 where
  pub program : Program
  pub past : List Own
  pub follows : Follows machine program past
  pub found : CanFind machine ready
  pub read : own.read ≡ now
  pub ready_is : own.ready ≡ ready
  pub due : next_of program past now ready ≡ own.due
  pub kind : IsKind own.due own.came
  pub within : (most : ℕ) → IsWithin most own.came

-- an actor was handed what came of this event of its own, which will have this index, or owes it; and an idle turn ended, or not
pub record HasTakenIn (x y : Held) (own : Own) (index : ℕ) (idle : Bool) : Type 0 where
  pub follows : (program : Program) (past : List Own) → Follows x.machine program past → StandsFor y program (own ∷ past)
  pub idled : (program : Program) (past : List Own) → Follows x.machine program past → idle ≡ idled_in program past own
  pub owes : (at : ℕ) → y.owed ≡ Some at → IsOwed y own index at
  pub name : y.name ≡ x.name
  pub descriptors : y.descriptors.items ≡ x.descriptors.items
  pub ended : y.ended ≡ x.ended
  pub status : y.status ≡ x.status
  pub awaits : awaits_of y.machine ≡ awaits_of x.machine
  pub stays : StaysAt x y

-- A step of that actor that concerns a child of its appended one event, and went on from what happened before. Nothing was made of the
-- disk.
pub record Serves {D : Type 0} (tells : D → Option Disk) (a : List ℕ) (old new : Seen D) (did : Did) : Type 0 where
  pub event : IsStep a None old new
  pub goes_on : GoesOn tells old new
  pub present : new.present ≡ old.present
  pub disk : new.disk ≡ old.disk
  pub at : did.at ≡ length old.events
  pub ended : did.ended ≡ None
  pub idle : (event : Kept) → new.events ≡ old.events ++ event ∷ [] → did.idle ≡ has_idled (known old.events) event
