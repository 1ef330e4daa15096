-- One step of an actor: what it needs, and what it does to the disk, to the actor and to the history.
use Rattle.std.specs.Prelude.{◌≡◌, ◌<◌, ◌≤◌, ◌⊎◌, ℕ, List, [], ◌∷◌, ◌++◌, length, Bool, true, false, Option, Some, None, IsTrue, IsSomeAnd}
use Rattle.std.specs.List.{slice_get}
use Rattle.actor_names.specs.MailNames.{members}
use Rattle.call_fs.specs.Disk.{Disk}
use Rattle.mail_bytes.specs.Told.{OnTold, Meets}
use Rattle.call_fs.specs.Past.{IsRunBy}
use Rattle.call_fs.specs.Program.{IsKind, IsWithin}
use Rattle.call_fs.specs.declared.past.GotData.TheVariants as got
use Rattle.call_fs.specs.declared.past.GotData.{GotData}
use Rattle.call_fs.specs.declared.past.NeedData.{NeedData}
use Rattle.call_fs.specs.declared.past.NeedData.TheVariants as needs
use Rattle.call_fs.specs.declared.past.Own.{Own}
use Rattle.world_events.specs.declared.event.Event.{Event as Kept}
use Rattle.world_events.specs.declared.event.Event.TheVariants as kept
use Rattle.world_events.specs.declared.event.Program.{Program}
use Rattle.mail_world.specs.declared.actor.Actor.{Actor as Held}
use Rattle.mail_world.specs.declared.any_machine.AnyMachine.{AnyMachine}
use Rattle.world_events.specs.declared.answers.Did.{Did}
use Rattle.world_events.specs.declared.answers.WorldError.{WorldError}
use Rattle.world_events.specs.declared.answers.WorldError.TheVariants as why
use Rattle.mail_world.specs.History.{next_of}
use Rattle.call_fs.specs.declared.program.Ready.{Ready}
use Rattle.world_pipes.specs.declared.mouths.Mouths.{Mouths}
use Rattle.mail_world.specs.Pipework.{Pipework}
use Rattle.mail_world.specs.ByKind.{Follows, CanFind, present_of, found_of, looked_of, need_of, takes_of, with_own, awaits_of}
use Rattle.mail_world.specs.Wired.{HasWires, HaveSlots}
use Rattle.mail_world.specs.Inside.{StandsFor}
use Rattle.mail_world.specs.Generations.{idled_of}
-- what of a child is due to an actor
pub use Rattle.world_pipes.specs.Seating.{is_due_of_child, has_actor}
-- what comes of asking its machine
pub use Rattle.world_events.specs.Asking.{MayMake, due_by, IsCall, IsStated, IsReadAt, MakesOf, IsMade, IsUntouched, IsPlannedCame}
-- what an actor has open
pub use Rattle.world_events.specs.Opened.{without, open_after, opened_by, AreOpen, shut}
-- the pipes and slots at one place are as they were, and what an actor does with them
pub use Rattle.world_pipes.specs.Mouths.{IsSame}
pub use Rattle.world_pipes.specs.Exchanges.{IsNoAct, Brings, BringsNone, Keep, AreAsBefore, HasPiped, HasTaken, HasFreed, HasFreedBy, HasBegun, HasStarted, HasTakenBy, HasGivenTo, IsSameAt, HaveShut, GivesNoActor, SuitsPlace, Exchanges, IsStuck, HasExchanged, IsGoneToo, ShutsAfter}

-- a file call or an end is due, or nothing yet
abbrev pub IsAct : NeedData → Type 0
IsAct (needs.File c) = Unit {0}
IsAct (needs.Ended status) = Unit {0}
IsAct needs.Wait = Unit {0}
IsAct other = ⊥

-- what the status of an actor tells whose child it is, if it is over
abbrev pub status_of : Option ℕ → Option ℕ → Option GotData
status_of None status = None
status_of (Some at) (Some status) = Some (got.Ended status)
status_of (Some at) None = Some got.Crashed

-- a machine has looked at this moment, and found this ready
pub record HasRead (machine : AnyMachine) (now : ℕ) (ready : Ready) : Type 0 where
  pub looked : IsTrue (looked_of machine)
  pub present : present_of machine ≡ now
  pub found : found_of machine ≡ ready

-- An actor's machine may be asked at this moment, with this ready, which it may be told: a call that is due may be made.
pub record MayAsk (disk : Option Disk) (machine : AnyMachine) (now : ℕ) (ready : Ready) : Type 0 where
  pub program : Program
  pub past : List Own
  pub follows : Follows machine program past
  pub run : IsRunBy (next_of program) past
  pub found : CanFind machine ready
  pub may : OnTold disk (λ d. MayMake d (next_of program past now ready))

-- It may act. If it has no pipes, a call or its end is due, or it waits. Nothing of a child is due, and a remote program only to a member.
pub record MayAct (disk : Option Disk) (machine : AnyMachine) (wire : Option ℕ) (mouths : List Mouths) (now : ℕ) (ready : Ready) : Type 0 where
  pub asks : MayAsk disk machine now ready
  pub acts : wire ≡ None → IsAct (next_of asks.program asks.past now ready)
  pub own : is_due_of_child (has_actor mouths wire) (next_of asks.program asks.past now ready) ≡ false
  pub suits : (i : ℕ) → wire ≡ Some i → SuitsPlace i (next_of asks.program asks.past now ready)

-- the place of an actor's pipes, if it has some: then it is one of these, and each member has pipes
pub record IsSeated (wire : Option ℕ) (mouths : List Mouths) : Type 0 where
  pub slots : HaveSlots mouths
  pub four : (i : ℕ) → wire ≡ Some i → length members ≤ length mouths
  pub within : (i : ℕ) → wire ≡ Some i → i < length mouths

-- an actor keeps its pipes, its slot and its entry
pub record StaysAt (x y : Held) : Type 0 where
  pub wire : y.wire ≡ x.wire
  pub slot : y.slot ≡ x.slot
  pub entry : y.entry ≡ x.entry

-- whether the one event that was appended, of this actor, ended an idle turn of a sender
abbrev pub HasIdled : Bool → Held → List Kept → List Kept → Type 0
HasIdled idle x before now_kept = (k : Kept) → now_kept ≡ before ++ k ∷ [] → (program : Program) (past : List Own) → Follows x.machine program past
    → idle ≡ idled_of program past k

-- What an actor has done with its pipes and slots: nothing, if it made a file call.
abbrev pub HasPassed : Held → List Mouths → List Mouths → ℕ → ℕ → NeedData → GotData → Type 0
HasPassed x old new pid most due came = (IsCall due came × (new ≡ old)) ⊎ (IsNoAct due × Exchanges x.wire x.slot old new pid most x.name due came)

-- the machine of an actor couldn't take in yet what came of its event, which has this index
pub record IsOwed (y : Held) (own : Own) (index at : ℕ) : Type 0 where
  pub here : at ≡ index
  pub read : present_of y.machine ≡ own.read
  pub found : found_of y.machine ≡ own.ready
  pub looked : looked_of y.machine ≡ true
  pub due : need_of y.machine ≡ own.due
  pub kind : IsKind own.due own.came
  pub within : IsWithin (takes_of y.machine) own.came

-- a step did what was due, and the machine was told what came of it, or will be
pub record HasDone (old new : Option Disk) (pipes piped : List Mouths) (pid : ℕ) (x y : Held) (before now_kept : List Kept) (now : ℕ) (ready : Ready) : Type 0 where
  pub own : Own
  pub event : now_kept ≡ before ++ kept.Act x.name own ∷ []
  pub read : own.read ≡ now
  pub found : own.ready ≡ ready
  pub due : (program : Program) (past : List Own) → Follows x.machine program past → next_of program past now ready ≡ own.due
  pub follows : (program : Program) (past : List Own) → Follows x.machine program past → StandsFor y program (own ∷ past)
  pub owes : (at : ℕ) → y.owed ≡ Some at → IsOwed y own (length before) at
  pub made : MakesOf now own.due own.came old new
  pub passed : HasPassed x pipes piped pid (takes_of x.machine) own.due own.came
  pub name : y.name ≡ x.name
  pub stays : StaysAt x y
  pub descriptors : y.descriptors.items ≡ opened_by x.descriptors.items own.due own.came
  pub ended : y.ended ≡ x.ended
  pub status : y.status ≡ x.status
  pub awaits : awaits_of y.machine ≡ awaits_of x.machine

-- the index of the event with which an actor's life ended, or else this one's
abbrev pub ended_by : ℕ → Option ℕ → Option ℕ
ended_by at None = Some at
ended_by at (Some before) = Some before

-- an actor is over with this event, and what it had open is closed
pub record IsFinished (k : Kept) (status : Option ℕ) (old new : Option Disk) (pipes piped : List Mouths) (x y : Held) (before now_kept : List Kept) : Type 0 where
  pub event : now_kept ≡ before ++ k ∷ []
  pub closed : Meets old new (λ d e. e ≡ shut x.descriptors.items d)
  pub shuts : ShutsAfter x.wire x.slot pipes piped x.name
  pub name : y.name ≡ x.name
  pub descriptors : y.descriptors.items ≡ []
  pub ended : y.ended ≡ Some (length before)
  pub status_is : y.status ≡ status
  pub stays : StaysAt x y

-- a step was the actor's end
pub record HasEnded (status : ℕ) (old new : Option Disk) (pipes piped : List Mouths) (x y : Held) (before now_kept : List Kept) (now : ℕ) (ready : Ready) : Type 0 where
  pub due : (program : Program) (past : List Own) → Follows x.machine program past → next_of program past now ready ≡ needs.Ended status
  pub over : IsFinished (kept.End x.name now ready status) (Some status) old new pipes piped x y before now_kept

abbrev pub HasActed : Option ℕ → Option Disk → Option Disk → List Mouths → List Mouths → ℕ → Held → Held → List Kept → List Kept → ℕ → Ready → Type 0
HasActed None old new pipes piped pid x y before now_kept now ready = HasDone old new pipes piped pid x y before now_kept now ready
HasActed (Some status) old new pipes piped pid x y before now_kept now ready = HasEnded status old new pipes piped x y before now_kept now ready

-- the machine has looked, and nothing came of it
pub record HasLooked (x y : Held) : Type 0 where
  pub follows : (program : Program) (past : List Own) → Follows x.machine program past → Follows y.machine program past
  pub name : y.name ≡ x.name
  pub descriptors : y.descriptors.items ≡ x.descriptors.items
  pub ended : y.ended ≡ x.ended
  pub status : y.status ≡ x.status
  pub owed : y.owed ≡ x.owed
  pub awaits : awaits_of y.machine ≡ awaits_of x.machine
  pub stays : StaysAt x y

-- The machine has looked, and waits.
pub record HasWaited (pipes piped : List Mouths) (x y : Held) (now : ℕ) (ready : Ready) : Type 0 where
  pub looked : HasLooked x y
  pub same : AreAsBefore pipes piped
  pub waits : (program : Program) (past : List Own) → Follows x.machine program past → (wires : List ℕ → Option ℕ) (w : Pipework)
      → HasWires wires pipes w x.name x.wire x.slot → BringsNone w x.name (next_of program past now ready)

-- an actor's life ended with the machine stop of this index, if it lasted until then, and it has nothing open and no pipes any more
pub record IsCutOff (at : ℕ) (x y : Held) : Type 0 where
  pub name : y.name ≡ x.name
  pub machine : y.machine ≡ x.machine
  pub descriptors : y.descriptors.items ≡ []
  pub ended : y.ended ≡ ended_by at x.ended
  pub status : y.status ≡ x.status
  pub entry : y.entry ≡ x.entry
  pub wire : y.wire ≡ None

-- so each one's at its place
pub record AreCutOff (at : ℕ) (old new : List Held) : Type 0 where
  pub many : length new ≡ length old
  pub each : (i : ℕ) (x y : Held) → slice_get old i ≡ Some x → slice_get new i ≡ Some y → IsCutOff at x y

-- what a step did, or that it waits
abbrev pub HasStepped : Option Did → Option Disk → Option Disk → List Mouths → List Mouths → ℕ → Held → Held → List Kept → List Kept → ℕ → Ready → Type 0
HasStepped None old new pipes piped pid x y before now_kept now ready = HasWaited pipes piped x y now ready
HasStepped (Some did) old new pipes piped pid x y before now_kept now ready = HasActed did.ended old new pipes piped pid x y before now_kept now ready

-- Its machine, which has looked, was told what came of what was due and is no call, or will be.
pub record HasPassedOn (pipes piped : List Mouths) (pid : ℕ) (x y : Held) (before now_kept : List Kept) (now : ℕ) (ready : Ready) (due : NeedData) : Type 0 where
  pub came : GotData
  pub event : now_kept ≡ before ++ kept.Act x.name (record { read = now; ready = ready; due = due; came = came }) ∷ []
  pub exchanged : Exchanges x.wire x.slot pipes piped pid (takes_of x.machine) x.name due came
  pub follows : (program : Program) (past : List Own) → Follows x.machine program past → StandsFor y program (with_own x.machine came past)
  pub owes : (at : ℕ) → y.owed ≡ Some at → (at ≡ length before) × (y.machine ≡ x.machine)
  pub name : y.name ≡ x.name
  pub descriptors : y.descriptors.items ≡ x.descriptors.items
  pub ended : y.ended ≡ x.ended
  pub status : y.status ≡ x.status
  pub awaits : awaits_of y.machine ≡ awaits_of x.machine
  pub stays : StaysAt x y

abbrev pub HasGiven : Option Did → List Mouths → List Mouths → ℕ → Held → Held → List Kept → List Kept → ℕ → Ready → NeedData → Type 0
HasGiven None pipes piped pid x y before now_kept now ready due = IsStuck x.wire x.slot pipes piped x.name due
HasGiven (Some did) pipes piped pid x y before now_kept now ready due = HasPassedOn pipes piped pid x y before now_kept now ready due

-- why no living actor has this name
abbrev pub IsNoLiving : (List ℕ → Option ℕ) → List Held → List ℕ → WorldError → Type 0
IsNoLiving places actors a why.Unknown = places a ≡ None
IsNoLiving places actors a (why.Gone b at) = (b ≡ a) × (i : ℕ) × (places a ≡ Some i) × IsSomeAnd (slice_get actors i) (λ x. x.ended ≡ Some at)
IsNoLiving places actors a other = ⊥
