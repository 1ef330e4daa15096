-- What steps of actors made of a world, in whatever order.
use Rattle.std.specs.Prelude.{◌≡◌, ℕ, List, [], ◌∷◌, ◌++◌, Bool, true, false, Option, All, bytes_eq, map}
use Rattle.std.specs.List.{list_any, list_all}
use Rattle.yard_lock.specs.Turns.{Replay}
use Rattle.world_events.specs.declared.event.Event.{Event as Kept}
use Rattle.world_events.specs.declared.event.Event.TheVariants as kept
use Rattle.call_fs.specs.Disk.{Disk}
use Rattle.call_fs.specs.Plan.{Plan}
use Rattle.mail_world.specs.History.{Event}
use Rattle.mail_world.specs.World.{Seen, IsBefore, Happened}
use Rattle.mail_world.specs.LivingMails.{mails_in}
use Rattle.mail_world.specs.Moves.{moves}
use Rattle.actor_runner.specs.Turns.{Asking, steppers}

-- an event of a step of an actor: what it did, a child that it started or fed, or its end
abbrev pub is_step : Kept → Bool
is_step (kept.Act a own) = true
is_step (kept.Child a own c program) = true
is_step (kept.Feed a own c message envelope) = true
is_step (kept.End a read ready status) = true
is_step other = false

-- whose event it is; that of no actor has no name
abbrev pub actor_of : Kept → List ℕ
actor_of (kept.Start a program) = a
actor_of (kept.Act a own) = a
actor_of (kept.Child a own c program) = a
actor_of (kept.Feed a own c message envelope) = a
actor_of (kept.End a read ready status) = a
actor_of (kept.Stop a) = a
actor_of other = []

-- the end of that actor
abbrev pub is_end : List ℕ → Kept → Bool
is_end a (kept.End b read ready status) = bytes_eq b a
is_end a other = false

-- From one history to a later one by these events, the oldest first. One that gives a child its input tells anew what came before.
abbrev pub Continues : List Event → List Event → List Event → Type 0
Continues h [] later = later ≡ h
Continues h (e ∷ es) later = (anew : List Event) × IsBefore e h anew × Continues (e ∷ anew) es later

-- whatever happened in the old world, and led to its legal history, more happened in the new one
abbrev pub GoesOnTo : {D : Type 0} → (D → Option Disk) → Seen D → Seen D → Type 0
GoesOnTo tells old new = (opening : Disk) (h : List Event) → Happened tells opening old h
    → (more : List Event) × (later : List Event) × Continues h more later × Happened tells opening new later

-- Threads ran these mails of a world.
pub record HasRun {D : Type 0} (plan : D → Option Plan) (tells : D → Option Disk) (mails : List (List ℕ)) (old new : Seen D) : Type 0 where
  -- each step was a turn of one list
  pub turns : List Asking
  pub replay : Replay (moves plan tells) old turns new
  -- what was added are events of steps, those of these turns, in their order
  pub added : List Kept
  pub events : new.events ≡ old.events ++ added
  pub steps : list_all is_step added ≡ true
  pub acted : map actor_of added ≡ steppers turns
  pub present : new.present ≡ old.present
  -- the history is legal, if that of the world handed in was
  pub goes_on : GoesOnTo tells old new
  -- the mails are these, and each ran to its end
  pub mails_are : mails_in new.events ≡ mails
  pub ended : All (λ a. list_any (is_end a) added ≡ true) mails
