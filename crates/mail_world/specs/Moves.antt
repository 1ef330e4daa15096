-- What a step of a world comes to, by what it answers.
use Rattle.std.specs.Prelude.{◌≡◌, ℕ, List, [], ◌∷◌, ◌++◌, length, false, Option, Result, MatchResult}
use Rattle.std.specs.declared.alloc.AllocError.{AllocError}
use Rattle.call_fs.specs.Disk.{Disk}
use Rattle.call_fs.specs.Plan.{Plan}
use Rattle.world_events.specs.declared.event.Event.{Event as Kept}
use Rattle.world_events.specs.declared.answers.Did.{Did}
use Rattle.world_events.specs.declared.answers.WorldError.{WorldError}
use Rattle.world_events.specs.declared.answers.WorldError.TheVariants.{Gone, NotWaiting, Unknown}
use Rattle.mail_world.specs.World.{Seen, IsStep, GoesOn, GoesByPlan, was_started, EndsAt}
use Rattle.mail_world.specs.Generations.{Waits, has_idled}
use Rattle.mail_world.specs.Known.{known}

-- One event of this actor was added, whose place, end and idle turn are those that the answer tells. A call of it is by the plan of the
-- disk. For `Did { at: 3, ended: Some(0), idle: false }` there were three events, and the fourth is the actor's end with 0.
pub record HasMoved {D : Type 0} (plan : D → Option Plan) (tells : D → Option Disk) (a : List ℕ) (did : Did) (old new : Seen D) : Type 0 where
  pub event : IsStep a did.ended old new
  pub at : did.at ≡ length old.events
  pub idle : (event : Kept) → new.events ≡ old.events ++ event ∷ [] → did.idle ≡ has_idled (known old.events) event
  pub present : new.present ≡ old.present
  pub goes_on : GoesOn tells old new
  pub planned : GoesByPlan plan tells old.disk new.disk old.events new.events

-- Why there was none: no actor of this name was started, it has ended or was stopped, or it waits.
abbrev pub Refuses : {D : Type 0} → Seen D → List ℕ → WorldError → Type 0
Refuses w a Unknown = was_started w.events a ≡ false
Refuses w a (Gone name at) = (name ≡ a) × EndsAt w.events a at
Refuses w a (NotWaiting name) = (name ≡ a) × Waits (known w.events) w.present a
Refuses w a other = ⊥

-- A step of that actor: an event more, or the same world, which refused or had no memory.
abbrev pub moves : {D : Type 0} → (D → Option Plan) → (D → Option Disk) → Seen D → List ℕ → Result (Result Did WorldError) AllocError → Seen D → Type 0
moves plan tells old a answer new = MatchResult answer
    (λ r. MatchResult r (λ did. HasMoved plan tells a did old new) (λ why. Refuses old a why × (new ≡ old)))
    (λ _. new ≡ old)
