-- Turns of a world that threads step.
use Rattle.std.specs.Prelude.{◌≡◌, ℕ, List, [], ◌∷◌, ◌++◌, Result, Ok, Err, IsSome, flat_map}
use Rattle.std.specs.declared.alloc.AllocError.{AllocError}
use Rattle.yard_lock.specs.declared.turn.Turn.{Turn}
use Rattle.yard_lock.specs.Turns.{turn}
use Rattle.world_events.specs.declared.answers.Did.{Did}
use Rattle.world_events.specs.declared.answers.WorldError.{WorldError}
use Rattle.world_events.specs.declared.answers.WorldError.TheVariants.{Gone}

-- what a step answers
abbrev pub Answer : Type 0
Answer = Result (Result Did WorldError) AllocError

-- a turn that asks for a step of an actor
abbrev pub Asking : Type 0
Asking = Turn (List ℕ) (Result Did WorldError)

-- whoever was asked for, if a step was made
abbrev pub stepped_by : List ℕ → Answer → List (List ℕ)
stepped_by a (Ok (Ok did)) = a ∷ []
stepped_by a (Ok (Err refused)) = []
stepped_by a (Err memory) = []

-- The actors whose steps these turns made, in order. Of turns that asked for a, b and a, the second one refused, they are a and a.
abbrev pub steppers : List Asking → List (List ℕ)
steppers turns = flat_map (λ t. stepped_by t.input t.answer) turns

-- the actor is over after it: it was its end, or it had ended or was stopped before
abbrev pub IsLast : Result Did WorldError → Type 0
IsLast (Ok did) = IsSome did.ended
IsLast (Err (Gone name at)) = Unit {0}
IsLast (Err other) = ⊥

-- one of these turns told that this actor is over
pub record IsOver (a : List ℕ) (turns : List Asking) : Type 0 where
  pub by : ℕ
  pub told : Result Did WorldError
  pub last : IsLast told
  pub before : List Asking
  pub later : List Asking
  pub among : turns ≡ before ++ turn by a (Ok told) ∷ later
