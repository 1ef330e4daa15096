use Rattle.std.proofs.Common.{◌≡◌, ℕ, ◌<◌, ◌≤◌, Some}
use Rattle.std.specs.List.{slice_get}
use Rattle.world_pipes.specs.declared.mouths.Mouths.{Mouths}
use Rattle.world_pipes.specs.Seating.{IsFresh}
use Rattle.world_pipes.proofs.seating.clear_members.Given as goal

-- those before this seat are fresh, and the others as they were
abbrev pub invariant-loop-seat : goal.invariant-loop-seat
invariant-loop-seat l =
    (i : ℕ) (y : Mouths) → slice_get l.mouths i ≡ Some y → (i < l.seat → IsFresh y) × (l.seat ≤ i → slice_get l.initial.mouths i ≡ Some y)
