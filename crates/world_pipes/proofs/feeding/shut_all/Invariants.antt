use Rattle.std.proofs.Common.{◌≡◌, ℕ, ◌<◌, ◌≤◌, Some}
use Rattle.std.specs.List.{slice_get}
use Rattle.world_pipes.specs.declared.mouths.Mouths.{Mouths}
use Rattle.world_pipes.specs.Exchanges.{HasShut, gives_at}
use Rattle.world_pipes.proofs.feeding.shut_all.Given as goal

-- what is given at those before this place is shut, the others are as they were
abbrev pub invariant-loop-place : goal.invariant-loop-place
invariant-loop-place l =
    (i : ℕ) (x y : Mouths) → slice_get l.initial.mouths i ≡ Some x → slice_get l.mouths i ≡ Some y
    → (i < l.place → HasShut (gives_at l.member i) x y) × (l.place ≤ i → y ≡ x)
