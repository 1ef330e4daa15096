use Rattle.std.proofs.Common.{◌≡◌, All, length}
use Rattle.world_pipes.specs.Seating.{IsFresh}
use Rattle.world_pipes.proofs.seating.pipes.Given as goal

abbrev pub invariant-loop : goal.invariant-loop
invariant-loop l = All IsFresh l.mouths.items × (length l.mouths.items ≡ l.counter)
