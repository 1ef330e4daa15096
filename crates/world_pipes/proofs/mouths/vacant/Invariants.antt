use Rattle.std.proofs.Common.{◌≡◌, All, length}
use Rattle.world_pipes.specs.Mouths.{IsVacant}
use Rattle.world_pipes.proofs.mouths.vacant.Given as goal

abbrev pub invariant-loop : goal.invariant-loop
invariant-loop l = All IsVacant l.slots.items × (length l.slots.items ≡ l.counter)
