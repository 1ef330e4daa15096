use Rattle.std.proofs.Common.{◌≡◌, All, take, length}
use Rattle.world_pipes.specs.Mouths.{IsVacant}
use Rattle.world_pipes.proofs.mouths.clear_all.Given as goal

abbrev pub invariant-loop-slot : goal.invariant-loop-slot
invariant-loop-slot l = All IsVacant (take l.slot-index l.slots) × (length l.slots ≡ length l.initial.slots)
