use Rattle.std.proofs.Common.{◌≤◌, All, length}
use Rattle.test_local.proofs.tests.drops.blocks.Given as goal

abbrev pub invariant-loop-part : goal.invariant-loop-part
invariant-loop-part l = All (λ block. length block.items ≤ 8192) l.blocks.items
