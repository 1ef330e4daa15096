use Rattle.std.proofs.Common.{◌≡◌}
use Rattle.test_yard.proofs.turns.take_turns.Given as goal

abbrev pub invariant-loop : goal.invariant-loop
invariant-loop g l = (l.pass.yard ≡ l.yard.id) × (l.pass.parts ≡ 1)
