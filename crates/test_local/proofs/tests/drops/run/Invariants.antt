use Rattle.test_local.specs.Drops.{IsRunning}
use Rattle.test_local.proofs.tests.drops.run.Given as goal

abbrev pub invariant-loop : goal.invariant-loop
invariant-loop g l = IsRunning l.machine (g.D.CallFs.disk l.disk)
