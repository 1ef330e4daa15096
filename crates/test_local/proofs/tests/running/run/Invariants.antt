use Rattle.test_local.specs.Deliveries.{IsRunning}
use Rattle.test_local.proofs.tests.running.run.Given as goal

abbrev pub invariant-loop : goal.invariant-loop
invariant-loop g l = IsRunning l.local (g.D.CallFs.disk l.disk)
