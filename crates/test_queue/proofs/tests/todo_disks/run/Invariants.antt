use Rattle.test_queue.specs.Passes.{IsRunning}
use Rattle.test_queue.proofs.tests.todo_disks.run.Given as goal

abbrev pub invariant-loop : goal.invariant-loop
invariant-loop g l = IsRunning l.pass (g.D.CallFs.disk l.disk)
