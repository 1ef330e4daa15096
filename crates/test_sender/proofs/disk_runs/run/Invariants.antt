use Rattle.test_sender.specs.Runs.{IsRunning}
use Rattle.test_sender.proofs.disk_runs.run.Given as goal

abbrev pub invariant-loop-now : goal.invariant-loop-now
invariant-loop-now g l = IsRunning l.sender (g.D.CallFs.disk l.disk)
