use Rattle.call_runs.specs.Running.{Performs}
use Rattle.call_runs.proofs.RunCalls.{Running}
use Rattle.call_runs.proofs.running.run_calls.Given as goal

abbrev pub invariant-loop-call : goal.invariant-loop-call
invariant-loop-call g l = Running g.D.CallFs.disk (Performs g.D.CallFs.disk g.D.CallFs.calls g.D.CallFs.plan g.D.CallFs.faults) l.initial.disk l.disk l.calls l.call-index l.all.items l.held
