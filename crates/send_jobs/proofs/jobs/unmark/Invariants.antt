use Rattle.std.proofs.Common.{◌≡◌, ◌++◌, take, drop, map}
use Rattle.send_jobs.specs.Jobs.{unmarked_if}
use Rattle.send_jobs.proofs.jobs.unmark.Given as goal

abbrev pub invariant-loop-job : goal.invariant-loop-job
invariant-loop-job l = l.jobs ≡ map (unmarked_if l.n) (take l.job-index l.initial.jobs) ++ drop l.job-index l.initial.jobs
