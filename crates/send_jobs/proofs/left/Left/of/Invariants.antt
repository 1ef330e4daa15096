use Rattle.std.proofs.Common.{◌≡◌, take}
use Rattle.send_jobs.specs.Passes.{attempts_of}
use Rattle.send_jobs.proofs.left.Left.of.Given as goal

abbrev pub invariant-loop-record : goal.invariant-loop-record
invariant-loop-record l = l.attempts.items ≡ attempts_of l.n l.dying (take l.record-index l.records)
