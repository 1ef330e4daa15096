use Rattle.mem_files.proofs.Counting.{AreFrom1}
use Rattle.mem_files.proofs.numbers.least_missing.Given as goal

abbrev pub invariant-loop-at : goal.invariant-loop-at
invariant-loop-at g l = AreFrom1 l.entries l.at
