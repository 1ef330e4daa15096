use Rattle.local_spawn.specs.Finding.{IsBest, NoneIsFor}
use Rattle.local_spawn.proofs.finding.find_in.Given as goal

abbrev pub invariant-loop-index : goal.invariant-loop-index
invariant-loop-index l = record {
  none : NoneIsFor l.lines l.local l.index;
  best : IsBest l.lines l.local l.index l.best;
}
