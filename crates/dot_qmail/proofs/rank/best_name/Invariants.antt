use Rattle.dot_qmail.specs.Ranks.{IsTop}
use Rattle.dot_qmail.proofs.rank.best_name.Given as goal

abbrev pub invariant-loop-place : goal.invariant-loop-place
invariant-loop-place l = IsTop l.full l.base l.names l.place l.top
