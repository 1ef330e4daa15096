use Rattle.std.proofs.Common.{◌≡◌}
use Rattle.scenario.proofs.Receivers.{IsPast}
use Rattle.scenario.proofs.showing.give.Given as goal

-- all are as they were, and none from this place on is that child
abbrev pub invariant-loop-place : goal.invariant-loop-place
invariant-loop-place l = (l.given ≡ l.initial.given) × IsPast l.child l.envelope l.given l.place
