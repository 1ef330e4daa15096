use Rattle.bounce_record.proofs.Softening.{IsAt}
use Rattle.bounce_record.proofs.notes.soften.Given as goal

abbrev pub invariant-loop-i : goal.invariant-loop-i
invariant-loop-i l = IsAt l.initial.text l.text l.i
