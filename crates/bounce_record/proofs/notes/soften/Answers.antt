use Rattle.std.proofs.Common.{arith, subst, sym}
use Rattle.bounce_record.proofs.Softening.{IsAt, begins, softens, passes, ends}
use Rattle.bounce_record.proofs.notes.soften.Goals as goal
use Rattle.bounce_record.proofs.notes.soften.Goals.{else-text-i-eq10-via-then-text-i-eq10+else-text-i-eq10-2, else-text-i-eq10-via-else-text-i-eq10}

pub loop-i-init : goal.loop-i-init
loop-i-init c = subst (IsAt c.args.text.now c.args.text.now) (sym c.saturating_sub-i.ensures) (begins c.args.text.now)

pub loop-i-preserved-then-text-i-eq10-2 : goal.loop-i-preserved-then-text-i-eq10-2
loop-i-preserved-then-text-i-eq10-2 c =
    softens c.args.text.now c.loop-i.text c.loop-i.i c.loop-i-test.true (omega arith) c.loop-i.invariant c.if-text-i-eq10.true c.if-text-i-eq10-2.true

pub loop-i-preserved : goal.loop-i-preserved
loop-i-preserved c =
    passes c.args.text.now c.loop-i.text c.loop-i.i c.loop-i-test.true (omega arith) c.loop-i.invariant
    (λ here before. elim c.else-text-i-eq10.branch [
      | else-text-i-eq10-via-then-text-i-eq10+else-text-i-eq10-2 w ↦ w.if-text-i-eq10-2.false before
      | else-text-i-eq10-via-else-text-i-eq10 w ↦ w.if-text-i-eq10.false here
    ])

pub returns : goal.returns
returns c = ends c.args.text.now c.loop-i.text c.loop-i.i (omega arith) c.loop-i.invariant
