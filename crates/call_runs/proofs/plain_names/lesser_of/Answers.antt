use Rattle.std.proofs.Common.{nat_cmp, sym, ap, ◌∙◌}
use Rattle.std.specs.Cmp.Lexicographic.{slice_cmp}
use Rattle.std.specs.Ordering.{is_le}
use Rattle.call_runs.proofs.Least.{le_flips, le_not_gt, not_above_itself}
use Rattle.call_runs.proofs.plain_names.lesser_of.Goals as goal

pub returns-then-is_le-clause-one : goal.returns-then-is_le-clause-one
returns-then-is_le-clause-one c = not_above_itself c.args.one.now

pub returns-then-is_le-clause-other : goal.returns-then-is_le-clause-other
returns-then-is_le-clause-other c = le_not_gt (slice_cmp nat_cmp c.args.one.now c.args.other.now) (ap is_le (sym c.cmp.ensures) ∙ sym c.is_le.ensures ∙ c.if-is_le.true)

pub returns-else-is_le-clause-one : goal.returns-else-is_le-clause-one
returns-else-is_le-clause-one c = le_flips c.args.one.now c.args.other.now (ap is_le (sym c.cmp.ensures) ∙ sym c.is_le.ensures ∙ c.if-is_le.false)

pub returns-else-is_le-clause-other : goal.returns-else-is_le-clause-other
returns-else-is_le-clause-other c = not_above_itself c.args.other.now
