use Rattle.std.proofs.Common.{arith}
use Rattle.std.proofs.lemmas.Map.Keys.{le_from_not_gt}
use Rattle.mem_fs.proofs.Indexed.{if_none, none_in}
use Rattle.mem_fs.proofs.free.first_below.Goals as goal

pub returns-in_err-number-clause-none : goal.returns-in_err-number-clause-none
returns-in_err-number-clause-none c = if_none c.from_residual.result (λ m has. absurd (none_in c.args.free.now (λ some. let is = c.in_err-number.ensures.variant.1 some in absurd (cc)) m has))

pub returns-then-number-low-clause-some : goal.returns-then-number-low-clause-some
returns-then-number-low-clause-some c = (c.if-number-low.true, (c.in_ok-number.ensures.member, λ m has. le_from_not_gt c.in_ok-number.number.now m (c.in_ok-number.ensures.least m has)))

pub returns-else-number-low-clause-none : goal.returns-else-number-low-clause-none
returns-else-number-low-clause-none c = λ m has. let le = le_from_not_gt c.in_ok-number.number.now m (c.in_ok-number.ensures.least m has) in let high = c.if-number-low.false in omega (arith, le, high)
