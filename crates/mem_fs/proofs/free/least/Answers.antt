use Rattle.std.proofs.Common.{◌+◌, arith, refl, rules}
use Rattle.mem_fs.proofs.Indexed.{if_none, least_from, least_listed, none_from, rest_used}
use Rattle.mem_fs.proofs.free.least.Goals as goal

pub returns-in-Some-clause-some : goal.returns-in-Some-clause-some
returns-in-Some-clause-some c =
    least_listed c.args.files.now c.args.free.now c.args.low c.requires.indexed c.in-Some.number c.in-Some.ensures.some.1.0 c.in-Some.ensures.some.0 c.in-Some.ensures.some.1.1

pub loop-number-preserved : goal.loop-number-preserved
loop-number-preserved c = (
  omega (arith, c.loop-number.invariant.0, c.checked_add.ensures),
  λ n low lt. rest_used c.args.files.now c.loop-number.number c.args.low c.loop-number.invariant.1 (λ idle. let yes = c.is_idle.ensures.1 idle in let no = c.loop-number-test.true in absurd (cc)) _ (search rules) n low lt,
)

pub returns-clause-some : goal.returns-clause-some
returns-clause-some c =
    least_from c.args.files.now c.args.free.now c.args.low c.requires.indexed c.in_default.ensures.none c.loop-number.number c.loop-number.invariant.0 (c.is_idle.ensures.0 (search rules)) c.loop-number.invariant.1

pub returns-in_err-number-clause-none : goal.returns-in_err-number-clause-none
returns-in_err-number-clause-none c = if_none c.from_residual.result
    (none_from c.args.files.now c.args.free.now c.args.low c.requires.indexed c.in_default.ensures.none
    (λ n low fits. rest_used c.args.files.now c.loop-number.number c.args.low c.loop-number.invariant.1 (λ idle. let yes = c.is_idle.ensures.1 idle in let no = c.loop-number-test.true in absurd (cc)) (c.loop-number.number + 1) refl n low
    (first_of (omega (arith, c.in_err-number.ensures), grind (arith, c.in_err-number.ensures), search (rules, arith)))))
