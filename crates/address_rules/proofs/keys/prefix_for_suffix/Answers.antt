use Rattle.std.proofs.Common.{sym, ◌∙◌, Some, None}
use Rattle.address_rules.proofs.KeyLemmas.{suffix_at}
use Rattle.address_rules.proofs.keys.prefix_for_suffix.Goals as goal

pub returns-in-Some : goal.returns-in-Some
returns-in-Some c = sym (suffix_at c.args.lines.now c.args.domain.now c.loop-at.at (Some c.in-Some.prefix.now) c.loop-at-test.true c.in-Some.ensures) ∙ c.loop-at.invariant

pub loop-at-preserved : goal.loop-at-preserved
loop-at-preserved c = sym (suffix_at c.args.lines.now c.args.domain.now c.loop-at.at None c.loop-at-test.true c.in_default.ensures) ∙ c.loop-at.invariant
