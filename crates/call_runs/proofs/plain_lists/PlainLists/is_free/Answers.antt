use Rattle.std.proofs.Common.{arith, rules}
use Rattle.call_runs.specs.Lists.{held_of}
use Rattle.call_runs.proofs.Files.{free_unless}
use Rattle.call_runs.proofs.plain_lists.PlainLists.is_free.Goals as goal

pub returns-then-number-eq0 : goal.returns-then-number-eq0
returns-then-number-eq0 c = (λ h. absurd (cc), λ free. absurd (omega (arith, free.0, c.if-number-eq0.true)))

pub returns-then-is_named : goal.returns-then-is_named
returns-then-is_named c = (λ h. absurd (cc), λ free. let named = c.is_named.ensures.0 c.if-is_named.true in absurd (free.1.unnamed named.0 (search rules)))

pub returns : goal.returns
returns c =
    free_unless (held_of c.args.self.now) c.args.number c.is_opened.result c.if-number-eq0.false
    (λ named. let yes = c.is_named.ensures.1 (search rules) in let other = c.if-is_named.false in absurd (cc)) (search rules)
