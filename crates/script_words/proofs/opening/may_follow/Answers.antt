use Rattle.std.proofs.Common.{rules}
use Rattle.std.proofs.lemmas.Iterator.{cases_from_all, YieldsList-from_slice}
use Rattle.script_words.specs.Entries.{Agree}
use Rattle.script_words.proofs.Agreeing.{decided_by_each}
use Rattle.script_words.proofs.opening.may_follow.Goals as goal

pub returns : goal.returns
returns c =
    let entry = c.args.entry.now in
    decided_by_each c.all.result c.args.before.now entry
    (cases_from_all _ _ _ (λ e. Agree e entry) (λ e. ¬ (Agree e entry)) c.all.ensures.ran (YieldsList-from_slice c.args.before.now cc) (λ x q k. search rules) (λ x q k. search rules))
