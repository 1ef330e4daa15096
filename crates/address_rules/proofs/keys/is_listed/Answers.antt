use Rattle.std.proofs.lemmas.Bool.{false≢true}
use Rattle.std.proofs.Common.{subst, sym, ◌∙◌, arith, List, ℕ, get_or}
use Rattle.mail_bytes.specs.Fold.{IsSameFold}
use Rattle.address_rules.proofs.KeyLemmas.{listed_found, listed_passed}
use Rattle.address_rules.proofs.keys.is_listed.Goals as goal

pub returns-then-same_fold : goal.returns-then-same_fold
returns-then-same_fold c =
    let same = subst (λ (t : List ℕ). IsSameFold t c.args.key.now) (c.as_slice.ensures ∙ c.text-item.is) (c.same_fold.ensures.0 c.if-same_fold.true) in
    sym (sym c.loop-text.invariant ∙ listed_found c.args.texts.now c.args.key.now c.loop-text.text-index c.text-item.result (omega arith) same)

pub loop-text-preserved : goal.loop-text-preserved
loop-text-preserved c =
    let differs = λ (same : IsSameFold (get_or c.args.texts.now c.loop-text.text-index c.text-item.result) c.args.key.now).
    false≢true (sym c.if-same_fold.false ∙ c.same_fold.ensures.1 (subst (λ (t : List ℕ). IsSameFold t c.args.key.now) (sym (c.as_slice.ensures ∙ c.text-item.is)) same)) in
    sym (listed_passed c.args.texts.now c.args.key.now c.loop-text.text-index c.text-item.result (omega arith) differs) ∙ c.loop-text.invariant
