use Rattle.std.proofs.lemmas.Bool.{false≢true}
use Rattle.std.proofs.Common.{subst, sym, ap, ◌∙◌, arith, List, ℕ, get_or, Some}
use Rattle.mail_bytes.specs.Fold.{IsSameFold}
use Rattle.address_rules.proofs.KeyLemmas.{prefix_found, prefix_passed}
use Rattle.address_rules.proofs.keys.prefix_for.Goals as goal

pub returns-then-same_fold : goal.returns-then-same_fold
returns-then-same_fold c =
    let same = subst (λ (t : List ℕ). IsSameFold t c.args.key.now) (c.as_slice.ensures ∙ ap (λ it. it.domain) c.line-item.is) (c.same_fold.ensures.0 c.if-same_fold.true) in
    ap (λ t. Some t) (c.as_slice-then-same_fold.ensures ∙ ap (λ it. it.prefix) c.line-item.is)
    ∙ sym (prefix_found c.args.lines.now c.args.key.now c.loop-line.line-index c.line-item.result (omega arith) same)
    ∙ c.loop-line.invariant

pub loop-line-preserved : goal.loop-line-preserved
loop-line-preserved c =
    let differs = λ (same : IsSameFold (get_or c.args.lines.now c.loop-line.line-index c.line-item.result).domain c.args.key.now).
    false≢true (sym c.if-same_fold.false ∙ c.same_fold.ensures.1 (subst (λ (t : List ℕ). IsSameFold t c.args.key.now) (sym (c.as_slice.ensures ∙ ap (λ it. it.domain) c.line-item.is)) same)) in
    sym (prefix_passed c.args.lines.now c.args.key.now c.loop-line.line-index c.line-item.result (omega arith) differs) ∙ c.loop-line.invariant
