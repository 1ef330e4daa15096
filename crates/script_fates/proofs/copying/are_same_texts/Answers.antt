use Rattle.std.proofs.Common.{◌∙◌, ap, arith, length, refl, sym}
use Rattle.std.proofs.lemmas.Bool.{iff_false}
use Rattle.script_fates.proofs.Same.{never, same_all, same_item, same_more}
use Rattle.script_fates.proofs.copying.are_same_texts.Goals as goal

pub returns-then-texts-others : goal.returns-then-texts-others
returns-then-texts-others c = never (λ e. c.if-texts-others.true (ap (λ l. length l) (c.as_slice-texts.ensures ∙ e ∙ sym c.as_slice-others.ensures)))

pub returns-then-not-is_same : goal.returns-then-not-is_same
returns-then-not-is_same c =
    let xs = c.as_slice-texts.result.now in
    let ys = c.as_slice-others.result.now in
    let here = c.loop-at-test.true in
    let long = c.if-texts-others.false in
    never (λ e.
    iff_false c.is_same.ensures c.if-not-is_same.true
    (same_item xs ys c.loop-at.at c.index-texts-at.result c.index-others-at.result (omega (arith, here, long)) c.index-texts-at.is c.index-others-at.is (c.as_slice-texts.ensures ∙ e ∙ sym c.as_slice-others.ensures)))

pub returns : goal.returns
returns c =
    let xs = c.as_slice-texts.result.now in
    let ys = c.as_slice-others.result.now in
    (λ t. sym c.as_slice-texts.ensures ∙ same_all xs ys c.loop-at.at c.loop-at-test.false c.if-texts-others.false c.loop-at.invariant ∙ c.as_slice-others.ensures, λ e. refl)

pub loop-at-preserved : goal.loop-at-preserved
loop-at-preserved c =
    let xs = c.as_slice-texts.result.now in
    let ys = c.as_slice-others.result.now in
    same_more xs ys c.loop-at.at c.index-texts-at.result c.index-others-at.result c.loop-at-test.true c.if-texts-others.false c.loop-at.invariant c.index-texts-at.is c.index-others-at.is (c.is_same.ensures.0 c.if-not-is_same.false)
