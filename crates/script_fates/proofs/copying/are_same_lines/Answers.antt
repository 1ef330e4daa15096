use Rattle.std.proofs.Common.{◌∙◌, ap, arith, length, refl, sym}
use Rattle.std.proofs.lemmas.Bool.{iff_false}
use Rattle.script_fates.proofs.Same.{never, same_all, same_item, same_more}
use Rattle.script_fates.proofs.copying.are_same_lines.Goals as goal

pub returns-then-lines-others : goal.returns-then-lines-others
returns-then-lines-others c = never (λ e. c.if-lines-others.true (ap (λ l. length l) (c.as_slice-lines.ensures ∙ e ∙ sym c.as_slice-others.ensures)))

pub returns-then-not-is_same_line : goal.returns-then-not-is_same_line
returns-then-not-is_same_line c =
    let xs = c.as_slice-lines.result.now in
    let ys = c.as_slice-others.result.now in
    let here = c.loop-at-test.true in
    let long = c.if-lines-others.false in
    never (λ e.
    iff_false c.is_same_line.ensures c.if-not-is_same_line.true
    (same_item xs ys c.loop-at.at c.index-lines-at.result c.index-others-at.result (omega (arith, here, long)) c.index-lines-at.is c.index-others-at.is (c.as_slice-lines.ensures ∙ e ∙ sym c.as_slice-others.ensures)))

pub returns : goal.returns
returns c =
    let xs = c.as_slice-lines.result.now in
    let ys = c.as_slice-others.result.now in
    (λ t. sym c.as_slice-lines.ensures ∙ same_all xs ys c.loop-at.at c.loop-at-test.false c.if-lines-others.false c.loop-at.invariant ∙ c.as_slice-others.ensures, λ e. refl)

pub loop-at-preserved : goal.loop-at-preserved
loop-at-preserved c =
    let xs = c.as_slice-lines.result.now in
    let ys = c.as_slice-others.result.now in
    same_more xs ys c.loop-at.at c.index-lines-at.result c.index-others-at.result c.loop-at-test.true c.if-lines-others.false c.loop-at.invariant c.index-lines-at.is c.index-others-at.is (c.is_same_line.ensures.0 c.if-not-is_same_line.false)
