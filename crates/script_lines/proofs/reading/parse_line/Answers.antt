use Rattle.std.proofs.Common.{◌≡◌, ◌++◌, ◌∷◌, List, ℕ, Some, ap, ◌∙◌}
use Rattle.std.proofs.lemmas.Result.{IfErr-weaker}
use Rattle.script_words.specs.declared.error.WordError.TheVariants.{Malformed}
use Rattle.script_lines.specs.declared.line.Line.{Line}
use Rattle.script_lines.specs.Lines.{IsLine}
use Rattle.script_lines.specs.inside.Reading.{CanFollow}
use Rattle.script_lines.proofs.LineHeads.{has_keyword, follows}
use Rattle.script_lines.proofs.reading.parse_line.Goals as goal

pub returns-in-Some-Some-clause-err : goal.returns-in-Some-Some-clause-err
returns-in-Some-Some-clause-err c =
    let cut = rw c.in-Some-Some.is-1 at c.cut.ensures in
    let parts = cut.parts ∙ ap (λ (w : List ℕ). w ++ 32 ∷ c.in-Some-Some.rest.now) c.in-Some-Some.ensures.some in
    IfErr-weaker c.read_argument.result
    (λ why. why ≡ Malformed → ¬ (CanFollow c.in-Some-Some.keyword (Some c.in-Some-Some.rest.now)))
    (λ why. why ≡ Malformed → (line : Line) → ¬ (IsLine c.args.text.now line))
    (λ why refused malformed line h. refused malformed (follows c.args.text.now c.in-Some-Some.keyword (Some c.in-Some-Some.rest.now) line parts h))
    c.read_argument.ensures.err

pub returns-in-None-default-clause-err : goal.returns-in-None-default-clause-err
returns-in-None-default-clause-err c =
    let other = rw c.in-None-default.is-0 at c.keyword_of.ensures.none in
    λ malformed line h. other (has_keyword c.args.text.now c.cut.result.0.now _ line c.cut.ensures h)
