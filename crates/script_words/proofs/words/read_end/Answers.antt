use Rattle.std.proofs.Common.{List, ℕ, [], sym, ◌∙◌, ap, subst}
use Rattle.std.specs.Option.{option_copied}
use Rattle.std.proofs.lemmas.Bool.{false≢true}
use Rattle.script_words.specs.Reading.{HasRecipients}
use Rattle.script_words.proofs.WordLists.{passed-none, passed-whole, end_word, now_unwrap_or}
use Rattle.script_words.proofs.words.read_end.Goals as goal

pub returns-clause-err : goal.returns-clause-err
returns-clause-err c = λ body h.
    false≢true (sym c.if-is_end.false ∙ c.is_end.ensures.1 (end_word c.args.words.now body c.cut.result.0.now (option_copied c.cut.result.1) h c.cut.ensures))

pub returns-then-is_end-clause-ok : goal.returns-then-is_end-clause-ok
returns-then-is_end-clause-ok c =
    let whole = passed-whole c.args.words.now c.args.words.now [] [] c.cut.result.0.now (option_copied c.cut.result.1) (passed-none c.args.words.now []) c.cut.ensures (c.is_end.ensures.0 c.if-is_end.true) in
    let same = ap (λ b. b.now) c.unwrap_or.ensures ∙ now_unwrap_or c.cut.result.1 _ in
    subst (λ (b : List ℕ). HasRecipients c.args.words.now [] b) (sym same) whole
