use Rattle.std.proofs.Common.{Some, None, ap, sym, ◌∙◌}
use Rattle.std.proofs.lemmas.Result.{IfOk-weaker}
use Rattle.clap.specs.Words.{found_of}
use Rattle.command_words.specs.Delivery.{marked}
use Rattle.command_words.proofs.Parses.{word_found}
use Rattle.command_words.proofs.delivery.told_as.Goals as goal

pub returns-in-Some-clause-ok : goal.returns-in-Some-clause-ok
returns-in-Some-clause-ok c =
    let told = word_found (found_of c.args.matches.now) c.args.id.now (Some c.in-Some.word.now) (rw c.in-Some.is at c.get_str.ensures) ∙ ap marked (sym c.as_bytes.ensures.value) in
    IfOk-weaker c.marked.result _ _ (λ bytes is. told ∙ is) c.marked.ensures.ok

pub returns-in-Some-clause-usage : goal.returns-in-Some-clause-usage
returns-in-Some-clause-usage c =
    let told = word_found (found_of c.args.matches.now) c.args.id.now (Some c.in-Some.word.now) (rw c.in-Some.is at c.get_str.ensures) ∙ ap marked (sym c.as_bytes.ensures.value) in
    λ usage. told ∙ c.marked.ensures.usage usage

pub returns-in-None-clause-usage : goal.returns-in-None-clause-usage
returns-in-None-clause-usage c = λ usage. word_found (found_of c.args.matches.now) c.args.id.now None (rw c.in-None.is at c.get_str.ensures)
