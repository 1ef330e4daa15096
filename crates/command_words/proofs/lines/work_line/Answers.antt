use Rattle.std.proofs.Common.{rules, ◌≡◌, ◌∙◌, ap₂, codes}
use Rattle.std.proofs.lemmas.Result.{IfOk-weaker}
use Rattle.clap.specs.Words.{rule_of, with_rule}
use Rattle.command_words.specs.Lines.{option_rule}
use Rattle.command_words.proofs.lines.work_line.Goals as goal

pub returns : goal.returns
returns c =
    let threads_is : rule_of c.long.result ≡ option_rule (codes "threads") = search rules in
    IfOk-weaker c.arg.result _ _ (λ line adds. adds.shape (search rules) ∙ ap₂ with_rule c.new.ensures.app threads_is) c.arg.ensures
