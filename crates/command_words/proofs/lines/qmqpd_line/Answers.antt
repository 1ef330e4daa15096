use Rattle.std.proofs.Common.{rules, ◌≡◌, ◌∙◌, ap, ap₂, codes}
use Rattle.std.proofs.lemmas.Result.{IfOk-weaker}
use Rattle.clap.specs.Words.{App, rule_of, with_rule}
use Rattle.command_words.specs.Lines.{option_rule, with_word}
use Rattle.command_words.proofs.lines.qmqpd_line.Goals as goal

pub returns : goal.returns
returns c =
    let uid_is : rule_of c.long.result ≡ option_rule (codes "uid") = search rules in
    let one = c.in_ok-with_word.ensures ∙ ap (λ (a : App). with_word a (codes "dir")) c.new.ensures.app in
    IfOk-weaker c.arg.result _ _ (λ line adds. adds.shape (search rules) ∙ ap₂ with_rule one uid_is) c.arg.ensures
