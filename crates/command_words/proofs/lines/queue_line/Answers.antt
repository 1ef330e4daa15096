use Rattle.std.proofs.Common.{rules, ◌≡◌, ◌∙◌, ap₂, codes}
use Rattle.std.proofs.lemmas.Result.{IfOk-weaker}
use Rattle.clap.specs.Words.{rule_of, with_rule}
use Rattle.command_words.specs.Lines.{flag_rule, option_rule, word_rule}
use Rattle.command_words.proofs.lines.queue_line.Goals as goal

pub returns : goal.returns
returns c =
    let env_is : rule_of c.required.result ≡ word_rule (codes "env") = search rules in
    let dir_is : rule_of c.required-2.result ≡ word_rule (codes "dir") = search rules in
    let uid_is : rule_of c.long.result ≡ option_rule (codes "uid") = search rules in
    let bounce_is : rule_of c.action.result ≡ flag_rule (codes "bounce") = search rules in
    let one = c.in_ok-arg.ensures.shape (search rules) ∙ ap₂ with_rule c.new.ensures.app env_is in
    let two = c.in_ok-arg-2.ensures.shape (search rules) ∙ ap₂ with_rule one dir_is in
    let three = c.in_ok-arg-3.ensures.shape (search rules) ∙ ap₂ with_rule two uid_is in
    IfOk-weaker c.arg-4.result _ _ (λ line adds. adds.shape (search rules) ∙ ap₂ with_rule three bounce_is) c.arg-4.ensures
