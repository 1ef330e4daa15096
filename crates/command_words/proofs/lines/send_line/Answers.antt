use Rattle.std.proofs.Common.{rules, ◌≡◌, ◌∙◌, ap, ap₂, codes}
use Rattle.std.proofs.lemmas.Result.{IfOk-weaker}
use Rattle.clap.specs.Words.{App, rule_of, with_rule}
use Rattle.command_words.specs.Lines.{option_rule, with_program, with_word}
use Rattle.command_words.proofs.lines.send_line.Goals as goal

pub returns : goal.returns
returns c =
    let turns_is : rule_of c.long.result ≡ option_rule (codes "turns") = search rules in
    let one = c.in_ok-line.ensures ∙ ap (λ (a : App). with_word a (codes "dir")) c.new.ensures.app in
    let two = c.in_ok-with_program.ensures ∙ ap with_program one in
    IfOk-weaker c.arg.result _ _ (λ line adds. adds.shape (search rules) ∙ ap₂ with_rule two turns_is) c.arg.ensures
