use Rattle.std.proofs.Common.{rules, ◌≡◌, ◌∙◌, ap, ap₂, codes}
use Rattle.std.proofs.lemmas.Result.{IfOk-weaker}
use Rattle.clap.specs.Words.{App, rule_of, with_rule}
use Rattle.command_words.specs.Lines.{option_rule, with_word}
use Rattle.command_words.proofs.lines.local_line.Goals as goal

pub returns : goal.returns
returns c =
    let uid_is : rule_of c.long.result ≡ option_rule (codes "uid") = search rules in
    let one = c.in_ok-line.ensures ∙ ap (λ (a : App). with_word a (codes "dir")) c.new.ensures.app in
    let two = c.in_ok-line-2.ensures ∙ ap (λ (a : App). with_word a (codes "user")) one in
    let three = c.in_ok-line-3.ensures ∙ ap (λ (a : App). with_word a (codes "home")) two in
    let four = c.in_ok-line-4.ensures ∙ ap (λ (a : App). with_word a (codes "local")) three in
    let five = c.in_ok-line-5.ensures ∙ ap (λ (a : App). with_word a (codes "dash")) four in
    let six = c.in_ok-line-6.ensures ∙ ap (λ (a : App). with_word a (codes "ext")) five in
    let seven = c.in_ok-line-7.ensures ∙ ap (λ (a : App). with_word a (codes "domain")) six in
    let eight = c.in_ok-line-8.ensures ∙ ap (λ (a : App). with_word a (codes "sender")) seven in
    let nine = c.in_ok-line-9.ensures ∙ ap (λ (a : App). with_word a (codes "line")) eight in
    IfOk-weaker c.arg.result _ _ (λ line adds. adds.shape (search rules) ∙ ap₂ with_rule nine uid_is) c.arg.ensures
