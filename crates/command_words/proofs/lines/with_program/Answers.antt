use Rattle.std.proofs.Common.{rules, Some, ◌≡◌, ◌∙◌, ap, codes}
use Rattle.std.proofs.lemmas.Result.{IfOk-weaker}
use Rattle.clap.specs.Words.{Rule, app_of, rule_of, with_rule}
use Rattle.clap.specs.declared.builder.value_parser.ValueParser.TheVariants.{NonEmptyString}
use Rattle.command_words.specs.Lines.{word_rule}
use Rattle.command_words.proofs.lines.with_program.Goals as goal

pub returns : goal.returns
returns c =
    let program : Rule = record (word_rule (codes "program")) { parser = Some NonEmptyString } in
    let program_is : rule_of c.value_parser.result ≡ program = search rules in
    IfOk-weaker c.arg.result _ _ (λ line adds. adds.shape (search rules) ∙ ap (with_rule (app_of c.args.line)) program_is) c.arg.ensures
