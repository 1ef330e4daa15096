use Rattle.std.proofs.Common.{sym, ap, ◌∙◌}
use Rattle.mail_bytes.specs.Texts.{trimmed}
use Rattle.mail_bytes.proofs.Trimming.{trimmed_blank, trimmed_kept}
use Rattle.mail_bytes.proofs.texts.trimmed.Goals as goal

pub returns-then-not-is_blank : goal.returns-then-not-is_blank
returns-then-not-is_blank c =
    let split = c.in-Some.ensures.cases.0 in
    split
    ∙ sym (trimmed_kept c.in-Some.before.now c.in-Some.last.now (sym c.is_blank.ensures ∙ c.if-not-is_blank.true))
    ∙ sym (ap trimmed split)
    ∙ c.loop-last.invariant

pub loop-last-preserved : goal.loop-last-preserved
loop-last-preserved c =
    sym (trimmed_blank c.in-Some.before.now c.in-Some.last.now (sym c.is_blank.ensures ∙ c.if-not-is_blank.false))
    ∙ sym (ap trimmed c.in-Some.ensures.cases.0)
    ∙ c.loop-last.invariant
