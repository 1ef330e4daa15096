use Rattle.std.proofs.Common.{refl, ◌∙◌}
use Rattle.std.proofs.lemmas.Result.{IfOk-weaker}
use Rattle.command_words.specs.Lines.{local_line}
use Rattle.command_words.proofs.Parses.{local_read, local_refused, matched, refused, taken}
use Rattle.command_words.proofs.delivery.read_local.Goals as goal

pub returns-in-Err-clause-usage : goal.returns-in-Err-clause-usage
returns-in-Err-clause-usage c =
    λ usage. local_refused _ (refused _ local_line _ c.in-Err.why c.in_ok-local_line.ensures refl c.in-Err.ensures.kinds (c.refusal.ensures (cc)))

pub returns-in-Ok-clause-ok : goal.returns-in-Ok-clause-ok
returns-in-Ok-clause-ok c =
    let read = local_read _ _ (taken _ local_line _ c.in-Ok.matches c.in_ok-local_line.ensures refl c.in-Ok.ensures.kinds)
    (matched _ local_line _ c.in-Ok.matches c.in_ok-local_line.ensures refl c.in-Ok.ensures.matches) in
    IfOk-weaker c.local_told.result _ _ (λ told is. read ∙ is) c.local_told.ensures.ok

pub returns-in-Ok-clause-usage : goal.returns-in-Ok-clause-usage
returns-in-Ok-clause-usage c =
    let read = local_read _ _ (taken _ local_line _ c.in-Ok.matches c.in_ok-local_line.ensures refl c.in-Ok.ensures.kinds)
    (matched _ local_line _ c.in-Ok.matches c.in_ok-local_line.ensures refl c.in-Ok.ensures.matches) in
    λ usage. read ∙ c.local_told.ensures.usage usage
