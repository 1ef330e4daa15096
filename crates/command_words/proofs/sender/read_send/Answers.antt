use Rattle.std.proofs.Common.{refl, ◌∙◌}
use Rattle.std.proofs.lemmas.Result.{IfOk-weaker}
use Rattle.command_words.specs.Lines.{send_line}
use Rattle.command_words.proofs.Parses.{matched, refused, send_read, send_refused, taken}
use Rattle.command_words.proofs.sender.read_send.Goals as goal

pub returns-in-Err-clause-usage : goal.returns-in-Err-clause-usage
returns-in-Err-clause-usage c =
    λ usage. send_refused _ (refused _ send_line _ c.in-Err.why c.in_ok-send_line.ensures refl c.in-Err.ensures.kinds (c.refusal.ensures (cc)))

pub returns-in-Ok-clause-ok : goal.returns-in-Ok-clause-ok
returns-in-Ok-clause-ok c =
    let read = send_read _ _ (taken _ send_line _ c.in-Ok.matches c.in_ok-send_line.ensures refl c.in-Ok.ensures.kinds)
    (matched _ send_line _ c.in-Ok.matches c.in_ok-send_line.ensures refl c.in-Ok.ensures.matches) in
    IfOk-weaker c.sender_told.result _ _ (λ told is. read ∙ is) c.sender_told.ensures.ok

pub returns-in-Ok-clause-usage : goal.returns-in-Ok-clause-usage
returns-in-Ok-clause-usage c =
    let read = send_read _ _ (taken _ send_line _ c.in-Ok.matches c.in_ok-send_line.ensures refl c.in-Ok.ensures.kinds)
    (matched _ send_line _ c.in-Ok.matches c.in_ok-send_line.ensures refl c.in-Ok.ensures.matches) in
    λ usage. read ∙ c.sender_told.ensures.usage usage
