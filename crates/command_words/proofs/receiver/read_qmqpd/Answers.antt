use Rattle.std.proofs.Common.{refl, ◌∙◌}
use Rattle.std.proofs.lemmas.Result.{IfOk-weaker}
use Rattle.command_words.specs.Lines.{qmqpd_line}
use Rattle.command_words.proofs.Parses.{matched, qmqpd_read, qmqpd_refused, refused, taken}
use Rattle.command_words.proofs.receiver.read_qmqpd.Goals as goal

pub returns-in-Err-clause-usage : goal.returns-in-Err-clause-usage
returns-in-Err-clause-usage c =
    λ usage. qmqpd_refused _ (refused _ qmqpd_line _ c.in-Err.why c.in_ok-qmqpd_line.ensures refl c.in-Err.ensures.kinds (c.refusal.ensures (cc)))

pub returns-in-Ok-clause-ok : goal.returns-in-Ok-clause-ok
returns-in-Ok-clause-ok c =
    let read = qmqpd_read _ _ (taken _ qmqpd_line _ c.in-Ok.matches c.in_ok-qmqpd_line.ensures refl c.in-Ok.ensures.kinds)
    (matched _ qmqpd_line _ c.in-Ok.matches c.in_ok-qmqpd_line.ensures refl c.in-Ok.ensures.matches) in
    IfOk-weaker c.receiver_told.result _ _ (λ told is. read ∙ is) c.receiver_told.ensures.ok

pub returns-in-Ok-clause-usage : goal.returns-in-Ok-clause-usage
returns-in-Ok-clause-usage c =
    let read = qmqpd_read _ _ (taken _ qmqpd_line _ c.in-Ok.matches c.in_ok-qmqpd_line.ensures refl c.in-Ok.ensures.kinds)
    (matched _ qmqpd_line _ c.in-Ok.matches c.in_ok-qmqpd_line.ensures refl c.in-Ok.ensures.matches) in
    λ usage. read ∙ c.receiver_told.ensures.usage usage
