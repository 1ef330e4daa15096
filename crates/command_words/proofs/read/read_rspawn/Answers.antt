use Rattle.std.proofs.Common.{refl, ◌∙◌}
use Rattle.std.proofs.lemmas.Result.{IfOk-weaker}
use Rattle.command_words.specs.Lines.{rspawn_line}
use Rattle.command_words.proofs.Parses.{rspawn_read, rspawn_refused, matched, refused, taken}
use Rattle.command_words.proofs.read.read_rspawn.Goals as goal

pub returns-in-Err-clause-usage : goal.returns-in-Err-clause-usage
returns-in-Err-clause-usage c =
    λ usage. rspawn_refused _ (refused _ rspawn_line _ c.in-Err.why c.in_ok-rspawn_line.ensures refl c.in-Err.ensures.kinds (c.refusal.ensures (cc)))

pub returns-in-Ok-clause-ok : goal.returns-in-Ok-clause-ok
returns-in-Ok-clause-ok c =
    let read = rspawn_read _ _ (taken _ rspawn_line _ c.in-Ok.matches c.in_ok-rspawn_line.ensures refl c.in-Ok.ensures.kinds)
    (matched _ rspawn_line _ c.in-Ok.matches c.in_ok-rspawn_line.ensures refl c.in-Ok.ensures.matches) in
    IfOk-weaker c.spawner_told.result _ _ (λ told is. read ∙ is) c.spawner_told.ensures.ok

pub returns-in-Ok-clause-usage : goal.returns-in-Ok-clause-usage
returns-in-Ok-clause-usage c =
    let read = rspawn_read _ _ (taken _ rspawn_line _ c.in-Ok.matches c.in_ok-rspawn_line.ensures refl c.in-Ok.ensures.kinds)
    (matched _ rspawn_line _ c.in-Ok.matches c.in_ok-rspawn_line.ensures refl c.in-Ok.ensures.matches) in
    λ usage. read ∙ c.spawner_told.ensures.usage usage
