use Rattle.std.proofs.Common.{refl, ◌∙◌}
use Rattle.std.proofs.lemmas.Result.{IfOk-weaker}
use Rattle.command_words.specs.Lines.{make_line}
use Rattle.command_words.proofs.Parses.{make_read, make_refused, matched, refused, taken}
use Rattle.command_words.proofs.maker.read_make.Goals as goal

pub returns-in-Err-clause-usage : goal.returns-in-Err-clause-usage
returns-in-Err-clause-usage c =
    λ usage. make_refused _ (refused _ make_line _ c.in-Err.why c.in_ok-make_line.ensures refl c.in-Err.ensures.kinds (c.refusal.ensures (cc)))

pub returns-in-Ok-clause-ok : goal.returns-in-Ok-clause-ok
returns-in-Ok-clause-ok c =
    let read = make_read _ _ (taken _ make_line _ c.in-Ok.matches c.in_ok-make_line.ensures refl c.in-Ok.ensures.kinds)
    (matched _ make_line _ c.in-Ok.matches c.in_ok-make_line.ensures refl c.in-Ok.ensures.matches) in
    IfOk-weaker c.maker_told.result _ _ (λ told is. read ∙ is) c.maker_told.ensures.ok

pub returns-in-Ok-clause-usage : goal.returns-in-Ok-clause-usage
returns-in-Ok-clause-usage c =
    let read = make_read _ _ (taken _ make_line _ c.in-Ok.matches c.in_ok-make_line.ensures refl c.in-Ok.ensures.kinds)
    (matched _ make_line _ c.in-Ok.matches c.in_ok-make_line.ensures refl c.in-Ok.ensures.matches) in
    λ usage. read ∙ c.maker_told.ensures.usage usage
