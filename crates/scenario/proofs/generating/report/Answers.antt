use Rattle.std.proofs.Common.{◌++◌, List, ℕ, Err, ap, ◌∙◌}
use Rattle.std.proofs.lemmas.Result.{on_ok_weaker}
use Rattle.mail_world.specs.Generations.{reported_world}
use Rattle.script_words.specs.Words.{letter_byte}
use Rattle.scenario.specs.Steps.{refusal_line}
use Rattle.scenario.specs.Steps.Refusal.{NotWaiting}
use Rattle.scenario.proofs.GenerationLines.{report_played, report_refused}
use Rattle.scenario.proofs.generating.report.Goals as goal

pub returns-in-Ok : goal.returns-in-Ok
returns-in-Ok c = λ d plan h playing.
    report_played d c.args.world.now c.report.new.self plan c.args.slot c.args.letter c.args.told.now c.args.text.now.items h playing
    (c.in-Ok.ensures.reported ∙ ap (λ (b : ℕ). reported_world c.args.world.now c.args.slot b c.as_slice.result.now) c.byte.ensures
    ∙ ap (λ (t : List ℕ). reported_world c.args.world.now c.args.slot (letter_byte c.args.letter) t) c.as_slice.ensures)
    c.in-Ok.ensures.goes_on

pub returns-in-Err-NotWaiting : goal.returns-in-Err-NotWaiting
returns-in-Err-NotWaiting c =
    let name = c.in-Err-NotWaiting.name in
    let none = (c.report.ensures.waits name).0 (c.in-Err-NotWaiting.is ∙ ap Err c.in-Err-NotWaiting.field-0-is) in
    on_ok_weaker c.put_refusal.result
    (λ told d plan h playing.
    let text = told ∙ ap (λ (n : List ℕ). c.args.text.now.items ++ refusal_line NotWaiting n) (c.as_slice-in-Err-NotWaiting.ensures ∙ none.0) in
    rw (c.in-Err-NotWaiting.ensures.err, text)
    (report_refused d c.args.world.now plan c.args.slot c.args.letter c.args.told.now c.args.text.now.items h playing none.1))
    c.put_refusal.ensures
