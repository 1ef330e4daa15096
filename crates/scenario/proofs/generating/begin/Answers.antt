use Rattle.std.proofs.Common.{◌++◌, List, ℕ, Err, ap, ◌∙◌}
use Rattle.std.proofs.lemmas.Result.{on_ok_weaker}
use Rattle.scenario.specs.Steps.{refusal_line}
use Rattle.scenario.specs.Steps.Refusal.{Alive}
use Rattle.scenario.proofs.GenerationLines.{generation_played, generation_refused}
use Rattle.scenario.proofs.generating.begin.Goals as goal

pub returns-in-Ok : goal.returns-in-Ok
returns-in-Ok c = λ d plan h playing.
    generation_played d c.args.world.now c.start_generation.new.self plan c.args.text.now.items h playing c.in-Ok.ensures.started c.in-Ok.ensures.goes_on

pub returns-in-Err-Alive : goal.returns-in-Err-Alive
returns-in-Err-Alive c =
    let name = c.in-Err-Alive.name in
    let first = (c.start_generation.ensures.alive name).0 (c.in-Err-Alive.is ∙ ap Err c.in-Err-Alive.field-0-is) in
    on_ok_weaker c.put_refusal.result
    (λ told d plan h playing.
    let text = told ∙ ap (λ (n : List ℕ). c.args.text.now.items ++ refusal_line Alive n) c.as_slice.ensures in
    rw (c.in-Err-Alive.ensures.err, text)
    (generation_refused d c.args.world.now plan name c.args.text.now.items h playing first))
    c.put_refusal.ensures
