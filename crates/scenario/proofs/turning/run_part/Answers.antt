use Rattle.std.proofs.Common.{ap, ◌∙◌, length, arith}
use Rattle.scenario.proofs.TurnParts.{run_kept, run_added}
use Rattle.scenario.proofs.turning.run_part.Goals as goal

pub returns-then-len-before : goal.returns-then-len-before
returns-then-len-before c = λ d plan h playing.
    let kept = c.len-before.ensures ∙ ap length c.history.ensures.events in
    let now = c.len.ensures ∙ ap length c.history-2.ensures.events in
    run_kept d c.args.world.now c.run.new.world c.args.actor.now c.args.idle c.in_ok-ran.ran c.args.text.now.items c.run.new.text.items plan h playing
    (omega (arith, kept, now)) (c.in_ok-ran.ensures d plan h playing)

pub returns : goal.returns
returns c = λ d plan h playing.
    let kept = c.len-before.ensures ∙ ap length c.history.ensures.events in
    let now = c.len.ensures ∙ ap length c.history-2.ensures.events in
    run_added d c.args.world.now c.run.new.world c.args.actor.now c.args.idle c.in_ok-ran.ran c.args.text.now.items c.run.new.text.items plan h playing
    (λ same. omega (arith, kept, now)) (c.in_ok-ran.ensures d plan h playing)
