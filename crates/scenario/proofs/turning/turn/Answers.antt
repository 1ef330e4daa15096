use Rattle.std.proofs.Common.{◌≡◌, ◌+◌, sym, ◌∙◌, refl, ◌++◌, arith}
use Rattle.scenario.specs.Steps.{plan_through}
use Rattle.scenario.specs.Turns.{events_of}
use Rattle.scenario.proofs.TurnRuns.{turn_begins}
use Rattle.scenario.proofs.TurnParts.{turn_over, part_on, part_over}
use Rattle.scenario.proofs.TurnStarts.{next_rises}
use Rattle.scenario.proofs.turning.turn.Goals as goal

pub loop-actor-init : goal.loop-actor-init
loop-actor-init c = λ d plan h playing none. (refl, turn_begins d h plan c.args.world.now c.args.first c.args.later.now playing none)

pub returns-in_default : goal.returns-in_default
returns-in_default c = λ d plan h playing none.
    turn_over d h plan c.loop-actor.world c.loop-actor.idle c.args.first c.loop-actor.later c.loop-actor.from c.args.text.now.items c.loop-actor.text.items (c.loop-actor.invariant d plan h playing none) (sym c.in_default.is ∙ c.next_actor.ensures)

pub returns-then-len-start : goal.returns-then-len-start
returns-then-len-start c = λ d plan h playing none.
    let on = c.loop-actor.invariant d plan h playing none in
    let part = c.in_ok-idle.ensures d (plan_through plan (events_of on.1.parts)) (events_of on.1.parts ++ h) on.1.playing in
    part_over d h plan c.loop-actor.world c.run_part.new.world c.loop-actor.idle _ c.args.first c.loop-actor.later c.loop-actor.from c.in-Some.place c.in-Some.actor
    c.args.text.now.items c.loop-actor.text.items c.run_part.new.text.items on c.in-Some.ensures part (omega arith)

pub loop-actor-preserved : goal.loop-actor-preserved
loop-actor-preserved c = λ d plan h playing none.
    let on = c.loop-actor.invariant d plan h playing none in
    let part = c.in_ok-idle.ensures d (plan_through plan (events_of on.1.parts)) (events_of on.1.parts ++ h) on.1.playing in
    let next : c.in_ok-next.next ≡ c.in-Some.place + 1 = grind (arith, c.ok_or.ensures, c.checked_add.ensures) in
    part_on d h plan c.loop-actor.world c.run_part.new.world c.loop-actor.idle _ c.args.first c.loop-actor.later c.past-from.new.later c.loop-actor.from c.in-Some.place c.in_ok-next.next c.past-from.result c.in-Some.actor
    c.args.text.now.items c.loop-actor.text.items c.run_part.new.text.items on c.in-Some.ensures part (omega arith) next c.past-from.ensures.rises
    (λ plan h playing. c.past-from.ensures.none d plan h playing)

pub loop-actor-smaller : goal.loop-actor-smaller
loop-actor-smaller c =
    let low = next_rises c.loop-actor.world.events c.loop-actor.from c.in-Some.place c.in-Some.actor (sym c.in-Some.ensures) in
    let rises = c.past-from.ensures.rises in
    let next : c.in_ok-next.next ≡ c.in-Some.place + 1 = grind (arith, c.ok_or.ensures, c.checked_add.ensures) in
    omega arith
