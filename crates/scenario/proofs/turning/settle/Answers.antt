use Rattle.std.proofs.Common.{◌≡◌, ◌<◌, ℕ, ◌++◌, refl, ◌∙◌, subst, arith}
use Rattle.std.proofs.lemmas.Result.{on_ok_weaker}
use Rattle.scenario.specs.Deeds.{history_of}
use Rattle.scenario.specs.Steps.{plan_through}
use Rattle.scenario.specs.Turns.{events_in}
use Rattle.scenario.proofs.DeadStarts.{first_moves}
use Rattle.scenario.proofs.TurnRuns.{settle_begins}
use Rattle.scenario.proofs.RoundSteps.{most_told, settled_text, settled_on, settled_over, settled_full}
use Rattle.scenario.proofs.turning.settle.Goals as goal

pub loop-init : goal.loop-init
loop-init c = λ d plan h playing. (refl, settle_begins d h plan c.args.letter c.args.world.now playing)

pub loop-preserved : goal.loop-preserved
loop-preserved c = λ d plan h playing.
    let so = c.loop.invariant d plan h playing in
    let most = most_told d h c.in_ok-end.end c.entries.result.now _ c.in_ok-end.ensures c.entries.ensures (c.books.ensures.models d (history_of h) playing.is) in
    let low = subst (λ (n : ℕ). c.loop.counter < n) most c.loop-test.true in
    let none = first_moves d (events_in c.args.letter so.1.rounds ++ h) c.loop.first c.first_place-first.result c.loop.later c.first_place-first.ensures.rises so.1.none
    (c.first_place-first.ensures.none d (plan_through plan (events_in c.args.letter so.1.rounds)) (events_in c.args.letter so.1.rounds ++ h) so.1.playing) in
    let round = c.in_ok-round.ensures d (plan_through plan (events_in c.args.letter so.1.rounds)) (events_in c.args.letter so.1.rounds ++ h) so.1.playing none in (
      settled_text d h plan c.args.letter c.loop.world c.round.new.world c.loop.counter c.loop.first c.loop.later c.first_place-first.result c.round.new.later c.in_ok-round.field-0 c.args.text.now.items c.loop.text.items c.round.new.text.items so.1 so.0 low round c.if-branch.false,
      settled_on d h plan c.args.letter c.loop.world c.round.new.world c.loop.counter c.loop.first c.loop.later c.first_place-first.result c.round.new.later c.in_ok-round.field-0 c.args.text.now.items c.loop.text.items c.round.new.text.items so.1 so.0 low round c.if-branch.false,
    )

pub returns-then-branch : goal.returns-then-branch
returns-then-branch c = λ d plan h playing.
    let so = c.loop.invariant d plan h playing in
    let most = most_told d h c.in_ok-end.end c.entries.result.now _ c.in_ok-end.ensures c.entries.ensures (c.books.ensures.models d (history_of h) playing.is) in
    let low = subst (λ (n : ℕ). c.loop.counter < n) most c.loop-test.true in
    let none = first_moves d (events_in c.args.letter so.1.rounds ++ h) c.loop.first c.first_place-first.result c.loop.later c.first_place-first.ensures.rises so.1.none
    (c.first_place-first.ensures.none d (plan_through plan (events_in c.args.letter so.1.rounds)) (events_in c.args.letter so.1.rounds ++ h) so.1.playing) in
    let round = c.in_ok-round.ensures d (plan_through plan (events_in c.args.letter so.1.rounds)) (events_in c.args.letter so.1.rounds ++ h) so.1.playing none in
    settled_over d h plan c.args.letter c.loop.world c.round.new.world c.loop.counter c.loop.first c.loop.later c.first_place-first.result c.round.new.later c.in_ok-round.field-0 c.args.text.now.items c.loop.text.items c.round.new.text.items so.1 so.0 low round c.if-branch.true

pub returns : goal.returns
returns c =
    on_ok_weaker c.put_refusal.result
    (λ told d plan h playing.
    let so = c.loop.invariant d plan h playing in
    let most = most_told d h c.in_ok-end.end c.entries.result.now _ c.in_ok-end.ensures c.entries.ensures (c.books.ensures.models d (history_of h) playing.is) in
    let all : c.loop.counter ≡ c.in_ok-end.end = omega arith in
    settled_full d h plan c.args.letter c.loop.world c.loop.counter c.loop.first c.loop.later c.args.text.now.items c.loop.text.items c.put_refusal.new.text.items so.1 so.0 (all ∙ most) told)
    c.put_refusal.ensures
