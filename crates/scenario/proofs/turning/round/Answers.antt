use Rattle.std.proofs.Common.{◌≡◌, ℕ, ◌++◌, Bool, ◌&&◌, refl, sym, ap, ◌∙◌, subst, drop, length, arith}
use Rattle.scenario.specs.inside.Playing.{HasRounded, are_searches_kept}
use Rattle.scenario.specs.Steps.{plan_through}
use Rattle.scenario.specs.Turns.{events_of}
use Rattle.scenario.proofs.RoundSteps.{round_stops, round_ends}
use Rattle.scenario.proofs.turning.round.Goals as goal

pub returns-then-len-start : goal.returns-then-len-start
returns-then-len-start c = λ d plan h playing none.
    round_stops d c.turn.new.world c.args.first c.turn.new.later c.args.letter c.in_ok-idle.idle c.args.text.now.items c.turn.new.text.items plan h (c.in_ok-idle.ensures d plan h playing none) (omega arith)

pub returns-then-idle : goal.returns-then-idle
returns-then-idle c = λ d plan h playing none.
    let turn = c.in_ok-idle.ensures d plan h playing none in
    let told = c.in_ok-report_all.ensures d (plan_through plan (events_of turn.parts)) (events_of turn.parts ++ h) turn.playing in
    let before = c.args.text.now.items in
    let after_text = c.turn.new.text.items in
    let searches = are_searches_kept (drop (length c.args.world.now.events) c.report_all.new.world.events) in
    let kept = ap length c.history.ensures.events in
    let same : c.len-before.result ≡ length c.args.world.now.events = c.len-before.ensures ∙ kept in
    let all : c.only_searches.result ≡ searches = c.only_searches.ensures ∙ ap (λ (n : ℕ). are_searches_kept (drop n c.report_all.new.world.events)) same in
    subst (λ (b : Bool). HasRounded d c.report_all.new.world c.args.first c.turn.new.later c.args.letter b before after_text plan h) (ap (λ (t : Bool). t && c.only_searches.result) c.if-idle.true)
    (round_ends d c.args.world.now c.turn.new.world c.report_all.new.world c.args.first c.turn.new.later c.args.letter c.in_ok-idle.idle c.only_searches.result before after_text plan h playing turn (λ more. omega arith) told all)

pub returns-else-idle : goal.returns-else-idle
returns-else-idle c = λ d plan h playing none.
    let turn = c.in_ok-idle.ensures d plan h playing none in
    let told = c.in_ok-report_all.ensures d (plan_through plan (events_of turn.parts)) (events_of turn.parts ++ h) turn.playing in
    let before = c.args.text.now.items in
    let after_text = c.turn.new.text.items in
    let searches = are_searches_kept (drop (length c.args.world.now.events) c.report_all.new.world.events) in
    subst (λ (b : Bool). HasRounded d c.report_all.new.world c.args.first c.turn.new.later c.args.letter b before after_text plan h) (ap (λ (t : Bool). t && searches) c.if-idle.false ∙ sym c.if-idle.false)
    (round_ends d c.args.world.now c.turn.new.world c.report_all.new.world c.args.first c.turn.new.later c.args.letter c.in_ok-idle.idle searches before after_text plan h playing turn (λ more. omega arith) told refl)
