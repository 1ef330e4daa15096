use Rattle.std.proofs.Common.{◌∙◌, ◌++◌, refl, sym, ap, arith}
use Rattle.scenario.specs.Steps.{plan_through, refusal_line}
use Rattle.scenario.specs.Steps.Refusal.{Steps}
use Rattle.scenario.proofs.ScriptRuns.{run_begins, run_goes_on, run_ends, run_idles, run_waits, run_refused, run_full, no_memory_refused, waits_by, waits_not}
use Rattle.scenario.proofs.stepping.run.Goals as goal

pub loop-init : goal.loop-init
loop-init c = (refl, λ d plan h playing. run_begins d h plan c.args.actor.now c.args.world.now playing)

pub loop-preserved : goal.loop-preserved
loop-preserved c = (
  c.loop.invariant.0,
  λ d plan h playing.
      let run = c.loop.invariant.1 d plan h playing in
      run_goes_on d h plan c.args.actor.now c.loop.world c.step.new.world c.loop.counter run c.loop-test.true
      (rw c.in-Ok-On.field-0-is at c.in-Ok-On.ensures.ok d (plan_through plan run.events) (run.events ++ h) run.playing),
)

pub returns-in-Ok-Idle : goal.returns-in-Ok-Idle
returns-in-Ok-Idle c = λ d plan h playing.
    let run = c.loop.invariant.1 d plan h playing in
    rw c.loop.invariant.0
    (run_idles d h plan c.args.actor.now c.loop.world c.step.new.world c.loop.counter c.args.text.now.items run c.loop-test.true
    (rw c.in-Ok-Idle.field-0-is at c.in-Ok-Idle.ensures.ok d (plan_through plan run.events) (run.events ++ h) run.playing))

pub returns-in-Ok-Over : goal.returns-in-Ok-Over
returns-in-Ok-Over c = λ d plan h playing.
    let run = c.loop.invariant.1 d plan h playing in
    rw c.loop.invariant.0
    (run_ends d h plan c.args.actor.now c.loop.world c.step.new.world c.loop.counter c.args.text.now.items run c.loop-test.true
    (rw c.in-Ok-Over.field-0-is at c.in-Ok-Over.ensures.ok d (plan_through plan run.events) (run.events ++ h) run.playing))

pub returns-then-is_waiting : goal.returns-then-is_waiting
returns-then-is_waiting c = λ d plan h playing.
    let run = c.loop.invariant.1 d plan h playing in
    let waits = waits_by c.in-Err.why (sym c.is_waiting.ensures ∙ c.if-is_waiting.true) in
    let same = c.in-Err.ensures.same (λ e. let both = sym waits.1 ∙ e in absurd (cc)) in
    rw (same, c.loop.invariant.0)
    (run_waits d h plan c.args.actor.now c.loop.world c.loop.counter c.args.text.now.items waits.0 run c.loop-test.true
    (rw waits.1 at c.in-Err.ensures.err d (plan_through plan run.events) (run.events ++ h) run.playing))

pub returns-in-Err : goal.returns-in-Err
returns-in-Err c = λ d plan h playing.
    let run = c.loop.invariant.1 d plan h playing in
    let told = c.in_ok-refuse-in-Err.ensures in
    let same = c.in-Err.ensures.same (no_memory_refused c.in-Err.why told.0 told.1) in
    let text = told.2 ∙ ap (λ t. t ++ refusal_line told.0 c.args.actor.now) c.loop.invariant.0 in
    rw (same, text)
    (run_refused d h plan c.args.actor.now c.loop.world c.loop.counter c.args.text.now.items c.in-Err.why told.0 run c.loop-test.true
    (c.in-Err.ensures.err d (plan_through plan run.events) (run.events ++ h) run.playing) told.1 (λ name. waits_not c.in-Err.why name (sym c.is_waiting.ensures ∙ c.if-is_waiting.false)))

pub returns : goal.returns
returns c = λ d plan h playing.
    let told = c.in_ok-put_refusal.ensures in
    let text = told ∙ ap (λ name. c.loop.text.items ++ refusal_line Steps name) c.as_slice.ensures ∙ ap (λ t. t ++ refusal_line Steps c.args.actor.now) c.loop.invariant.0 in
    rw text
    (run_full d h plan c.args.actor.now c.loop.world c.loop.counter c.args.text.now.items (c.loop.invariant.1 d plan h playing) (omega arith))
