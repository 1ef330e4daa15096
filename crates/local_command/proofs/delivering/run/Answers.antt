use Rattle.std.proofs.Common.{Ok, ap, arith, ◌∙◌}
use Rattle.local_deliver.specs.Stands.{Stands}
use Rattle.local_command.proofs.Runs.{as_long, begins, may_go_on, stepped_last, stepped_on, stepped_to_end}
use Rattle.local_command.proofs.delivering.run.Goals as goal

pub loop-init : goal.loop-init
loop-init g c = λ args s. begins (g.C.ChildWords.words c.args.words.now) args (g.K.Clock.last c.args.clock.now) (Stands c.args.machine.now) _ _ s (omega arith)

pub step-requires : goal.step-requires
step-requires g c = record {
  may = may_go_on (g.C.ChildWords.words c.args.words.now) c.requires.0 (Stands c.loop.machine) c.loop.injector (g.K.Clock.last c.args.clock.now) c.loop.counter _ _ _ _
      c.forwards_are_fed.ensures.given c.forwards_are_fed.ensures.taken (c.loop.invariant c.requires.0 c.requires.1);
}

pub returns-in-Ok-Some : goal.returns-in-Ok-Some
returns-in-Ok-Some g c = λ args s.
    stepped_to_end (g.C.ChildWords.words c.args.words.now) args (g.K.Clock.last c.args.clock.now) (Stands c.loop.machine) c.loop.injector c.step.new.injector c.loop.counter _ _ _ _ _ _ (c.loop.invariant args s)
    (Stands c.step.new.machine) c.step.result c.in-Ok-Some.status (c.in-Ok-Some.is ∙ ap Ok c.in-Ok-Some.field-0-is) c.step.ensures

pub returns-in-Err : goal.returns-in-Err
returns-in-Err g c = λ args s.
    stepped_last (g.C.ChildWords.words c.args.words.now) args (g.K.Clock.last c.args.clock.now) (Stands c.loop.machine) c.loop.injector c.step.new.injector c.loop.counter _ _ _ _ _ _ (c.loop.invariant args s)
    (Stands c.step.new.machine) c.step.result c.in-Err.memory c.in-Err.memory c.in-Err.is c.step.ensures

pub loop-preserved : goal.loop-preserved
loop-preserved g c = λ args s.
    stepped_on (g.C.ChildWords.words c.args.words.now) args (g.K.Clock.last c.args.clock.now) (Stands c.loop.machine) c.loop.injector c.step.new.injector c.loop.counter _ _ _ _ _ _ (c.loop.invariant args s)
    (Stands c.step.new.machine) c.step.result (c.in-Ok-None.is ∙ ap Ok c.in-Ok-None.field-0-is) c.step.ensures

pub returns : goal.returns
returns g c = λ args s. as_long (g.C.ChildWords.words c.args.words.now) args (g.K.Clock.last c.args.clock.now) (Stands c.loop.machine) c.loop.injector c.loop.counter _ _ _ _ (omega arith) (c.loop.invariant args s)
