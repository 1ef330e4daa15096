use Rattle.program_runner.proofs.Heard.{kept_all, kept_lost, kept_more, kept_nothing, kept_on}
use Rattle.program_runner.proofs.lines.Lines.gather.Goals as goal

pub loop-init : goal.loop-init
loop-init g c = kept_nothing _ _

pub returns-in-Ok-true : goal.returns-in-Ok-true
returns-in-Ok-true g c = kept_all _ _ _ _ _ _ c.loop.invariant c.hear.result _ c.in-Ok-true.is c.in-Ok-true.field-0-test c.hear.ensures

pub returns-in-Err : goal.returns-in-Err
returns-in-Err g c = kept_lost _ _ _ _ _ _ c.loop.invariant c.hear.result c.hear.ensures

pub loop-preserved : goal.loop-preserved
loop-preserved g c = kept_more _ _ _ _ _ _ c.loop.invariant c.hear.result _ c.in-Ok-false.is c.in-Ok-false.field-0-test c.hear.ensures

pub returns : goal.returns
returns g c = kept_on _ _ _ _ c.loop.invariant
