use Rattle.std.proofs.Common.{◌∙◌, subst}
use Rattle.queue_inject.specs.inside.Fields.{IsInStep}
use Rattle.queue_inject.proofs.Needs.{due_stands}
use Rattle.queue_inject.proofs.machine.Injector.need.Goals as goal

pub returns-clause-stands : goal.returns-clause-stands
returns-clause-stands c = λ args past s. c.due.ensures ∙ due_stands c.args.self.now args past (subst IsInStep c.self.view_is c.self.invariant) s

pub returns-clause-step : goal.returns-clause-step
returns-clause-step c = subst IsInStep c.self.view_is c.self.invariant
