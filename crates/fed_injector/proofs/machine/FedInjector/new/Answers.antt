use Rattle.std.proofs.Common.{◌∙◌}
use Rattle.fed_injector.proofs.Standing.{new_stands}
use Rattle.fed_injector.proofs.machine.FedInjector.new.Goals as goal

pub returns-clause-stands : goal.returns-clause-stands
returns-clause-stands c = λ args by none. new_stands c.in_ok-new.field-0 args c.in_ok-new.ensures.waits none
    (λ others so. c.in_ok-new.ensures.stands others (record {
      uid_is = so.uid_is ∙ by.uid_is;
      pid_is = so.pid_is ∙ by.pid_is;
      invoked_is = so.invoked_is ∙ by.invoked_is;
      start_is = so.start_is ∙ by.start_is;
    }))
