use Rattle.std.proofs.Common.{ℕ, List, [], ap, ◌∙◌, subst}
use Rattle.queue_inject.specs.declared.injection.Arguments.{Arguments}
use Rattle.fed_injector.specs.Inputs.{FedStands, with_input}
use Rattle.fed_injector.proofs.machine.FedInjector.given.Goals as goal

pub returns-clause-stands : goal.returns-clause-stands
returns-clause-stands c = λ args started none.
    subst (λ (x : Arguments). FedStands c.give.new.self x [])
    (ap (λ (m : List ℕ). with_input m c.in_ok-envelope.envelope args) c.in_ok-message.ensures ∙ ap (λ (e : List ℕ). with_input c.args.message.now e args) c.in_ok-envelope.ensures)
    (c.give.ensures.stands args [] (c.in_ok-injector.ensures.stands args started none))
