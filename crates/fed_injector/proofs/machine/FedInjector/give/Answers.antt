use Rattle.fed_injector.proofs.Standing.{give_stands}
use Rattle.fed_injector.proofs.machine.FedInjector.give.Goals as goal

pub returns-clause-stands : goal.returns-clause-stands
returns-clause-stands c = λ args past f. give_stands c.args.self.now.input c.args.self.now.injector args past c.args.message c.args.envelope c.requires f
