use Rattle.std.proofs.Common.{sym}
use Rattle.fed_injector.proofs.Standing.{cut_stands}
use Rattle.fed_injector.proofs.machine.FedInjector.cut.Goals as goal

pub returns-then-awaits-clause-stands : goal.returns-then-awaits-clause-stands
returns-then-awaits-clause-stands c = λ args past f. cut_stands c.args.self.now.input c.args.self.now.injector args past (sym c.if-awaits.ensures) f
