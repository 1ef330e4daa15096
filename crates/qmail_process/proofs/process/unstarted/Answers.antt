use Rattle.std.proofs.Common.{arith, refl}
use Rattle.qmail_process.proofs.process.unstarted.Goals as goal

pub returns-in_default : goal.returns-in_default
returns-in_default c = (2, omega arith, refl)
