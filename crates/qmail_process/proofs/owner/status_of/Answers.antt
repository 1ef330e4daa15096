use Rattle.std.proofs.Common.{arith, refl}
use Rattle.qmail_process.proofs.owner.status_of.Goals as goal

pub returns-in-local : goal.returns-in-local
returns-in-local c = (4, omega arith, refl)
