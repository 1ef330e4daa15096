use Rattle.std.proofs.Common.{refl}
use Rattle.mail_bytes.specs.Decimal.{digits, number_of, value}
use Rattle.queue_clean.specs.Commands.{command_of}
use Rattle.program_law.proofs.errands.a_worked_errand.Goals as goal

pub returns : goal.returns
unfolding digits number_of value command_of
returns c = record { waits = refl; works = (refl, refl); ends = (refl, refl) }
