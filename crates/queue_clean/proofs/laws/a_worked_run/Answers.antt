use Rattle.std.proofs.Common.{refl}
use Rattle.mail_bytes.specs.Decimal.{digits, value, number_of}
use Rattle.queue_paths.specs.Names.{path}
use Rattle.queue_clean.specs.Commands.{command_of}
use Rattle.queue_clean.proofs.laws.a_worked_run.Goals as goal

pub returns : goal.returns
unfolding digits value number_of path command_of
returns c = refl
