use Rattle.std.proofs.Common.{refl}
use Rattle.mail_bytes.specs.Decimal.{digits, value, number_of}
use Rattle.queue_paths.specs.Names.{path, parse}
use Rattle.local_spawn.proofs.laws.worked_runs.Goals as goal

pub returns-clause-delivery : goal.returns-clause-delivery
unfolding digits value number_of path parse
returns-clause-delivery c = refl

pub returns-clause-refusals : goal.returns-clause-refusals
unfolding digits value number_of path parse
returns-clause-refusals c = refl

pub returns-clause-troubles : goal.returns-clause-troubles
unfolding digits value number_of path parse
returns-clause-troubles c = refl
