use Rattle.scenario.proofs.FirstDisks.{first_disk}
use Rattle.scenario.proofs.OneFirstDisk.{one_disk}
use Rattle.scenario.proofs.SingleNames.{one_name}
use Rattle.scenario.proofs.laws.one_disk.Goals as goal

pub returns-clause-some : goal.returns-clause-some
returns-clause-some c = first_disk

pub returns-clause-one : goal.returns-clause-one
returns-clause-one c = one_disk

pub returns-clause-names : goal.returns-clause-names
returns-clause-names c = one_name
