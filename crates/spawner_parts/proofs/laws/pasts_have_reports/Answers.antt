use Rattle.spawner_parts.proofs.Settled.{each, most, starts}
use Rattle.spawner_parts.proofs.laws.pasts_have_reports.Goals as goal

pub returns-clause-most : goal.returns-clause-most
returns-clause-most c = most

pub returns-clause-each : goal.returns-clause-each
returns-clause-each c = each

pub returns-clause-starts : goal.returns-clause-starts
returns-clause-starts c = starts
