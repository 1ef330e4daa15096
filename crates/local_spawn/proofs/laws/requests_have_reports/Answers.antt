use Rattle.local_spawn.proofs.Ends.{each, most}
use Rattle.local_spawn.proofs.laws.requests_have_reports.Goals as goal

pub returns-clause-most : goal.returns-clause-most
returns-clause-most c = most

pub returns-clause-each : goal.returns-clause-each
returns-clause-each c = each
