use Rattle.world_law.proofs.Reported.{ledgers_are_of_reports}
use Rattle.world_law.proofs.laws.ledgers_are_of_reports.Goals as goal

pub returns : goal.returns
returns c = ledgers_are_of_reports
