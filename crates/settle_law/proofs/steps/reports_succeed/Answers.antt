use Rattle.settle_law.proofs.Succeeding.{reports_succeed}
use Rattle.settle_law.proofs.steps.reports_succeed.Goals as goal

pub returns : goal.returns
returns c = reports_succeed
