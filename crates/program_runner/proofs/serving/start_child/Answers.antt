use Rattle.program_runner.proofs.Serves.{begun}
use Rattle.program_runner.proofs.serving.start_child.Goals as goal

pub returns-clause-started : goal.returns-clause-started
returns-clause-started g c = begun _ _ _ c.start-started.result c.start-started.ensures
