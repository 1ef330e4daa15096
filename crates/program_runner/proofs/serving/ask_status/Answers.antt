use Rattle.program_runner.proofs.Serves.{asked_status}
use Rattle.program_runner.proofs.serving.ask_status.Goals as goal

pub returns-clause-asked : goal.returns-clause-asked
returns-clause-asked g c = asked_status _ _ c.args.chan c.status.result c.status.ensures.same c.status.ensures.told c.status.ensures.cause
