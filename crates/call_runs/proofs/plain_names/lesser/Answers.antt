use Rattle.call_runs.proofs.Least.{not_above_itself}
use Rattle.call_runs.proofs.plain_names.lesser.Goals as goal

pub returns-in-None-clause-part : goal.returns-in-None-clause-part
returns-in-None-clause-part c = not_above_itself c.args.part.now
