use Rattle.queue_paths.proofs.Paths.{exact}
use Rattle.queue_paths.proofs.laws.names_are_exact.Goals as goal

pub returns : goal.returns
returns c = exact
