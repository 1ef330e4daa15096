use Rattle.queue_clean.proofs.Texts.{exact}
use Rattle.queue_clean.proofs.laws.commands_are_exact.Goals as goal

pub returns : goal.returns
returns c = exact
