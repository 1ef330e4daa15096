use Rattle.program_law.proofs.Delivery.Apart.{names_are_apart}
use Rattle.program_law.proofs.deliveries.names_are_apart.Goals as goal

pub returns : goal.returns
returns c = names_are_apart
