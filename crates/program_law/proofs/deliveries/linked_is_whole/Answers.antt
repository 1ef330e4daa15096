use Rattle.program_law.proofs.Delivery.Events.{linked_is_whole}
use Rattle.program_law.proofs.deliveries.linked_is_whole.Goals as goal

pub returns : goal.returns
returns c = linked_is_whole
