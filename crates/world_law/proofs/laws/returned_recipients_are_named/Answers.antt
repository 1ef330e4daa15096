use Rattle.world_law.proofs.Histories.{returned_recipients_are_named}
use Rattle.world_law.proofs.laws.returned_recipients_are_named.Goals as goal

pub returns : goal.returns
returns c = returned_recipients_are_named
