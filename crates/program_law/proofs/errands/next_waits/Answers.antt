use Rattle.program_law.proofs.Errand.Links.{next_waits}
use Rattle.program_law.proofs.errands.next_waits.Goals as goal

pub returns : goal.returns
returns c = next_waits
