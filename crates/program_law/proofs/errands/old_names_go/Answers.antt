use Rattle.program_law.proofs.Errand.OldNames.{old_names_go}
use Rattle.program_law.proofs.errands.old_names_go.Goals as goal

pub returns : goal.returns
returns c = old_names_go
