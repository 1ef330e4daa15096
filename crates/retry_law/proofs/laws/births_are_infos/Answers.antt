use Rattle.retry_law.proofs.Infos.{births_are_infos}
use Rattle.retry_law.proofs.laws.births_are_infos.Goals as goal

pub returns : goal.returns
returns c = births_are_infos
