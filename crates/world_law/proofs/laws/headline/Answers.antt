use Rattle.world_law.proofs.Promise.{headline}
use Rattle.world_law.proofs.laws.headline.Goals as goal

pub returns : goal.returns
returns c = headline
