use Rattle.retry_law.proofs.Gone.{known_are_gone, missing_are_gone}
use Rattle.retry_law.proofs.laws.missing_are_gone.Goals as goal

pub returns : goal.returns
returns c = record { past = missing_are_gone; known = known_are_gone }
