use Rattle.world_law.proofs.Histories.{attempts_are_sound}
use Rattle.world_law.proofs.laws.attempts_are_sound.Goals as goal

pub returns : goal.returns
returns c = attempts_are_sound
