use Rattle.queue_law.proofs.Claims.{sound_is_safe}
use Rattle.queue_law.proofs.laws.sound_is_safe.Goals as goal

pub returns : goal.returns
returns c = sound_is_safe
