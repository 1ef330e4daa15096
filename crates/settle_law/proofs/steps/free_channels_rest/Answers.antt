use Rattle.settle_law.proofs.FreeChannels.{rests_free}
use Rattle.settle_law.proofs.steps.free_channels_rest.Goals as goal

pub returns : goal.returns
returns c = rests_free
