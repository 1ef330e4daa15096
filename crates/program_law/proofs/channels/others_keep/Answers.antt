use Rattle.program_law.proofs.Channel.Ties.{others_kept}
use Rattle.program_law.proofs.channels.others_keep.Goals as goal

pub returns : goal.returns
returns c = others_kept
