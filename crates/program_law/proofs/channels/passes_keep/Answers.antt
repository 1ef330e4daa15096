use Rattle.program_law.proofs.Channel.Passes.{begun_kept}
use Rattle.program_law.proofs.channels.passes_keep.Goals as goal

pub returns : goal.returns
returns c = begun_kept
