use Rattle.program_law.proofs.Channel.Ties.{request_kept}
use Rattle.program_law.proofs.channels.requests_keep.Goals as goal

pub returns : goal.returns
returns c = request_kept
