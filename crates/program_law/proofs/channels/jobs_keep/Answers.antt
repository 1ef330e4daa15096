use Rattle.program_law.proofs.Channel.Passes.{done_all, none_kept, over_kept}
use Rattle.program_law.proofs.channels.jobs_keep.Goals as goal

pub returns : goal.returns
returns c = record { all_done = done_all; over = over_kept; none = none_kept }
