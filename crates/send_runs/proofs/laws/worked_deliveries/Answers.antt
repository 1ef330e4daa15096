use Rattle.std.proofs.Common.{refl}
use Rattle.call_fs.specs.Maps.{put}
use Rattle.send_runs.proofs.laws.worked_deliveries.Goals as goal

pub returns : goal.returns
unfolding put
returns c = record { count = refl; first = refl; second = refl }
