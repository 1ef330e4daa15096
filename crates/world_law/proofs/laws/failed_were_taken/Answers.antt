use Rattle.std.proofs.Common.{false}
use Rattle.world_law.proofs.Reported.{were_taken}
use Rattle.world_law.proofs.laws.failed_were_taken.Goals as goal

pub returns : goal.returns
returns c = were_taken false
