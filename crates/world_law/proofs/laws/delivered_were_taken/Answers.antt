use Rattle.std.proofs.Common.{true}
use Rattle.world_law.proofs.Reported.{were_taken}
use Rattle.world_law.proofs.laws.delivered_were_taken.Goals as goal

pub returns : goal.returns
returns c = were_taken true
