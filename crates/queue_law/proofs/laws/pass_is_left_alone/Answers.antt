use Rattle.queue_law.proofs.PassesMake.{pass_is_left_alone}
use Rattle.queue_law.proofs.laws.pass_is_left_alone.Goals as goal

pub returns : goal.returns
returns c = pass_is_left_alone
