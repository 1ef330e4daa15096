use Rattle.send_core.proofs.Agreed.{lanes_agree}
use Rattle.send_core.proofs.laws.lanes_are_accounts.Goals as goal

pub returns : goal.returns
returns c = lanes_agree
