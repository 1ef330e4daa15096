use Rattle.program_law.proofs.Sender.Exist.{controls_exist}
use Rattle.program_law.proofs.senders.controls_exist.Goals as goal

pub returns : goal.returns
returns c = controls_exist
