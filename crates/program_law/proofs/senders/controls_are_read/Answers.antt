use Rattle.program_law.proofs.Sender.ControlsRead.{controls_are_read}
use Rattle.program_law.proofs.senders.controls_are_read.Goals as goal

pub returns : goal.returns
returns c = controls_are_read
