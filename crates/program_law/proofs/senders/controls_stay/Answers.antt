use Rattle.program_law.proofs.Sender.ControlsStay.{controls_stay}
use Rattle.program_law.proofs.senders.controls_stay.Goals as goal

pub returns : goal.returns
returns c = controls_stay
