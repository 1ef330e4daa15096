use Rattle.program_law.proofs.Sender.Points.{sweeps_lead}
use Rattle.program_law.proofs.senders.sweeps_lead.Goals as goal

pub returns : goal.returns
returns c = sweeps_lead
