use Rattle.program_law.proofs.Sender.Returns.{finishes_lead as law}
use Rattle.program_law.proofs.senders.finishes_lead.Goals as goal

pub returns : goal.returns
returns c = law
