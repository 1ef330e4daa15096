use Rattle.program_law.proofs.Sender.Requests.{requests}
use Rattle.program_law.proofs.senders.requests_keep.Goals as goal

pub returns : goal.returns
returns c = λ now q a ch d read came h. requests now q a ch d read came h
