use Rattle.program_law.proofs.Sender.Arrive.{arrived}
use Rattle.program_law.proofs.senders.senders_arrive.Goals as goal

pub returns : goal.returns
returns c = λ now read q a d ready le told h. arrived now read q a le told d ready h
