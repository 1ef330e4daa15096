use Rattle.program_law.proofs.Sender.Writes.{marks}
use Rattle.program_law.proofs.senders.marks_keep.Goals as goal

pub returns : goal.returns
returns c = λ now q a child row m d read call told wrote G h due fits given. marks now q a child G m d read told wrote row call h due fits given
