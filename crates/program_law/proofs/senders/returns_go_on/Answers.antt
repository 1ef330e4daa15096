use Rattle.program_law.proofs.Sender.Returns.{returns_go_on as law}
use Rattle.program_law.proofs.senders.returns_go_on.Goals as goal

pub returns : goal.returns
returns c = law
