use Rattle.mail_world.proofs.Waiting.{mails_wait}
use Rattle.mail_world.proofs.laws.mails_wait.Goals as goal

pub returns : goal.returns
returns c = mails_wait
