use Rattle.mail_world.proofs.Anew.{begin_anew}
use Rattle.mail_world.proofs.laws.histories_begin_anew.Goals as goal

pub returns : goal.returns
returns c = begin_anew
