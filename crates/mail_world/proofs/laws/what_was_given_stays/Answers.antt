use Rattle.mail_world.proofs.Lone.{what_was_given_stays}
use Rattle.mail_world.proofs.laws.what_was_given_stays.Goals as goal

pub returns : goal.returns
returns c = what_was_given_stays
