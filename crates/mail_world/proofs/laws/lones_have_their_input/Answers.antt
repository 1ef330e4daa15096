use Rattle.mail_world.proofs.Lone.{lones_have_their_input}
use Rattle.mail_world.proofs.laws.lones_have_their_input.Goals as goal

pub returns : goal.returns
returns c = lones_have_their_input
