use Rattle.mail_world.proofs.Kept.{events_leave}
use Rattle.mail_world.proofs.laws.events_leave.Goals as goal

pub returns : goal.returns
returns c = events_leave
