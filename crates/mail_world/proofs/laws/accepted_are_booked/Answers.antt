use Rattle.mail_world.proofs.QueuedBooks.{accepted_booked}
use Rattle.mail_world.proofs.laws.accepted_are_booked.Goals as goal

pub returns : goal.returns
returns c = accepted_booked
