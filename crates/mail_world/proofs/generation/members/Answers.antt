use Rattle.mail_world.proofs.NewCrew.{one_more, seat_filled, seated_new}
use Rattle.mail_world.proofs.generation.members.Goals as goal
