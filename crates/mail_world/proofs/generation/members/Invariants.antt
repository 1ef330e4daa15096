use Rattle.mail_world.proofs.NewCrew.{AreNewBelow}
use Rattle.mail_world.proofs.generation.members.Given as goal

abbrev pub invariant-loop-seat : goal.invariant-loop-seat
invariant-loop-seat l = AreNewBelow l.seat l.crew.items
