use Rattle.retry_schedule.proofs.Kept.{view_gone}
use Rattle.retry_schedule.proofs.due.Due.remove.Goals as goal

pub invariant_of-self : goal.invariant_of-self
invariant_of-self c = c.take_out.ensures.kept c.self.inside.indexed c.self.invariant

pub returns : goal.returns
returns c = rw (← c.self.view_is) (view_gone c.self.inside.moments c.self.invariant.by_number c.take_out.new.moments c.args.n c.take_out.ensures.sets)
