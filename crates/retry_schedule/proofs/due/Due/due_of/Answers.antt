use Rattle.retry_schedule.proofs.Kept.{due_of_view}
use Rattle.retry_schedule.proofs.due.Due.due_of.Goals as goal

pub returns : goal.returns
returns c = rw (← c.self.view_is) (due_of_view c.self.inside.moments c.self.invariant.by_number c.args.n c.due_of.result c.due_of.ensures)
