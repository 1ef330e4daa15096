use Rattle.std.proofs.Common.{◌∙◌}
use Rattle.retry_schedule.proofs.Kept.{is_due_view}
use Rattle.retry_schedule.proofs.due.Due.is_due.Goals as goal

pub returns : goal.returns
returns c = c.is_some.ensures ∙ (rw (← c.self.view_is) (is_due_view c.self.inside.moments c.self.invariant.by_number c.args.n c.due_of.result c.due_of.ensures))
