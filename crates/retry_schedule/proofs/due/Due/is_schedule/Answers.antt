use Rattle.retry_schedule.proofs.Kept.{schedule_view}
use Rattle.retry_schedule.proofs.due.Due.is_schedule.Goals as goal

pub returns : goal.returns
returns c = rw (← c.self.view_is) (schedule_view c.self.inside.moments c.self.invariant.by_number)
