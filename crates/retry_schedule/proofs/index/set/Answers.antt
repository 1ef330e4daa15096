use Rattle.std.proofs.Common.{Some}
use Rattle.retry_schedule.proofs.Kept.{sets_from}
use Rattle.retry_schedule.proofs.index.set.Goals as goal

pub returns : goal.returns
returns c = sets_from c.args.moments.now c.insert-was.new.self c.args.n (Some c.args.due) c.insert-was.ensures.ordered (rw c.unwrap.ensures at c.insert-was.ensures.updates)
