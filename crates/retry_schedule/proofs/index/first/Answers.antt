use Rattle.retry_schedule.proofs.Kept.{first_by_index, first_by_walk, is_first, schedule_view}
use Rattle.retry_schedule.proofs.index.first.Goals as goal

pub returns-then-indexed-clause-first : goal.returns-then-indexed-clause-first
returns-then-indexed-clause-first c =
    is_first c.args.moments.now c.args.now _ c.requires.by_number
    (first_by_index c.args.moments.now c.args.index.now c.args.indexed c.args.now c.first_in.result c.requires c.if-indexed.true c.first_in.ensures)

pub returns-then-indexed-clause-is : goal.returns-then-indexed-clause-is
returns-then-indexed-clause-is c = first_by_index c.args.moments.now c.args.index.now c.args.indexed c.args.now c.first_in.result c.requires c.if-indexed.true c.first_in.ensures

pub returns-then-indexed-clause-schedule : goal.returns-then-indexed-clause-schedule
returns-then-indexed-clause-schedule c = schedule_view c.args.moments.now c.requires.by_number

pub returns-else-indexed-clause-is : goal.returns-else-indexed-clause-is
returns-else-indexed-clause-is c = first_by_walk c.args.moments.now c.args.now c.least_in.result c.requires.by_number c.least_in.ensures

pub returns-else-indexed-clause-schedule : goal.returns-else-indexed-clause-schedule
returns-else-indexed-clause-schedule c = schedule_view c.args.moments.now c.requires.by_number
