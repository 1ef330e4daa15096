use Rattle.local_parts.proofs.Courses.{upto_then, after_then, upto_else, after_else, within_else}
use Rattle.local_parts.proofs.course.through_work.Goals as goal

pub returns-then-forwards-lines-clause-upto : goal.returns-then-forwards-lines-clause-upto
returns-then-forwards-lines-clause-upto c = upto_then c.args.lines.now c.forwards_in-forwards.result c.forwards_in-forwards.ensures c.if-forwards-lines.true

pub returns-then-forwards-lines-clause-after : goal.returns-then-forwards-lines-clause-after
returns-then-forwards-lines-clause-after c = after_then c.args.lines.now c.forwards_in-forwards.result c.forwards_in-forwards.ensures c.if-forwards-lines.true

pub returns-else-forwards-lines-clause-upto : goal.returns-else-forwards-lines-clause-upto
returns-else-forwards-lines-clause-upto c = upto_else c.args.lines.now c.forwards_in-forwards.result c.forwards_in-forwards.ensures c.if-forwards-lines.false

pub returns-else-forwards-lines-clause-after : goal.returns-else-forwards-lines-clause-after
returns-else-forwards-lines-clause-after c = after_else c.args.lines.now c.forwards_in-forwards.result c.forwards_in-forwards.ensures c.if-forwards-lines.false

pub returns-else-forwards-lines-clause-within : goal.returns-else-forwards-lines-clause-within
returns-else-forwards-lines-clause-within c = within_else c.args.lines.now c.forwards_in-forwards.result c.forwards_in-forwards.ensures
