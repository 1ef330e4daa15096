use Rattle.std.proofs.Common.{◌∙◌}
use Rattle.local_parts.proofs.Courses.{work_none, work_there}
use Rattle.local_parts.proofs.course.work_in.Goals as goal

pub returns-then-forwards-lines : goal.returns-then-forwards-lines
returns-then-forwards-lines c =
    c.work_at.ensures
    ∙ work_there c.args.lines.now c.forwards_in-forwards.result c.index-lines-forwards.result c.forwards_in-forwards.ensures c.if-forwards-lines.true c.index-lines-forwards.is

pub returns-else-forwards-lines : goal.returns-else-forwards-lines
returns-else-forwards-lines c = work_none c.args.lines.now c.forwards_in-forwards.result c.forwards_in-forwards.ensures c.if-forwards-lines.false
