use Rattle.std.proofs.Common.{Some, sym, ap, ◌∙◌}
use Rattle.std.specs.Option.{option_map}
use Rattle.local_parts.specs.Course.{begun, course_of}
use Rattle.local_parts.proofs.course.course_of.Goals as goal

pub returns-in-Ok : goal.returns-in-Ok
unfolding course_of
returns-in-Ok c = ap Some c.of.ensures ∙ sym (ap (option_map begun) c.in-Ok.ensures.ok)

pub returns-in-Err-BlankFirst : goal.returns-in-Err-BlankFirst
unfolding course_of
returns-in-Err-BlankFirst c =
    let none = rw c.in-Err-BlankFirst.field-0-is at c.in-Err-BlankFirst.ensures.err in
    sym (ap (option_map begun) none)
