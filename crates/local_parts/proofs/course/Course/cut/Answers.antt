use Rattle.std.proofs.Common.{◌≡◌, ◌+◌, take, drop, ap, ◌∙◌, subst}
use Rattle.local_parts.specs.Course.{cut, up_to_work}
use Rattle.local_parts.proofs.Courses.{at_line, cut_is, rest_is}
use Rattle.local_parts.proofs.course.Course.cut.Goals as goal

pub returns : goal.returns
returns c =
    let next = c.self.inside.next in
    let k = c.through_work.result in
    let ahead = rest_is next c.deref.result.now ∙ ap (drop next) c.deref.ensures.value in
    ap (λ xs. at_line xs (next + k)) c.truncate.ensures.items
    ∙ cut_is c.self.inside.lines.items next k (subst (λ xs. take k xs ≡ up_to_work xs) ahead c.through_work.ensures.upto)
    ∙ ap cut c.self.view_is
