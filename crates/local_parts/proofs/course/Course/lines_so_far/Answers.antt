use Rattle.std.proofs.Common.{◌≡◌, ◌+◌, take, sym, ap, ◌∙◌, subst}
use Rattle.local_parts.specs.Course.{Course, cut, lines_of, up_to_work}
use Rattle.local_parts.proofs.Courses.{so_far}
use Rattle.local_parts.proofs.course.Course.lines_so_far.Goals as goal

pub returns : goal.returns
returns c =
    let next = c.self.inside.next in
    let k = c.through_work.result in
    let ahead = c.ahead.ensures ∙ ap (λ (x : Course). x.ahead) (sym c.self.view_is) in
    ap (take (next + k)) c.deref.ensures.value
    ∙ so_far c.self.inside.lines.items next k (subst (λ xs. take k xs ≡ up_to_work xs) ahead c.through_work.ensures.upto)
    ∙ ap (λ (x : Course). lines_of (cut x)) c.self.view_is
