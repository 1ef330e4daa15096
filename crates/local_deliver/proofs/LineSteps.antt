-- Going on to the next line, as it is computed before the lines are passed.
use Rattle.std.proofs.Common.{◌≡◌, ℕ, List, refl, sym, ap, ◌∙◌}
use Rattle.local_parts.specs.declared.arguments.LocalArgs.{LocalArgs}
use Rattle.local_parts.specs.Course.{Course, Work, after_work, cut, lines_of, passed, work_of}
use Rattle.local_parts.specs.Course.Work.{Nothing, ToCommand, ToMaildir, ToMailbox}
use Rattle.dot_qmail.specs.declared.line.Line.{Line}
use Rattle.local_parts.specs.Forwarding.{injection_of}
use Rattle.local_parts.proofs.Courses.{lines_stay}
use Rattle.local_deliver.specs.declared.place.Place.{Place}
use Rattle.local_deliver.specs.declared.step.Step.{Step}
use Rattle.local_deliver.specs.Table.{last_step, line_done, lines_done, step_of, takes}

-- of where it stands only the message, the names and the host count
step_same : (args : LocalArgs) (now : ℕ) (w : Work) (lines : List Line) (p : Place) (c : Course) → step_of args now w lines p ≡ step_of args now w lines (record p { course = c })
step_same args now Nothing lines p c = refl
step_same args now (ToCommand text) lines p c = refl
step_same args now (ToMaildir path) lines p c = refl
step_same args now (ToMailbox path) lines p c = refl

pub line_done_is : (args : LocalArgs) (now : ℕ) (p : Place) (s : Step) → s ≡ step_of args now (work_of (after_work p.course.ahead)) (lines_of p.course) p
    → takes s (record p { course = passed p.course }) ≡ line_done args now p
line_done_is args now p s e =
    ap (λ t. takes t (record p { course = passed p.course }))
    (e ∙ ap (λ ls. step_of args now (work_of (after_work p.course.ahead)) ls p) (sym (lines_stay p.course))
    ∙ step_same args now (work_of (after_work p.course.ahead)) (lines_of (passed p.course)) p (passed p.course))

pub lines_done_is : (args : LocalArgs) (now : ℕ) (p : Place) (s : Step) → s ≡ last_step (injection_of args p.names p.message (lines_of (cut p.course))) (lines_of (cut p.course))
    → takes s (record p { course = cut p.course }) ≡ lines_done args now p
lines_done_is args now p s e = ap (λ t. takes t (record p { course = cut p.course })) e
