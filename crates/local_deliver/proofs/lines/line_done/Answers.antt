use Rattle.std.proofs.Common.{ap, ◌∙◌}
use Rattle.local_parts.specs.Course.{after_work, work_of}
use Rattle.local_deliver.specs.declared.place.Place.{Place}
use Rattle.local_deliver.specs.Table.{step_of, takes}
use Rattle.local_deliver.proofs.LineSteps.{line_done_is}
use Rattle.local_deliver.proofs.lines.line_done.Goals as goal

pub returns-clause-ok : goal.returns-clause-ok
returns-clause-ok c =
    let p : Place = c.args.place.now in
    let args = c.args.args.now in
    let now = c.args.now in
    c.takes.ensures ∙ ap (λ k. takes c.in_ok-step.step (record p { course = k })) c.pass.ensures
    ∙ line_done_is args now p c.in_ok-step.step
    (c.in_ok-step.ensures ∙ ap (λ w. step_of args now w c.lines.result.now p) c.later_work.ensures
    ∙ ap (λ ls. step_of args now (work_of (after_work p.course.ahead)) ls p) c.lines.ensures)
