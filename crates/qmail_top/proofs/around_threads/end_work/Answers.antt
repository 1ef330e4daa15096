use Rattle.std.proofs.Common.{◌++◌, take, ap, ◌∙◌}
use Rattle.std.proofs.lemmas.Result.{on_ok_weaker}
use Rattle.mem_fs.proofs.InTurn.{told_weaker}
use Rattle.qmail_top.proofs.Working.{gave_well}
use Rattle.qmail_top.proofs.around_threads.end_work.Goals as goal

pub returns-clause-unfailed : goal.returns-clause-unfailed
returns-clause-unfailed g c = λ other. gave_well c.give.result _ _ c.give.ensures.unfailed c.give.ensures.failed other

pub returns-clause-printed : goal.returns-clause-printed
returns-clause-printed g c =
    on_ok_weaker c.give.result
    (λ told. told_weaker (g.O.Sink.taken c.args.out.now) (g.O.Sink.taken c.give.new.out)
    (λ x y e. (c.in_ok-text.text.items, e ∙ ap (λ t. x ++ t) c.deref.ensures.value, c.in_ok-text.ensures.settled)) told)
    c.give.ensures.ok

pub returns-clause-begun : goal.returns-clause-begun
returns-clause-begun g c = λ failed.
    told_weaker (g.O.Sink.taken c.args.out.now) (g.O.Sink.taken c.give.new.out)
    (λ x y e. (e.0, c.in_ok-text.text.items, e.1 ∙ ap (λ t. x ++ take e.0 t) c.deref.ensures.value, c.in_ok-text.ensures.settled))
    (rw failed at c.give.ensures.err)
