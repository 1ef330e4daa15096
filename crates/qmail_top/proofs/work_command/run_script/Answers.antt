use Rattle.std.proofs.Common.{◌++◌, Err, inl, inr, refl, sym, ap, ◌∙◌, subst}
use Rattle.mail_world.specs.LivingMails.{AreLivingMails}
use Rattle.mem_fs.proofs.InTurn.{told_weaker}
use Rattle.scenario.proofs.WorkedSteps.{turns_worked}
use Rattle.qmail_top.proofs.Working.{worked}
use Rattle.qmail_top.proofs.work_command.run_script.Goals as goal

pub run_threads-requires-clause-mails : goal.run_threads-requires-clause-mails
run_threads-requires-clause-mails g c = λ κs lives. subst (AreLivingMails c.in_ok-begun.begun.world.events) (sym c.deref.ensures.value) c.in_ok-begun.ensures.mails

pub returns-in-Ok-clause-printed : goal.returns-in-Ok-clause-printed
returns-in-Ok-clause-printed g c =
    let b = c.in_ok-begun.ensures.begun in
    let run = rw c.deref.ensures.value at c.in_ok-worked.ensures in
    let w = turns_worked b.disk b.left b.deeds c.in_ok-begun.begun.world c.in_ok-worked.worked run.turns b.playing run.replay (c.end_work.ensures.ample (λ e. let both = sym c.in-Ok.is ∙ e in absurd (cc))) in
    told_weaker (g.O.Sink.taken c.args.out.now) (g.O.Sink.taken c.end_work.new.out)
    (λ x y took. (
      took.0,
      worked c.args.script.now.opening c.args.script.now.lines c.in_ok-begun.begun.world c.in_ok-worked.worked c.in_ok-begun.begun.mails.items took.0 c.in_ok-begun.ensures.mails b run w (took.2 b.disk _ (w.deeds ++ b.deeds) w.playing),
      took.1,
    ))
    c.in-Ok.ensures.printed

pub returns-in-Err-Failed-clause-begun : goal.returns-in-Err-Failed-clause-begun
returns-in-Err-Failed-clause-begun g c =
    let is = c.in-Err-Failed.is ∙ ap Err c.in-Err-Failed.field-0-is in
    let b = c.in_ok-begun.ensures.begun in
    let run = rw c.deref.ensures.value at c.in_ok-worked.ensures in
    let w = turns_worked b.disk b.left b.deeds c.in_ok-begun.begun.world c.in_ok-worked.worked run.turns b.playing run.replay (c.end_work.ensures.ample (λ e. let both = sym is ∙ e in absurd (cc))) in
    λ failed. told_weaker (g.O.Sink.taken c.args.out.now) (g.O.Sink.taken c.end_work.new.out)
    (λ x y took. (
      took.1,
      took.0,
      worked c.args.script.now.opening c.args.script.now.lines c.in_ok-begun.begun.world c.in_ok-worked.worked c.in_ok-begun.begun.mails.items took.1 c.in_ok-begun.ensures.mails b run w (took.3 b.disk _ (w.deeds ++ b.deeds) w.playing),
      took.2,
    ))
    (c.end_work.ensures.begun is)

pub returns-in-Err-Failed-clause-cause : goal.returns-in-Err-Failed-clause-cause
returns-in-Err-Failed-clause-cause g c =
    let is = c.in-Err-Failed.is ∙ ap Err c.in-Err-Failed.field-0-is in
    inl (refl, (rw is at c.end_work.ensures.cause) refl)

pub returns-clause-cause : goal.returns-clause-cause
returns-clause-cause g c = inr (refl, c.end_work.ensures.unwritten (c.in-Err-Memory.is ∙ ap Err c.in-Err-Memory.field-0-is))
