use Rattle.std.proofs.Common.{◌∙◌}
use Rattle.send_known.proofs.Undone.{undone, undone_none, undone_nothing}
use Rattle.send_known.proofs.messages.undo.Goals as goal

pub returns-in-Some : goal.returns-in-Some
returns-in-Some c = λ due before h is put_in.
    c.reschedule.ensures ∙ undone c.args.has_file c.args.was due c.args.n before c.args.schedule.now h is put_in c.if-has_file.true c.in-Some.due c.in-Some.is

pub returns-in-None : goal.returns-in-None
returns-in-None c = λ due before h is put_in.
    c.remove.ensures ∙ undone_none c.args.has_file c.args.was due c.args.n before c.args.schedule.now h is put_in c.if-has_file.true c.in-None.is

pub returns-else-has_file : goal.returns-else-has_file
returns-else-has_file c = λ due before h is put_in. undone_nothing c.args.has_file due c.args.n before c.args.schedule.now put_in c.if-has_file.false
