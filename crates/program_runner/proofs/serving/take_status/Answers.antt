use Rattle.std.proofs.Common.{refl, sym, ◌∙◌}
use Rattle.program_runner.proofs.Serves.{status_asked}
use Rattle.program_runner.proofs.serving.take_status.Goals as goal

pub returns-then-is_over : goal.returns-then-is_over
returns-then-is_over g c =
    status_asked c.args.slot c.args.chan c.served_status.result c.ask_status.result c.args.lines.now _ _ _ (sym c.is_over.ensures ∙ c.if-is_over.true) c.served_status.ensures
    c.ask_status.ensures.lines c.ask_status.ensures.asked

pub returns-else-is_over : goal.returns-else-is_over
returns-else-is_over g c = (sym c.is_over.ensures ∙ c.if-is_over.false, refl, refl)
