use Rattle.std.proofs.Common.{sym, ◌∙◌}
use Rattle.std.proofs.lemmas.Result.{err_from_is_err_and}
use Rattle.script_lines.proofs.LineHeads.{report_line}
use Rattle.script_lines.proofs.reading.read_report_line.Goals as goal

pub returns-in_err-slot-clause-err : goal.returns-in_err-slot-clause-err
returns-in_err-slot-clause-err c =
    let p = err_from_is_err_and c.from_residual.result c.from_residual.ensures.1 in
    rw p.1 (λ malformed h. c.in_err-slot.ensures.err (sym p.2 ∙ malformed) h.0 h.1 h.2 h.3)

pub returns-clause-ok : goal.returns-clause-ok
returns-clause-ok c = report_line c.args.words.now c.in_ok-slot.slot c.in_ok-slot.letter c.in_ok-slot.text c.in_ok-slot.ensures.ok
