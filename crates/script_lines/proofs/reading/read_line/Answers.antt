use Rattle.script_lines.proofs.ContentTexts.{not_read}
use Rattle.script_lines.proofs.reading.read_line.Goals as goal

pub returns-in-Some-clause-err : goal.returns-in-Some-clause-err
returns-in-Some-clause-err c =
    let is = rw c.in-Some.is at c.in_ok-entry.ensures.some in
    not_read c.args.text.now c.args.script.now c.in-Some.entry c.is_remark.result c.put_entry.result is.0 c.is_remark.ensures c.if-is_remark.false c.put_entry.ensures.err
