use Rattle.script_lines.proofs.reading.put_entry.Goals as goal

pub returns-clause-ok : goal.returns-clause-ok
returns-clause-ok c = (c.follows.ensures.0 c.if-not-follows.false, c.in_ok-put_entry.ensures)
