use Rattle.program_runner.proofs.lines.Lines.take_of_program.Goals as goal

pub returns-clause-ok : goal.returns-clause-ok
returns-clause-ok c = (c.take_of.new.self, c.in_ok-served.ensures.ok, c.note_served.ensures)
