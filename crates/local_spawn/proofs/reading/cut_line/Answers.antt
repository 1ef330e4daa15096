use Rattle.std.proofs.Common.{sym}
use Rattle.local_spawn.proofs.FileLemmas.{cut_by, uncut}
use Rattle.local_spawn.proofs.reading.cut_line.Goals as goal

pub returns-in-Some-clause-line : goal.returns-in-Some-clause-line
returns-in-Some-clause-line c = cut_by c.args.text.now c.in-Some.at (sym c.in-Some.ensures)

pub returns-in-None-clause-line : goal.returns-in-None-clause-line
returns-in-None-clause-line c = uncut c.args.text.now c.requires (sym c.in-None.ensures)
