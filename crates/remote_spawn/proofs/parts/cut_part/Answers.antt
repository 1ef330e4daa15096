use Rattle.std.proofs.Common.{sym}
use Rattle.remote_spawn.proofs.PartLemmas.{cut_by, uncut}
use Rattle.remote_spawn.proofs.parts.cut_part.Goals as goal

pub returns-in-None-clause-parts : goal.returns-in-None-clause-parts
returns-in-None-clause-parts c = uncut c.args.bytes.now (sym c.in-None.ensures)

pub returns-in-Some-clause-parts : goal.returns-in-Some-clause-parts
returns-in-Some-clause-parts c = cut_by c.args.bytes.now c.in-Some.at (sym c.in-Some.ensures)
