use Rattle.script_lines.proofs.Scripts.{first_cut, first_last}
use Rattle.script_lines.proofs.reading.first_line.Goals as goal

pub returns-in-Some : goal.returns-in-Some
returns-in-Some c = let cut = rw c.in-Some.is at c.cut.ensures in first_cut c.args.bytes.now c.cut.result.0.now c.in-Some.after.now cut

pub returns-in-None : goal.returns-in-None
returns-in-None c = let cut = rw c.in-None.is at c.cut.ensures in first_last c.args.bytes.now c.cut.result.0.now c.requires cut
