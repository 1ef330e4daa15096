use Rattle.std.proofs.Common.{sym}
use Rattle.script_lines.proofs.Scripts.{remark_first, remark_none}
use Rattle.script_lines.proofs.reading.is_remark.Goals as goal

pub returns-in-Some : goal.returns-in-Some
returns-in-Some c = let is = rw c.in-Some.is at c.first.ensures.value in remark_first c.args.text.now c.in-Some.first.now (sym is)

pub returns-in-None : goal.returns-in-None
returns-in-None c = let is = rw c.in-None.is at c.first.ensures.value in remark_none c.args.text.now (sym is)
