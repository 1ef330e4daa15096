use Rattle.std.proofs.Common.{length}
use Rattle.script_lines.proofs.Scripts.{HasRead}
use Rattle.script_lines.proofs.reading.read_script.Given as goal

abbrev pub invariant-loop-rest : goal.invariant-loop-rest
invariant-loop-rest l = HasRead l.bytes l.rest l.script l.number

abbrev pub decreases-loop-rest : goal.decreases-loop-rest
decreases-loop-rest l = length l.rest
