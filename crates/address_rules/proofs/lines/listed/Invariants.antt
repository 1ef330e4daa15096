use Rattle.std.proofs.Common.{◌≡◌, ◌++◌, length}
use Rattle.address_rules.specs.Lines.{listed}
use Rattle.address_rules.proofs.lines.listed.Given as goal

abbrev pub invariant-loop-rest : goal.invariant-loop-rest
invariant-loop-rest l = l.texts.items ++ listed l.rest ≡ listed l.bytes

abbrev pub decreases-loop-rest : goal.decreases-loop-rest
decreases-loop-rest l = length l.rest
