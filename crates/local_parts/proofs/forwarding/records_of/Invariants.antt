use Rattle.std.proofs.Common.{◌≡◌, take}
use Rattle.local_parts.proofs.Forwards.{records}
use Rattle.local_parts.proofs.forwarding.records_of.Given as goal

abbrev pub invariant-loop-line : goal.invariant-loop-line
invariant-loop-line l = l.text ≡ records (take l.line-index l.lines)
