use Rattle.std.proofs.Common.{◌≡◌, ◌+◌, ◌≤◌, length}
use Rattle.std.specs.List.{position_from}
use Rattle.address_rules.specs.Lines.{is_bad, lines}
use Rattle.address_rules.proofs.lines.first_bad_line.Given as goal

abbrev pub invariant-loop-rest : goal.invariant-loop-rest
invariant-loop-rest l = record {
  count : l.number + length l.rest ≤ 1 + length l.bytes;
  same : position_from (is_bad l.limit) l.number (lines l.rest) ≡ position_from (is_bad l.limit) 1 (lines l.bytes);
}

abbrev pub decreases-loop-rest : goal.decreases-loop-rest
decreases-loop-rest l = length l.rest
