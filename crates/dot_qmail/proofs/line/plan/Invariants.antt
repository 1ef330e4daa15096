use Rattle.std.proofs.Common.{◌≡◌, ◌++◌, length, drop}
use Rattle.std.specs.List.{filter_map}
use Rattle.dot_qmail.specs.Lines.{lines, line_of}
use Rattle.dot_qmail.proofs.line.plan.Given as goal

abbrev pub invariant-loop-line : goal.invariant-loop-line
invariant-loop-line l = l.told.items ++ filter_map line_of (drop (length l.yielded) (lines l.bytes)) ≡ filter_map line_of (lines l.bytes)
