use Rattle.std.proofs.Common.{◌≡◌, ◌++◌, drop}
use Rattle.std.specs.List.{filter_map}
use Rattle.address_rules.specs.Lines.{virtual_of}
use Rattle.address_rules.proofs.lines.virtual_domains.Given as goal

abbrev pub invariant-loop-line : goal.invariant-loop-line
invariant-loop-line l = l.found.items ++ filter_map virtual_of (drop l.line-index l.lines) ≡ filter_map virtual_of l.lines
