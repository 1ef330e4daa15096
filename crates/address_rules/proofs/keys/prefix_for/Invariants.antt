use Rattle.std.proofs.Common.{◌≡◌, drop}
use Rattle.address_rules.specs.Keys.{prefix_for}
use Rattle.address_rules.proofs.keys.prefix_for.Given as goal

abbrev pub invariant-loop-line : goal.invariant-loop-line
invariant-loop-line l = prefix_for (drop l.line-index l.lines) l.key ≡ prefix_for l.lines l.key
