use Rattle.std.proofs.Common.{◌≡◌, drop}
use Rattle.address_rules.specs.Keys.{first_prefix, dot_suffixes}
use Rattle.address_rules.proofs.keys.prefix_for_suffix.Given as goal

abbrev pub invariant-loop-at : goal.invariant-loop-at
invariant-loop-at l = first_prefix l.lines (dot_suffixes (drop l.at l.domain)) ≡ first_prefix l.lines (dot_suffixes l.domain)
