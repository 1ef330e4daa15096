use Rattle.std.proofs.Common.{◌≡◌, drop}
use Rattle.address_rules.specs.Keys.{is_listed}
use Rattle.address_rules.proofs.keys.is_listed.Given as goal

abbrev pub invariant-loop-text : goal.invariant-loop-text
invariant-loop-text l = is_listed (drop l.text-index l.texts) l.key ≡ is_listed l.texts l.key
