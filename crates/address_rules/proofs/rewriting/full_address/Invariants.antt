use Rattle.std.proofs.Common.{◌≡◌, length}
use Rattle.address_rules.specs.Routes.{unhacked}
use Rattle.address_rules.proofs.rewriting.full_address.Given as goal

abbrev pub invariant-loop : goal.invariant-loop
invariant-loop l = unhacked l.controls.percent_hack l.full.items ≡ unhacked l.controls.percent_hack l.initial.full.items

abbrev pub decreases-loop : goal.decreases-loop
decreases-loop l = length l.full.items
