use Rattle.std.proofs.Common.{◌≡◌, Some, ◌∙◌, rules}
use Rattle.std.specs.Ordering.{nat_cmp}
use Rattle.std.specs.BTreeMap.{get}
use Rattle.script_fates.specs.Fates.{spot_of}
use Rattle.script_fates.proofs.Lives.{delivered_here}
use Rattle.script_fates.proofs.fates.Fates.is_delivered.Goals as goal

pub returns-in-Some : goal.returns-in-Some
returns-in-Some c = λ books h is.
    let there : get nat_cmp c.args.self.now.living c.args.n ≡ Some c.in-Some.tenure.now = search rules in
    c.has.ensures ∙ delivered_here c.args.self.now books (spot_of c.args.spot) c.args.mail.now c.args.n c.in-Some.tenure.now h is there (search rules)
