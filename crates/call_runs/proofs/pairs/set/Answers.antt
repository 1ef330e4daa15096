use Rattle.std.proofs.Common.{rules}
use Rattle.call_runs.proofs.Lookups.{number_changed, number_missing, number_pushed}
use Rattle.call_runs.proofs.pairs.set.Goals as goal

pub returns-in-Some : goal.returns-in-Some
returns-in-Some g c = number_changed c.args.pairs.now.items c.args.number c.args.value c.in-Some.at (search rules)

pub returns-in-None : goal.returns-in-None
returns-in-None g c =
    let items = rw c.unwrap.ensures at c.push.ensures.items in
    rw items (number_pushed c.args.pairs.now.items c.args.number c.args.value (number_missing c.args.pairs.now.items c.args.number (search rules)))
