use Rattle.call_runs.proofs.Lookups.{name_pushed}
use Rattle.call_runs.proofs.pairs.add_name.Goals as goal

pub returns : goal.returns
returns c =
    let items = rw c.unwrap.ensures at c.push.ensures.items in
    rw items (name_pushed c.args.names.now.items c.args.name c.args.number c.requires.free)
