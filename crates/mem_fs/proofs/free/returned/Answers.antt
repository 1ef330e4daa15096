use Rattle.std.proofs.Common.{rules}
use Rattle.mem_fs.proofs.Indexed.{returned_below, returned_in}
use Rattle.mem_fs.proofs.free.returned.Goals as goal

pub returns-in-Ok : goal.returns-in-Ok
returns-in-Ok c = returned_in c.args.files.now c.args.free.now c.args.low c.args.number c.requires.indexed c.insert.new.self (search rules) c.in-Ok.ensures.updates

pub returns-in-Err : goal.returns-in-Err
returns-in-Err c = returned_below c.args.files.now c.args.free.now c.args.low c.args.number c.requires.indexed c.insert.new.self (search rules) c.in-Err.ensures.err

-- Of the early end the goals are two, by which test held: `returned_as_was` with `inl` of the first and `inr` of the second.
