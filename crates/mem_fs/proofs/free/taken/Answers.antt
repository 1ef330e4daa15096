use Rattle.std.proofs.Common.{arith}
use Rattle.mem_fs.proofs.Indexed.{taken_at, taken_below}
use Rattle.mem_fs.proofs.free.taken.Goals as goal

pub returns-then-number-low : goal.returns-then-number-low
returns-then-number-low c = taken_below c.args.files.now c.args.free.now c.remove.new.self c.args.low c.args.number c.requires c.remove.ensures.updates

pub returns : goal.returns
returns c =
    taken_at c.args.files.now c.args.free.now c.remove.new.self c.args.low c.args.number c.requires c.remove.ensures.updates c.saturating_add.result c.if-number-low.false
    (omega (arith, c.requires.positive, c.saturating_add.ensures)) (omega (arith, c.saturating_add.ensures))
