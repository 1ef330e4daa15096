use Rattle.std.proofs.Common.{arith}
use Rattle.host_fs.proofs.Slots.{vacant_after, same_after}
use Rattle.host_fs.proofs.table.Table.make_room.Goals as goal

pub returns-clause-vacant : goal.returns-clause-vacant
returns-clause-vacant g c = vacant_after c.args.self.now.slots.items _ _ c.in_ok-push.ensures.items (omega arith)

pub returns-clause-same : goal.returns-clause-same
returns-clause-same g c = same_after c.args.self.now.slots.items _ c.in_ok-push.ensures.items
