use Rattle.std.proofs.Common.{refl}
use Rattle.mem_fs.specs.MemDisk.{disk_of}
use Rattle.call_runs.specs.Lists.{held_of}
use Rattle.call_runs.proofs.Least.{next_none, next_some}
use Rattle.call_runs.proofs.plain_lists.PlainLists.next_name.Goals as goal

pub returns-clause-some : goal.returns-clause-some
returns-clause-some c = next_some c.args.self.now.names.items c.args.dir.now c.args.after.now c.next.result (disk_of (held_of c.args.self.now)) refl (rw c.deref.ensures.value at c.next.ensures)

pub returns-clause-none : goal.returns-clause-none
returns-clause-none c = next_none c.args.self.now.names.items c.args.dir.now c.args.after.now c.next.result (disk_of (held_of c.args.self.now)) refl (rw c.deref.ensures.value at c.next.ensures)
