use Rattle.mem_fs.proofs.HaltedDisk.{sound-halted, disk-halted}
use Rattle.mem_fs.proofs.Indexed.{indexed_none}
use Rattle.mem_fs.proofs.store.Store.halt.Goals as goal

pub invariant_of-self : goal.invariant_of-self
invariant_of-self c =
    (rw (c.in_ok-files.ensures.value, c.deref.ensures.value, c.clear.ensures.items) (sound-halted c.args.how _ c.self.invariant.0), indexed_none _ c.clear-2.new.self c.clear-2.ensures.empty)

pub returns-clause-ok : goal.returns-clause-ok
returns-clause-ok c =
    let all = rw c.deref.ensures.value at c.in_ok-files.ensures.survivors in
    rw (c.in_ok-files.ensures.value, c.deref.ensures.value, c.clear.ensures.items)
    (rw (← c.self.view_is) (disk-halted c.args.how _ c.self.invariant.0 all))
