use Rattle.mem_fs.proofs.Steps.{open_entry}
use Rattle.mem_fs.proofs.store.Store.read_at.Goals as goal

pub file_of-file-requires-clause-there : goal.file_of-file-requires-clause-there
file_of-file-requires-clause-there c =
    rw c.deref.ensures.value (open_entry c.self.invariant.0 c.args.fd.0 c.opened-number.result (rw (← c.self.view_is) at c.opened-number.ensures))
