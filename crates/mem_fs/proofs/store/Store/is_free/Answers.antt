use Rattle.std.proofs.Common.{◌↔◌, IsTrue, subst}
use Rattle.call_fs.specs.Free.{IsFree}
use Rattle.mem_fs.specs.MemDisk.{disk_of}
use Rattle.mem_fs.proofs.Uses.{is_free_from}
use Rattle.mem_fs.proofs.store.Store.is_free.Goals as goal

pub returns-then-number-ne0 : goal.returns-then-number-ne0
returns-then-number-ne0 c =
    subst (λ h. IsTrue c.is_idle.result ↔ IsFree (disk_of h) c.args.number) c.self.view_is
    (is_free_from c.self.invariant.0 c.args.number c.is_idle.result c.if-number-ne0.true (rw c.deref.ensures.value at c.is_idle.ensures))
