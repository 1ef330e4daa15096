use Rattle.std.proofs.Common.{subst}
use Rattle.std.specs.Option.{IfSome, IfNone}
use Rattle.call_fs.specs.Free.{IsLeastFree}
use Rattle.mem_fs.specs.MemDisk.{disk_of, NoneFree}
use Rattle.mem_fs.proofs.Uses.{none_free_from, least_free_from}
use Rattle.mem_fs.proofs.store.Store.least_free.Goals as goal

pub returns-clause-some : goal.returns-clause-some
returns-clause-some c =
    subst (λ h. IfSome c.least.result (IsLeastFree (disk_of h))) c.self.view_is
    (least_free_from c.self.invariant.0 c.least.result (rw c.deref.ensures.value at c.least.ensures.some))

pub returns-clause-none : goal.returns-clause-none
returns-clause-none c =
    subst (λ h. IfNone c.least.result (NoneFree (disk_of h))) c.self.view_is
    (none_free_from c.self.invariant.0 c.least.result (rw c.deref.ensures.value at c.least.ensures.none))
