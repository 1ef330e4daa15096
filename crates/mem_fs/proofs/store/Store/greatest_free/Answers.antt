use Rattle.std.proofs.Common.{subst}
use Rattle.std.specs.Option.{IfSome, IfNone}
use Rattle.call_fs.specs.Free.{IsGreatestFree}
use Rattle.mem_fs.specs.MemDisk.{disk_of, NoneFree}
use Rattle.mem_fs.proofs.Uses.{none_free_from, greatest_free_from}
use Rattle.mem_fs.proofs.store.Store.greatest_free.Goals as goal

pub returns-clause-some : goal.returns-clause-some
returns-clause-some c =
    subst (λ h. IfSome c.greatest_idle.result (IsGreatestFree (disk_of h))) c.self.view_is
    (greatest_free_from c.self.invariant.0 c.greatest_idle.result c.greatest_idle.ensures.fits (rw c.deref.ensures.value at c.greatest_idle.ensures.some))

pub returns-clause-none : goal.returns-clause-none
returns-clause-none c =
    subst (λ h. IfNone c.greatest_idle.result (NoneFree (disk_of h))) c.self.view_is
    (none_free_from c.self.invariant.0 c.greatest_idle.result (rw c.deref.ensures.value at c.greatest_idle.ensures.none))
