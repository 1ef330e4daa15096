use Rattle.std.proofs.Common.{List, ℕ, ap}
use Rattle.std.specs.declared.vec.Vec.{Vec}
use Rattle.mem_fs.specs.Tables.{texts}
use Rattle.mem_fs.proofs.Changes.{sound-nothing}
use Rattle.mem_fs.proofs.Indexed.{indexed_none}
use Rattle.mem_fs.proofs.store.Store.new.Goals as goal

pub invariant_of-result : goal.invariant_of-result
invariant_of-result c = (
  sound-nothing _ (ap (λ (es : List (Vec ℕ _ × ℕ)). texts es) c.new-2.ensures.empty) c.new-3.ensures.items c.new-4.ensures.items,
  indexed_none _ c.new-5.result c.new-5.ensures.empty,
)
