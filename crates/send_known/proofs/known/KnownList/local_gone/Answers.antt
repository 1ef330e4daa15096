use Rattle.std.proofs.Common.{nat_cmp}
use Rattle.std.specs.BTreeMap.{get}
use Rattle.send_known.proofs.known.KnownList.local_gone.Goals as goal

pub invariant_of-self : goal.invariant_of-self
invariant_of-self c = record {
  ordered = c.local_gone.ensures.ordered;
  named = c.local_gone.ensures.named;
  covers = λ h. let was = c.is_listed-self-inside.ensures.was h in c.is_listed-self-inside.ensures.covers h (get nat_cmp c.self.inside.known) (c.self.invariant.covers was) c.local_gone.ensures.done;
}
