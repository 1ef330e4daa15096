use Rattle.std.proofs.Common.{nat_cmp}
use Rattle.std.specs.BTreeMap.{get}
use Rattle.send_known.proofs.known.KnownList.remote_gone.Goals as goal

pub invariant_of-self : goal.invariant_of-self
invariant_of-self c = record {
  ordered = c.remote_gone.ensures.ordered;
  named = c.remote_gone.ensures.named;
  covers = λ h. let was = c.is_listed-self-inside.ensures.was h in c.is_listed-self-inside.ensures.covers h (get nat_cmp c.self.inside.known) (c.self.invariant.covers was) c.remote_gone.ensures.done;
}
