use Rattle.std.proofs.Common.{ℕ, List, ap, ◌∙◌}
use Rattle.std.specs.Map.{values_of}
use Rattle.send_known.specs.declared.known.Known.{Known}
use Rattle.send_known.proofs.ByNumber.{forgotten_values, kept_forgotten}
use Rattle.send_known.proofs.known.KnownList.forget.Goals as goal

pub invariant_of-self : goal.invariant_of-self
invariant_of-self c =
    rw c.unlist.ensures
    (kept_forgotten c.self.inside.known c.remove.new.self c.self.inside.done.items c.self.inside.listed c.args.n c.self.invariant c.remove.ensures.ordered c.remove.ensures.entries c.remove.ensures.updates)

pub returns : goal.returns
returns c =
    rw (← c.self.view_is)
    (ap (λ (es : List (ℕ × Known)). values_of es) c.remove.ensures.entries ∙ forgotten_values c.args.n c.self.inside.known.entries c.self.invariant.named c.self.invariant.ordered)
