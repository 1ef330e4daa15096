use Rattle.std.proofs.Common.{ℕ, List, ap}
use Rattle.std.specs.Map.{values_of}
use Rattle.send_known.specs.declared.known.Known.{Known}
use Rattle.send_known.proofs.ByNumber.{kept_nothing}
use Rattle.send_known.proofs.known.KnownList.new.Goals as goal

pub invariant_of-result : goal.invariant_of-result
invariant_of-result c = kept_nothing c.new.result _ c.new.ensures.ordered c.new.ensures.empty

pub returns : goal.returns
returns c = ap (λ (es : List (ℕ × Known)). values_of es) c.new.ensures.empty
