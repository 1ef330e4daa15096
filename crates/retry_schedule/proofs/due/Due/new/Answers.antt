use Rattle.std.proofs.Common.{ℕ, List, ap}
use Rattle.retry_schedule.specs.Index.{listed}
use Rattle.retry_schedule.proofs.Kept.{kept_nothing}
use Rattle.retry_schedule.proofs.due.Due.new.Goals as goal

pub invariant_of-result : goal.invariant_of-result
invariant_of-result c = kept_nothing c.new.result c.new-2.result c.new.ensures.ordered c.new-2.ensures.ordered c.new.ensures.empty c.new-2.ensures.empty

pub returns : goal.returns
returns c = ap (λ (es : List (ℕ × ℕ)). listed es) c.new.ensures.empty
