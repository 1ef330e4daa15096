use Rattle.retry_schedule.proofs.Roots.{root_is, one_root, is_next}
use Rattle.retry_schedule.proofs.laws.roots_are_exact.Goals as goal

pub returns : goal.returns
returns c = record { is = root_is; one = one_root; next = is_next }
