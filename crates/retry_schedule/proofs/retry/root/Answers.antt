use Rattle.retry_schedule.proofs.Roots.{is_next, one_root}
use Rattle.retry_schedule.proofs.retry.root.Goals as goal

pub returns-clause-is : goal.returns-clause-is
returns-clause-is c = one_root _ _ (is_next _ _ c.isqrt.ensures.square_le c.isqrt.ensures.next_square_gt)
