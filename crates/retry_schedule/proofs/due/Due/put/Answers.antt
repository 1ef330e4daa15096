use Rattle.std.proofs.Common.{true, refl}
use Rattle.retry_schedule.proofs.Kept.{kept_told}
use Rattle.retry_schedule.proofs.due.Due.put.Goals as goal

pub put-requires : goal.put-requires
put-requires c = kept_told c.self.inside.moments c.reindex.new.index c.reindex.new.indexed true c.reindex.ensures.kept c.in_ok-reindex.ensures.tells

pub invariant_of-self-2 : goal.invariant_of-self-2
invariant_of-self-2 c = kept_told c.put.new.moments c.put.new.index true c.reindex.new.indexed c.put.ensures.kept (c.put.ensures.kept.tells refl)
