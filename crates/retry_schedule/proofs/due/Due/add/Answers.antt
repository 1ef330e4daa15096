use Rattle.std.proofs.Common.{◌∙◌}
use Rattle.std.proofs.lemmas.Result.{on_ok_weaker}
use Rattle.retry_schedule.specs.Index.{entry}
use Rattle.retry_schedule.proofs.Entries.{put_new}
use Rattle.retry_schedule.proofs.due.Due.add.Goals as goal

pub returns-clause-ok : goal.returns-clause-ok
returns-clause-ok c = on_ok_weaker c.put.result (λ is. is ∙ put_new (entry c.args.due c.args.n) c.args.self.now c.requires) c.put.ensures.ok
