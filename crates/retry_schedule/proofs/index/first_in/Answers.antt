use Rattle.retry_schedule.proofs.Kept.{none_due}
use Rattle.retry_schedule.proofs.index.first_in.Goals as goal

pub returns-in_default : goal.returns-in_default
returns-in_default c = none_due c.args.now c.args.index.now.keys (λ some. let no = c.in_default.ensures.variant.1 some in absurd (cc))
