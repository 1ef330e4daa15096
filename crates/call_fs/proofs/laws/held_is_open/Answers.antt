use Rattle.call_fs.proofs.Held.{backs_past, may_call}
use Rattle.call_fs.proofs.laws.held_is_open.Goals as goal

pub returns-clause-open : goal.returns-clause-open
returns-clause-open c = backs_past

pub returns-clause-may : goal.returns-clause-may
returns-clause-may c = λ d has call backs. may_call d has backs call
