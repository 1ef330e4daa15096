use Rattle.queue_law.proofs.Readings.{recipients_numbered}
use Rattle.queue_law.proofs.laws.recipients_are_numbered.Goals as goal

pub returns : goal.returns
returns c = recipients_numbered
