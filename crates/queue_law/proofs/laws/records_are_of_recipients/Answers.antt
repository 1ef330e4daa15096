use Rattle.queue_law.proofs.Readings.{records_are}
use Rattle.queue_law.proofs.laws.records_are_of_recipients.Goals as goal

pub returns : goal.returns
returns c = records_are
