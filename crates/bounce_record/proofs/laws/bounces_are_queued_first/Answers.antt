use Rattle.bounce_record.proofs.Injected.{unlinked}
use Rattle.bounce_record.proofs.laws.bounces_are_queued_first.Goals as goal

pub returns : goal.returns
returns c = unlinked
