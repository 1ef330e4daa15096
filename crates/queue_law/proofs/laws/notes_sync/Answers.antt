use Rattle.queue_law.proofs.Bouncing.{notes_sync as law}
use Rattle.queue_law.proofs.laws.notes_sync.Goals as goal

pub returns : goal.returns
returns c = law
