use Rattle.queue_law.proofs.Notes.{notes_stay as stay}
use Rattle.queue_law.proofs.laws.notes_stay.Goals as goal

pub returns : goal.returns
returns c = stay
