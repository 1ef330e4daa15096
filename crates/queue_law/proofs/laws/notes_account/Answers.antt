use Rattle.queue_law.proofs.Notes.{notes_account as account}
use Rattle.queue_law.proofs.laws.notes_account.Goals as goal

pub returns : goal.returns
returns c = account
