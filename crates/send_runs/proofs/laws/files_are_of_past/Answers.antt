use Rattle.send_runs.proofs.Files.{files_are_of_past}
use Rattle.send_runs.proofs.laws.files_are_of_past.Goals as goal

pub returns : goal.returns
returns c = files_are_of_past
