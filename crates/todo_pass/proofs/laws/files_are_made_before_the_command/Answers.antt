use Rattle.todo_pass.proofs.Ends.{files_are_made}
use Rattle.todo_pass.proofs.laws.files_are_made_before_the_command.Goals as goal

pub returns : goal.returns
returns c = files_are_made
