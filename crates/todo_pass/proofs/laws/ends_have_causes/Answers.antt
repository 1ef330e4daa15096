use Rattle.todo_pass.proofs.Causes.{left_by, lost_by}
use Rattle.todo_pass.proofs.Ends.{done_with}
use Rattle.todo_pass.proofs.laws.ends_have_causes.Goals as goal

pub returns : goal.returns
returns c = record { left = left_by; lost = lost_by; done = done_with }
