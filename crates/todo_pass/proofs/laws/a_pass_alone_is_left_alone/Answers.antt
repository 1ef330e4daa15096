use Rattle.todo_pass.proofs.Alone.{alone}
use Rattle.todo_pass.proofs.laws.a_pass_alone_is_left_alone.Goals as goal

pub returns : goal.returns
returns c = alone
