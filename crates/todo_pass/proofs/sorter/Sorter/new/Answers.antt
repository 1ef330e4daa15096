use Rattle.todo_pass.proofs.Records.{none_yet}
use Rattle.todo_pass.proofs.sorter.Sorter.new.Goals as goal

pub returns : goal.returns
returns c = λ controls. none_yet controls c.args.head _ c.new.ensures c.new-2.ensures
