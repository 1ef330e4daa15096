use Rattle.settle_law.proofs.Texts.{todo_texts_are_read}
use Rattle.settle_law.proofs.steps.todo_texts_are_read.Goals as goal

pub returns : goal.returns
returns c = todo_texts_are_read
