use Rattle.todo_pass.proofs.Channels.{channels_are}
use Rattle.todo_pass.proofs.laws.channels_are_records.Goals as goal

pub returns : goal.returns
returns c = channels_are
