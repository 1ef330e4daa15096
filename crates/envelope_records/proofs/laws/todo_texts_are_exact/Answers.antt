use Rattle.envelope_records.proofs.ChannelRecords.{same_todo}
use Rattle.envelope_records.proofs.laws.todo_texts_are_exact.Goals as goal

pub returns : goal.returns
returns c = same_todo
