use Rattle.program_law.proofs.Channel.Texts.{mark_is}
use Rattle.program_law.proofs.channels.marks_are_records.Goals as goal

pub returns : goal.returns
returns c = mark_is
