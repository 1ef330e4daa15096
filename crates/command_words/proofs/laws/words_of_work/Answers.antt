use Rattle.command_words.proofs.Ranges.{work_range}
use Rattle.command_words.proofs.laws.words_of_work.Goals as goal

pub returns : goal.returns
returns c = work_range
