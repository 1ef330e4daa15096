use Rattle.command_words.proofs.Delivered.{delivered_words}
use Rattle.command_words.proofs.laws.words_of_local.Goals as goal

pub returns : goal.returns
returns c = delivered_words
