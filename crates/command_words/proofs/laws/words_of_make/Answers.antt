use Rattle.command_words.proofs.Makes.{make_numbers}
use Rattle.command_words.proofs.Ranges.{make_range}
use Rattle.command_words.proofs.laws.words_of_make.Goals as goal

pub returns : goal.returns
returns c = record {
  written = make_numbers;
  range = make_range;
}
