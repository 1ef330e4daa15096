use Rattle.command_words.proofs.Walks.{bounce_words, file_words, forward_words}
use Rattle.command_words.proofs.laws.words_of_queue.Goals as goal

pub returns : goal.returns
returns c = record {
  file = file_words;
  bounce = bounce_words;
  forward = forward_words;
}
