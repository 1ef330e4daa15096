use Rattle.std.proofs.Common.{◌≡◌, List, ℕ, Option, Some, None, refl}
use Rattle.command_words.specs.declared.command.Command.{Command}
use Rattle.command_words.specs.Reads.{IsNoCommand, Reads, command_of}
use Rattle.command_words.proofs.Commands.{play_begins, play_follows}
use Rattle.command_words.proofs.laws.words_are_one_command.Goals as goal

no_other : (words : List (List ℕ)) (o : Option Command) → command_of words ≡ o → ((command : Command) → ¬ (Reads words command)) → IsNoCommand words
no_other words None is never = is
no_other words (Some command) is never = absurd (never command is)

same : (words : List (List ℕ)) (a b : Command) → Reads words a → Reads words b → a ≡ b
same words a b first second = cc

never : (words : List (List ℕ)) → IsNoCommand words → (command : Command) → ¬ (Reads words command)
never words none command reads = cc

pub returns : goal.returns
returns c = record {
  one = same;
  none = λ words. (never words, no_other words (command_of words) refl);
  play = λ words. (play_begins words, play_follows words);
}
