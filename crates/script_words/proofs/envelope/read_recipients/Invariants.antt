use Rattle.std.proofs.Common.{length}
use Rattle.script_words.proofs.WordLists.{Passed}
use Rattle.script_words.proofs.envelope.read_recipients.Given as goal

abbrev pub invariant-words : goal.invariant-words
invariant-words l = Passed l.words l.rest l.initial.envelope.items l.envelope.items

abbrev pub decreases-words : goal.decreases-words
decreases-words l = length l.rest
