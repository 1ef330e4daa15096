use Rattle.std.proofs.Common.{map, drop}
use Rattle.std.specs.Prelude.{◌↔◌}
use Rattle.proc_runner.specs.Starts.{AreTexts}
use Rattle.proc_runner.proofs.start.are_texts.Given as goal

abbrev pub invariant-loop-word : goal.invariant-loop-word
invariant-loop-word l = AreTexts (map (λ w. w.now) l.words) ↔ AreTexts (map (λ w. w.now) (drop l.word-index l.words))
