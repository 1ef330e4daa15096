use Rattle.std.proofs.Common.{◌≡◌, ℕ, ◌<◌, length, get_or, Some}
use Rattle.std.specs.Option.{option_map}
use Rattle.call_fs.specs.Disk.{Open}
use Rattle.mem_files.specs.Tables.{at_number}
use Rattle.call_runs.proofs.pairs.is_opened.Given as goal

abbrev pub invariant-loop-one : goal.invariant-loop-one
invariant-loop-one l = (j : ℕ) (d : ℕ × Open) → j < l.one-index → j < length l.opens → ¬ (option_map (λ (o : Open). o.number) (at_number l.opens (get_or l.opens j d).0) ≡ Some l.number)
