use Rattle.std.proofs.Common.{◌≡◌, take}
use Rattle.std.specs.List.{sum_by}
use Rattle.scenario.specs.Turns.{counted}
use Rattle.scenario.proofs.turning.most_rounds.Given as goal

-- the mails and recipients of the entries so far
abbrev pub invariant-loop-entry : goal.invariant-loop-entry
invariant-loop-entry l = l.count ≡ sum_by counted (take l.entry-index l.entries)
