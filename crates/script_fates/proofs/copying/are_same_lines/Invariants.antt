use Rattle.std.proofs.Common.{◌≡◌, take}
use Rattle.script_fates.proofs.copying.are_same_lines.Given as goal

-- the lines so far are the same
abbrev pub invariant-loop-at : goal.invariant-loop-at
invariant-loop-at l = take l.at l.lines ≡ take l.at l.others
