use Rattle.std.proofs.Common.{◌≡◌, ◌++◌, take, codes}
use Rattle.dot_qmail.specs.Choice.{safe}
use Rattle.dot_qmail.proofs.choice.full_name.Given as goal

abbrev pub invariant-loop-byte : goal.invariant-loop-byte
invariant-loop-byte l = l.full.items ≡ (codes ".qmail" ++ l.dash) ++ safe (take l.byte-index l.ext)
