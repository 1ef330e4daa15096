use Rattle.std.proofs.Common.{◌≡◌, ◌++◌, take}
use Rattle.local_parts.specs.Texts.{in_line}
use Rattle.local_parts.proofs.texts.put_in_line.Given as goal

abbrev pub invariant-loop-byte : goal.invariant-loop-byte
invariant-loop-byte l = l.text ≡ l.fn.text ++ in_line (take l.byte-index l.part)
