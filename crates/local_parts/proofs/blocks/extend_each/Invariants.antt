use Rattle.std.proofs.Common.{◌≡◌, ◌++◌, take}
use Rattle.mail_bytes.specs.Blocks.{joined}
use Rattle.local_parts.proofs.blocks.extend_each.Given as goal

abbrev pub invariant-loop-block : goal.invariant-loop-block
invariant-loop-block l = l.text ≡ l.fn.text ++ joined (take l.block-index l.blocks)
