use Rattle.std.proofs.Common.{◌≡◌, ◌++◌, take}
use Rattle.mail_bytes.specs.Blocks.{joined}
use Rattle.local_parts.proofs.blocks.put_each.Given as goal

abbrev pub invariant-loop-block : goal.invariant-loop-block
invariant-loop-block l = l.all ≡ l.fn.all ++ joined (take l.block-index l.blocks)
