use Rattle.std.proofs.Common.{◌≡◌, ◌≤◌, ◌++◌, All, length}
use Rattle.mail_bytes.specs.Blocks.{joined}
use Rattle.local_parts.proofs.blocks.put_blocks.Given as goal

abbrev pub invariant-loop-rest : goal.invariant-loop-rest
invariant-loop-rest l = record {
  short : All (λ block. length block.items ≤ 8192) l.blocks.items;
  newest : length l.newest.items ≤ 8192;
  bytes : (joined l.blocks.items ++ l.newest.items) ++ l.rest ≡ (joined l.fn.blocks.items ++ l.fn.first.items) ++ l.bytes;
}

abbrev pub decreases-loop-rest : goal.decreases-loop-rest
decreases-loop-rest l = length l.rest
