use Rattle.std.proofs.Common.{◌≡◌, ◌≤◌, ◌++◌, All, drop, length}
use Rattle.mail_bytes.specs.Blocks.{joined}
use Rattle.maildir_drop.proofs.pieces.Pieces.of.Given as goal

abbrev pub invariant-loop-block : goal.invariant-loop-block
invariant-loop-block l = record {
  bytes : l.cutter ++ joined (drop (length l.yielded) l.fn.blocks.items) ≡ joined l.fn.blocks.items;
  short : All (λ block. length block.items ≤ 8192) (drop (length l.yielded) l.fn.blocks.items);
}
