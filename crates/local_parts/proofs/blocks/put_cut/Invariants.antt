use Rattle.std.proofs.Common.{◌≡◌, ◌++◌, ◌-◌, length, take, drop}
use Rattle.mail_bytes.specs.Blocks.{joined}
use Rattle.local_parts.proofs.blocks.put_cut.Given as goal

abbrev pub invariant-loop-block : goal.invariant-loop-block
invariant-loop-block l = record {
  taken : l.part ≡ l.fn.part ++ take l.fn.window.left (drop l.fn.window.skip (joined (take l.block-index l.blocks)));
  skip : l.window.skip ≡ l.fn.window.skip - length (joined (take l.block-index l.blocks));
  left : l.window.left ≡ l.fn.window.left - length (take l.fn.window.left (drop l.fn.window.skip (joined (take l.block-index l.blocks))));
}
