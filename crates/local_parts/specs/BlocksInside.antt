-- What the fields of blocks keep.
use Rattle.std.specs.Prelude.{◌≡◌, ℕ, ◌≤◌, List, ◌++◌, All, length}
use Rattle.call_fs.specs.declared.file_system.TheConstants.{PIECE}
use Rattle.local_parts.specs.declared.blocks.Blocks.TheInside.{Inside}
use Rattle.mail_bytes.specs.Blocks.{joined}

-- the blocks that are full, or were put by, and the one that is filled
abbrev pub bytes_of : Inside → List ℕ
bytes_of i = joined i.full.items ++ i.last.items

-- no block is larger than a piece, and the bytes are counted
pub record AreBlocks (i : Inside) : Type 0 where
  pub short : All (λ block. length block.items ≤ PIECE) i.full.items
  pub last : length i.last.items ≤ PIECE
  pub count : i.len ≡ length (bytes_of i)
