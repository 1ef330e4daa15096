-- Bytes in blocks.
use Rattle.std.specs.Prelude.{ℕ, List, map}
use Rattle.std.specs.List.{concat}
use Rattle.std.specs.declared.vec.Vec.{Vec}

-- the bytes of blocks, one after the other
abbrev pub joined : {Z : Type 0} → List (Vec ℕ Z) → List ℕ
joined blocks = concat (map (λ block. block.items) blocks)
