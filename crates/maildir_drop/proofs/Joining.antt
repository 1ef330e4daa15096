-- Blocks, and their bytes.
use Rattle.std.proofs.Common.{◌≡◌, ℕ, ◌+◌, ◌<◌, List, [], ◌∷◌, ◌++◌, length, take, get_or, sym, ap, ◌∙◌, append_assoc}
use Rattle.std.specs.declared.vec.Vec.{Vec}
use Rattle.std.proofs.lemmas.List.{append-nil, take_more}
use Rattle.mail_bytes.specs.Blocks.{joined}

module _ {Z : Type 0} where
  joined_push : (blocks : List (Vec ℕ Z)) (block : Vec ℕ Z) → joined (blocks ++ block ∷ []) ≡ joined blocks ++ block.items
  joined_push [] block = append-nil block.items
  joined_push (b ∷ blocks) block = ap (λ t. b.items ++ t) (joined_push blocks block) ∙ sym (append_assoc b.items (joined blocks) block.items)

  -- with one block more
  pub joined_more : (blocks : List (Vec ℕ Z)) (k : ℕ) (block : Vec ℕ Z) → k < length blocks → joined (take (k + 1) blocks) ≡ joined (take k blocks) ++ (get_or blocks k block).items
  joined_more blocks k block lt = ap joined (take_more blocks k block lt) ∙ joined_push (take k blocks) (get_or blocks k block)
