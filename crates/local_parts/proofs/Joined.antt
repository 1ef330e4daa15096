-- The bytes of blocks.
use Rattle.std.proofs.Common.{◌≡◌, ℕ, ◌+◌, ◌<◌, ◌≤◌, List, [], ◌∷◌, ◌++◌, All, length, take, get_or, refl, sym, ap, ◌∙◌, subst, append_assoc}
use Rattle.std.specs.declared.vec.Vec.{Vec}
use Rattle.std.proofs.lemmas.List.{append-nil, take_more}
use Rattle.std.proofs.lemmas.List.Elements.{All-push}
use Rattle.mail_bytes.specs.Blocks.{joined}

module _ {Z : Type 0} where
  pub joined_append : (xs ys : List (Vec ℕ Z)) → joined (xs ++ ys) ≡ joined xs ++ joined ys
  joined_append [] ys = refl
  joined_append (x ∷ xs) ys = ap (λ t. x.items ++ t) (joined_append xs ys) ∙ sym (append_assoc x.items (joined xs) (joined ys))

  pub joined_push : (blocks : List (Vec ℕ Z)) (block : Vec ℕ Z) → joined (blocks ++ block ∷ []) ≡ joined blocks ++ block.items
  joined_push blocks block = joined_append blocks (block ∷ []) ∙ ap (λ t. joined blocks ++ t) (append-nil block.items)

  -- a block more, that is short
  pub all_more : (old more : List (Vec ℕ Z)) (it : Vec ℕ Z) → more ≡ old ++ it ∷ [] → All (λ (block : Vec ℕ Z). length block.items ≤ 8192) old → length it.items ≤ 8192
      → All (λ (block : Vec ℕ Z). length block.items ≤ 8192) more
  all_more old more it is short h = subst (All (λ (block : Vec ℕ Z). length block.items ≤ 8192)) (sym is) (All-push (λ (block : Vec ℕ Z). length block.items ≤ 8192) old it short h)

  -- the newest block is put by, and a piece of the rest is the newest one
  pub pieces_more : (old more : List (Vec ℕ Z)) (newest : Vec ℕ Z) (next piece after rest whole : List ℕ) → more ≡ old ++ newest ∷ [] → next ≡ piece → piece ++ after ≡ rest
      → (joined old ++ newest.items) ++ rest ≡ whole → (joined more ++ next) ++ after ≡ whole
  pieces_more old more newest next piece after rest whole is n both e =
      ap (λ l. (joined l ++ next) ++ after) is ∙ ap (λ t. (t ++ next) ++ after) (joined_push old newest)
      ∙ ap (λ t. ((joined old ++ newest.items) ++ t) ++ after) n ∙ append_assoc (joined old ++ newest.items) piece after ∙ ap (λ t. (joined old ++ newest.items) ++ t) both ∙ e

  -- blocks are put after full ones
  pub put_on : (full more whole : List (Vec ℕ Z)) (newest last bytes : List ℕ) → whole ≡ full ++ more → joined more ++ newest ≡ last ++ bytes
      → joined whole ++ newest ≡ (joined full ++ last) ++ bytes
  put_on full more whole newest last bytes is e =
      ap (λ l. joined l ++ newest) is ∙ ap (λ t. t ++ newest) (joined_append full more) ∙ append_assoc (joined full) (joined more) newest
      ∙ ap (λ t. joined full ++ t) e ∙ sym (append_assoc (joined full) last bytes)

  -- with one block more
  pub joined_more : (blocks : List (Vec ℕ Z)) (k : ℕ) (block : Vec ℕ Z) → k < length blocks → joined (take (k + 1) blocks) ≡ joined (take k blocks) ++ (get_or blocks k block).items
  joined_more blocks k block lt = ap joined (take_more blocks k block lt) ∙ joined_push (take k blocks) (get_or blocks k block)
