-- The files that were read so far: what is put in place of one, and then put back.
use Rattle.std.proofs.Common.{◌≡◌, ℕ, List, set, get_or, ◌∙◌}
use Rattle.std.proofs.lemmas.List.{set-set, set-get_or}

pub put_back : {A : Type 0} (xs : List A) (i : ℕ) (x d : A) → set (set xs i x) i (get_or xs i d) ≡ xs
put_back xs i x d = set-set xs i x (get_or xs i d) ∙ set-get_or xs i d
