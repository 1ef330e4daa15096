-- Eight pieces of a line.
use Rattle.std.proofs.Common.{◌≡◌, ℕ, List, [], ◌∷◌, length, get_or, map, Bool, Option, None, eqb, refl, sym, ap, arith}
use Rattle.std.specs.Prelude.{if◌then◌else◌}
use Rattle.std.specs.Borrow.{Bor}
use Rattle.std.proofs.lemmas.Bool.{ne_eqb}
use Rattle.local_spawn.specs.declared.assign.Assignment.{Assignment}
use Rattle.local_spawn.specs.Fields.{parsed_by, parsed_fields}

-- by whether the last one is empty
abbrev pub parsed_at : Bool → List ℕ → List ℕ → List ℕ → List ℕ → List ℕ → List ℕ → List ℕ → Option Assignment
parsed_at t first user uid gid home dash ext = if t then parsed_fields first user uid gid home dash ext else None

by_last : (first user uid gid home dash ext last : List ℕ)
    → parsed_by (first ∷ user ∷ uid ∷ gid ∷ home ∷ dash ∷ ext ∷ last ∷ []) ≡ parsed_at (eqb (length last) 0) first user uid gid home dash ext
by_last first user uid gid home dash ext [] = refl
by_last first user uid gid home dash ext (b ∷ last) =
    sym (ap (λ t. parsed_at t first user uid gid home dash ext) (ne_eqb (length (b ∷ last)) 0 (λ e. absurd (omega arith))))

pub eight : (pieces : List (Bor (List ℕ))) (d : Bor (List ℕ)) → length pieces ≡ 8
    → parsed_by (map (λ piece. piece.now) pieces)
    ≡ parsed_at (eqb (length (get_or pieces 7 d).now) 0) (get_or pieces 0 d).now (get_or pieces 1 d).now (get_or pieces 2 d).now (get_or pieces 3 d).now (get_or pieces 4 d).now
    (get_or pieces 5 d).now (get_or pieces 6 d).now
eight (first ∷ user ∷ uid ∷ gid ∷ home ∷ dash ∷ ext ∷ last ∷ []) d e = by_last first.now user.now uid.now gid.now home.now dash.now ext.now last.now
eight _ d e = absurd (omega arith)
