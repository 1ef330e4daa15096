-- One slot more, which holds nothing.
use Rattle.std.proofs.Common.{◌≡◌, ℕ, suc, zero, List, [], ◌∷◌, ◌++◌, length, Option, None, slice_get, refl, ap, ◌∙◌}
use Rattle.host_fs.specs.Held.{held, IsVacant, HoldsTheSame}

at_end : {T : Type 0} (slots : List (Option T)) → IsVacant (slots ++ None ∷ []) (length slots)
at_end [] = refl
at_end (slot ∷ slots) = at_end slots

same : {T : Type 0} (slots : List (Option T)) → HoldsTheSame slots (slots ++ None ∷ [])
same [] zero = refl
same [] (suc k) = refl
same (slot ∷ slots) zero = refl
same (slot ∷ slots) (suc k) = same slots k

pub vacant_after : {T : Type 0} (old new : List (Option T)) (place : ℕ) → new ≡ old ++ None ∷ [] → place ≡ length old → IsVacant new place
vacant_after old new place grew placed = ap (slice_get new) placed ∙ ap (λ (slots : List (Option _)). slice_get slots (length old)) grew ∙ at_end old

pub same_after : {T : Type 0} (old new : List (Option T)) → new ≡ old ++ None ∷ [] → HoldsTheSame old new
same_after old new grew k = ap (λ (slots : List (Option _)). held slots k) grew ∙ same old k
