-- The form of a file's name, as a test.
use Rattle.std.proofs.Common.{◌≡◌, ℕ, List, length, Bool, ◌∙◌, arith, refl}
use Rattle.std.specs.Prelude.{◌&&◌, not, nat_lt, ◌==◌, Contains}
use Rattle.std.specs.Bool.{Decides}
use Rattle.std.specs.List.{list_all, list_any, slice_split}
use Rattle.std.proofs.lemmas.Bool.Decides.{Decides-and, Decides-by_and, Decides-by_or, Decides-eqb, Decides-like, Decides-ltb, Decides-not, same_from_decides}
use Rattle.std.proofs.lemmas.List.{get_or_default}
use Rattle.call_fs.specs.Names.{IsName, IsPart, without_slash}
use Rattle.maildir_drop.specs.Names.{is_name, is_part}

has_nul : (part : List ℕ) → Decides (list_any (λ b. b == 0) part) (Contains part 0)
has_nul part = Decides-like (list_any (λ b. b == 0) part)
    (λ h. (h.0, h.1, h.2 0))
    (λ h. (h.0, h.1, λ d. get_or_default part h.0 d 0 h.1 ∙ h.2))
    (Decides-by_or (λ b. b == 0) (λ b. b ≡ 0) (list_any (λ b. b == 0)) (λ b. Decides-eqb b 0) refl (λ _ _. refl) part)

part_decides : (part : List ℕ) → Decides (is_part part) (IsPart part)
part_decides part = Decides-like (is_part part)
    (λ h. let low = h.0.0 in let high = h.0.1 in record { positive = omega arith; short = omega arith; no_nul = h.1 })
    (λ h. let low = h.positive in let high = h.short in ((omega arith, omega arith), h.no_nul))
    (Decides-and (nat_lt 0 (length part) && nat_lt (length part) 256) (not (list_any (λ b. b == 0) part))
    (Decides-and (nat_lt 0 (length part)) (nat_lt (length part) 256) (Decides-ltb 0 (length part)) (Decides-ltb (length part) 256))
    (Decides-not (list_any (λ b. b == 0) part) (has_nul part)))

pub name_decides : (name : List ℕ) → Decides (is_name name) (IsName name)
unfolding is_name
name_decides name = Decides-by_and is_part IsPart (list_all is_part) part_decides refl (λ _ _. refl) (slice_split (λ b. b == 47) (without_slash name))

pub name_is : (name : List ℕ) (r : Bool) → Decides r (IsName name) → r ≡ is_name name
name_is name r h = same_from_decides r (is_name name) h (name_decides name)
