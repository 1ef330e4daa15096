-- Where each actor stands among all: a mail after the members, and a member at its seat.
use Rattle.std.proofs.Common.{◌≡◌, ℕ, ◌+◌, ◌<◌, List, Bool, true, false, Option, Some, None, is_some, refl, sym, ap, ◌∙◌, arith}
use Rattle.std.specs.Prelude.{if◌then◌else◌, option_map, nat_lt}
use Rattle.std.proofs.lemmas.Bool.{lt-ltb, le-ltb, ltb-true}
use Rattle.world_events.specs.Places.{place_by, among_all}
use Rattle.world_pipes.specs.Wired.{seat}

pub place_of_mail : (crew : ℕ) (places : List ℕ → Option ℕ) (a : List ℕ) → seat a ≡ None → among_all crew places a ≡ option_map (λ i. crew + i) (places a)
place_of_mail crew places a none = ap (λ (o : Option ℕ). place_by crew o (places a)) none

pub none_below : (n : ℕ) → (if nat_lt n 0 then Some n else None) ≡ None
none_below n = ap (λ (t : Bool). if t then Some n else None) (le-ltb n 0 (omega arith))

pub below : (n crew : ℕ) → n < crew → nat_lt n crew ≡ true
below n crew low = lt-ltb n crew low

pub place_of_member : (crew : ℕ) (places : List ℕ → Option ℕ) (a : List ℕ) (i : ℕ) → seat a ≡ Some i → among_all crew places a ≡ (if nat_lt i crew then Some i else None)
place_of_member crew places a i at = ap (λ (o : Option ℕ). place_by crew o (places a)) at

-- a mail's place among the mails
mail_place : (crew j : ℕ) (o : Option ℕ) → option_map (λ i. crew + i) o ≡ Some (crew + j) → o ≡ Some j
mail_place crew j None is = absurd cc
mail_place crew j (Some i) is = let same : crew + i ≡ crew + j = cc in ap Some (omega (arith, same))

-- who stands after the members has no seat
pub after_seat : (crew j : ℕ) (places : List ℕ → Option ℕ) (a : List ℕ) → among_all crew places a ≡ Some (crew + j) → (seat a ≡ None) × (places a ≡ Some j)
after_seat crew j places a is = by_at (seat a) refl where
  by_at : (o : Option ℕ) → seat a ≡ o → (seat a ≡ None) × (places a ≡ Some j)
  by_at None at = (at, mail_place crew j (places a) (sym (place_of_mail crew places a at) ∙ is))
  by_at (Some i) at = absurd (low (nat_lt i crew) refl (sym (place_of_member crew places a i at) ∙ is)) where
    low : (t : Bool) → nat_lt i crew ≡ t → (if t then Some i else None) ≡ Some (crew + j) → ⊥
    low true lt e = let same : i ≡ crew + j = cc in let less : i < crew = ltb-true i crew lt in omega (arith, same, less)
    low false lt e = cc

pub same_some : (crew : ℕ) (o : Option ℕ) → is_some (option_map (λ i. crew + i) o) ≡ is_some (option_map (λ i. 4 + i) o)
same_some crew None = refl
same_some crew (Some i) = refl

-- the places after it
pub four_places : (places : List ℕ → Option ℕ) (a : List ℕ) (i : ℕ) → seat a ≡ Some i → i < 4 → among_all 4 places a ≡ Some i
four_places places a i at low = place_of_member 4 places a i at ∙ ap (λ (t : Bool). if t then Some i else None) (below i 4 low)
