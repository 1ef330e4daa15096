-- The actor at a place among all: its seat, if it is a member.
use Rattle.std.proofs.Common.{◌≡◌, ◌⊎◌, inl, inr, ℕ, ◌+◌, ◌-◌, ◌<◌, ◌≤◌, List, Bool, true, false, Option, Some, None, refl, sym, ap, ◌∙◌, ⊎_elim, arith}
use Rattle.std.specs.Prelude.{if◌then◌else◌, option_map, nat_lt}
use Rattle.std.proofs.lemmas.Bool.{ltb-true, ltb-false}
use Rattle.call_fs.specs.Maps.{put_at}
use Rattle.call_fs.proofs.Maps.{put_at_cases, put_at_same, put_at_other}
use Rattle.world_pipes.specs.Wired.{seat}
use Rattle.world_events.specs.Places.{place_by, among_all}

-- below the members' number, or not
pub low_or_not : (n crew : ℕ) → ((n < crew) × (nat_lt n crew ≡ true)) ⊎ ((crew ≤ n) × (nat_lt n crew ≡ false))
low_or_not n crew = by_test (nat_lt n crew) refl where
  by_test : (t : Bool) → nat_lt n crew ≡ t → ((n < crew) × (nat_lt n crew ≡ true)) ⊎ ((crew ≤ n) × (nat_lt n crew ≡ false))
  by_test true is = inl (ltb-true n crew is, is)
  by_test false is = inr (ltb-false n crew is, is)

abbrev pub seat_of_place : ℕ → ℕ → Option ℕ
seat_of_place place crew = if nat_lt place crew then Some place else None

mail_seat : (crew place : ℕ) (o : Option ℕ) → option_map (λ i. crew + i) o ≡ Some place → seat_of_place place crew ≡ None
mail_seat crew place None is = absurd (cc)
mail_seat crew place (Some i) is =
    let same : crew + i ≡ place = cc in
    ⊎_elim (λ f. let low = f.0 in absurd (omega (arith, same, low))) (λ f. ap (λ (t : Bool). if t then Some place else None) f.1) (low_or_not place crew)

member_seat : (crew place j : ℕ) → (if nat_lt j crew then Some j else None) ≡ Some place → Some j ≡ seat_of_place place crew
member_seat crew place j is = ⊎_elim
    (λ f. let both : ◌≡◌ {A = Option ℕ} (Some j) (Some place) = sym (ap (λ (t : Bool). if t then Some j else None) f.1) ∙ is in
    let same : j ≡ place = cc in
    sym (ap (λ (i : ℕ). seat_of_place i crew) (sym same) ∙ ap (λ (t : Bool). if t then Some j else None) f.1))
    (λ f. let both : ◌≡◌ {A = Option ℕ} None (Some place) = sym (ap (λ (t : Bool). if t then Some j else None) f.1) ∙ is in absurd (cc))
    (low_or_not j crew)

pub seat_at_place : (crew : ℕ) (places : List ℕ → Option ℕ) (a : List ℕ) (place : ℕ) → among_all crew places a ≡ Some place → seat a ≡ seat_of_place place crew
seat_at_place crew places a place is = by_at (seat a) refl where
  by_at : (o : Option ℕ) → seat a ≡ o → seat a ≡ seat_of_place place crew
  by_at None at = at ∙ sym (mail_seat crew place (places a) (sym (ap (λ (o : Option ℕ). place_by crew o (places a)) at) ∙ is))
  by_at (Some j) at = at ∙ member_seat crew place j (sym (ap (λ (o : Option ℕ). place_by crew o (places a)) at) ∙ is)

some_seat : (place crew i : ℕ) → seat_of_place place crew ≡ Some i → place < crew
some_seat place crew i is = ⊎_elim
    (λ f. f.0)
    (λ f. let both : ◌≡◌ {A = Option ℕ} None (Some i) = sym (ap (λ (t : Bool). if t then Some place else None) f.1) ∙ is in absurd (cc))
    (low_or_not place crew)

-- the places of all, as a mail is added
pub put_among : (crew n : ℕ) (places next : List ℕ → Option ℕ) (a : List ℕ) → seat a ≡ None → crew ≤ n → ((b : List ℕ) → next b ≡ put_at places a (Some (n - crew)) b)
    → (b : List ℕ) → among_all crew next b ≡ put_at (among_all crew places) a (Some n) b
put_among crew n places next a none le put b = ⊎_elim
    (λ w. let here : next b ≡ Some (n - crew) = put b ∙ w.1 in
    let whole : crew + (n - crew) ≡ n = omega (arith, le) in
    ap (λ (o : Option ℕ). place_by crew o (next b)) (ap seat w.0 ∙ none) ∙ ap (option_map (λ i. crew + i)) here ∙ ap Some whole
    ∙ sym (ap (put_at (among_all crew places) a (Some n)) w.0 ∙ put_at_same (among_all crew places) a (Some n)))
    (λ w. ap (place_by crew (seat b)) (put b ∙ w.1) ∙ sym (put_at_other (among_all crew places) a (Some n) b w.0))
    (put_at_cases places a (Some (n - crew)) b)
