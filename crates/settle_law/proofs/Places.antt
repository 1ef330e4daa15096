-- A turn goes through the starts in their order: what holds of each actor that a turn came to holds of all that live, once no place is left.
use Rattle.std.proofs.Common.{◌≡◌, ◌⊎◌, ⊎_elim, inl, inr, ℕ, ◌+◌, ◌<◌, ◌≤◌, List, [], ◌∷◌, Bool, true, false, not, ◌&&◌, ◌||◌, if◌then◌else◌, Some, None, refl, sym, ap, subst, arith}
use Rattle.std.proofs.lemmas.Bool.{ltb-true}
use Rattle.std.proofs.lemmas.Slice.Eq.{bytes_eq-Decides}
use Rattle.std.specs.Prelude.{bytes_eq, nat_lt}
use Rattle.std.specs.List.{list_any}
use Rattle.mail_world.specs.Generations.{lives_in}
use Rattle.mail_world.specs.History.{State}
use Rattle.scenario.specs.Turns.{is_next, next_in}

-- it holds of each whose newest start is one of these, of which the first has the place `at`, and is before the place `end`
abbrev pub HoldsBefore : (List ℕ → Type 0) → ℕ → ℕ → List (List ℕ) → Type 0
HoldsBefore P at end [] = Unit {0}
HoldsBefore P at end (b ∷ later) = (at < end → list_any (bytes_eq b) later ≡ false → P b) × HoldsBefore P (at + 1) end later

-- and of each of these
abbrev pub HoldsOfAll : (List ℕ → Type 0) → List (List ℕ) → Type 0
HoldsOfAll P [] = Unit {0}
HoldsOfAll P (b ∷ later) = (list_any (bytes_eq b) later ≡ false → P b) × HoldsOfAll P later

pub none_before : (P : List ℕ → Type 0) (at end : ℕ) (starts : List (List ℕ)) → end ≤ at → HoldsBefore P at end starts
none_before P at end [] le = tt
none_before P at end (b ∷ later) le = (λ lt new. absurd (omega (arith, lt, le)), none_before P (at + 1) end later (omega (arith, le)))

-- a start that isn't the next one is before the place, isn't the newest, or is that of an actor that doesn't live
passed_by : (low any lives : Bool) → (not low && (not any && lives)) ≡ false → any ≡ false → (low ≡ true) ⊎ (lives ≡ false)
passed_by true any lives e new = inl refl
passed_by false true lives e new = absurd (cc)
passed_by false false true e new = absurd (cc)
passed_by false false false e new = inr refl

module _ (s : State) (P : List ℕ → Type 0) (dead : (b : List ℕ) → lives_in (s.actors b) ≡ false → P b) where
  passed : (from at : ℕ) (b : List ℕ) (later : List (List ℕ)) → is_next s from at b later ≡ false → (at < from → list_any (bytes_eq b) later ≡ false → P b) → list_any (bytes_eq b) later ≡ false → P b
  passed from at b later other was new = ⊎_elim
      (λ low. was (ltb-true at from low) new)
      (λ none. dead b none)
      (passed_by (nat_lt at from) (list_any (bytes_eq b) later) (lives_in (s.actors b)) other new)

  -- the next actor, and those that were passed by
  pub next_holds : (from at : ℕ) (starts : List (List ℕ)) (a : List ℕ) (place : ℕ) → next_in s from at starts ≡ Some (a, place) → P a → HoldsBefore P at from starts
      → HoldsBefore P at (place + 1) starts
  next_holds from at [] a place e holds was = absurd (cc)
  next_holds from at (b ∷ later) a place e holds was = by (is_next s from at b later) refl e (λ rest. next_holds from (at + 1) later a place rest holds was.1)
    where
      by : (t : Bool) → is_next s from at b later ≡ t → (if t then Some (b, at) else next_in s from (at + 1) later) ≡ Some (a, place)
          → (next_in s from (at + 1) later ≡ Some (a, place) → HoldsBefore P (at + 1) (place + 1) later) → HoldsBefore P at (place + 1) (b ∷ later)
      by true t e more =
          let pair : ◌≡◌ {A = List ℕ × ℕ} (b, at) (a, place) = cc in
          let same : b ≡ a = ap (λ (p : List ℕ × ℕ). p.0) pair in
          let here : at ≡ place = ap (λ (p : List ℕ × ℕ). p.1) pair in
          (λ lt new. subst P (sym same) holds, none_before P (at + 1) (place + 1) later (omega (arith, here)))
      by false t e more = (λ lt new. passed from at b later t was.0 new, more e)

  -- no actor is left
  pub none_left : (from at : ℕ) (starts : List (List ℕ)) → next_in s from at starts ≡ None → HoldsBefore P at from starts → HoldsOfAll P starts
  none_left from at [] e was = tt
  none_left from at (b ∷ later) e was = by (is_next s from at b later) refl e (λ rest. none_left from (at + 1) later rest was.1)
    where
      by : (t : Bool) → is_next s from at b later ≡ t → (if t then Some (b, at) else next_in s from (at + 1) later) ≡ None
          → (next_in s from (at + 1) later ≡ None → HoldsOfAll P later) → HoldsOfAll P (b ∷ later)
      by true t e more = absurd (cc)
      by false t e more = (λ new. passed from at b later t was.0 new, more e)

or_left : (p q : Bool) → (p || q) ≡ true → q ≡ false → p ≡ true
or_left true q e none = refl
or_left false q e none = absurd (cc)

-- each that started has a newest start
pub newest_holds : (P : List ℕ → Type 0) (starts : List (List ℕ)) (a : List ℕ) → HoldsOfAll P starts → list_any (bytes_eq a) starts ≡ true → P a
newest_holds P [] a all is = absurd (cc)
newest_holds P (b ∷ later) a all is = by (list_any (bytes_eq a) later) refl (λ e. newest_holds P later a all.1 e)
  where
    by : (t : Bool) → list_any (bytes_eq a) later ≡ t → (list_any (bytes_eq a) later ≡ true → P a) → P a
    by true e more = more e
    by false e more =
        let same : a ≡ b = (bytes_eq-Decides a b).0 (or_left (bytes_eq a b) (list_any (bytes_eq a) later) is e) in
        subst P (sym same) (all.0 (subst (λ (c : List ℕ). list_any (bytes_eq c) later ≡ false) same e))
