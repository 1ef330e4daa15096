-- The first name that is there, of those that are looked for.
use Rattle.std.proofs.Common.{◌≡◌, ◌≢◌, ℕ, List, [], ◌∷◌, ◌++◌, length, get_or, Bool, true, false, nat_lt, Option, Some, None, refl, sym, ap, ◌∙◌, subst, arith, bytes_eq, All}
use Rattle.std.specs.List.{AllByRecursion, position_or_len}
use Rattle.std.specs.Option.{option_or}
use Rattle.std.proofs.lemmas.Bool.{lt-ltb, ltb-true, ltb-false, cond-true, cond-false, false_from_ne_true}
use Rattle.std.proofs.lemmas.List.Sums.{position_or_len_is, fails_before_first, passes_at_first}
use Rattle.std.proofs.lemmas.List.Elements.{All-from_recursion}
use Rattle.std.proofs.lemmas.Slice.Eq.{bytes_eq-Decides}
use Rattle.dot_qmail.specs.Choice.{place_of, first_place, IsMissing, StandsFirst, IsFirstThere}

abbrev test : List ℕ → List ℕ → Bool
test name it = bytes_eq it name

abbrev at : List (List ℕ) → List ℕ → ℕ
at names name = position_or_len (test name) names

differs : (name it : List ℕ) → it ≢ name → test name it ≡ false
differs name it apart = false_from_ne_true (test name it) (λ e. apart ((bytes_eq-Decides it name).0 e))

same_as : (name it : List ℕ) → test name it ≡ true → it ≡ name
same_as name it e = (bytes_eq-Decides it name).0 e

unlike : (name it : List ℕ) → test name it ≡ false → it ≢ name
unlike name it e is = no (test name it) e ((bytes_eq-Decides it name).1 is)
  where
    no : (t : Bool) → t ≡ false → t ≡ true → ⊥
    no t e f = cc

pub place_is : (names : List (List ℕ)) (name : List ℕ) (place : ℕ) → StandsFirst names name place → place_of names name ≡ Some place
place_is names name place h =
    let inside = h.inside in
    let is : at names name ≡ place = position_or_len_is (test name) names place [] (omega arith)
    (λ k lt. differs name (get_or names k []) (h.first k lt)) (λ lt. (bytes_eq-Decides (get_or names place []) name).1 h.here) in
    cond-true (nat_lt (at names name) (length names)) (Some (at names name)) None (lt-ltb (at names name) (length names) (omega arith)) ∙ ap Some is

pub place_none : (names : List (List ℕ)) (name : List ℕ) → IsMissing names name → place_of names name ≡ None
place_none names name missing = cond-false (nat_lt (at names name) (length names)) (Some (at names name)) None
    (false_from_ne_true (nat_lt (at names name) (length names)) (λ e.
    let lt = ltb-true (at names name) (length names) e in
    missing (at names name) lt (same_as name (get_or names (at names name) []) (passes_at_first (test name) names [] lt))))

-- what a place says

pub data Found (names : List (List ℕ)) (name : List ℕ) : Type 0 where
  There : (place : ℕ) → place_of names name ≡ Some place → StandsFirst names name place → Found names name
  Nowhere : place_of names name ≡ None → IsMissing names name → Found names name

pub found : (names : List (List ℕ)) (name : List ℕ) → Found names name
found names name = by (nat_lt (at names name) (length names)) refl
  where
    by : (t : Bool) → nat_lt (at names name) (length names) ≡ t → Found names name
    by true e =
        let lt = ltb-true (at names name) (length names) e in
        There (at names name) (cond-true (nat_lt (at names name) (length names)) (Some (at names name)) None e) (record {
          inside = lt;
          here = same_as name (get_or names (at names name) []) (passes_at_first (test name) names [] lt);
          first = λ k below. unlike name (get_or names k []) (fails_before_first (test name) names k [] below);
        })
    by false e = Nowhere (cond-false (nat_lt (at names name) (length names)) (Some (at names name)) None e)
        (λ k lt. let far = ltb-false (at names name) (length names) e in unlike name (get_or names k []) (fails_before_first (test name) names k [] (omega arith)))

-- The first of a list

pub first_at : (names before : List (List ℕ)) (name : List ℕ) (after : List (List ℕ)) (place : ℕ) → AllByRecursion (IsMissing names) before → StandsFirst names name place
    → first_place names (before ++ name ∷ after) ≡ Some place
first_at names [] name after place missing h = ap (λ o. option_or o (first_place names after)) (place_is names name place h)
first_at names (x ∷ before) name after place missing h =
    ap (λ o. option_or o (first_place names (before ++ name ∷ after))) (place_none names x missing.0) ∙ first_at names before name after place missing.1 h

pub none_there : (names looked : List (List ℕ)) → AllByRecursion (IsMissing names) looked → first_place names looked ≡ None
none_there names [] missing = refl
none_there names (x ∷ looked) missing =
    ap (λ o. option_or o (first_place names looked)) (place_none names x missing.0) ∙ none_there names looked missing.1

-- So what was found is the first, and what wasn't is missing.

some_same : {a b : ℕ} → ◌≡◌ {A = Option ℕ} (Some a) (Some b) → a ≡ b
some_same e = cc

none_some : {a : ℕ} → ◌≡◌ {A = Option ℕ} None (Some a) → ⊥
none_some e = cc

some_none : {a : ℕ} → ◌≡◌ {A = Option ℕ} (Some a) None → ⊥
some_none e = cc

record FirstThere (names looked : List (List ℕ)) (place : ℕ) : Type 0 where
  pub before : List (List ℕ)
  pub name : List ℕ
  pub after : List (List ℕ)
  pub split : looked ≡ before ++ name ∷ after
  pub missing : AllByRecursion (IsMissing names) before
  pub there : StandsFirst names name place

first_by : (names : List (List ℕ)) (x : List ℕ) (looked : List (List ℕ)) (place : ℕ) → first_place names (x ∷ looked) ≡ Some place
    → (first_place names looked ≡ Some place → FirstThere names looked place) → Found names x → FirstThere names (x ∷ looked) place
first_by names x looked place e later (There here is h) =
    let same : here ≡ place = some_same (sym (ap (λ o. option_or o (first_place names looked)) is) ∙ e) in
    record { before = []; name = x; after = looked; split = refl; missing = tt; there = subst (StandsFirst names x) same h }
first_by names x looked place e later (Nowhere is missing) =
    let f = later (sym (ap (λ o. option_or o (first_place names looked)) is) ∙ e) in
    record { before = x ∷ f.before; name = f.name; after = f.after; split = ap (λ t. x ∷ t) f.split; missing = (missing, f.missing); there = f.there }

first_found : (names looked : List (List ℕ)) (place : ℕ) → first_place names looked ≡ Some place → FirstThere names looked place
first_found names [] place e = absurd (none_some e)
first_found names (x ∷ looked) place e = first_by names x looked place e (λ f. first_found names looked place f) (found names x)

pub first_is : (names looked : List (List ℕ)) (place : ℕ) → first_place names looked ≡ Some place → IsFirstThere names looked place
first_is names looked place e =
    let f = first_found names looked place e in
    record { before = f.before; name = f.name; after = f.after; split = f.split; missing = All-from_recursion (IsMissing names) f.before f.missing; there = f.there }

missing_by : (names : List (List ℕ)) (x : List ℕ) (looked : List (List ℕ)) → first_place names (x ∷ looked) ≡ None
    → (first_place names looked ≡ None → AllByRecursion (IsMissing names) looked) → Found names x → AllByRecursion (IsMissing names) (x ∷ looked)
missing_by names x looked e later (There here is h) = absurd (some_none (sym (ap (λ o. option_or o (first_place names looked)) is) ∙ e))
missing_by names x looked e later (Nowhere is missing) = (missing, later (sym (ap (λ o. option_or o (first_place names looked)) is) ∙ e))

missing_each : (names looked : List (List ℕ)) → first_place names looked ≡ None → AllByRecursion (IsMissing names) looked
missing_each names [] e = tt
missing_each names (x ∷ looked) e = missing_by names x looked e (λ f. missing_each names looked f) (found names x)

pub all_missing : (names looked : List (List ℕ)) → first_place names looked ≡ None → All (IsMissing names) looked
all_missing names looked e = All-from_recursion (IsMissing names) looked (missing_each names looked e)
