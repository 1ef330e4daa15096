-- The best line so far, and that a local part belongs to one line.
use Rattle.std.proofs.Common.{◌≡◌, ◌≢◌, ℕ, ◌+◌, ◌<◌, ◌≤◌, List, length, Option, Some, None, refl, sym, ap, ◌∙◌, subst, ⊎_elim, arith}
use Rattle.std.specs.Prelude.{MatchOption, slice_get}
use Rattle.std.proofs.lemmas.Bool.{cases_lt, cases_eq}
use Rattle.std.proofs.lemmas.Option.{slice_get_within}
use Rattle.local_spawn.specs.declared.assign.Assignment.{Assignment}
use Rattle.local_spawn.specs.declared.finding.Found.{Found}
use Rattle.local_spawn.specs.Finding.{Becomes, BeginsFor, IsBest, IsFirstFor, IsFor, IsForNobody, IsFound, IsLongestFor, NoneIsFor}
use Rattle.local_spawn.specs.Finding.Becomes.{Stays, IsAsLong, IsLonger}
use Rattle.local_spawn.specs.Finding.IsFound.{ByName, ByBeginning}

some_line : (a b : Assignment) → ◌≡◌ {A = Option Assignment} (Some a) (Some b) → a ≡ b
some_line a b e = cc

some_found : (a b : Found) → ◌≡◌ {A = Option Found} (Some a) (Some b) → a ≡ b
some_found a b e = cc

same_line : (lines : List Assignment) (k i : ℕ) (a b : Assignment) → slice_get lines i ≡ Some a → k ≡ i → slice_get lines k ≡ Some b → a ≡ b
same_line lines k i a b here e there = some_line a b (sym here ∙ ap (slice_get lines) (sym e) ∙ there)

-- What holds below a place, and there, holds below the next one.
below : (P : Assignment → Type 0) (lines : List Assignment) (i : ℕ) (a : Assignment) → slice_get lines i ≡ Some a → P a
    → ((k : ℕ) (b : Assignment) → k < i → slice_get lines k ≡ Some b → P b) → (k : ℕ) (b : Assignment) → k < i + 1 → slice_get lines k ≡ Some b → P b
below P lines i a here at_it earlier k b lt there = ⊎_elim
    (λ same. subst P (same_line lines k i a b here same there) at_it)
    (λ apart. earlier k b (nearer apart) there)
    (cases_eq k i)
  where
    nearer : k ≢ i → k < i
    nearer apart = omega arith

pub none_more : (lines : List Assignment) (local : List ℕ) (i : ℕ) (a : Assignment) → slice_get lines i ≡ Some a → ¬ (IsFor a local) → NoneIsFor lines local i → NoneIsFor lines local (i + 1)
none_more lines local i a here isnt h = below (λ b. ¬ (IsFor b local)) lines i a here isnt h

-- The longest wildcard

abbrev IsShort : List ℕ → ℕ → Assignment → Type 0
IsShort local long a = BeginsFor a local → length a.local ≤ long

stays : (lines : List Assignment) (local : List ℕ) (i : ℕ) (a : Assignment) (best : Option Found) → slice_get lines i ≡ Some a
    → ((found : Found) → best ≡ Some found → IsShort local found.rest a) → (best ≡ None → ¬ (BeginsFor a local)) → IsBest lines local i best → IsBest lines local (i + 1) best
stays lines local i a None here short isnt h = below (λ b. ¬ (BeginsFor b local)) lines i a here (isnt refl) h
stays lines local i a (Some found) here short isnt h = record {
  assignment = h.assignment;
  inside = let lt = h.inside in omega arith;
  here = h.here;
  begins = h.begins;
  is_long = h.is_long;
  longest = below (IsShort local found.rest) lines i a here (short found refl) h.longest;
  first = h.first;
}

none_some : (found : Found) → ◌≡◌ {A = Option Found} None (Some found) → ⊥
none_some found e = absurd (cc)

-- all wildcards before a longer one are shorter
shorter : (lines : List Assignment) (local : List ℕ) (i long : ℕ) (best : Option Found) → IsBest lines local i best → ((found : Found) → best ≡ Some found → found.rest < long)
    → (k : ℕ) (b : Assignment) → k < i → slice_get lines k ≡ Some b → BeginsFor b local → length b.local < long
shorter lines local i long None h longer k b lt there begins = absurd (h k b lt there begins)
shorter lines local i long (Some found) h longer k b lt there begins = let low = h.longest k b lt there begins in let high = longer found refl in omega arith

longer_one : (lines : List Assignment) (local : List ℕ) (i : ℕ) (a : Assignment) (best : Option Found) → slice_get lines i ≡ Some a → BeginsFor a local
    → ((found : Found) → best ≡ Some found → found.rest < length a.local) → IsBest lines local i best → IsLongestFor lines local (i + 1) i (length a.local)
longer_one lines local i a best here begins longer h = record {
  assignment = a;
  inside = omega arith;
  here = here;
  begins = begins;
  is_long = refl;
  longest = below (IsShort local (length a.local)) lines i a here (λ _. omega arith) (λ k b lt there it. let low = shorter lines local i (length a.local) best h longer k b lt there it in omega arith);
  first = shorter lines local i (length a.local) best h longer;
}

pub best_more : (lines : List Assignment) (local : List ℕ) (i : ℕ) (a : Assignment) (best after : Option Found) → slice_get lines i ≡ Some a → Becomes best i a local after
    → IsBest lines local i best → IsBest lines local (i + 1) after
best_more lines local i a best after here (Stays isnt e) h =
    subst (IsBest lines local (i + 1)) (sym e) (stays lines local i a best here (λ found is begins. absurd (isnt begins)) (λ _. isnt) h)
best_more lines local i a best after here (IsAsLong found is long e) h =
    subst (IsBest lines local (i + 1)) (sym e)
    (stays lines local i a best here
    (λ other same begins. let rest : found.rest ≡ other.rest = ap (λ f. f.rest) (some_found found other (sym is ∙ same)) in omega arith)
    (λ none. absurd (none_some found (sym none ∙ is))) h)
best_more lines local i a best after here (IsLonger begins longer e) h =
    subst (IsBest lines local (i + 1)) (sym e) (longer_one lines local i a best here begins longer h)

-- at the end
pub found_best : (lines : List Assignment) (local : List ℕ) (best : Option Found) → NoneIsFor lines local (length lines) → IsBest lines local (length lines) best
    → MatchOption best (IsForNobody lines local) (IsFound lines local)
found_best lines local None isnt h = (isnt, h)
found_best lines local (Some found) isnt h = ByBeginning isnt h

-- A local part belongs to one line.

same_found : (f g : Found) → f.line ≡ g.line → f.rest ≡ g.rest → f ≡ g
same_found f g e r = λ i. record { line = e i; rest = r i }

-- two places, of which neither is before the other
same_place : (i k : ℕ) → (i < k → ⊥) → (k < i → ⊥) → i ≡ k
same_place i k isnt nor = ⊎_elim (λ lt. absurd (isnt lt)) (λ le. ⊎_elim (λ lt. absurd (nor lt)) (λ ge. omega arith) (cases_lt k i)) (cases_lt i k)

one_first : (lines : List Assignment) (local : List ℕ) (i k : ℕ) → IsFirstFor lines local i → IsFirstFor lines local k → i ≡ k
one_first lines local i k h j = same_place i k (λ lt. j.first i h.assignment lt h.here h.is_for) (λ lt. h.first k j.assignment lt j.here j.is_for)

not_both : (lines : List Assignment) (local : List ℕ) (i : ℕ) → IsFirstFor lines local i → NoneIsFor lines local (length lines) → ⊥
not_both lines local i h none = none i h.assignment (slice_get_within lines i h.assignment h.here) h.here h.is_for

one_longest : (lines : List Assignment) (local : List ℕ) (end i k long other : ℕ) → IsLongestFor lines local end i long → IsLongestFor lines local end k other → (i ≡ k) × (long ≡ other)
one_longest lines local end i k long other h j =
    let low : long ≤ other = let e = h.is_long in let le = j.longest i h.assignment h.inside h.here h.begins in omega arith in
    let high : other ≤ long = let e = j.is_long in let le = h.longest k j.assignment j.inside j.here j.begins in omega arith in (
      same_place i k
          (λ lt. let e = h.is_long in let less = j.first i h.assignment lt h.here h.begins in absurd (omega arith))
          (λ lt. let e = j.is_long in let less = h.first k j.assignment lt j.here j.begins in absurd (omega arith)),
      omega arith,
    )

pub one_user : (lines : List Assignment) (local : List ℕ) (found other : Found) → IsFound lines local found → IsFound lines local other → found ≡ other
one_user lines local found other (ByName h e) (ByName k f) = same_found found other (one_first lines local found.line other.line h k) (e ∙ sym f)
one_user lines local found other (ByName h e) (ByBeginning none k) = absurd (not_both lines local found.line h none)
one_user lines local found other (ByBeginning none k) (ByName h e) = absurd (not_both lines local other.line h none)
one_user lines local found other (ByBeginning none h) (ByBeginning isnt k) =
    let w = one_longest lines local (length lines) found.line other.line found.rest other.rest h k in
    same_found found other w.0 w.1

pub no_user : (lines : List Assignment) (local : List ℕ) (found : Found) → IsForNobody lines local → ¬ (IsFound lines local found)
no_user lines local found none (ByName h e) = not_both lines local found.line h none.0
no_user lines local found none (ByBeginning isnt h) = none.1 found.line h.assignment h.inside h.here h.begins
