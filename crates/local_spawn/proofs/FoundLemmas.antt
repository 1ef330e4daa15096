-- The line of a local part as a function is the one of the choice.
use Rattle.std.proofs.Common.{◌≡◌, ℕ, suc, ◌+◌, ◌<◌, List, [], ◌∷◌, length, take, map, Bool, true, false, ◌&&◌, Option, Some, None, refl, sym, ap, ◌∙◌, subst, arith, nat_le, nat_lt}
use Rattle.std.specs.Prelude.{MatchOption, if◌then◌else◌, slice_get}
use Rattle.std.proofs.lemmas.Bool.{false≢true, leb-true, le-leb, ltb-true, ltb-false}
use Rattle.std.proofs.lemmas.Slice.Eq.{bytes_eq-Decides}
use Rattle.mail_bytes.specs.Fold.{folded}
use Rattle.local_spawn.specs.declared.assign.Assignment.{Assignment}
use Rattle.local_spawn.specs.declared.finding.Found.{Found}
use Rattle.local_spawn.specs.declared.kinds.Kind.{Kind}
use Rattle.local_spawn.specs.declared.kinds.Kind.TheVariants.{Simple, Wildcard}
use Rattle.local_spawn.specs.Finding.{Becomes, BeginsFor, IsBest, IsFor, IsForNobody, IsFound, NoneIsFor}
use Rattle.local_spawn.specs.Finding.Becomes.{Stays, IsAsLong, IsLonger}
use Rattle.local_spawn.specs.Finding.IsFound.{ByName}
use Rattle.local_spawn.specs.Users.{begins_for, better_of, found_from, found_in, is_alike, is_for, is_simple, is_wildcard, longer_of}
use Rattle.local_spawn.proofs.FindingLemmas.{best_more, found_best, no_user, none_more, one_user}

both : (x y : Bool) → x && y ≡ true → (x ≡ true) × (y ≡ true)
both true y e = (refl, e)
both false y e = absurd (false≢true e)

of_both : (x y : Bool) → x ≡ true → y ≡ true → x && y ≡ true
of_both true y e f = f
of_both false y e f = absurd (false≢true e)

simple_is : (kind : Kind) → is_simple kind ≡ true → kind ≡ Simple
simple_is Simple e = refl
simple_is Wildcard e = absurd (false≢true e)

wildcard_is : (kind : Kind) → is_wildcard kind ≡ true → kind ≡ Wildcard
wildcard_is Wildcard e = refl
wildcard_is Simple e = absurd (false≢true e)

for_it : (a : Assignment) (local : List ℕ) → is_for a local ≡ true → IsFor a local
for_it a local e =
    let w = both (is_simple a.kind) (is_alike a.local local) e in
    (simple_is a.kind w.0, (bytes_eq-Decides (map folded a.local) (map folded local)).0 w.1)

is_for_it : (a : Assignment) (local : List ℕ) → IsFor a local → is_for a local ≡ true
is_for_it a local h = of_both (is_simple a.kind) (is_alike a.local local) (ap is_simple h.0) ((bytes_eq-Decides (map folded a.local) (map folded local)).1 h.1)

begins_it : (a : Assignment) (local : List ℕ) → begins_for a local ≡ true → BeginsFor a local
begins_it a local e =
    let w = both (is_wildcard a.kind) (nat_le (length a.local) (length local) && is_alike a.local (take (length a.local) local)) e in
    let v = both (nat_le (length a.local) (length local)) (is_alike a.local (take (length a.local) local)) w.1 in
    (wildcard_is a.kind w.0, leb-true (length a.local) (length local) v.0, (bytes_eq-Decides (map folded a.local) (map folded (take (length a.local) local))).0 v.1)

is_begun : (a : Assignment) (local : List ℕ) → BeginsFor a local → begins_for a local ≡ true
is_begun a local h =
    of_both (is_wildcard a.kind) (nat_le (length a.local) (length local) && is_alike a.local (take (length a.local) local)) (ap is_wildcard h.0)
    (of_both (nat_le (length a.local) (length local)) (is_alike a.local (take (length a.local) local)) (le-leb (length a.local) (length local) h.1)
    ((bytes_eq-Decides (map folded a.local) (map folded (take (length a.local) local))).1 h.2))

same_rest : (a b : Found) → ◌≡◌ {A = Option Found} (Some a) (Some b) → a.rest ≡ b.rest
same_rest a b e = cc

none_some : (found : Found) → ◌≡◌ {A = Option Found} None (Some found) → ⊥
none_some found e = cc

becomes : (best : Option Found) (at : ℕ) (a : Assignment) (local : List ℕ) → Becomes best at a local (better_of best at a local)
becomes best at a local = by (begins_for a local) refl where
  longer : (o : Option Found) → BeginsFor a local → Becomes o at a local (longer_of o (record { line = at; rest = length a.local }))
  longer None begins = IsLonger begins (λ found e. absurd (none_some found e)) refl
  longer (Some found) begins = pick (nat_lt found.rest (length a.local)) refl where
    pick : (b : Bool) → nat_lt found.rest (length a.local) ≡ b → Becomes (Some found) at a local (if b then Some (record { line = at; rest = length a.local }) else Some found)
    pick true e = IsLonger begins (λ other same. let r = same_rest found other same in let lt = ltb-true found.rest (length a.local) e in omega arith) refl
    pick false e = IsAsLong found refl (ltb-false found.rest (length a.local) e) refl

  by : (b : Bool) → begins_for a local ≡ b → Becomes best at a local (if b then longer_of best (record { line = at; rest = length a.local }) else best)
  by true e = longer best (begins_it a local e)
  by false e = Stays (λ h. false≢true (sym e ∙ is_begun a local h)) refl

module _ (lines : List Assignment) (local : List ℕ) where
  abbrev Is : Option Found → Type 0
  Is o = MatchOption o (IsForNobody lines local) (IsFound lines local)

  from_is : (at : ℕ) (best : Option Found) (rest : List Assignment) → ((k : ℕ) → slice_get rest k ≡ slice_get lines (at + k)) → at + length rest ≡ length lines
      → NoneIsFor lines local at → IsBest lines local at best → Is (found_from at best rest local)
  from_is at best [] same long none h =
      let all : at ≡ length lines = omega arith in
      found_best lines local best (subst (NoneIsFor lines local) all none) (subst (λ n. IsBest lines local n best) all h)
  from_is at best (a ∷ rest) same long none h =
      by (is_for a local) refl
      (λ e. from_is (at + 1) (better_of best at a local) rest later (let l = long in omega arith)
      (none_more lines local at a here (λ is. false≢true (sym e ∙ is_for_it a local is)) none)
      (best_more lines local at a best (better_of best at a local) here (becomes best at a local) h))
    where
      plus_none : (n : ℕ) → n ≡ n + 0
      plus_none n = omega arith

      here : slice_get lines at ≡ Some a
      here = ap (slice_get lines) (plus_none at) ∙ sym (same 0)

      moved : (n k : ℕ) → n + suc k ≡ n + 1 + k
      moved n k = omega arith

      later : (k : ℕ) → slice_get rest k ≡ slice_get lines (at + 1 + k)
      later k = same (suc k) ∙ ap (slice_get lines) (moved at k)

      by : (b : Bool) → is_for a local ≡ b → (is_for a local ≡ false → Is (found_from (at + 1) (better_of best at a local) rest local))
          → Is (if b then Some (record { line = at; rest = length local }) else found_from (at + 1) (better_of best at a local) rest local)
      by true e more = ByName (record { assignment = a; here = here; is_for = for_it a local e; first = none }) refl
      by false e more = more e

  no_place : (k : ℕ) → k < 0 → ⊥
  no_place k lt = omega arith

  at_begin : (k : ℕ) → slice_get lines k ≡ slice_get lines (0 + k)
  at_begin k = ap (slice_get lines) (none_plus k) where
    none_plus : (n : ℕ) → n ≡ 0 + n
    none_plus n = omega arith

  pub found_is : Is (found_in lines local)
  found_is = from_is 0 None lines at_begin (whole (length lines)) (λ k a lt here is. no_place k lt) (λ k a lt here begins. no_place k lt) where
    whole : (n : ℕ) → 0 + n ≡ n
    whole n = omega arith

  -- there is one answer
  pub one_answer : (o : Option Found) → Is o → o ≡ found_in lines local
  one_answer o is = by o (found_in lines local) is found_is where
    by : (x y : Option Found) → Is x → Is y → x ≡ y
    by None None h k = refl
    by None (Some found) h k = absurd (no_user lines local found h k)
    by (Some found) None h k = absurd (no_user lines local found k h)
    by (Some found) (Some other) h k = ap (λ f. let o : Option Found = Some f in o) (one_user lines local found other h k)
