-- Options one after the other, a place past the end of a list, and the last `@` of an address.
use Rattle.std.proofs.Common.{◌≡◌, ◌≢◌, ◌≤◌, ℕ, List, [], ◌∷◌, length, set, eqb, Option, Some, None, Bool, true, false, refl, ap, ◌∙◌, subst}
use Rattle.std.specs.Prelude.{All, if◌then◌else◌}
use Rattle.std.specs.List.{AllByRecursion}
use Rattle.std.specs.Option.{option_or}
use Rattle.std.proofs.lemmas.Bool.{eqb-true, eqb-false}
use Rattle.std.proofs.lemmas.List.{set_past}
use Rattle.std.proofs.lemmas.List.Elements.{All-from_recursion}
use Rattle.spawner_parts.specs.Asked.{IsSplit, host_here, host_of}

pub or_none : (x : Option (List ℕ)) → option_or x None ≡ x
or_none None = refl
or_none (Some a) = refl

pub or_assoc : (x y z : Option (List ℕ)) → option_or x (option_or y z) ≡ option_or (option_or x y) z
or_assoc None y z = refl
or_assoc (Some a) y z = refl

pub set_out_of : (xs : List Bool) (i : ℕ) (y : Bool) → length xs ≤ i → set xs i y ≡ xs
set_out_of xs i y past = set_past xs i y past

-- The last `@` of an address

no_some : (x : List ℕ) → ◌≡◌ {A = Option (List ℕ)} (Some x) None → ⊥
no_some x e = cc

none_some : (x : List ℕ) → ◌≡◌ {A = Option (List ℕ)} None (Some x) → ⊥
none_some x e = cc

same_some : (x y : List ℕ) → ◌≡◌ {A = Option (List ℕ)} (Some x) (Some y) → x ≡ y
same_some x y e = cc

-- an address without a host has no `@`
no_host : (address : List ℕ) → host_of address ≡ None → AllByRecursion (λ b. b ≢ 64) address
no_host [] e = tt
no_host (b ∷ rest) e = by (host_of rest) refl (λ is. no_host rest is) where
  here : (t : Bool) → eqb b 64 ≡ t → option_or None (if t then Some rest else None) ≡ None → b ≢ 64
  here true is none = absurd (no_some rest none)
  here false is none = eqb-false b 64 is

  by : (o : Option (List ℕ)) → host_of rest ≡ o → (host_of rest ≡ None → AllByRecursion (λ b. b ≢ 64) rest) → AllByRecursion (λ b. b ≢ 64) (b ∷ rest)
  by None is more = (here (eqb b 64) refl (subst (λ o. option_or o (host_here b rest) ≡ None) is e), more is)
  by (Some host) is more = absurd (no_some host (subst (λ o. option_or o (host_here b rest) ≡ None) is e))

pub host_splits : (address host : List ℕ) → host_of address ≡ Some host → (local : List ℕ) × IsSplit address local host
host_splits [] host e = absurd (none_some host e)
host_splits (b ∷ rest) host e = by (host_of rest) refl (λ is. host_splits rest host is) where
  here : (t : Bool) → eqb b 64 ≡ t → host_of rest ≡ None → option_or None (if t then Some rest else None) ≡ Some host → (local : List ℕ) × IsSplit (b ∷ rest) local host
  here true is none same =
      let e = same_some rest host same in (
        [],
        record {
          split = ap (λ c. c ∷ rest) (eqb-true b 64 is) ∙ ap (λ h. 64 ∷ h) e;
          last = subst (λ h. All (λ c. c ≢ 64) h) e (All-from_recursion (λ c. c ≢ 64) rest (no_host rest none));
        },
      )
  here false is none same = absurd (none_some host same)

  by : (o : Option (List ℕ)) → host_of rest ≡ o → (host_of rest ≡ Some host → (local : List ℕ) × IsSplit rest local host) → (local : List ℕ) × IsSplit (b ∷ rest) local host
  by None is later = here (eqb b 64) refl is (subst (λ o. option_or o (host_here b rest) ≡ Some host) is e)
  by (Some found) is later =
      let same = same_some found host (subst (λ o. option_or o (host_here b rest) ≡ Some host) is e) in
      let more = later (is ∙ ap (λ h. let o : Option (List ℕ) = Some h in o) same) in
      (b ∷ more.0, record { split = ap (λ t. b ∷ t) more.1.split; last = more.1.last })
