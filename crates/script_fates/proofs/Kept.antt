-- Control files that are kept: what has a place keeps it as more come.
use Rattle.std.proofs.Common.{◌≡◌, ◌<◌, ◌≤◌, ◌-◌, ◌++◌, ◌∷◌, [], ℕ, List, Option, Some, None, ap, ◌∙◌, arith, get_or, length, refl, suc, subst, sym, zero}
use Rattle.std.specs.List.{slice_get}
use Rattle.std.proofs.lemmas.Option.{get_or_from_slice_get, slice_get_read, slice_get_within}
use Rattle.address_rules.specs.declared.controls.Controls.{Controls}
use Rattle.script_fates.specs.declared.routers.Routers.{Routers}
use Rattle.script_fates.specs.Routers.{AreMore}

in_front : (xs ys : List Controls) (i : ℕ) (x : Controls) → slice_get xs i ≡ Some x → slice_get (xs ++ ys) i ≡ Some x
in_front [] ys i x is = absurd (let e : ◌≡◌ {A = Option Controls} None (Some x) = is in cc)
in_front (y ∷ xs) ys zero x is = is
in_front (y ∷ xs) ys (suc i) x is = in_front xs ys i x is

at_end : (xs : List Controls) (x : Controls) → slice_get (xs ++ x ∷ []) (length xs) ≡ Some x
at_end [] x = refl
at_end (y ∷ xs) x = at_end xs x

pub same_kept : (r : Routers) → AreMore r r
same_kept r = record { unrouted = refl; read = λ place by is. is }

-- one is put at the end
pub more_read : (old new : Routers) (x : Controls) → new.unrouted ≡ old.unrouted → new.read.items ≡ old.read.items ++ x ∷ [] → AreMore old new
more_read old new x none items = record {
  unrouted = none;
  read = λ place by is. subst (λ (l : List Controls). slice_get l place ≡ Some by) (sym items) (in_front old.read.items (x ∷ []) place by is);
}

pub put_at : (xs ys : List Controls) (many : ℕ) (x y : Controls) → many ≡ length xs → ys ≡ xs ++ x ∷ [] → x ≡ y → slice_get ys many ≡ Some y
put_at xs ys many x y long items is =
    ap (λ (l : List Controls). slice_get l many) items ∙ ap (λ (k : ℕ). slice_get (xs ++ x ∷ []) k) long ∙ at_end xs x ∙ ap (λ (c : Controls). Some c) is

-- The newest

pub newest_at : (xs : List Controls) (many : ℕ) (x y : Controls) → many ≡ length xs → 0 < many → x ≡ get_or xs (many - 1) x → x ≡ y → slice_get xs (many - 1) ≡ Some y
newest_at xs many x y long some one is = slice_get_read xs many (many - 1) x long (omega (arith, some)) one ∙ ap (λ (c : Controls). Some c) is

pub newest_is : (xs : List Controls) (many : ℕ) (x y : Controls) → many ≡ length xs → x ≡ get_or xs (many - 1) x → slice_get xs (length xs - 1) ≡ Some y → x ≡ y
newest_is xs many x y long one newest = one ∙ ap (λ (k : ℕ). get_or xs (k - 1) x) long ∙ get_or_from_slice_get xs (length xs - 1) y x newest

pub no_newest : (xs : List Controls) (many : ℕ) (y : Controls) → many ≡ length xs → many ≤ 0 → slice_get xs (length xs - 1) ≡ Some y → ⊥
no_newest xs many y long none newest = let within = slice_get_within xs (length xs - 1) y newest in absurd (omega (arith, within, long, none))

pub not_newest : (xs ys : List Controls) (y : Controls) → (slice_get xs (length xs - 1) ≡ Some y → ⊥) → slice_get xs (length xs - 1) ≡ Some y → ys ≡ xs
not_newest xs ys y none newest = absurd (none newest)
