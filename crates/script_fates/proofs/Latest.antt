-- By which controls the recipients of a mail are routed: in its life that lasts, or in the newest that is over.
use Rattle.std.proofs.Common.{◌≡◌, ℕ, List, [], ◌∷◌, reverse, Bool, true, false, Option, Some, None, refl, sym, ap, ◌∙◌, subst}
use Rattle.std.specs.Prelude.{◌&&◌, ◌==◌, bytes_eq, if◌then◌else◌, option_map}
use Rattle.std.specs.List.{AllZip, find}
use Rattle.std.specs.Ordering.{nat_cmp}
use Rattle.std.specs.BTreeMap.{get}
use Rattle.std.proofs.lemmas.Bool.{eqb-true}
use Rattle.address_rules.specs.declared.controls.Controls.{Controls}
use Rattle.queue_law.specs.Books.{Books, Injection}
use Rattle.queue_paths.specs.Names.{is_number}
use Rattle.script_fates.specs.declared.fates.Fates.{Fates}
use Rattle.script_fates.specs.declared.fates.Tenure.{Tenure}
use Rattle.script_fates.specs.declared.routers.Routers.{Routers}
use Rattle.script_fates.specs.Fates.{AreFates, IsTenure, IsTenureIf}
use Rattle.script_fates.specs.Routers.{routes_at}
use Rattle.script_fates.specs.Lasting.{is_so, routes_by, routes_over, routes_when}
use Rattle.script_fates.proofs.Lives.{numbered}

-- that mail's life with this number
abbrev pub is_kept_so : List ℕ → ℕ → Tenure → Bool
is_kept_so mail n t = (t.number == n) && bytes_eq t.mail mail

same_life : (r : Routers) (mail : List ℕ) (n : ℕ) (t : Tenure) (q : Injection) → IsTenure r t q → is_kept_so mail n t ≡ is_so mail n q
same_life r mail n t q h =
    ap (λ (k : ℕ). (k == n) && bytes_eq t.mail mail) h.number
    ∙ ap (λ (a : List ℕ). (q.number == n) && bytes_eq a mail) h.mail

abbrev pub routes_kept : Routers → Option Tenure → Option Controls
routes_kept r None = None
routes_kept r (Some t) = routes_at r t.routes

abbrev pub routes_told : Option Injection → Option Controls
routes_told o = option_map (λ (q : Injection). q.ledger.routes) o

zip_found : (r : Routers) (mail : List ℕ) (n : ℕ) (ts : List Tenure) (qs : List Injection) → AllZip (IsTenure r) ts qs → routes_kept r (find (is_kept_so mail n) ts) ≡ routes_told (find (is_so mail n) qs)
zip_found r mail n [] [] all = refl
zip_found r mail n [] (q ∷ qs) all = absurd all
zip_found r mail n (t ∷ ts) [] all = absurd all
zip_found r mail n (t ∷ ts) (q ∷ qs) all = by (is_kept_so mail n t) (is_so mail n q) (same_life r mail n t q all.0) (zip_found r mail n ts qs all.1)
  where
    by : (a b : Bool) → a ≡ b → routes_kept r (find (is_kept_so mail n) ts) ≡ routes_told (find (is_so mail n) qs)
        → routes_kept r (if a then Some t else find (is_kept_so mail n) ts) ≡ routes_told (if b then Some q else find (is_so mail n) qs)
    by true true e rest = all.0.routes
    by false false e rest = rest
    by true false e rest = absurd (cc)
    by false true e rest = absurd (cc)

-- those of other numbers don't count
numbered_found : (mail : List ℕ) (n : ℕ) (qs : List Injection) → is_number n ≡ true → find (is_so mail n) (numbered qs) ≡ find (is_so mail n) qs
numbered_found mail n [] is = refl
numbered_found mail n (q ∷ qs) is = by (is_number q.number) refl (numbered_found mail n qs is)
  where
    apart : (b : Bool) → (q.number == n) ≡ b → is_number q.number ≡ false → is_so mail n q ≡ false
    apart true same none = absurd (let e : true ≡ false = sym is ∙ ap is_number (sym (eqb-true q.number n same)) ∙ none in cc)
    apart false other none = ap (λ (b : Bool). b && bytes_eq q.actor mail) other

    by : (b : Bool) → is_number q.number ≡ b → find (is_so mail n) (numbered qs) ≡ find (is_so mail n) qs → find (is_so mail n) (if b then q ∷ numbered qs else numbered qs) ≡ find (is_so mail n) (q ∷ qs)
    by true k rest = ap (λ (o : Option Injection). if is_so mail n q then Some q else o) rest
    by false k rest = rest ∙ sym (ap (λ (b : Bool). if b then Some q else find (is_so mail n) qs) (apart (q.number == n) refl k))

pub over_found : (f : Fates) (b : Books) (mail : List ℕ) (n : ℕ) → AreFates f b → is_number n ≡ true → routes_kept f.routers (find (is_kept_so mail n) (reverse f.over.items)) ≡ routes_over mail n b.over
over_found f b mail n h is = zip_found f.routers mail n (reverse f.over.items) (numbered b.over) h.over ∙ ap routes_told (numbered_found mail n b.over is)

pub routes_here : (f : Fates) (b : Books) (mail : List ℕ) (n : ℕ) (t : Tenure) → AreFates f b → is_number n ≡ true → get nat_cmp f.living n ≡ Some t → bytes_eq t.mail mail ≡ true
    → routes_at f.routers t.routes ≡ routes_by b mail (Some n)
routes_here f b mail n t h is there own = by (b.living n) (subst (λ (o : Option Tenure). IsTenureIf f.routers o (b.living n)) there (h.living n is))
  where
    by : (o : Option Injection) → IsTenureIf f.routers (Some t) o → routes_at f.routers t.routes ≡ routes_when mail n o b.over
    by None k = absurd k
    by (Some q) k =
        let same : bytes_eq q.actor mail ≡ true = ap (λ (a : List ℕ). bytes_eq a mail) (sym k.mail) ∙ own in
        k.routes ∙ sym (ap (λ (c : Bool). if c then Some q.ledger.routes else routes_over mail n b.over) same)

-- this life is another mail's
abbrev pub IsApartIf : List ℕ → Option Tenure → Type 0
IsApartIf mail None = Unit {0}
IsApartIf mail (Some t) = bytes_eq t.mail mail ≡ false

pub routes_gone : (f : Fates) (b : Books) (mail : List ℕ) (n : ℕ) → AreFates f b → is_number n ≡ true → IsApartIf mail (get nat_cmp f.living n) → routes_over mail n b.over ≡ routes_by b mail (Some n)
routes_gone f b mail n h is apart = by (get nat_cmp f.living n) (b.living n) apart (h.living n is)
  where
    by : (t : Option Tenure) (o : Option Injection) → IsApartIf mail t → IsTenureIf f.routers t o → routes_over mail n b.over ≡ routes_when mail n o b.over
    by None None apart k = refl
    by None (Some q) apart k = absurd k
    by (Some t) None apart k = absurd k
    by (Some t) (Some q) apart k =
        let other : bytes_eq q.actor mail ≡ false = ap (λ (a : List ℕ). bytes_eq a mail) (sym k.mail) ∙ apart in
        sym (ap (λ (c : Bool). if c then Some q.ledger.routes else routes_over mail n b.over) other)
