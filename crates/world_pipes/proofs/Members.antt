-- The names of the members of a generation, and whose programs run in slots.
use Rattle.std.proofs.Common.{◌≡◌, ◌≢◌, ◌⊎◌, inl, inr, ℕ, zero, suc, ◌<◌, List, [], ◌∷◌, length, Bool, true, false, ◌&&◌, ◌||◌, Some, refl, sym, ap, ◌∙◌, subst, ⊎_elim, bytes_eq, codes, arith, Decides}
use Rattle.std.specs.Prelude.{Contains}
use Rattle.std.specs.List.{slice_index_or}
use Rattle.std.proofs.lemmas.Slice.Eq.{bytes_eq-Decides}
use Rattle.actor_names.specs.MailNames.{IsMailName, members}
use Rattle.world_pipes.specs.Pipework.{Pipework, is_member}
use Rattle.world_pipes.specs.Pipework.Tenant.{Runs}

choose : (b : Bool) {P : Type 0} → Decides b P → (P × (b ≡ true)) ⊎ ((P → ⊥) × (b ≡ false))
choose true h = inl (h.0 refl, refl)
choose false h = inr ((λ p. absurd (cc (h.1 p))), refl)

-- whether a text is another one
pub text_cases : (q k : List ℕ) → ((q ≡ k) × (bytes_eq q k ≡ true)) ⊎ ((q ≢ k) × (bytes_eq q k ≡ false))
text_cases q k = choose (bytes_eq q k) (bytes_eq-Decides q k)

pub same_text : (p : List ℕ) → bytes_eq p p ≡ true
same_text p = (bytes_eq-Decides p p).1 refl

pub other_text : (q k : List ℕ) → q ≢ k → bytes_eq q k ≡ false
other_text q k apart = ⊎_elim (λ h. absurd (apart h.0)) (λ h. h.1) (text_cases q k)

-- no actor runs in a slot
abbrev pub NoActorRuns : Pipework → Type 0
NoActorRuns w = (a : List ℕ) (d : ℕ) (b : List ℕ) → w.programs a d ≡ Some (Runs b) → ⊥

pub whether : (t : Bool) → (t ≡ true) ⊎ (t ≡ false)
whether true = inl refl
whether false = inr refl

-- two names, of which one is a member's
pub other_than : (a b : List ℕ) → is_member a ≡ false → is_member b ≡ true → a ≢ b
other_than a b other is same = let both : false ≡ true = sym other ∙ ap is_member same ∙ is in absurd (cc)

none_of : (p q r t : Bool) → p ≡ false → q ≡ false → r ≡ false → t ≡ false → (p || (q || (r || (t || false)))) ≡ false
none_of p q r t hp hq hr ht =
    ap (λ p. p || (q || (r || (t || false)))) hp ∙ ap (λ q. q || (r || (t || false))) hq ∙ ap (λ r. r || (t || false)) hr ∙ ap (λ t. t || false) ht

-- a member has one of the four names
abbrev pub IsOneOfFour : List ℕ → Type 0
IsOneOfFour a = (a ≡ codes "sender") ⊎ ((a ≡ codes "clean") ⊎ ((a ≡ codes "lspawn") ⊎ (a ≡ codes "rspawn")))

pub member_cases : (a : List ℕ) → is_member a ≡ true → IsOneOfFour a
member_cases a is = ⊎_elim
    (λ f. inl f.0)
    (λ f. ⊎_elim
    (λ g. inr (inl g.0))
    (λ g. ⊎_elim
    (λ h. inr (inr (inl h.0)))
    (λ h. ⊎_elim
    (λ i. inr (inr (inr i.0)))
    (λ i. let both : false ≡ true = sym (none_of _ _ _ _ f.1 g.1 h.1 i.1) ∙ is in absurd (cc))
    (text_cases a (codes "rspawn")))
    (text_cases a (codes "lspawn")))
    (text_cases a (codes "clean")))
    (text_cases a (codes "sender"))

-- and is one of the list of them
contained : (a : List ℕ) → IsOneOfFour a → Contains members a
contained a one = ⊎_elim
    (λ e. subst (Contains members) (sym e) (0, omega arith, refl))
    (λ f. ⊎_elim
    (λ e. subst (Contains members) (sym e) (1, omega arith, refl))
    (λ g. ⊎_elim
    (λ e. subst (Contains members) (sym e) (2, omega arith, refl))
    (λ e. subst (Contains members) (sym e) (3, omega arith, refl))
    g) f) one

pub member_contained : (a : List ℕ) → is_member a ≡ true → Contains members a
member_contained a is = contained a (member_cases a is)

by_place : (a : List ℕ) (k : ℕ) → k < length members → slice_index_or members k a ≡ a → is_member a ≡ true
by_place a zero lt is = ap is_member (sym is)
by_place a (suc zero) lt is = ap is_member (sym is)
by_place a (suc (suc zero)) lt is = ap is_member (sym is)
by_place a (suc (suc (suc zero))) lt is = ap is_member (sym is)
by_place a (suc (suc (suc (suc k)))) lt is = absurd (omega arith)

pub contained_member : (a : List ℕ) → Contains members a → is_member a ≡ true
contained_member a c = by_place a c.0 c.1 c.2

-- the name of a mail is none of them
pub mail_is_none : (a : List ℕ) → IsMailName a → is_member a ≡ false
mail_is_none [] named = absurd named
mail_is_none (first ∷ rest) named = ⊎_elim
    (λ is. absurd (named.3 (member_contained (first ∷ rest) is)))
    (λ other. other)
    (whether (is_member (first ∷ rest)))

-- two tests agree of an actor, if they do when it is that one
pub if_its : (b a : List ℕ) (t u : Bool) → (b ≡ a → t ≡ u) → (bytes_eq b a && t) ≡ (bytes_eq b a && u)
if_its b a t u agree = ⊎_elim
    (λ w. ap (λ c. bytes_eq b a && c) (agree w.0))
    (λ w. ap (λ c. c && t) w.1 ∙ sym (ap (λ c. c && u) w.1))
    (text_cases b a)
