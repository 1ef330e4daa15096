-- What holds or doesn't: tests of numbers, of options and of lists.
use Rattle.std.proofs.Common.{◌≡◌, ◌⊎◌, inl, inr, ⊎_elim, ℕ, ◌≤◌, List, [], ◌∷◌, All, Contains, length, Bool, true, false, Option, Some, None, IsSome, Ordering, Less, Equal, Greater, Decides, bytes_eq, refl, ap, arith}
use Rattle.std.proofs.lemmas.Bool.{cases_lt}
use Rattle.std.proofs.lemmas.List.Elements.{All-nil, All-cons, All-head, All-tail}
use Rattle.std.proofs.lemmas.Bool.Decides.{eqb_tells}
use Rattle.std.proofs.lemmas.Slice.Eq.{bytes_eq-Decides}
use Rattle.std.specs.Prelude.{◌==◌}
use Rattle.std.specs.List.{slice_split}
use Rattle.call_fs.specs.Names.{IsPart, IsName, without_slash}
use Rattle.crash_fs.proofs.InOrder.{contains_among, among_contains}

-- it holds, or it doesn't
abbrev pub Decided : Type 0 → Type 0
Decided P = P ⊎ (¬ P)

pub both : {P Q : Type 0} → Decided P → Decided Q → Decided (P × Q)
both p q =
    ⊎_elim
    (λ holds. ⊎_elim (λ too. inl (holds, too)) (λ fails. inr (λ h. fails h.1)) q)
    (λ fails. inr (λ h. fails h.0))
    p

pub neither : {P : Type 0} → Decided P → Decided (¬ P)
neither p = ⊎_elim (λ holds. inr (λ fails. fails holds)) (λ fails. inl fails) p

pub either : {P Q : Type 0} → Decided P → Decided Q → Decided (P ⊎ Q)
either p q =
    ⊎_elim
    (λ holds. inl (inl holds))
    (λ fails. ⊎_elim (λ holds. inl (inr holds)) (λ too. inr (λ h. ⊎_elim fails too h)) q)
    p

pub is_true : (b : Bool) → Decided (b ≡ true)
is_true true = inl refl
is_true false = inr (λ e. absurd (cc))

pub up_to : (low high : ℕ) → Decided (low ≤ high)
up_to low high = ⊎_elim (λ above. inr (λ h. omega arith)) (λ h. inl h) (cases_lt high low)

pub same_number : (m n : ℕ) → Decided (m ≡ n)
same_number m n = ⊎_elim (λ w. inl w.1) (λ w. inr w.1) (eqb_tells m n)

-- an optional number is this one, or not
pub is_number : (o : Option ℕ) (n : ℕ) → Decided (o ≡ Some n)
is_number None n = inr (λ e. absurd (cc))
is_number (Some m) n = ⊎_elim (λ e. inl (ap Some e)) (λ differs. inr (λ e. differs (cc))) (same_number m n)

by_test : {P : Type 0} (b : Bool) → Decides b P → Decided P
by_test true h = inl (h.0 refl)
by_test false h = inr (λ p. absurd (cc (h.1 p)))

pub same_text : (x y : List ℕ) → Decided (x ≡ y)
same_text x y = by_test (bytes_eq x y) (bytes_eq-Decides x y)

pub is_less : (o : Ordering) → Decided (o ≡ Less)
is_less Less = inl refl
is_less Equal = inr (λ e. absurd (cc))
is_less Greater = inr (λ e. absurd (cc))

pub some_or_none : {X : Type 0} (o : Option X) → (o ≡ None) ⊎ IsSome o
some_or_none None = inl refl
some_or_none (Some x) = inr refl

pub is_none : {X : Type 0} (o : Option X) → Decided (o ≡ None)
is_none None = inl refl
is_none (Some x) = inr (λ e. absurd (cc))

pub is_some : {X : Type 0} (o : Option X) → Decided (IsSome o)
is_some None = inr (λ e. absurd (cc))
is_some (Some x) = inl refl

pub each : {X : Type 0} (P : X → Type 0) → ((x : X) → Decided (P x)) → (xs : List X) → Decided (All P xs)
each P tells [] = inl (All-nil P)
each P tells (x ∷ xs) = ⊎_elim
    (λ h. inl (All-cons P x xs h.0 h.1))
    (λ fails. inr (λ all. fails (All-head P x xs all, All-tail P x xs all)))
    (both (tells x) (each P tells xs))

pub listed : {X : Type 0} → ((x y : X) → Decided (x ≡ y)) → (xs : List X) (x : X) → Decided (Contains xs x)
listed same [] x = inr (λ here. contains_among [] x here)
listed same (y ∷ xs) x = ⊎_elim
    (λ e. inl (among_contains (y ∷ xs) x (inl e)))
    (λ differs. ⊎_elim
    (λ here. inl (among_contains (y ∷ xs) x (inr (contains_among xs x here))))
    (λ none. inr (λ here. ⊎_elim differs (λ later. none (among_contains xs x later)) (contains_among (y ∷ xs) x here)))
    (listed same xs x))
    (same x y)

-- a text is one part of a name, or not
part : (text : List ℕ) → Decided (IsPart text)
part text = ⊎_elim
    (λ h. inl (record { positive = h.0; short = h.1.0; no_nul = h.1.1 }))
    (λ fails. inr (λ p. fails (p.positive, (p.short, p.no_nul))))
    (both (up_to 1 (length text)) (both (up_to (length text) 255) (neither (listed same_number text 0))))

-- a text has the form of a name, or not
pub is_name : (name : List ℕ) → Decided (IsName name)
is_name name = each IsPart part (slice_split (λ b. b == 47) (without_slash name))
