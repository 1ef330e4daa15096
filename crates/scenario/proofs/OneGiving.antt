-- What is given to a child is one message and one envelope.
use Rattle.std.proofs.Common.{◌≡◌, ℕ, List, [], ◌∷◌, ◌++◌, length, refl, sym, ap, ◌∙◌, arith, append_assoc}
use Rattle.std.specs.List.{AllByRecursion}
use Rattle.mail_bytes.specs.Decimal.{digits, IsDigit}
use Rattle.mail_bytes.specs.Netstring.{head, netstring}
use Rattle.mail_bytes.proofs.Digits.{digits_injective, digits_only}

heads : (a b : ℕ) (x y : List ℕ) → ◌≡◌ {A = List ℕ} (a ∷ x) (b ∷ y) → a ≡ b
heads a b x y e = cc

tails : (a b : ℕ) (x y : List ℕ) → ◌≡◌ {A = List ℕ} (a ∷ x) (b ∷ y) → x ≡ y
tails a b x y e = cc

-- digits, and a colon after them
same_digits : (x y r s : List ℕ) → AllByRecursion IsDigit x → AllByRecursion IsDigit y → x ++ 58 ∷ r ≡ y ++ 58 ∷ s → (x ≡ y) × (r ≡ s)
same_digits [] [] r s only also e = (refl, tails 58 58 r s e)
same_digits [] (b ∷ y) r s only also e = let digit = also.0.1 in absurd (omega (arith, heads 58 b r (y ++ 58 ∷ s) e))
same_digits (b ∷ x) [] r s only also e = let digit = only.0.1 in absurd (omega (arith, heads b 58 (x ++ 58 ∷ r) s e))
same_digits (b ∷ x) (d ∷ y) r s only also e =
    let rest = same_digits x y r s only.1 also.1 (tails b d (x ++ 58 ∷ r) (y ++ 58 ∷ s) e) in
    (ap (λ (l : List ℕ). b ∷ l) rest.0 ∙ ap (λ (c : ℕ). c ∷ y) (heads b d (x ++ 58 ∷ r) (y ++ 58 ∷ s) e), rest.1)

-- texts that are as long, and what comes after them
same_text : (m n r s : List ℕ) → length m ≡ length n → m ++ r ≡ n ++ s → (m ≡ n) × (r ≡ s)
same_text [] [] r s long e = (refl, e)
same_text [] (b ∷ n) r s long e = absurd (omega (arith, long))
same_text (b ∷ m) [] r s long e = absurd (omega (arith, long))
same_text (b ∷ m) (d ∷ n) r s long e =
    let rest = same_text m n r s (omega (arith, long)) (tails b d (m ++ r) (n ++ s) e) in
    (ap (λ (l : List ℕ). b ∷ l) rest.0 ∙ ap (λ (c : ℕ). c ∷ n) (heads b d (m ++ r) (n ++ s) e), rest.1)

-- a netstring, and what comes after it
parted : (m r : List ℕ) → netstring m ++ r ≡ digits (length m) ++ 58 ∷ (m ++ 44 ∷ r)
parted m r =
    append_assoc (head (length m)) (m ++ 44 ∷ []) r
    ∙ append_assoc (digits (length m)) (58 ∷ []) ((m ++ 44 ∷ []) ++ r)
    ∙ ap (λ (l : List ℕ). digits (length m) ++ 58 ∷ l) (append_assoc m (44 ∷ []) r)

same_netstring : (m n r s : List ℕ) → netstring m ++ r ≡ netstring n ++ s → (m ≡ n) × (r ≡ s)
same_netstring m n r s e =
    let first = same_digits (digits (length m)) (digits (length n)) (m ++ 44 ∷ r) (n ++ 44 ∷ s) (digits_only (length m)) (digits_only (length n)) (sym (parted m r) ∙ e ∙ parted n s) in
    let second = same_text m n (44 ∷ r) (44 ∷ s) (digits_injective (length m) (length n) first.0) first.1 in
    (second.0, tails 44 44 r s second.1)

pub one_giving : (m n e f : List ℕ) → netstring m ++ netstring e ≡ netstring n ++ netstring f → (m ≡ n) × (e ≡ f)
one_giving m n e f same =
    let first = same_netstring m n (netstring e) (netstring f) same in
    (first.0, (same_netstring e f [] [] (ap (λ (l : List ℕ). l ++ []) first.1)).0)
