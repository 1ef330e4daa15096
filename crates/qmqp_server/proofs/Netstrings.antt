-- Netstrings: a text begins with at most one, and so with at most one package.
use Rattle.std.proofs.Common.{◌≡◌, ◌≢◌, ℕ, List, [], ◌∷◌, ◌++◌, length, refl, sym, ap, ◌∙◌, arith, append_assoc}
use Rattle.std.specs.Prelude.{All, flat_map}
use Rattle.std.proofs.lemmas.List.Concat.{flat_map-cons}
use Rattle.std.proofs.lemmas.List.Elements.{All-head, All-tail, All-weaker}
use Rattle.mail_bytes.specs.Decimal.{digits, IsDigit}
use Rattle.mail_bytes.specs.Netstring.{head, netstring}
use Rattle.mail_bytes.proofs.Digits.{digits_all, digits_injective}
use Rattle.qmqp_server.specs.Package.{PackagesAreExact, content_of}

-- Lists that are cut

-- what stands before and after the first such byte is one pair
pub cut_at : (c : ℕ) (a b d e : List ℕ) → All (λ x. x ≢ c) a → All (λ x. x ≢ c) d → a ++ c ∷ b ≡ d ++ c ∷ e → (a ≡ d) × (b ≡ e)
cut_at c [] b [] e p q is = (refl, cc)
cut_at c [] b (y ∷ d) e p q is = absurd (All-head (λ x. x ≢ c) y d q (cc))
cut_at c (x ∷ a) b [] e p q is = absurd (All-head (λ x. x ≢ c) x a p (cc))
cut_at c (x ∷ a) b (y ∷ d) e p q is =
    let rest : a ++ c ∷ b ≡ d ++ c ∷ e = cc in
    let tail = cut_at c a b d e (All-tail (λ x. x ≢ c) x a p) (All-tail (λ x. x ≢ c) y d q) rest in
    let first : x ≡ y = cc in
    let same : a ≡ d = tail.0 in
    ((cc), tail.1)

-- lists of one length that begin one list are one
pub same_length : (a b p q : List ℕ) → length a ≡ length b → a ++ p ≡ b ++ q → (a ≡ b) × (p ≡ q)
same_length [] [] p q size is = (refl, is)
same_length [] (y ∷ b) p q size is = absurd (omega arith)
same_length (x ∷ a) [] p q size is = absurd (omega arith)
same_length (x ∷ a) (y ∷ b) p q size is =
    let rest : a ++ p ≡ b ++ q = cc in
    let tail = same_length a b p q (omega arith) rest in
    let first : x ≡ y = cc in
    let same : a ≡ b = tail.0 in
    ((cc), tail.1)

-- Netstrings

pub no_colon : (n : ℕ) → All (λ x. x ≢ 58) (digits n)
no_colon n = All-weaker IsDigit (λ x. x ≢ 58) (λ x is e. let high = is.1 in absurd (omega arith)) (digits n) (digits_all n)

pub parts : (t x : List ℕ) → netstring t ++ x ≡ digits (length t) ++ 58 ∷ (t ++ 44 ∷ x)
parts t x =
    append_assoc (head (length t)) (t ++ 44 ∷ []) x
    ∙ append_assoc (digits (length t)) (58 ∷ []) ((t ++ 44 ∷ []) ++ x)
    ∙ ap (λ r. digits (length t) ++ 58 ∷ r) (append_assoc t (44 ∷ []) x)

pub one_netstring : (t u x y : List ℕ) → netstring t ++ x ≡ netstring u ++ y → (t ≡ u) × (x ≡ y)
one_netstring t u x y is =
    let heads = cut_at 58 (digits (length t)) (t ++ 44 ∷ x) (digits (length u)) (u ++ 44 ∷ y) (no_colon (length t)) (no_colon (length u)) (sym (parts t x) ∙ is ∙ parts u y) in
    let values = same_length t u (44 ∷ x) (44 ∷ y) (digits_injective (length t) (length u) heads.0) heads.1 in
    let rest : 44 ∷ x ≡ 44 ∷ y = values.1 in
    (values.0, cc)

not_empty : (a : List ℕ) (b : ℕ) (c : List ℕ) → [] ≡ a ++ b ∷ c → ⊥
not_empty [] b c is = absurd (cc)
not_empty (x ∷ a) b c is = absurd (cc)

pub one_content : (ts us : List (List ℕ)) → flat_map netstring ts ≡ flat_map netstring us → ts ≡ us
one_content [] [] is = refl
one_content [] (u ∷ us) is = absurd (not_empty (digits (length u)) 58 (u ++ 44 ∷ flat_map netstring us) (is ∙ flat_map-cons netstring u us ∙ parts u (flat_map netstring us)))
one_content (t ∷ ts) [] is = absurd (not_empty (digits (length t)) 58 (t ++ 44 ∷ flat_map netstring ts) (sym is ∙ flat_map-cons netstring t ts ∙ parts t (flat_map netstring ts)))
one_content (t ∷ ts) (u ∷ us) is =
    let one = one_netstring t u (flat_map netstring ts) (flat_map netstring us) (sym (flat_map-cons netstring t ts) ∙ is ∙ flat_map-cons netstring u us) in
    let rest : ts ≡ us = one_content ts us one.1 in
    let first : t ≡ u = one.0 in
    cc

-- Packages

pub packages_exact : PackagesAreExact
packages_exact text other rest more m m' s s' rs rs' is so e =
    let one = one_netstring (content_of m s rs) (content_of m' s' rs') rest more (ap (λ t. t ++ rest) (sym is) ∙ e ∙ ap (λ t. t ++ more) so) in
    let texts : m ∷ (s ∷ rs) ≡ m' ∷ (s' ∷ rs') = one_content (m ∷ (s ∷ rs)) (m' ∷ (s' ∷ rs')) one.0 in
    let first : m ≡ m' = cc in
    let second : s ≡ s' = cc in
    let others : rs ≡ rs' = cc in
    (is ∙ ap netstring one.0 ∙ sym so, (first, (second, others)))
