-- Names of actors.
use Rattle.std.proofs.Common.{ℕ, ◌<◌, ◌≤◌, ◌^◌, List, [], ◌∷◌, length, Contains, Some, refl, sym, ◌∙◌, ap, subst, ⊎_elim, arith, length-append}
use Rattle.std.proofs.lemmas.List.{length-map}
use Rattle.std.specs.Prelude.{codes}
use Rattle.std.proofs.lemmas.List.Elements.{All-nil, All-cons, All-contains}
use Rattle.std.proofs.lemmas.Int.Digits.{length-digits_of-le}
use Rattle.std.proofs.lemmas.Bool.Decides.{eqb_tells}
use Rattle.mail_bytes.specs.Decimal.{digits}
use Rattle.actor_names.specs.MailNames.{IsMailName, members}
use Rattle.script_words.specs.Words.{IsCount}
use Rattle.script_words.specs.Reading.{IsCut}
use Rattle.script_words.proofs.Cuts.{lacks, same-cut}
use Rattle.script_lines.specs.Lines.{IsActorName, IsChildName, child_kinds}

-- no kind of a child has a dot
kind_lacks : (kind : List ℕ) → Contains child_kinds kind → ¬ (Contains kind 46)
kind_lacks kind is =
    let P : List ℕ → Type 0 = λ k. ¬ (Contains k 46) in
    All-contains P child_kinds kind (All-cons P (codes "l") (codes "f" ∷ codes "b" ∷ []) (lacks (codes "l") 46 refl) (All-cons P (codes "f") (codes "b" ∷ []) (lacks (codes "f") 46 refl) (All-cons P (codes "b") [] (lacks (codes "b") 46 refl) (All-nil P)))) is

-- the parts of a child's name are those before and after its first dot
pub child_parts : (word kind count : List ℕ) → IsCut word 46 kind (Some count) → IsChildName word → Contains child_kinds kind × IsCount count
child_parts word kind count cut h =
    let same = same-cut h.kind h.count kind count 46 (kind_lacks h.kind h.is_kind) cut.without (sym h.is_word ∙ cut.parts) in
    (subst (Contains child_kinds) same.0 h.is_kind, subst IsCount same.1 h.is_count)

-- a u64 has at most 20 digits
digits_short : (n : ℕ) → n < 2 ^ 64 → length (digits n) ≤ 20
unfolding digits
digits_short n fits = ⊎_elim
    (λ zero. rw zero.0 (omega arith))
    (λ more. rw (more.0, length-map) (length-digits_of-le 10 20 n (omega arith) (omega arith)))
    (eqb_tells n 0)

-- a name fits into 24 bytes
mail_short : (word : List ℕ) → IsMailName word → length word ≤ 24
mail_short [] is = absurd is
mail_short (first ∷ rest) is = let few = is.2 in omega arith

member_short : (word : List ℕ) → Contains members word → length word ≤ 24
member_short word is =
    let P : List ℕ → Type 0 = λ w. length w ≤ 24 in
    All-contains P members word
    (All-cons P (codes "sender") (codes "clean" ∷ codes "lspawn" ∷ codes "rspawn" ∷ []) (omega arith)
    (All-cons P (codes "clean") (codes "lspawn" ∷ codes "rspawn" ∷ []) (omega arith)
    (All-cons P (codes "lspawn") (codes "rspawn" ∷ []) (omega arith)
    (All-cons P (codes "rspawn") [] (omega arith) (All-nil P))))) is

kind_short : (kind : List ℕ) → Contains child_kinds kind → length kind ≤ 1
kind_short kind is =
    let P : List ℕ → Type 0 = λ k. length k ≤ 1 in
    All-contains P child_kinds kind (All-cons P (codes "l") (codes "f" ∷ codes "b" ∷ []) (omega arith) (All-cons P (codes "f") (codes "b" ∷ []) (omega arith) (All-cons P (codes "b") [] (omega arith) (All-nil P)))) is

child_short : (word : List ℕ) → IsChildName word → length word ≤ 24
child_short word h =
    let kind = kind_short h.kind h.is_kind in
    let count = digits_short h.is_count.count h.is_count.counted.1 in
    let text = ap length h.is_count.is_text in
    let whole = ap length h.is_word ∙ length-append h.kind (46 ∷ h.count) in
    omega arith

pub actor_short : (word : List ℕ) → IsActorName word → length word ≤ 24
actor_short word is = ⊎_elim (mail_short word) (λ other. ⊎_elim (member_short word) (child_short word) other) is
