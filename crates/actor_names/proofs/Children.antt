-- Names of children: a letter, a dot and a number.
use Rattle.std.proofs.Common.{◌≡◌, ◌≢◌, ℕ, List, [], ◌∷◌, get_or, Contains, sym, ap, refl, ⊎_elim, arith}
use Rattle.std.specs.Prelude.{All}
use Rattle.std.proofs.lemmas.List.Elements.{All-from_recursion, All-contains}
use Rattle.mail_bytes.specs.Decimal.{digits}
use Rattle.mail_bytes.proofs.Digits.{digits_injective}
use Rattle.actor_names.specs.MailNames.{IsMailName, members}

-- such a name; each kind of a child has its own letter
abbrev pub child_name : ℕ → ℕ → List ℕ
child_name letter number = letter ∷ 46 ∷ digits number

-- another number has another name
pub same_number : (letter m n : ℕ) → child_name letter m ≡ child_name letter n → m ≡ n
same_number letter m n same = let rest : digits m ≡ digits n = cc in digits_injective m n rest

-- another letter makes another name
pub same_letter : (x y m n : ℕ) → child_name x m ≡ child_name y n → x ≡ y
same_letter x y m n same = cc

-- no mail has such a name, for it has a dot
no_dot : (a : List ℕ) → IsMailName a → get_or a 1 0 ≢ 46
no_dot [] is = absurd is
no_dot (first ∷ []) is = λ dot. absurd (omega (arith, dot))
no_dot (first ∷ second ∷ rest) is =
    let at = is.1 0 second (omega arith) in
    ⊎_elim (λ w. λ dot. let low = w.0 in omega (arith, low, dot)) (λ w. λ dot. let low = w.0 in omega (arith, low, dot)) at

pub no_mail : (letter n : ℕ) (a : List ℕ) → IsMailName a → child_name letter n ≢ a
no_mail letter n a is same = no_dot a is (sym (ap (λ l. get_or l 1 0) same))

-- nor has a member of a generation, for the same reason
pub no_member : (letter n : ℕ) → ¬ (Contains members (child_name letter n))
no_member letter n is =
    let P : List ℕ → Type 0 = λ a. get_or a 1 0 ≢ 46 in
    let lacks : All P members = All-from_recursion P members
    ((λ dot. absurd (omega (arith, dot))), ((λ dot. absurd (omega (arith, dot))), ((λ dot. absurd (omega (arith, dot))), ((λ dot. absurd (omega (arith, dot))), tt)))) in
    All-contains P members (child_name letter n) lacks is refl
