-- Requests have no NUL in their fields.
use Rattle.std.proofs.Common.{◌≢◌, ℕ, ◌≤◌, List, [], ◌∷◌, ◌++◌, refl, sym, subst, arith}
use Rattle.std.specs.List.{AllByRecursion}
use Rattle.std.proofs.lemmas.List.Elements.{All-from_recursion, recursion_from_All}
use Rattle.mail_bytes.specs.Decimal.{IsDigit, digits}
use Rattle.mail_bytes.proofs.Digits.{digits_only}
use Rattle.address_rules.specs.Names.{IsVerp, mark, verp_of}
use Rattle.address_rules.specs.Names.IsVerp.{NoDomain, Told, Unmarked}
use Rattle.address_rules.proofs.NameLaws.{verp_to}
use Rattle.queue_paths.specs.Names.{split, split_text}
use Rattle.program_law.specs.Post.Laws.{RequestsArePlain}
use Rattle.mail_bytes.specs.Texts.{HasNoNul}

abbrev Plain : List ℕ → Type 0
Plain text = AllByRecursion (λ b. b ≢ 0) text

digits_plain : (ds : List ℕ) → AllByRecursion IsDigit ds → Plain ds
digits_plain [] h = tt
digits_plain (d ∷ ds) h = let low = h.0.0 in ((λ e. omega (arith, low, e)), digits_plain ds h.1)

joined : (xs ys : List ℕ) → Plain xs → Plain ys → Plain (xs ++ ys)
joined [] ys h k = k
joined (x ∷ xs) ys h k = (h.0, joined xs ys h.1 k)

before : (xs ys : List ℕ) → Plain (xs ++ ys) → Plain xs
before [] ys h = tt
before (x ∷ xs) ys h = (h.0, before xs ys h.1)

behind : (xs ys : List ℕ) → Plain (xs ++ ys) → Plain ys
behind [] ys h = h
behind (x ∷ xs) ys h = behind xs ys h.1

no : (k : ℕ) → 1 ≤ k → k ≢ 0
no k some e = omega (arith, some, e)

split_plain : (n : ℕ) → Plain (split_text n)
split_plain n = joined (digits (split n)) (47 ∷ digits n) (digits_plain (digits (split n)) (digits_only (split n))) (no 47 (omega arith), digits_plain (digits n) (digits_only n))

verp_by : (sender recipient text : List ℕ) → Plain sender → Plain recipient → IsVerp sender recipient text → Plain text
verp_by sender recipient text h k (Told owner host box domain m cut same) =
    let s : Plain ((owner ++ 64 ∷ host) ++ mark) = subst Plain m.split h in
    let r : Plain (box ++ 64 ∷ domain) = subst Plain cut.split k in
    let owned = before (owner ++ 64 ∷ host) mark s in
    subst Plain (sym same)
    (joined owner (box ++ (61 ∷ (domain ++ 64 ∷ host))) (before owner (64 ∷ host) owned)
    (joined box (61 ∷ (domain ++ 64 ∷ host)) (before box (64 ∷ domain) r)
    (no 61 (omega arith), joined domain (64 ∷ host) (behind box (64 ∷ domain) r).1 (behind owner (64 ∷ host) owned))))
verp_by sender recipient text h k (Unmarked none same) = subst Plain (sym same) h
verp_by sender recipient text h k (NoDomain none same) = subst Plain (sym same) h

all_plain : (text : List ℕ) → Plain text → HasNoNul text
all_plain text h = All-from_recursion (λ b. b ≢ 0) text h

each_plain : (text : List ℕ) → HasNoNul text → Plain text
each_plain text h = recursion_from_All (λ b. b ≢ 0) text h

pub requests_are_plain : RequestsArePlain
requests_are_plain = record {
  text = λ slot n sender recipient. refl;
  plain = λ slot n sender recipient h k. record {
    mess = all_plain (split_text n) (split_plain n);
    sender = all_plain (verp_of sender recipient) (verp_by sender recipient (verp_of sender recipient) (each_plain sender h) (each_plain recipient k) (verp_to sender recipient (verp_of sender recipient) refl));
    recipient = k;
  };
}
