-- First lines, and which addresses they name.
use Rattle.std.proofs.Common.{◌≡◌, ◌≢◌, ℕ, ◌-◌, List, [], ◌∷◌, ◌++◌, length, Option, Some, None, refl, sym, ap, ◌∙◌, ⊎_elim, arith, codes, take, length-append, nat_eq}
use Rattle.std.specs.Prelude.{MatchOption, bytes_eq}
use Rattle.std.specs.Option.{option_copied}
use Rattle.std.specs.List.{ends_with}
use Rattle.std.specs.Borrow.{Bor}
use Rattle.std.proofs.lemmas.Bool.{cases_Bool, cond-true, cond-false, false_from_ne_true}
use Rattle.std.proofs.lemmas.List.{take_at}
use Rattle.std.proofs.lemmas.Bool.Decides.{Decides-eqb}
use Rattle.std.proofs.lemmas.Slice.Eq.{bytes_eq-Decides, ends_is}
use Rattle.bounce_record.specs.Bounces.{return_address}
use Rattle.bounce_record.specs.Notes.{heading, inside, named}

-- what stands inside a heading
inside_heading : (name : List ℕ) → inside (heading name) ≡ name
inside_heading name =
    let long = length-append name (62 ∷ 58 ∷ []) in
    take_at name (62 ∷ 58 ∷ []) (length (heading name) - 3) (omega arith)

pub named_heading : (line name : List ℕ) → line ≡ heading name → named line ≡ Some name
named_heading line name e =
    ap named e ∙ cond-true (bytes_eq (heading (inside (heading name))) (heading name)) (Some (inside (heading name))) None
    ((bytes_eq-Decides (heading (inside (heading name))) (heading name)).1 (ap heading (inside_heading name)))
    ∙ ap Some (inside_heading name)

pub heading_named : (line name : List ℕ) → named line ≡ Some name → line ≡ heading name
heading_named line name e = ⊎_elim
    (λ is_so.
    let same : inside line ≡ name = some_same (inside line) name (sym (cond-true (bytes_eq (heading (inside line)) line) (Some (inside line)) None is_so) ∙ e) in
    sym ((bytes_eq-Decides (heading (inside line)) line).0 is_so) ∙ ap heading same)
    (λ no. absurd (none_some name (sym (cond-false (bytes_eq (heading (inside line)) line) (Some (inside line)) None no) ∙ e)))
    (cases_Bool (bytes_eq (heading (inside line)) line))
  where
    some_same : (a b : List ℕ) → ◌≡◌ {A = Option (List ℕ)} (Some a) (Some b) → a ≡ b
    some_same a b e = cc

    none_some : (a : List ℕ) → ◌≡◌ {A = Option (List ℕ)} None (Some a) → ⊥
    none_some a e = absurd (cc)

none_named : (line : List ℕ) → ((name : List ℕ) → line ≢ heading name) → named line ≡ None
none_named line h = ⊎_elim
    (λ is_so. absurd (h (inside line) (sym ((bytes_eq-Decides (heading (inside line)) line).0 is_so))))
    (λ no. cond-false (bytes_eq (heading (inside line)) line) (Some (inside line)) None no)
    (cases_Bool (bytes_eq (heading (inside line)) line))

pub unnamed : (line : List ℕ) → ((rest : List ℕ) → line ≢ 60 ∷ rest) → named line ≡ None
unnamed line h = none_named line (λ name e. h (name ++ 62 ∷ 58 ∷ []) e)

-- by what stands before `>:` in what comes after `<`
pub named_by : (line rest : List ℕ) (r : Option (Bor (List ℕ))) → line ≡ 60 ∷ rest
    → MatchOption r ((front : List ℕ) → rest ≢ front ++ 62 ∷ 58 ∷ []) (λ x. rest ≡ x.now ++ 62 ∷ 58 ∷ []) → option_copied r ≡ named line
named_by line rest None e h = sym (none_named line (λ name is. h name (tail_same (sym e ∙ is))))
  where
    tail_same : {a b : List ℕ} → ◌≡◌ {A = List ℕ} (60 ∷ a) (60 ∷ b) → a ≡ b
    tail_same e = cc
named_by line rest (Some x) e h = sym (named_heading line x.now (e ∙ ap (λ t. 60 ∷ t) h))

-- Where a bounce goes

abbrev tail : List ℕ
tail = codes "-@[]"

pub marked_return : (address : List ℕ) → return_address (address ++ tail) ≡ address
marked_return address =
    let long = length-append address tail in
    cond-true (ends_with nat_eq (address ++ tail) tail) (take (length (address ++ tail) - 4) (address ++ tail)) (address ++ tail)
    ((ends_is Decides-eqb (address ++ tail) tail (ends_with nat_eq (address ++ tail) tail) refl).1 address refl)
    ∙ take_at address tail (length (address ++ tail) - 4) (omega arith)

pub plain_return : (sender : List ℕ) → ((address : List ℕ) → sender ≢ address ++ tail) → return_address sender ≡ sender
plain_return sender h =
    cond-false (ends_with nat_eq sender tail) (take (length sender - 4) sender) sender
    (false_from_ne_true (ends_with nat_eq sender tail) (λ t. h (take (length sender - 4) sender) ((ends_is Decides-eqb sender tail (ends_with nat_eq sender tail) refl).0 t)))
