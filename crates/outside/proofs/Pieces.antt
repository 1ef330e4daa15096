-- What is left of texts one after another.
use Rattle.std.proofs.Common.{◌≡◌, ℕ, ◌+◌, ◌-◌, ◌<◌, ◌≤◌, min, List, [], ◌++◌, length, get_or, take, drop, sym, ap, ◌∙◌, arith}
use Rattle.std.specs.List.{flat_map}
use Rattle.std.proofs.lemmas.List.{drop_more, take_rest, length-drop, get_or_read, drop-append-le, drop-drop, take-append-drop, append_assoc}
use Rattle.outside.specs.Forms.{rest_from}

module _ {A : Type 0} where
  -- from inside a list on: the rest of that list, and the lists after it
  rest_split : (pieces : List (List A)) (at given : ℕ) → at < length pieces → given ≤ length (get_or pieces at [])
      → rest_from pieces at given ≡ drop given (get_or pieces at []) ++ rest_from pieces (at + 1) 0
  rest_split pieces at given h fits =
      ap (λ t. drop given (flat_map (λ p. p) t)) (drop_more pieces at [] h)
      ∙ drop-append-le given (get_or pieces at []) (rest_from pieces (at + 1) 0) fits

  -- more of one list
  pub rest_more : (pieces : List (List A)) (at given count : ℕ)
      → at < length pieces → given + count ≤ length (get_or pieces at [])
      → rest_from pieces at given ≡ take count (drop given (get_or pieces at [])) ++ rest_from pieces at (given + count)
  rest_more pieces at given count h fits =
      let p : List A = get_or pieces at [] in
      let r : List A = rest_from pieces (at + 1) 0 in
      rest_split pieces at given h (omega arith)
      ∙ ap (λ t. t ++ r) (sym (take-append-drop count (drop given p)))
      ∙ append_assoc (take count (drop given p)) (drop count (drop given p)) r
      ∙ ap (λ t. take count (drop given p) ++ (t ++ r)) (drop-drop count given p)
      ∙ ap (λ t. take count (drop given p) ++ t) (sym (rest_split pieces at (given + count) h fits))

-- from this place on, at most so many bytes of one text
abbrev pub front_of : List ℕ → ℕ → List ℕ
front_of piece given = take (length piece - given) (drop given piece)

pub front_is : (piece : List ℕ) (given : ℕ) → front_of piece given ≡ drop given piece
front_is piece given = take_rest piece given

pub length-front : (piece : List ℕ) (given : ℕ) → length (front_of piece given) ≡ length piece - given
length-front piece given = ap length (front_is piece given) ∙ length-drop given piece

-- as many bytes of one text as there is room for were put at the start of `into`
pub rest_given : (pieces : List (List ℕ)) (at given count room : ℕ) (piece into : List ℕ)
    → at < length pieces → given ≤ length (get_or pieces at []) → piece ≡ get_or pieces at piece
    → count ≡ min (length (front_of piece given)) room → take count into ≡ take count (front_of piece given)
    → rest_from pieces at given ≡ take count into ++ rest_from pieces at (given + count)
rest_given pieces at given count room piece into h fits read size copied =
    let p : List ℕ = get_or pieces at [] in
    let same : piece ≡ p = get_or_read pieces at piece h read [] in
    let long : length (front_of piece given) ≡ length p - given = length-front piece given ∙ ap (λ t. length t - given) same in
    let all : take count (drop given p) ≡ take count into =
    ap (λ t. take count (drop given t)) (sym same) ∙ ap (take count) (sym (front_is piece given)) ∙ sym copied in
    rest_more pieces at given count h (omega arith) ∙ ap (λ t. t ++ rest_from pieces at (given + count)) all
