-- The netstrings with which bytes begin.
use Rattle.std.proofs.Common.{◌≡◌, ℕ, ◌+◌, ◌-◌, ◌<◌, ◌≤◌, List, [], ◌∷◌, ◌++◌, length, get_or, take, drop, refl, sym, ap, ◌∙◌, arith}
use Rattle.std.specs.Prelude.{◌↔◌, ◌==◌, true, false}
use Rattle.std.proofs.lemmas.List.{append_assoc, get_or_at, length-append, length-take-le, take-append-drop, take_all, take_at, drop_at, drop_more, length-drop, length-take}
use Rattle.mail_bytes.specs.declared.netstrings.NetHead.{NetHead}
use Rattle.mail_bytes.specs.declared.netstrings.NetHead.TheVariants.{Len}
use Rattle.mail_bytes.specs.Netstring.{head, IsHead, netstring}
use Rattle.mail_bytes.proofs.Heads.{exact}

-- a netstring begins with its head
parts : (text rest : List ℕ) → netstring text ++ rest ≡ head (length text) ++ (text ++ (44 ∷ rest))
parts text rest = append_assoc (head (length text)) (text ++ 44 ∷ []) rest ∙ ap (λ (t : List ℕ). head (length text) ++ t) (append_assoc text (44 ∷ []) rest)

pub has_head : (bytes text rest : List ℕ) → length text < 18446744073709551616 → bytes ≡ netstring text ++ rest → IsHead bytes (length text) (length (head (length text)))
has_head bytes text rest fits is =
    let whole : bytes ≡ head (length text) ++ (text ++ (44 ∷ rest)) = is ∙ parts text rest in
    let long = ap length whole ∙ length-append (head (length text)) (text ++ (44 ∷ rest)) in
    record {
      fits = fits;
      within = omega (arith, long);
      text = ap (take (length (head (length text)))) whole ∙ take_at (head (length text)) (text ++ (44 ∷ rest)) (length (head (length text))) refl;
    }

same_lengths : (r : NetHead) (v u n k : ℕ) → r ≡ Len v u → r ≡ Len n k → (v ≡ n) × (u ≡ k)
same_lengths r v u n k one two = let e : Len v u ≡ Len n k = sym one ∙ two in (cc, cc)

-- what comes after the head
abbrev pub rest_of : List ℕ → ℕ → List ℕ
rest_of bytes used = take (length bytes - used) (drop used bytes)

rest_all : (bytes : List ℕ) (used : ℕ) → rest_of bytes used ≡ drop used bytes
rest_all bytes used = take_all (length bytes - used) (drop used bytes) (omega (arith, length-drop used bytes))

rest_is : (bytes text rest : List ℕ) → bytes ≡ netstring text ++ rest → rest_of bytes (length (head (length text))) ≡ text ++ (44 ∷ rest)
rest_is bytes text rest is =
    rest_all bytes (length (head (length text)))
    ∙ ap (drop (length (head (length text)))) (is ∙ parts text rest)
    ∙ drop_at (head (length text)) (text ++ (44 ∷ rest)) (length (head (length text))) refl

-- of bytes that begin with a netstring the head tells the length, and the rest is the text, a comma, and what follows
pub told_rest : (r : NetHead) (bytes text rest : List ℕ) (value used : ℕ) → r ≡ Len value used
    → ((n k : ℕ) → (r ≡ Len n k) ↔ IsHead bytes n k) → length text < 18446744073709551616 → bytes ≡ netstring text ++ rest
    → (value ≡ length text) × (rest_of bytes used ≡ text ++ (44 ∷ rest))
told_rest r bytes text rest value used told len fits is =
    let same = same_lengths r value used (length text) (length (head (length text))) told ((len (length text) (length (head (length text)))).1 (has_head bytes text rest fits is)) in
    (same.0, ap (rest_of bytes) same.1 ∙ rest_is bytes text rest is)

pub too_short : (after text rest : List ℕ) (value : ℕ) → value ≡ length text → after ≡ text ++ (44 ∷ rest) → length after ≤ value → ⊥
too_short after text rest value same is short =
    let long = ap length is ∙ length-append text (44 ∷ rest) in
    absurd (omega (arith, long, short, same))

pub has_comma : (after text rest : List ℕ) (value : ℕ) → value ≡ length text → after ≡ text ++ (44 ∷ rest) → get_or after value 0 ≡ 44
has_comma after text rest value same is = ap (λ (l : List ℕ). get_or l value 0) is ∙ get_or_at text 44 rest 0 value (sym same)

-- the text and what follows it
pub cut_text : (bytes : List ℕ) (value used : ℕ) → IsHead bytes value used → value < length (rest_of bytes used) → get_or (rest_of bytes used) value 0 ≡ 44
    → bytes ≡ netstring (take value (rest_of bytes used)) ++ take (length (rest_of bytes used) - (value + 1)) (drop (value + 1) (rest_of bytes used))
cut_text bytes value used h short comma =
    let after = rest_of bytes used in
    let text = take value after in
    let tail = drop (value + 1) after in
    let long : length text ≡ value = length-take-le value after (omega (arith, short)) in
    let whole : bytes ≡ head value ++ drop used bytes = sym (take-append-drop used bytes) ∙ ap (λ (t : List ℕ). t ++ drop used bytes) h.text in
    let split : after ≡ text ++ (44 ∷ tail) =
    sym (take-append-drop value after) ∙ ap (λ (t : List ℕ). text ++ t) (drop_more after value 0 short ∙ ap (λ (b : ℕ). b ∷ tail) comma) in
    let all : take (length after - (value + 1)) tail ≡ tail = take_all (length after - (value + 1)) tail (omega (arith, length-drop (value + 1) after)) in
    whole
    ∙ ap (λ (t : List ℕ). head value ++ t) (sym (rest_all bytes used) ∙ split)
    ∙ ap (λ (n : ℕ). head n ++ (text ++ (44 ∷ tail))) (sym long)
    ∙ sym (parts text tail)
    ∙ ap (λ (t : List ℕ). netstring text ++ t) (sym all)

pub cut_fits : (bytes : List ℕ) (value used : ℕ) → IsHead bytes value used → length (take value (rest_of bytes used)) < 18446744073709551616
cut_fits bytes value used h = let short = length-take value (rest_of bytes used) in let fits = h.fits in omega (arith, short, fits)

pub not_empty : (rest : List ℕ) → rest ≡ [] → false ≡ (length rest == 0) → ⊥
not_empty rest none is = let v : false ≡ true = is ∙ ap (λ (l : List ℕ). length l == 0) none in absurd (cc)

-- Two netstrings

-- bytes begin with one head at most
one_head : (bytes : List ℕ) (m n i j : ℕ) → IsHead bytes m i → IsHead bytes n j → (m ≡ n) × (i ≡ j)
one_head bytes m n i j h k =
    let both = (exact bytes (Len m i) h (Len n j)).1 k in
    let e : Len m i ≡ Len n j = both in (cc, cc)

prefix_drop : (one two : List ℕ) (more rest : List ℕ) → length one ≡ length two → one ++ (44 ∷ more) ≡ two ++ (44 ∷ rest) → more ≡ rest
prefix_drop one two more rest same is =
    let gone : 44 ∷ more ≡ 44 ∷ rest =
    sym (drop_at one (44 ∷ more) (length two) same) ∙ ap (drop (length two)) is ∙ drop_at two (44 ∷ rest) (length two) refl in
    cc

-- what comes after a netstring with which bytes begin is told by them
pub same_rest : (bytes one more two rest : List ℕ) → length two < 18446744073709551616 → length one < 18446744073709551616 → bytes ≡ netstring one ++ more → bytes ≡ netstring two ++ rest → more ≡ rest
same_rest bytes one more two rest fits fits_too is so =
    let heads = one_head bytes (length one) (length two) (length (head (length one))) (length (head (length two))) (has_head bytes one more fits_too is) (has_head bytes two rest fits so) in
    prefix_drop one two more rest heads.0
    (sym (rest_is bytes one more is) ∙ ap (rest_of bytes) heads.1 ∙ rest_is bytes two rest so)
