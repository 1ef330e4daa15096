-- Searching a header for a line.
use Rattle.std.proofs.Common.{◌≡◌, ◌≢◌, ℕ, ◌+◌, ◌<◌, List, [], ◌∷◌, ◌++◌, length, take, drop, get_or, Bool, true, false, cond, eqb, refl, sym, ap, ◌∙◌, arith, append_assoc, length-append}
use Rattle.std.specs.declared.vec.Vec.{Vec}
use Rattle.std.specs.Prelude.{◌==◌, ◌||◌, ◌&&◌, if◌then◌else◌, bytes_eq, slice_get}
use Rattle.std.specs.List.{list_any, slice_split, onto_first}
use Rattle.std.proofs.lemmas.Bool.{false_from_ne_true, lt-ltb}
use Rattle.std.proofs.lemmas.Bool.Decides.{Decides-eqb, same_from_decides}
use Rattle.std.proofs.lemmas.List.{append-nil, append_cancel_left, take_more, take-append-drop}
use Rattle.std.proofs.lemmas.Slice.Eq.{bytes_eq-Decides}
use Rattle.mail_bytes.specs.Blocks.{joined}
use Rattle.local_parts.proofs.Joined.{joined_append, joined_more}
use Rattle.local_parts.specs.declared.looping.Scan.{Scan}
use Rattle.local_parts.specs.declared.looping.Scan.TheVariants as scan
use Rattle.local_parts.specs.Looping.{is_looping, until_empty}
use Rattle.local_parts.specs.inside.Scanning.{is_found, is_open, is_next, scan_step, scanned, line_ended, gone_on}

-- more bytes
pub scanned_append : (line : List ℕ) (s : Scan) (a b : List ℕ) → scanned line s (a ++ b) ≡ scanned line (scanned line s a) b
scanned_append line s [] b = refl
scanned_append line s (x ∷ a) b = scanned_append line (scan_step line s x) a b

-- a search that is over stays so
pub scanned_over : (line : List ℕ) (s : Scan) (bytes : List ℕ) → is_open s ≡ false → scanned line s bytes ≡ s
scanned_over line s [] e = refl
scanned_over line scan.Found (b ∷ bytes) e = scanned_over line scan.Found bytes refl
scanned_over line scan.Over (b ∷ bytes) e = scanned_over line scan.Over bytes refl
scanned_over line (scan.Like count) (b ∷ bytes) e = absurd (cc)
scanned_over line scan.Unlike (b ∷ bytes) e = absurd (cc)

-- The lines of bytes, of which some came already

abbrev is_newline : ℕ → Bool
is_newline b = b == 10

abbrev parts : List ℕ → List ℕ → List (List ℕ)
parts seen [] = seen ∷ []
parts seen (b ∷ rest) = if b == 10 then seen ∷ parts [] rest else parts (seen ++ b ∷ []) rest

abbrev onto : List ℕ → List (List ℕ) → List (List ℕ)
onto seen [] = seen ∷ []
onto seen (part ∷ more) = (seen ++ part) ∷ more

onto_none : (bytes : List ℕ) → onto [] (slice_split is_newline bytes) ≡ slice_split is_newline bytes
onto_none [] = refl
onto_none (b ∷ rest) = elim (b == 10) as (λ t. onto [] (cond t ([] ∷ slice_split is_newline rest) (onto_first b (slice_split is_newline rest)))
    ≡ cond t ([] ∷ slice_split is_newline rest) (onto_first b (slice_split is_newline rest)))
    [ true ↦ refl | false ↦ first (slice_split is_newline rest) ]
  where
    first : (ls : List (List ℕ)) → onto [] (onto_first b ls) ≡ onto_first b ls
    first [] = refl
    first (part ∷ more) = refl

onto_one : (seen : List ℕ) (b : ℕ) (ls : List (List ℕ)) → onto (seen ++ b ∷ []) ls ≡ onto seen (onto_first b ls)
onto_one seen b [] = refl
onto_one seen b (part ∷ more) = ap (λ t. t ∷ more) (append_assoc seen (b ∷ []) part)

parts_split : (seen bytes : List ℕ) → parts seen bytes ≡ onto seen (slice_split is_newline bytes)
parts_split seen [] = ap (λ t. t ∷ []) (sym (append-nil seen))
parts_split seen (b ∷ rest) = elim (b == 10) as (λ t. (if t then seen ∷ parts [] rest else parts (seen ++ b ∷ []) rest)
    ≡ onto seen (cond t ([] ∷ slice_split is_newline rest) (onto_first b (slice_split is_newline rest)))) [
      | true ↦
          ap (λ t. seen ∷ t) (parts_split [] rest ∙ onto_none rest) ∙ ap (λ t. t ∷ slice_split is_newline rest) (sym (append-nil seen))
      | false ↦ parts_split (seen ++ b ∷ []) rest ∙ onto_one seen b (slice_split is_newline rest)
    ]

-- What a search knows

abbrev has : List ℕ → List (List ℕ) → Bool
has line ls = list_any (λ it. bytes_eq it line) (until_empty ls)

abbrev found : List ℕ → Scan → List ℕ → Bool
found line s bytes = is_found line (scanned line s bytes)

-- of a line of which nothing is ahead any more, its length tells whether it is the one
ends : (line seen rest : List ℕ) → line ≡ seen ++ rest → eqb (length seen) (length line) ≡ bytes_eq seen line
ends line seen rest e = same_from_decides {P = seen ≡ line} (eqb (length seen) (length line)) (bytes_eq seen line) (short, λ same. (Decides-eqb (length seen) (length line)).1 (ap length same))
    (bytes_eq-Decides seen line)
  where
    none : (more : List ℕ) → line ≡ seen ++ more → length seen ≡ length line → seen ≡ line
    none [] is l = sym (append-nil seen) ∙ sym is
    none (b ∷ more) is l =
        let size = ap length is ∙ length-append seen (b ∷ more) in
        absurd (omega arith)

    short : eqb (length seen) (length line) ≡ true → seen ≡ line
    short t = none rest e ((Decides-eqb (length seen) (length line)).0 t)

at_seam : (seen rest : List ℕ) → slice_get (seen ++ rest) (length seen) ≡ slice_get rest 0
at_seam [] rest = refl
at_seam (x ∷ seen) rest = at_seam seen rest

abbrev Differs : List ℕ → List ℕ → Type 0
Differs line seen = (more : List ℕ) → seen ++ more ≢ line

not_it : (line seen : List ℕ) → Differs line seen → bytes_eq seen line ≡ false
not_it line seen d = false_from_ne_true (bytes_eq seen line) (λ t. d [] (append-nil seen ∙ (bytes_eq-Decides seen line).0 t))

longer : (line seen : List ℕ) (b : ℕ) → line ≡ seen ++ [] → Differs line (seen ++ b ∷ [])
longer line seen b e more is =
    let size = ap length (is ∙ e) in
    let one = length-append (seen ++ b ∷ []) more in
    let two = length-append seen (b ∷ []) in
    let three = length-append seen [] in
    absurd (omega arith)

other : (line seen rest : List ℕ) (b r : ℕ) → line ≡ seen ++ r ∷ rest → (r == b) ≡ false → Differs line (seen ++ b ∷ [])
other line seen rest b r e f more is =
    let same = append_cancel_left seen (b ∷ more) (r ∷ rest) (sym (append_assoc seen (b ∷ []) more) ∙ is ∙ e) in
    let first : r ≡ b = sym (head same) in
    absurd (wrong (sym f ∙ (Decides-eqb r b).1 first))
  where
    head : {x y : ℕ} {xs ys : List ℕ} → x ∷ xs ≡ y ∷ ys → x ≡ y
    head e = cc

    wrong : false ≡ true → ⊥
    wrong t = absurd (cc)

-- the state that a search has come to, after the bytes of a line that came
data Knows (line : List ℕ) : List ℕ → Scan → Type 0 where
  IsLike : (seen rest : List ℕ) → line ≡ seen ++ rest → Knows line seen (scan.Like (length seen))
  IsUnlike : (x : ℕ) (xs : List ℕ) → Differs line (x ∷ xs) → Knows line (x ∷ xs) scan.Unlike

or_false : (t : Bool) → t ≡ (t || false)
or_false true = refl
or_false false = refl

not_zero : (x : ℕ) (xs : List ℕ) → (length (x ∷ xs) == 0) ≡ false
not_zero x xs = false_from_ne_true (length (x ∷ xs) == 0) (λ t. let e = (Decides-eqb (length (x ∷ xs)) 0).0 t in absurd (omega arith))

-- at the end of the bytes
last : (line seen : List ℕ) (s : Scan) → Knows line seen s → is_found line s ≡ has line (seen ∷ [])
last line _ _ (IsLike [] rest e) = refl
last line _ _ (IsLike (x ∷ seen) rest e) =
    ap (λ t. t && eqb (length (x ∷ seen)) (length line)) (lt-ltb 0 (length (x ∷ seen)) (omega arith)) ∙ ends line (x ∷ seen) rest e ∙ or_false (bytes_eq (x ∷ seen) line)
last line _ _ (IsUnlike x xs d) = sym (ap (λ t. t || false) (not_it line (x ∷ xs) d))

module _ (line bytes : List ℕ) (ahead : (seen : List ℕ) (s : Scan) → Knows line seen s → found line s bytes ≡ has line (parts seen bytes)) where
  fresh : found line (scan.Like 0) bytes ≡ has line (parts [] bytes)
  fresh = ahead [] (scan.Like 0) (IsLike [] line refl)

  whole : (x : ℕ) (xs : List ℕ) (t : Bool) → t ≡ bytes_eq (x ∷ xs) line
      → found line (if t then scan.Found else scan.Like 0) bytes ≡ (bytes_eq (x ∷ xs) line || has line (parts [] bytes))
  whole x xs true is = ap (is_found line) (scanned_over line scan.Found bytes refl) ∙ ap (λ t. t || has line (parts [] bytes)) is
  whole x xs false is = fresh ∙ ap (λ t. t || has line (parts [] bytes)) is

  ended : (s rest : List ℕ) → line ≡ s ++ rest → found line (line_ended line (length s)) bytes ≡ has line (s ∷ parts [] bytes)
  ended [] rest is = ap (is_found line) (scanned_over line scan.Over bytes refl)
  ended (x ∷ xs) rest is =
      ap (λ t. found line (if t then scan.Over else (if length (x ∷ xs) == length line then scan.Found else scan.Like 0)) bytes) (not_zero x xs)
      ∙ whole x xs (eqb (length (x ∷ xs)) (length line)) (ends line (x ∷ xs) rest is)

  module _ (b : ℕ) (seen : List ℕ) where
    grown : length seen + 1 ≡ length (seen ++ b ∷ [])
    grown = sym (length-append seen (b ∷ []))

    differs : (s : List ℕ) → Differs line (s ++ b ∷ []) → found line scan.Unlike bytes ≡ has line (parts (s ++ b ∷ []) bytes)
    differs [] d = ahead (b ∷ []) scan.Unlike (IsUnlike b [] d)
    differs (x ∷ xs) d = ahead (x ∷ (xs ++ b ∷ [])) scan.Unlike (IsUnlike x (xs ++ b ∷ []) d)

    next : (r : ℕ) (more : List ℕ) (t : Bool) → line ≡ seen ++ r ∷ more → (r == b) ≡ t
        → found line (if t then scan.Like (length seen + 1) else scan.Unlike) bytes ≡ has line (parts (seen ++ b ∷ []) bytes)
    next r more true is same =
        let it : r ≡ b = (Decides-eqb r b).0 same in
        let begins : line ≡ (seen ++ b ∷ []) ++ more = is ∙ ap (λ k. seen ++ k ∷ more) it ∙ sym (append_assoc seen (b ∷ []) more) in
        ap (λ k. found line (scan.Like k) bytes) grown ∙ ahead (seen ++ b ∷ []) (scan.Like (length (seen ++ b ∷ []))) (IsLike (seen ++ b ∷ []) more begins)
    next r more false is same = differs seen (other line seen more b r is same)

    goes : (r : List ℕ) → line ≡ seen ++ r → found line (gone_on line (length seen) b) bytes ≡ has line (parts (seen ++ b ∷ []) bytes)
    goes [] is =
        ap (λ o. found line (if is_next o b then scan.Like (length seen + 1) else scan.Unlike) bytes) (ap (λ l. slice_get l (length seen)) is ∙ at_seam seen [])
        ∙ differs seen (longer line seen b is)
    goes (r ∷ more) is =
        ap (λ o. found line (if is_next o b then scan.Like (length seen + 1) else scan.Unlike) bytes) (ap (λ l. slice_get l (length seen)) is ∙ at_seam seen (r ∷ more))
        ∙ next r more (r == b) is refl

  stepped : (b : ℕ) (seen : List ℕ) (s : Scan) → Knows line seen s → found line s (b ∷ bytes) ≡ has line (parts seen (b ∷ bytes))
  stepped b _ _ (IsLike seen rest e) = elim (b == 10) as (λ t. found line (if t then line_ended line (length seen) else gone_on line (length seen) b) bytes
      ≡ has line (if t then seen ∷ parts [] bytes else parts (seen ++ b ∷ []) bytes)) [ true ↦ ended seen rest e | false ↦ goes b seen rest e ]
  stepped b _ _ (IsUnlike x xs d) = elim (b == 10) as (λ t. found line (if t then scan.Like 0 else scan.Unlike) bytes
      ≡ has line (if t then (x ∷ xs) ∷ parts [] bytes else parts ((x ∷ xs) ++ b ∷ []) bytes)) [
        | true ↦ fresh ∙ ap (λ t. t || has line (parts [] bytes)) (sym (not_it line (x ∷ xs) d))
        | false ↦ ahead (x ∷ (xs ++ b ∷ [])) scan.Unlike (IsUnlike x (xs ++ b ∷ []) (λ more is. d (b ∷ more) (sym (append_assoc (x ∷ xs) (b ∷ []) more) ∙ is)))
      ]

-- The search tells whether the header has the line.
search_is : (line bytes seen : List ℕ) (s : Scan) → Knows line seen s → found line s bytes ≡ has line (parts seen bytes)
search_is line [] seen s k = last line seen s k
search_is line (b ∷ bytes) seen s k = stepped line bytes (search_is line bytes) b seen s k

pub searched : (line message : List ℕ) → is_found line (scanned line (scan.Like 0) message) ≡ is_looping line message
unfolding is_looping
searched line message = search_is line message [] (scan.Like 0) (IsLike [] line refl) ∙ ap (has line) (parts_split [] message ∙ onto_none message)

-- with one byte more
pub scanned_more : (line : List ℕ) (s : Scan) (bytes : List ℕ) (k d : ℕ) → k < length bytes → scanned line s (take (k + 1) bytes) ≡ scan_step line (scanned line s (take k bytes)) (get_or bytes k d)
scanned_more line s bytes k d lt = ap (scanned line s) (take_more bytes k d lt) ∙ scanned_append line s (take k bytes) (get_or bytes k d ∷ [])

-- of two parts of a message
pub searched_parts : (line a b message : List ℕ) → a ++ b ≡ message → is_found line (scanned line (scanned line (scan.Like 0) a) b) ≡ is_looping line message
searched_parts line a b message e = ap (is_found line) (sym (scanned_append line (scan.Like 0) a b) ∙ ap (scanned line (scan.Like 0)) e) ∙ searched line message

-- The same over blocks

module _ {Z : Type 0} (line : List ℕ) (blocks : List (Vec ℕ Z)) (k : ℕ) where
  abbrev Searched : Scan → ℕ → Type 0
  Searched s n = s ≡ scanned line (scan.Like 0) (joined (take n blocks))

  -- once the search is over, the blocks after that change nothing
  pub blocks_over : (s : Scan) → Searched s k → is_open s ≡ false → s ≡ scanned line (scan.Like 0) (joined blocks)
  blocks_over s h over =
      sym (scanned_over line s (joined (drop k blocks)) over) ∙ ap (λ t. scanned line t (joined (drop k blocks))) h
      ∙ sym (scanned_append line (scan.Like 0) (joined (take k blocks)) (joined (drop k blocks)))
      ∙ ap (scanned line (scan.Like 0)) (sym (joined_append (take k blocks) (drop k blocks)) ∙ ap joined (take-append-drop k blocks))

  -- with one block more
  pub blocks_more : (block : Vec ℕ Z) (s t : Scan) → k < length blocks → Searched s k → t ≡ scanned line s (get_or blocks k block).items → Searched t (k + 1)
  blocks_more block s t lt h e =
      e ∙ ap (λ x. scanned line x (get_or blocks k block).items) h
      ∙ sym (scanned_append line (scan.Like 0) (joined (take k blocks)) (get_or blocks k block).items)
      ∙ ap (scanned line (scan.Like 0)) (sym (joined_more blocks k block lt))
