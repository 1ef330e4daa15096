-- A text in the pieces in which it is appended.
use Rattle.std.proofs.Common.{◌≡◌, ◌⊎◌, ℕ, zero, suc, ◌+◌, ◌≤◌, ◌<◌, List, [], ◌∷◌, ◌++◌, length, take, drop, Some, None, refl, sym, ap, ◌∙◌, subst, ⊎_elim, inl, inr, arith, append_assoc, length-drop, length-take}
use Rattle.std.specs.List.{concat}
use Rattle.std.proofs.lemmas.List.{drop-drop, take-append-drop}
use Rattle.queue_inject.specs.Texts.{Text}
use Rattle.queue_inject.specs.Table.{piece_size}
use Rattle.queue_inject.specs.Written.{IsPiece, ArePieces, AreCut, AreWhole}

-- the first piece is what a whole piece takes of the text, and the others are those of what is left
abbrev pub Cuts : List ℕ → List (List ℕ) → Type 0
Cuts text [] = length text ≡ 0
Cuts text (piece ∷ more) = (take piece_size text ≡ piece) × (0 < length text) × Cuts (drop piece_size text) more

-- each text has such pieces

shorter : (text : List ℕ) (most : ℕ) → 0 < length text → length text ≤ suc most → length (drop piece_size text) ≤ most
shorter text most some fits = let left = length-drop piece_size text in omega arith

one_more : (text : List ℕ) (more : List (List ℕ)) → 0 < length text → Cuts (drop piece_size text) more → Cuts text (take piece_size text ∷ more)
one_more text more some cuts = (refl, some, cuts)

pub cut : (most : ℕ) (text : List ℕ) → length text ≤ most → (pieces : List (List ℕ)) × Cuts text pieces
cut most [] fits = ([], refl)
cut zero (b ∷ text) fits = absurd (omega arith)
cut (suc most) (b ∷ text) fits =
    let some : 0 < length (b ∷ text) = omega arith in
    let more : (pieces : List (List ℕ)) × Cuts (drop piece_size (b ∷ text)) pieces = cut most (drop piece_size (b ∷ text)) (shorter (b ∷ text) most some fits) in
    (take piece_size (b ∷ text) ∷ more.0, one_more (b ∷ text) more.0 some more.1)

-- they are its pieces

none_left : (text : List ℕ) → length text ≡ 0 → text ≡ []
none_left [] none = refl
none_left (b ∷ text) none = absurd (omega arith)

cuts_join : (text : List ℕ) (pieces : List (List ℕ)) → Cuts text pieces → concat pieces ≡ text
cuts_join text [] none = sym (none_left text none)
cuts_join text (piece ∷ more) (first, some, rest) =
    ap (λ t. t ++ concat more) (sym first) ∙ ap (λ t. take piece_size text ++ t) (cuts_join (drop piece_size text) more rest) ∙ take-append-drop piece_size text

is_piece : (text piece : List ℕ) (more : List (List ℕ)) → take piece_size text ≡ piece → 0 < length text → Cuts (drop piece_size text) more → IsPiece piece more
is_piece text piece [] first some rest =
    let len : length piece ≡ length (take piece_size text) = ap length (sym first) in
    let taken = length-take piece_size text in
    (omega arith, omega arith)
is_piece text piece (next ∷ more) first some (second, longer, rest) =
    let len : length piece ≡ length (take piece_size text) = ap length (sym first) in
    let taken = length-take piece_size text in
    let left = length-drop piece_size text in
    omega arith

cuts_sized : (text : List ℕ) (pieces : List (List ℕ)) → Cuts text pieces → ArePieces pieces
cuts_sized text [] none = tt
cuts_sized text (piece ∷ more) (first, some, rest) = (is_piece text piece more first some rest, cuts_sized (drop piece_size text) more rest)

pub cuts_cut : (text : List ℕ) (pieces : List (List ℕ)) → Cuts text pieces → AreCut text pieces
cuts_cut text pieces cuts = record { joined = cuts_join text pieces cuts; sized = cuts_sized text pieces cuts }

-- after some bytes

-- none is left after the last byte
pub cuts_none : (text : List ℕ) (done : ℕ) (pieces : List (List ℕ)) → length text ≤ done → Cuts (drop done text) pieces → pieces ≡ []
cuts_none text done [] all cuts = refl
cuts_none text done (piece ∷ more) all (first, some, rest) = let left = length-drop done text in absurd (omega arith)

-- and one before it
pub cuts_some : (text : List ℕ) (done : ℕ) → done < length text → ¬ (Cuts (drop done text) [])
cuts_some text done less none = let left = length-drop done text in absurd (omega arith)

-- the others follow the first
cuts_next : (text : List ℕ) (done : ℕ) (more : List (List ℕ)) → Cuts (drop piece_size (drop done text)) more → Cuts (drop (done + piece_size) text) more
cuts_next text done more rest = subst (λ t. Cuts t more) (drop-drop piece_size done text) rest

-- if no whole piece is left, so few bytes are
cuts_left : (text : List ℕ) (done : ℕ) (pieces : List (List ℕ)) → length text < done + piece_size → Cuts (drop done text) pieces → length (concat pieces) < piece_size
cuts_left text done pieces short cuts =
    let is = ap length (cuts_join (drop done text) pieces cuts) in
    let left = length-drop done text in
    omega arith

-- A text that is being written

-- Of all its pieces these are left after so many bytes. Those before them are whole, unless the text has no fault: then
-- the last one may be shorter.
pub record Goes (text : Text) (all : List (List ℕ)) (done : ℕ) (pieces : List (List ℕ)) : Type 0 where
  pub whole : List (List ℕ)
  pub split : all ≡ whole ++ pieces
  pub full : AreWhole whole ⊎ (text.fault ≡ None)
  pub cuts : Cuts (drop done text.bytes) pieces

-- a piece is written next, before a fault only a whole one
pub record HasNext (text : Text) (done : ℕ) : Type 0 where
  pub less : done < length text.bytes
  pub enough : (text.fault ≡ None) ⊎ (done + piece_size ≤ length text.bytes)

pub goes_first : (text : Text) (all : List (List ℕ)) → Cuts text.bytes all → Goes text all 0 all
goes_first text all cuts = record { whole = []; split = refl; full = inl tt; cuts = cuts }

pub next_is : (text : Text) (all : List (List ℕ)) (done : ℕ) (piece : List ℕ) (more : List (List ℕ)) → Goes text all done (piece ∷ more) → take piece_size (drop done text.bytes) ≡ piece
next_is text all done piece more g = (g.cuts).0

one_whole : (text : List ℕ) (done : ℕ) (piece : List ℕ) → take piece_size (drop done text) ≡ piece → done + piece_size ≤ length text → length piece ≡ piece_size
one_whole text done piece first enough =
    let len : length piece ≡ length (take piece_size (drop done text)) = ap length (sym first) in
    let taken = length-take piece_size (drop done text) in
    let left = length-drop done text in
    omega arith

whole_more : (whole : List (List ℕ)) (piece : List ℕ) → AreWhole whole → length piece ≡ piece_size → AreWhole (whole ++ piece ∷ [])
whole_more [] piece are is = (is, tt)
whole_more (one ∷ more) piece (first, are) is = (first, whole_more more piece are is)

pub goes_on : (text : Text) (all : List (List ℕ)) (done : ℕ) (piece : List ℕ) (more : List (List ℕ)) → Goes text all done (piece ∷ more) → HasNext text done → Goes text all (done + piece_size) more
goes_on text all done piece more g next = record {
  whole = g.whole ++ piece ∷ [];
  split = g.split ∙ sym (append_assoc g.whole (piece ∷ []) more);
  full = ⊎_elim (λ none. inr none)
      (λ enough. ⊎_elim (λ are. inl (whole_more g.whole piece are (one_whole text.bytes done piece (next_is text all done piece more g) enough))) (λ none. inr none) g.full)
      next.enough;
  cuts = cuts_next text.bytes done more (g.cuts).2;
}

-- what its fault finds

pub whole_is : (text : Text) (whole : List (List ℕ)) (status : ℕ) → AreWhole whole ⊎ (text.fault ≡ None) → text.fault ≡ Some status → AreWhole whole
whole_is text whole status (inl are) some = are
whole_is text whole status (inr none) some = absurd (cc)

pub few_left : (text : Text) (all : List (List ℕ)) (done : ℕ) (pieces : List (List ℕ)) → length text.bytes < done + piece_size → Goes text all done pieces → length (concat pieces) < piece_size
few_left text all done pieces short g = cuts_left text.bytes done pieces short g.cuts
