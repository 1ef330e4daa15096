-- Pieces, and the bytes of those that are left.
use Rattle.std.proofs.Common.{◌≡◌, ◌≢◌, ℕ, ◌+◌, ◌<◌, ◌≤◌, List, [], ◌∷◌, ◌++◌, length, take, drop, get_or, sym, ap, ◌∙◌, ⊎_elim, arith, length-append, append_assoc}
use Rattle.std.specs.List.{concat}
use Rattle.std.proofs.lemmas.Bool.{cases_lt}
use Rattle.std.specs.Bool.{Decides}
use Rattle.std.specs.Prelude.{nat_eq}
use Rattle.std.proofs.lemmas.Bool.Decides.{Decides-eqb}
use Rattle.std.proofs.lemmas.List.{append-nil, drop_more, drop_all, take_all, take_at, drop_at, get_or_append_left, take-append-drop}
use Rattle.std.proofs.lemmas.List.Folds.{concat-append}
use Rattle.std.proofs.Math.Seq.{get_or-append_seam}
use Rattle.maildir_drop.specs.PiecesInside.{IsCut}

-- the piece at a place, and the bytes after it
abbrev piece : List (List ℕ) → ℕ → List ℕ
piece pieces k = get_or pieces k []

pub left_more : (pieces : List (List ℕ)) (k : ℕ) → k < length pieces → concat (drop k pieces) ≡ piece pieces k ++ concat (drop (k + 1) pieces)
left_more pieces k lt = ap concat (drop_more pieces k [] lt)

pub left_none : (pieces : List (List ℕ)) (k : ℕ) → length pieces ≤ k → concat (drop k pieces) ≡ []
left_none pieces k le = ap concat (drop_all k pieces le)

-- what the next piece is, and what comes after it, of the bytes that are left
pub record Next (pieces : List (List ℕ)) (k : ℕ) : Type 0 where
  pub first : take 8192 (concat (drop k pieces)) ≡ piece pieces k
  pub rest : drop 8192 (concat (drop k pieces)) ≡ concat (drop (k + 1) pieces)

pub next : (pieces : List (List ℕ)) (k : ℕ) → IsCut pieces → k < length pieces → Next pieces k
next pieces k cut lt = ⊎_elim
    (λ more. record {
      first = ap (take 8192) (left_more pieces k lt) ∙ take_at (piece pieces k) (concat (drop (k + 1) pieces)) 8192 (cut.full k more);
      rest = ap (drop 8192) (left_more pieces k lt) ∙ drop_at (piece pieces k) (concat (drop (k + 1) pieces)) 8192 (cut.full k more);
    })
    (λ last.
    let none = left_none pieces (k + 1) last in
    let whole = left_more pieces k lt ∙ ap (λ t. piece pieces k ++ t) none ∙ append-nil (piece pieces k) in
    let short = cut.short k lt in
    record {
      first = ap (take 8192) whole ∙ take_all 8192 (piece pieces k) short;
      rest = ap (drop 8192) whole ∙ drop_all 8192 (piece pieces k) short ∙ sym none;
    })
    (cases_lt (k + 1) (length pieces))

pub some_left : (pieces : List (List ℕ)) (k : ℕ) → IsCut pieces → k < length pieces → concat (drop k pieces) ≢ []
some_left pieces k cut lt e =
    let some = cut.some k lt in
    let none = ap length (sym (left_more pieces k lt) ∙ e) in
    let sum = length-append (piece pieces k) (concat (drop (k + 1) pieces)) in
    omega arith

-- nothing is left just after the last piece
pub empty_decides : (pieces : List (List ℕ)) (k n : ℕ) (view : List ℕ) → IsCut pieces → k ≤ length pieces → n ≡ length pieces → concat (drop k pieces) ≡ view
    → Decides (nat_eq k n) (view ≡ [])
empty_decides pieces k n view cut le e is = (
  λ t. let same = (Decides-eqb k n).0 t in sym is ∙ left_none pieces k (omega arith),
  λ none. ⊎_elim (λ lt. absurd (some_left pieces k cut lt (is ∙ none))) (λ ge. (Decides-eqb k n).1 (omega arith)) (cases_lt k (length pieces)),
)

-- more pieces

pub concat_push : (pieces : List (List ℕ)) (last : List ℕ) → concat (pieces ++ last ∷ []) ≡ concat pieces ++ last
concat_push pieces last = concat-append pieces (last ∷ []) ∙ ap (λ t. concat pieces ++ t) (append-nil last)

-- all are full
abbrev pub AreFull : List (List ℕ) → Type 0
AreFull pieces = (k : ℕ) → k < length pieces → length (get_or pieces k []) ≡ 8192

pub full_push : (pieces : List (List ℕ)) (last : List ℕ) → AreFull pieces → length last ≡ 8192 → AreFull (pieces ++ last ∷ [])
full_push pieces last h e k lt = ⊎_elim
    (λ below. ap length (get_or_append_left pieces (last ∷ []) [] k below) ∙ h k below)
    (λ above.
    let long = length-append pieces (last ∷ []) in
    let is : k ≡ length pieces = omega arith in
    ap (λ i. length (get_or (pieces ++ last ∷ []) i [])) is ∙ ap length (get_or-append_seam pieces last [] []) ∙ e)
    (cases_lt k (length pieces))

pub full_cut : (pieces : List (List ℕ)) → AreFull pieces → IsCut pieces
full_cut pieces h = record {
  full = λ k lt. h k (omega arith);
  some = λ k lt. let e = h k lt in omega arith;
  short = λ k lt. let e = h k lt in omega arith;
}

-- the last one is shorter, and not empty
pub last_cut : (pieces : List (List ℕ)) (last : List ℕ) → AreFull pieces → 1 ≤ length last → length last ≤ 8192 → IsCut (pieces ++ last ∷ [])
last_cut pieces last h some short =
    let long = length-append pieces (last ∷ []) in
    let at = λ (k : ℕ) (lt : k < length (pieces ++ last ∷ [])). one k lt in
    record {
      full = λ k lt. ap length (get_or_append_left pieces (last ∷ []) [] k (omega arith)) ∙ h k (omega arith);
      some = λ k lt. (at k lt).0;
      short = λ k lt. (at k lt).1;
    }
  where
    one : (k : ℕ) → k < length (pieces ++ last ∷ []) → (1 ≤ length (get_or (pieces ++ last ∷ []) k [])) × (length (get_or (pieces ++ last ∷ []) k []) ≤ 8192)
    one k lt = ⊎_elim
        (λ below.
        let e = ap length (get_or_append_left pieces (last ∷ []) [] k below) ∙ h k below in
        (omega arith, omega arith))
        (λ above.
        let long = length-append pieces (last ∷ []) in
        let is : k ≡ length pieces = omega arith in
        let e = ap (λ i. length (get_or (pieces ++ last ∷ []) i [])) is ∙ ap length (get_or-append_seam pieces last [] []) in
        (omega arith, omega arith))
        (cases_lt k (length pieces))

-- The bytes after a block was cut at the room that was left

pub put_full : (full grown : List (List ℕ)) (last block view first rest : List ℕ) (room : ℕ) → first ≡ last ++ take room block → rest ≡ drop room block
    → grown ≡ full ++ first ∷ [] → concat full ++ last ≡ view → concat grown ++ rest ≡ view ++ block
put_full full grown last block view first rest room e f g v =
    ap (λ t. concat t ++ rest) g
    ∙ ap (λ t. t ++ rest) (concat_push full first)
    ∙ append_assoc (concat full) first rest
    ∙ ap (λ t. concat full ++ (t ++ rest)) e
    ∙ ap (λ t. concat full ++ t)
    (append_assoc last (take room block) rest ∙ ap (λ t. last ++ (take room block ++ t)) f ∙ ap (λ t. last ++ t) (take-append-drop room block))
    ∙ sym (append_assoc (concat full) last block)
    ∙ ap (λ t. t ++ block) v
