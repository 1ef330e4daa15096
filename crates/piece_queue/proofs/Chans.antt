-- Lemmas on the pieces of channels.
use Rattle.std.proofs.Common.{◌≡◌, ◌≢◌, ℕ, zero, suc, ◌+◌, ◌<◌, Bool, true, false, ◌==◌, List, [], ◌∷◌, ◌++◌, length, sym, refl, ap, ◌∙◌, subst, ◌⊎◌, inl, inr, ⊎_elim, append_assoc, arith, length-append, true≢false}
use Rattle.std.specs.Prelude.{Some, None, slice_get}
use Rattle.std.specs.List.{filter}
use Rattle.std.proofs.lemmas.List.{append-nil}
use Rattle.std.proofs.lemmas.List.Elements.{filter-append}
use Rattle.std.proofs.lemmas.Option.{slice_get_within, same_Some, none-some}
use Rattle.piece_queue.specs.declared.piece.Piece.{Piece}
use Rattle.piece_queue.specs.Pieces.{AllFit, AreNumbered, FitsRoom, HasLast, NoneIsLast, is_last, is_of, of_channel}

pub same : (a b : ℕ) → a ≡ b → (a == b) ≡ true
same a b e = grind (arith, e)

pub apart : (a b : ℕ) → a ≢ b → (a == b) ≡ false
apart a b n = grind (arith, n)

pub from_same : (a b : ℕ) → (a == b) ≡ true → a ≡ b
from_same a b e = grind (arith, e)

pub not_true : (b : Bool) → b ≢ true → b ≡ false
not_true true n = absurd (n refl)
not_true false n = refl

one_in : (c : ℕ) (x : Piece) → is_of c x ≡ true → of_channel c (x ∷ []) ≡ x ∷ []
one_in c x e = grind (arith, e)

one_out : (c : ℕ) (x : Piece) → is_of c x ≡ false → of_channel c (x ∷ []) ≡ []
one_out c x e = grind (arith, e)

at_front : (c : ℕ) (x : Piece) (items : List Piece) → is_of c x ≡ true → of_channel c (x ∷ items) ≡ x ∷ of_channel c items
at_front c x items e = grind (arith, e)

snoc : (c : ℕ) (x : Piece) (got items : List Piece) → of_channel c (got ++ (items ++ x ∷ [])) ≡ of_channel c (got ++ items) ++ of_channel c (x ∷ [])
snoc c x got items = ap (of_channel c) (sym (append_assoc got items (x ∷ []))) ∙ filter-append (is_of c) (got ++ items) (x ∷ [])

pub snoc_in : (c : ℕ) (x : Piece) (got items : List Piece) → is_of c x ≡ true → of_channel c (got ++ (items ++ x ∷ [])) ≡ of_channel c (got ++ items) ++ x ∷ []
snoc_in c x got items e = snoc c x got items ∙ ap (λ l. of_channel c (got ++ items) ++ l) (one_in c x e)

pub snoc_out : (c : ℕ) (x : Piece) (got items : List Piece) → is_of c x ≡ false → of_channel c (got ++ (items ++ x ∷ [])) ≡ of_channel c (got ++ items)
snoc_out c x got items e = snoc c x got items ∙ (ap (λ l. of_channel c (got ++ items) ++ l) (one_out c x e) ∙ append-nil (of_channel c (got ++ items)))

-- the piece after these, of the same channel
pub seam : (x : Piece) (got items : List Piece) → of_channel x.chan (got ++ x ∷ items) ≡ of_channel x.chan got ++ x ∷ of_channel x.chan items
seam x got items = filter-append (is_of x.chan) got (x ∷ items) ∙ ap (λ l. of_channel x.chan got ++ l) (at_front x.chan x items (same x.chan x.chan refl))

pub get_snoc : (xs : List Piece) (x y : Piece) (k : ℕ) → slice_get (xs ++ x ∷ []) k ≡ Some y → (slice_get xs k ≡ Some y) ⊎ ((k ≡ length xs) × (x ≡ y))
get_snoc [] x y zero e = inr (refl, same_Some x y e)
get_snoc [] x y (suc k) e = absurd (none-some y e)
get_snoc (z ∷ zs) x y zero e = inl e
get_snoc (z ∷ zs) x y (suc k) e = ⊎_elim (λ (t : slice_get zs k ≡ Some y). inl t) (λ (t : (k ≡ length zs) × (x ≡ y)). inr (ap suc t.0, t.1)) (get_snoc zs x y k e)

get_seam : (xs : List Piece) (x : Piece) (ys : List Piece) → slice_get (xs ++ x ∷ ys) (length xs) ≡ Some x
get_seam [] x ys = refl
get_seam (z ∷ zs) x ys = get_seam zs x ys

get_left : (xs ys : List Piece) (y : Piece) (k : ℕ) → slice_get xs k ≡ Some y → slice_get (xs ++ ys) k ≡ Some y
get_left [] ys y k e = absurd (none-some y e)
get_left (z ∷ zs) ys y zero e = e
get_left (z ∷ zs) ys y (suc k) e = get_left zs ys y k e

pub numbered_snoc : (xs : List Piece) (x : Piece) → AreNumbered xs → NoneIsLast xs → x.number ≡ length xs → AreNumbered (xs ++ x ∷ [])
numbered_snoc xs x all unended number k y e = ⊎_elim
    (λ (t : slice_get xs k ≡ Some y). ((all k y t).0, λ last. absurd (true≢false (sym last ∙ unended k y t))))
    (λ (t : (k ≡ length xs) × (x ≡ y)). (ap (λ p. p.number) (sym t.1) ∙ (number ∙ sym t.0), λ last. omega (arith, t.0, length-append xs (x ∷ []))))
    (get_snoc xs x y k e)

-- the piece at a seam of numbered ones has the number of those before it, none of which is the last
pub numbered_seam : (xs : List Piece) (x : Piece) (ys : List Piece) → AreNumbered (xs ++ x ∷ ys) → (x.number ≡ length xs) × NoneIsLast xs
numbered_seam xs x ys all = (
  (all (length xs) x (get_seam xs x ys)).0,
  λ k y e. not_true (is_last y) (λ last.
      let here = (all k y (get_left xs (x ∷ ys) y k e)).1 last in
      let within = slice_get_within xs k y e in
      absurd (omega (arith, here, within, length-append xs (x ∷ ys)))),
)

-- nothing comes after the last of numbered ones
pub all_last : (xs ys : List Piece) → AreNumbered (xs ++ ys) → HasLast xs → ys ≡ []
all_last xs [] all last = refl
all_last xs (y ∷ ys) all last =
    let here = (all last.0 last.1 (get_left xs (y ∷ ys) last.1 last.0 last.2)).1 last.3 in
    let within = slice_get_within xs last.0 last.1 last.2 in
    absurd (omega (arith, here, within, length-append xs (y ∷ ys)))

pub last_snoc : (xs : List Piece) (x : Piece) → is_last x ≡ true → HasLast (xs ++ x ∷ [])
last_snoc xs x last = (length xs, x, get_seam xs x [], last)

pub none_snoc : (xs : List Piece) (x : Piece) → NoneIsLast xs → is_last x ≡ false → NoneIsLast (xs ++ x ∷ [])
none_snoc xs x all one k y e = ⊎_elim (λ (t : slice_get xs k ≡ Some y). all k y t) (λ (t : (k ≡ length xs) × (x ≡ y)). ap is_last (sym t.1) ∙ one) (get_snoc xs x y k e)

pub fits_snoc : (xs : List Piece) (x : Piece) → AllFit xs → FitsRoom x.brought → AllFit (xs ++ x ∷ [])
fits_snoc xs x all one k y e = ⊎_elim (λ (t : slice_get xs k ≡ Some y). all k y t) (λ (t : (k ≡ length xs) × (x ≡ y)). subst (λ (z : Piece). FitsRoom z.brought) t.1 one) (get_snoc xs x y k e)
