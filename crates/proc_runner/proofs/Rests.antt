-- What a giving leaves of a piece.
use Rattle.std.proofs.Common.{◌≡◌, ℕ, ◌+◌, ◌-◌, ◌<◌, ◌≤◌, List, [], ◌∷◌, length, take, drop, ◌++◌, Some, None, refl, sym, ap, subst, ◌∙◌, arith, length-drop}
use Rattle.std.proofs.lemmas.List.{drop-drop, drop-take, length-take-le, take-take}
use Rattle.std.proofs.Math.Seq.{take-append_seam}
use Rattle.outside.specs.declared.posts.Post.TheVariants as post
use Rattle.piece_queue.specs.declared.piece.Piece.{Piece}
use Rattle.proc_runner.specs.Posted.{IsGiven, kept, left_from}

-- the first bytes of the rest of a piece
front : (from count len : ℕ) (bytes : List ℕ) → from + len ≤ count → take len (drop from (take count bytes)) ≡ take len (drop from bytes)
front from count len bytes low =
    let m : ℕ = count - from in
    let e : count ≡ from + m = omega (arith, low) in
    subst (λ n. take len (drop from (take n bytes)) ≡ take len (drop from bytes)) (sym e)
    (ap (take len) (drop-take from m bytes) ∙ take-take len m (drop from bytes) (omega (arith, low)))

kept_some : (chan : ℕ) (xs : List ℕ) → 0 < length xs → Some (record { chan = chan; bytes = xs }) ≡ kept chan xs
kept_some chan [] low = absurd (omega arith)
kept_some chan (x ∷ xs) low = refl

kept_none : (chan : ℕ) (xs : List ℕ) → length xs ≤ 0 → None ≡ kept chan xs
kept_none chan [] low = refl
kept_none chan (x ∷ xs) low = absurd (omega arith)

left_length : (from count len : ℕ) (bytes : List ℕ) → count ≤ length bytes → length (drop len (drop from (take count bytes))) ≡ count - from - len
left_length from count len bytes fits = omega (arith, length-drop len (drop from (take count bytes)), length-drop from (take count bytes), length-take-le count bytes fits)

-- some bytes are left
pub gives_some : (x : Piece) (from count len : ℕ) (into : List ℕ) → take len into ≡ take len (drop from x.bytes) → from + len < count → count ≤ length x.bytes
    → IsGiven x from count (post.Bytes x.chan len) into (Some (left_from x (from + len) count))
gives_some x from count len into is low fits = (
  refl,
  is ∙ sym (front from count len x.bytes (omega (arith, low))),
  subst (λ (xs : List ℕ). Some (record { chan = x.chan; bytes = xs }) ≡ kept x.chan (drop len (drop from (take count x.bytes)))) (drop-drop len from (take count x.bytes))
      (kept_some x.chan (drop len (drop from (take count x.bytes))) (omega (arith, low, left_length from count len x.bytes fits))),
)

-- all of it was given
pub gives_all : (x : Piece) (from count len : ℕ) (into : List ℕ) → take len into ≡ take len (drop from x.bytes) → from + len ≡ count → count ≤ length x.bytes
    → IsGiven x from count (post.Bytes x.chan len) into None
gives_all x from count len into is all fits = (
  refl,
  is ∙ sym (front from count len x.bytes (omega (arith, all))),
  kept_none x.chan (drop len (drop from (take count x.bytes))) (omega (arith, all, left_length from count len x.bytes fits)),
)

-- what was copied stands at the start
pub fills : (len from : ℕ) (copied into bytes : List ℕ) → copied ≡ take (from + len - from) (drop from bytes) → length copied ≡ len → take len (copied ++ into) ≡ take len (drop from bytes)
fills len from copied into bytes is long =
    let e : from + len - from ≡ len = omega arith in
    subst (λ n. take n (copied ++ into) ≡ copied) long (take-append_seam copied into) ∙ is ∙ ap (λ n. take n (drop from bytes)) e
