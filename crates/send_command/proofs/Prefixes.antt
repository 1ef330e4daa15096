-- A text that is given in pieces.
use Rattle.std.proofs.Common.{◌≡◌, ℕ, ◌+◌, ◌-◌, ◌≤◌, min, List, ◌++◌, length, take, drop, Option, sym, ap, ◌∙◌, subst, arith, append_assoc, length-take, length-drop}
use Rattle.std.proofs.Math.Seq.{take-add}
use Rattle.std.proofs.lemmas.List.{take-take, take_all}
use Rattle.mail_bytes.specs.Told.{Meets}
use Rattle.outside.specs.Streams.{Gives}
use Rattle.outside.specs.declared.sink.Gave.TheVariants as gave
use Rattle.program_runner.proofs.Deeds.{meets_then}

-- after so many bytes, so many of the next piece
given_more : (a k n : ℕ) (l : List ℕ) → k ≤ n → take a l ++ take k (take n (drop a l)) ≡ take (a + k) l
given_more a k n l small = ap (λ (t : List ℕ). take a l ++ t) (take-take k n (drop a l) small) ∙ sym (take-add a k l)

pub within_piece : (a k n : ℕ) (l : List ℕ) → k ≤ length (take n (drop a l)) → k ≤ min n (length l - a)
within_piece a k n l h = subst (λ (m : ℕ). k ≤ m) (length-take n (drop a l) ∙ ap (λ (m : ℕ). min n m) (length-drop a l)) h

-- The first bytes of the text were taken, and then its next piece was given.
module _ (a n : ℕ) (l : List ℕ) (before mid after : Option (List ℕ)) (taken : Meets before mid (λ first last. last ≡ first ++ take a l)) where
  pub piece_given : Meets mid after (Gives gave.Done (take n (drop a l))) → Meets before after (λ first last. last ≡ first ++ take (a + n) l)
  piece_given told = meets_then (λ first last. last ≡ first ++ take a l) (Gives gave.Done (take n (drop a l))) (λ first last. last ≡ first ++ take (a + n) l)
      (λ x y z is more. more ∙ ap (λ (t : List ℕ). t ++ take n (drop a l)) is ∙ append_assoc x (take a l) (take n (drop a l)) ∙ ap (λ (t : List ℕ). x ++ t) (sym (take-add a n l))) before mid after taken told

  pub piece_failed : a ≤ length l → Meets mid after (Gives gave.Failed (take n (drop a l))) → Meets before after (Gives gave.Failed l)
  piece_failed inside told = meets_then (λ first last. last ≡ first ++ take a l) (Gives gave.Failed (take n (drop a l))) (Gives gave.Failed l)
      (λ x y z is more. (
        a + more.0,
        (let piece = within_piece a more.0 n l more.1 in omega (arith, inside, piece)),
        more.2 ∙ ap (λ (t : List ℕ). t ++ take more.0 (take n (drop a l))) is ∙ append_assoc x (take a l) (take more.0 (take n (drop a l)))
            ∙ ap (λ (t : List ℕ). x ++ t) (given_more a more.0 n l (let piece = within_piece a more.0 n l more.1 in omega (arith, piece))),
      )) before mid after taken told

-- all of it was given
pub all_given : (a : ℕ) (l : List ℕ) (before after : Option (List ℕ)) → Meets before after (λ first last. last ≡ first ++ take a l) → length l ≤ a → Meets before after (Gives gave.Done l)
all_given a l before after taken over = subst (λ (t : List ℕ). Meets before after (λ first last. last ≡ first ++ t)) (take_all a l over) taken
