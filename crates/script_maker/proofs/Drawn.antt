-- Numbers that are drawn, and the mails of a script, one after the other.
use Rattle.std.proofs.Common.{◌≡◌, ℕ, zero, suc, ◌+◌, ◌*◌, ◌≤◌, List, [], ◌∷◌, ◌++◌, take, drop, refl, sym, ap, ◌∙◌, arith, append_assoc}
use Rattle.std.proofs.lemmas.List.{flat_map_more, take-append-drop}
use Rattle.std.proofs.lemmas.List.Concat.{flat_map-append}
use Rattle.std.specs.Prelude.{flat_map}
use Rattle.std.specs.Fn.{iterate}
use Rattle.std.specs.List.{range_with_len}
use Rattle.script_maker.specs.Mails.{after_mail, draw, mail, recipient, recipients_after}
use Rattle.script_maker.specs.Script.{closing, mails, opening, script_of}

-- once more
pub iterate_more : {A : Type 0} (h : A → A) (n m : ℕ) (x : A) → n + 1 ≡ m → h (iterate h n x) ≡ iterate h m x
iterate_more h n m x e = let on : suc n ≡ m = omega arith in sym (last h n x) ∙ ap (λ (k : ℕ). iterate h k x) on where
  last : {A : Type 0} (h : A → A) (n : ℕ) (x : A) → iterate h (suc n) x ≡ h (iterate h n x)
  last h zero x = refl
  last h (suc n) x = last h n (h x)

-- one number more
range_more : (n : ℕ) → range_with_len 0 (n + 1) ≡ range_with_len 0 n ++ n ∷ []
range_more n = let on : n + 1 ≡ suc n = omega arith in ap (range_with_len 0) on ∙ from 0 n n (omega arith) where
  from : (a n j : ℕ) → a + n ≡ j → range_with_len a (suc n) ≡ range_with_len a n ++ j ∷ []
  from a zero j e = let is : a ≡ j = omega arith in ap (λ (k : ℕ). k ∷ []) is
  from a (suc n) j e = ap (λ (l : List ℕ). a ∷ l) (from (a + 1) n j (omega arith))

-- the first numbers
range_front : (a n k : ℕ) → k ≤ n → take k (range_with_len a n) ≡ range_with_len a k
range_front a n zero h = refl
range_front a zero (suc k) h = absurd (omega arith)
range_front a (suc n) (suc k) h = ap (λ (l : List ℕ). a ∷ l) (range_front (a + 1) n k (omega arith))

-- one recipient more
pub recipients_more : (old : List ℕ) (x n : ℕ)
    → (old ++ recipients_after x n) ++ (32 ∷ recipient (draw x (1 + 2 * n)) (draw x (2 + 2 * n))) ≡ old ++ recipients_after x (n + 1)
recipients_more old x n =
    flat_map_more (λ (i : ℕ). 32 ∷ recipient (draw x (1 + 2 * i)) (draw x (2 + 2 * i))) old (range_with_len 0 n) n
    ∙ ap (λ (is : List ℕ). old ++ flat_map (λ (i : ℕ). 32 ∷ recipient (draw x (1 + 2 * i)) (draw x (2 + 2 * i))) is) (sym (range_more n))

-- one mail more
pub mails_more : (old : List ℕ) (seed n : ℕ) → (old ++ mails seed n) ++ mail (iterate after_mail n seed) (n + 1) ≡ old ++ mails seed (n + 1)
unfolding mails
mails_more old seed n =
    flat_map_more (λ (k : ℕ). mail (iterate after_mail k seed) (k + 1)) old (range_with_len 0 n) n
    ∙ ap (λ (ks : List ℕ). old ++ flat_map (λ (k : ℕ). mail (iterate after_mail k seed) (k + 1)) ks) (sym (range_more n))

-- the first mails, and those after them
later_mails : (seed n count : ℕ) → n ≤ count → (rest : List ℕ) × (mails seed count ≡ mails seed n ++ rest)
unfolding mails
later_mails seed n count h =
    let all : List ℕ = range_with_len 0 count in
    let f : ℕ → List ℕ = λ k. mail (iterate after_mail k seed) (k + 1) in (
      flat_map f (drop n all),
      ap (flat_map f) (sym (take-append-drop n all)) ∙ flat_map-append f _ _ ∙ ap (λ (ks : List ℕ). flat_map f ks ++ flat_map f (drop n all)) (range_front 0 count n h),
    )

-- a script begins with its opening and its first mails
pub begins : (seed n count : ℕ) → n ≤ count → (rest : List ℕ) × (script_of seed count ≡ (opening ++ mails seed n) ++ rest)
begins seed n count h =
    let later = later_mails seed n count h in
    (later.0 ++ closing, ap (λ (m : List ℕ). opening ++ (m ++ closing)) later.1 ∙ regrouped opening (mails seed n) later.0 closing) where
      regrouped : (a b c d : List ℕ) → a ++ ((b ++ c) ++ d) ≡ (a ++ b) ++ (c ++ d)
      regrouped a b c d = simp append_assoc

-- the pieces of a mail's lines
pub mail_lines : (old head number name words body end run : List ℕ)
    → (((((((((old ++ head) ++ number) ++ 32 ∷ []) ++ name) ++ words) ++ body) ++ number) ++ (end ++ (10 ∷ run))) ++ number) ++ 10 ∷ []
    ≡ old ++ (((head ++ (number ++ (32 ∷ (name ++ (words ++ (body ++ (number ++ end))))))) ++ 10 ∷ []) ++ ((run ++ number) ++ 10 ∷ []))
mail_lines old head number name words body end run = simp append_assoc
