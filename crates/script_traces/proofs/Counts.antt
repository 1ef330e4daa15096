-- Recipients that are counted by what became of them, and the line of the counts.
use Rattle.std.proofs.Common.{◌≡◌, ℕ, ◌+◌, List, [], ◌∷◌, ◌++◌, length, map, Bool, bytes_eq, cond, codes, refl, ap, ap₂, sym, ◌∙◌, append_assoc, arith}
use Rattle.std.specs.List.{count_by}
use Rattle.std.proofs.lemmas.List.Sums.{sum_by-cons}
use Rattle.script_traces.specs.declared.fates.RecipientFate.{RecipientFate}
use Rattle.script_traces.specs.declared.fates.RecipientFate.TheVariants.{Pending, Delivered, Noted, Bounced, Dropped}
use Rattle.script_traces.specs.Fates.{count_of, fate_word, is_fate, sum_line, with_number}

-- one more
next : {X : Type 0} (p : X → Bool) (x : X) (xs : List X) → count_by p (x ∷ xs) ≡ cond (p x) 1 0 + count_by p xs
next p x xs = sum_by-cons (λ y. cond (p y) 1 0) x xs

-- one thing became of it
once : (x : RecipientFate) → cond (is_fate Pending x) 1 0 + (cond (is_fate Delivered x) 1 0 + (cond (is_fate Noted x) 1 0 + (cond (is_fate Bounced x) 1 0 + cond (is_fate Dropped x) 1 0))) ≡ 1
once Pending = refl
once Delivered = refl
once Noted = refl
once Bounced = refl
once Dropped = refl

pub all_counted : (fates : List RecipientFate) → count_of Pending fates + (count_of Delivered fates + (count_of Noted fates + (count_of Bounced fates + count_of Dropped fates))) ≡ length fates
all_counted [] = refl
all_counted (x ∷ xs) =
    let rest = all_counted xs in
    let pending = next (is_fate Pending) x xs in
    let delivered = next (is_fate Delivered) x xs in
    let noted = next (is_fate Noted) x xs in
    let bounced = next (is_fate Bounced) x xs in
    let dropped = next (is_fate Dropped) x xs in
    let here = once x in
    omega (arith, rest, pending, delivered, noted, bounced, dropped, here)

-- each has a word of its own
same_word : (fate other : RecipientFate) → is_fate fate other ≡ bytes_eq (fate_word fate) (fate_word other)
same_word Pending Pending = refl
same_word Pending Delivered = refl
same_word Pending Noted = refl
same_word Pending Bounced = refl
same_word Pending Dropped = refl
same_word Delivered Pending = refl
same_word Delivered Delivered = refl
same_word Delivered Noted = refl
same_word Delivered Bounced = refl
same_word Delivered Dropped = refl
same_word Noted Pending = refl
same_word Noted Delivered = refl
same_word Noted Noted = refl
same_word Noted Bounced = refl
same_word Noted Dropped = refl
same_word Bounced Pending = refl
same_word Bounced Delivered = refl
same_word Bounced Noted = refl
same_word Bounced Bounced = refl
same_word Bounced Dropped = refl
same_word Dropped Pending = refl
same_word Dropped Delivered = refl
same_word Dropped Noted = refl
same_word Dropped Bounced = refl
same_word Dropped Dropped = refl

pub words_counted : (fate : RecipientFate) (fates : List RecipientFate) → count_of fate fates ≡ count_by (bytes_eq (fate_word fate)) (map fate_word fates)
words_counted fate [] = refl
words_counted fate (x ∷ xs) =
    next (is_fate fate) x xs
    ∙ ap₂ (λ (b : Bool) (n : ℕ). cond b 1 0 + n) (same_word fate x) (words_counted fate xs)
    ∙ sym (next (bytes_eq (fate_word fate)) (fate_word x) (map fate_word xs))

-- a number that is put is this one
pub with_same : (old new word : List ℕ) (n m : ℕ) → new ≡ old ++ with_number word n → n ≡ m → new ≡ old ++ with_number word m
with_same old new word n m put same = put ∙ ap (λ k. old ++ with_number word k) same

-- seven texts and a newline, one after the other
seven : (old a r p d n b x : List ℕ) → (((((((old ++ a) ++ r) ++ p) ++ d) ++ n) ++ b) ++ x) ++ 10 ∷ [] ≡ old ++ (a ++ (r ++ (p ++ (d ++ (n ++ (b ++ (x ++ 10 ∷ [])))))))
seven old a r p d n b x = simp append_assoc

-- the pieces of the line
pub line_put : (old one two three four five six all end : List ℕ) (accepted : ℕ) (fates : List RecipientFate)
    → one ≡ old ++ with_number (codes "accepted") accepted
    → two ≡ one ++ with_number (codes " recipients") (length fates)
    → three ≡ two ++ with_number (codes " pending") (count_of Pending fates)
    → four ≡ three ++ with_number (codes " delivered") (count_of Delivered fates)
    → five ≡ four ++ with_number (codes " noted") (count_of Noted fates)
    → six ≡ five ++ with_number (codes " bounced") (count_of Bounced fates)
    → all ≡ six ++ with_number (codes " dropped") (count_of Dropped fates)
    → end ≡ all ++ 10 ∷ [] → end ≡ old ++ sum_line accepted fates
line_put old one two three four five six all end accepted fates put-a put-r put-p put-d put-n put-b put-x put-end =
    let a = with_number (codes "accepted") accepted in
    let r = with_number (codes " recipients") (length fates) in
    let p = with_number (codes " pending") (count_of Pending fates) in
    let d = with_number (codes " delivered") (count_of Delivered fates) in
    let n = with_number (codes " noted") (count_of Noted fates) in
    let b = with_number (codes " bounced") (count_of Bounced fates) in
    let x = with_number (codes " dropped") (count_of Dropped fates) in
    put-end
    ∙ ap (λ (t : List ℕ). t ++ 10 ∷ []) (put-x
    ∙ ap (λ (t : List ℕ). t ++ x) (put-b
    ∙ ap (λ (t : List ℕ). t ++ b) (put-n
    ∙ ap (λ (t : List ℕ). t ++ n) (put-d
    ∙ ap (λ (t : List ℕ). t ++ d) (put-p
    ∙ ap (λ (t : List ℕ). t ++ p) (put-r
    ∙ ap (λ (t : List ℕ). t ++ r) put-a))))))
    ∙ seven old a r p d n b x
