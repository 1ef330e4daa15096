-- Lists of children, and the counts of their failures.
use Rattle.std.proofs.Common.{◌≡◌, ℕ, zero, suc, Bool, true, false, Option, ◌+◌, ◌<◌, ◌≤◌, List, [], ◌∷◌, ◌++◌, length, map, take, drop, get_or, set, refl, inl, inr, ⊎_elim, sym, ap, subst, ◌∙◌, arith}
use Rattle.std.specs.Prelude.{◌⊎◌, Some, slice_get, Contains}
use Rattle.std.specs.Option.{option_map}
use Rattle.std.proofs.lemmas.List.{drop-map, length-map, map-append, map-set, take-map}
use Rattle.std.proofs.lemmas.Option.{slice_get-map, slice_get_read}
use Rattle.mail_bytes.specs.Told.{Rose}
use Rattle.outside.specs.Forms.{channels}
use Rattle.outside.specs.Streams.{CountsFailures}
use Rattle.outside.proofs.Channels.{channels_more}
use Rattle.outside.specs.declared.sink.Gave.TheVariants as gave
use Rattle.child_input.specs.Feedings.{Feeding, after_feeding}
use Rattle.proc_runner.specs.Running.{GoesOn, JoinsFed, LetsGo, child}

-- what is known of an item, at its place
pub item_at : {A B : Type 0} (f : A → B) (xs : List A) (k : ℕ) (x : A) → k < length xs → x ≡ get_or xs k x → slice_get (map f xs) k ≡ Some (f x)
item_at f xs k x low is = slice_get-map f xs k ∙ ap (option_map f) (slice_get_read xs (length xs) k x refl low is)

some_number : (a b : ℕ) → ◌≡◌ {A = Option ℕ} (Some a) (Some b) → a ≡ b
some_number a b e = cc

less_or_not : (a b : ℕ) → (a < b) ⊎ (b ≤ a)
less_or_not zero zero = inr (omega arith)
less_or_not zero (suc b) = inl (omega arith)
less_or_not (suc a) zero = inr (omega arith)
less_or_not (suc a) (suc b) = ⊎_elim (λ (l : a < b). inl (omega (arith, l))) (λ (l : b ≤ a). inr (omega (arith, l))) (less_or_not a b)

-- it doesn't stand at one place more
pub not_there : {A : Type 0} (f : A → ℕ) (xs : List A) (n : ℕ) (x : A) (m : ℕ) → n < length xs → x ≡ get_or xs n x → ¬ (f x ≡ m)
    → ((k : ℕ) → k < n → ¬ (slice_get (map f xs) k ≡ Some m)) → (k : ℕ) → k < n + 1 → ¬ (slice_get (map f xs) k ≡ Some m)
not_there f xs n x m low is other before k h e = ⊎_elim (λ (l : k < n). before k l e)
    (λ (l : n ≤ k). let same : k ≡ n = omega (arith, h, l) in
    other (some_number (f x) m (sym (item_at f xs n x low is) ∙ subst (λ j. slice_get (map f xs) j ≡ Some m) same e)))
    (less_or_not k n)

-- a number that stands at no place isn't there
pub nowhere : {A : Type 0} (f : A → ℕ) (xs : List A) (n m : ℕ) → length xs ≤ n → ((k : ℕ) → k < n → ¬ (slice_get (map f xs) k ≡ Some m)) → ¬ (Contains (map f xs) m)
nowhere f xs n m all none h =
    let (k, low, is) = h in
    none k (omega (arith, low, all, length-map xs f)) (slice_get_read (map f xs) (length (map f xs)) k m refl low (sym is))

child_same : {P : Type 0} (a b : ℕ) (p q : P) (f : Feeding) → a ≡ b → p ≡ q → child a p f ≡ child b q f
child_same a b p q f e d = ap (λ n. child n p f) e ∙ ap (λ r. child b r f) d

-- one is changed in what it was fed
pub goes_on : {A P : Type 0} (f : A → ℕ × P × Feeding) (xs ys : List A) (k : ℕ) (x y : A) (chan : ℕ) (goes : Feeding → Feeding → Type 0) → k < length xs → x ≡ get_or xs k x
    → slice_get (map (λ a. (f a).0) xs) k ≡ Some chan → ys ≡ set xs k y → (f y).0 ≡ (f x).0 → (f y).1 ≡ (f x).1 → goes (f x).2 (f y).2 → GoesOn chan goes (map f xs) (map f ys)
goes_on f xs ys k x y chan goes low is at on number process so =
    let same : (f x).0 ≡ chan = some_number (f x).0 chan (sym (item_at (λ a. (f a).0) xs k x low is) ∙ at) in (
      k,
      (f x).1,
      (f x).2,
      (f y).2,
      subst (λ n. slice_get (map f xs) k ≡ Some (n, (f x).1, (f x).2)) same (item_at f xs k x low is),
      ap (map f) on ∙ (map-set f xs k y ∙ ap (set (map f xs) k) (child_same (f y).0 chan (f y).1 (f x).1 (f y).2 (number ∙ same) process)),
      so,
    )

-- one is let go
pub let_go : {A P : Type 0} (f : A → ℕ × P × Feeding) (xs ys : List A) (k : ℕ) (x : A) (chan : ℕ) (is_so : P → Type 0) → k < length xs → x ≡ get_or xs k x
    → slice_get (map (λ a. (f a).0) xs) k ≡ Some chan → ys ≡ take k xs ++ drop (k + 1) xs → is_so (f x).1 → LetsGo chan is_so (map f xs) (map f ys)
let_go f xs ys k x chan is_so low is at rest so =
    let same : (f x).0 ≡ chan = some_number (f x).0 chan (sym (item_at (λ a. (f a).0) xs k x low is) ∙ at) in (
      k,
      (f x).1,
      (f x).2,
      subst (λ n. slice_get (map f xs) k ≡ Some (n, (f x).1, (f x).2)) same (item_at f xs k x low is),
      ap (map f) rest ∙ map-append f (take k xs) (drop (k + 1) xs) ∙ ap (λ l. l ++ map f (drop (k + 1) xs)) (sym (take-map f k xs))
          ∙ ap (λ l. take k (map f xs) ++ l) (sym (drop-map f (k + 1) xs)),
      so,
    )

fst_map : {A P : Type 0} (f : A → ℕ × P × Feeding) (xs : List A) → map (λ (c : ℕ × P × Feeding). c.0) (map f xs) ≡ map (λ a. (f a).0) xs
fst_map f [] = refl
fst_map f (x ∷ xs) = ap (λ l. (f x).0 ∷ l) (fst_map f xs)

pub runs_none : {A P : Type 0} (f : A → ℕ × P × Feeding) (xs : List A) (m : ℕ) → ¬ (Contains (map (λ a. (f a).0) xs) m) → ¬ (Contains (map (λ (c : ℕ × P × Feeding). c.0) (map f xs)) m)
runs_none f xs m none h = none (subst (λ l. Contains l m) (fst_map f xs) h)

-- the next channel
pub follows : (n chan : ℕ) → chan ≡ n + 1 → (0 < chan) × (¬ (Contains (channels n) chan)) × (channels chan ≡ channels n ++ chan ∷ [])
follows n chan e = let more = channels_more n chan e in (more.0, more.1, subst (λ k. channels k ≡ channels n ++ chan ∷ []) (sym e) more.2)

-- a failure was counted
pub counts : (old new : ℕ) (F : Type 0) → F → old ≤ new → Rose old new → CountsFailures old new F
counts old new F so later rose = record { later = later; rose = λ f. rose; still = λ no. absurd (no so) }

-- a feeding was done, or failed
pub done : (r : Bool) (bytes : List ℕ) (before after : Feeding) → r ≡ true → after ≡ after_feeding r bytes before → (r ≡ true → before.is_open ≡ true) → JoinsFed bytes gave.Done before after
done r bytes before after so is may = (is ∙ ap (λ b. after_feeding b bytes before) so, may so)

pub failed : (r : Bool) (bytes : List ℕ) (before after : Feeding) → r ≡ false → after ≡ after_feeding r bytes before → JoinsFed bytes gave.Failed before after
failed r bytes before after so is = is ∙ ap (λ b. after_feeding b bytes before) so
