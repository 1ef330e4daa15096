-- Lists, slots and reports.
use Rattle.std.proofs.Common.{◌≡◌, ℕ, zero, suc, ◌<◌, List, [], ◌∷◌, ◌++◌, length, set, drop, replicate, position, cond, Bool, true, false, not, Option, Some, None, refl, sym, ap, ◌∙◌, arith, append_assoc, ⊎_elim}
use Rattle.std.specs.Prelude.{◌+◌, ◌||◌, map, nat_lt}
use Rattle.std.specs.List.{list_any, position_or_len}
use Rattle.std.proofs.lemmas.Bool.{cases_lt, lt-ltb}
use Rattle.std.proofs.lemmas.List.{get_or_past, get_or-set_same, get_or-set_other, get_or-replicate}
use Rattle.call_fs.specs.Maps.{put}
use Rattle.call_fs.proofs.Maps.{put_cases}
use Rattle.send_jobs.specs.declared.attempts.Attempt.{Attempt}
use Rattle.send_jobs.specs.Slots.{attempt_in}
use Rattle.std.specs.Option.{option_map}
use Rattle.spawn_protocol.specs.Report.{Reader, read_on, step}
use Rattle.spawn_protocol.specs.Report.Reader.{AtBegin}
use Rattle.send_core.specs.Past.{news}

-- Lists

pub map_drop : {A B : Type 0} (f : A → B) (xs : List A) (ys : List B) → map f xs ≡ ys → map f (drop 1 xs) ≡ drop 1 ys
map_drop f [] ys e = ap (λ t. drop 1 t) e
map_drop f (x ∷ xs) ys e = ap (λ t. drop 1 t) e

pub map_more : {A B : Type 0} (f : A → B) (xs : List A) (x : A) → map f (xs ++ x ∷ []) ≡ map f xs ++ f x ∷ []
map_more f [] x = refl
map_more f (y ∷ xs) x = ap (λ t. f y ∷ t) (map_more f xs x)

pub map_length : {A B : Type 0} (f : A → B) (xs : List A) → length (map f xs) ≡ length xs
map_length f [] = refl
map_length f (x ∷ xs) = ap suc (map_length f xs)

drop_front : {A : Type 0} (xs ys : List A) → drop (length xs) (xs ++ ys) ≡ ys
drop_front [] ys = refl
drop_front (x ∷ xs) ys = drop_front xs ys

before_end : {X : Type 0} (p : X → Bool) (xs : List X) → list_any p xs ≡ true → position_or_len p xs < length xs
before_end p [] e = absurd (cc)
before_end p (x ∷ xs) e = by (p x) e (before_end p xs) where
  by : (b : Bool) → (b || list_any p xs) ≡ true → (list_any p xs ≡ true → position_or_len p xs < length xs) → cond (not b) (1 + position_or_len p xs) 0 < length (x ∷ xs)
  by true e f = omega arith
  by false e f = let lt = f e in omega arith

pub none_passes : {X : Type 0} (p : X → Bool) (xs : List X) → position p xs ≡ None → list_any p xs ≡ true → ⊥
none_passes p xs e is =
    let inside : nat_lt (position_or_len p xs) (length xs) ≡ true = lt-ltb (position_or_len p xs) (length xs) (before_end p xs is) in
    let some : position p xs ≡ Some (position_or_len p xs) = ap (λ (b : Bool). cond b (Some (position_or_len p xs)) None) inside in
    absurd (cc (sym some ∙ e))

-- Reports

read_gives : (r : Reader) (xs ys : List ℕ) → (read_on r (xs ++ ys)).0 ≡ (read_on r xs).0 ++ (read_on (read_on r xs).1 ys).0
read_gives r [] ys = refl
read_gives r (b ∷ xs) ys =
    ap (λ t. (step r b).0 ++ t) (read_gives (step r b).1 xs ys)
    ∙ sym (append_assoc (step r b).0 (read_on (step r b).1 xs).0 (read_on (read_on (step r b).1 xs).1 ys).0)

-- a reader goes on
pub read_holds : (r : Reader) (xs ys : List ℕ) → (read_on r (xs ++ ys)).1 ≡ (read_on (read_on r xs).1 ys).1
read_holds r [] ys = refl
read_holds r (b ∷ xs) ys = read_holds (step r b).1 xs ys

-- the new reports are those that a reader gives that goes on
pub news_are : (before bytes : List ℕ) → news before bytes ≡ (read_on (read_on AtBegin before).1 bytes).0
news_are before bytes =
    ap (λ t. drop (length (read_on AtBegin before).0) t) (read_gives AtBegin before bytes)
    ∙ drop_front (read_on AtBegin before).0 (read_on (read_on AtBegin before).1 bytes).0

-- Slots

pub free_of : (count i : ℕ) → attempt_in (replicate count None) i ≡ None
free_of count i = ⊎_elim (λ lt. get_or-replicate count i None None lt) (λ ge. get_or_past (replicate count None) i None (omega (arith, length_of count))) (cases_lt i count)
  where
    length_of : (count : ℕ) → length (replicate {A = Option Attempt} count None) ≡ count
    length_of zero = refl
    length_of (suc count) = ap suc (length_of count)

pub in_range : (slots : List (Option Attempt)) (slot : ℕ) (a : Attempt) → attempt_in slots slot ≡ Some a → slot < length slots
in_range slots slot a there = ⊎_elim
    (λ lt. lt)
    (λ ge. let free : attempt_in slots slot ≡ None = get_or_past slots slot None ge in absurd (cc))
    (cases_lt slot (length slots))

pub slots_put : {T : Type 0} (f : Attempt → T) (slots : List (Option Attempt)) (flight : ℕ → Option T) (slot : ℕ) (x : Option Attempt) (t : Option T) → slot < length slots
    → option_map f x ≡ t → ((k : ℕ) → option_map f (attempt_in slots k) ≡ flight k) → (k : ℕ) → option_map f (attempt_in (set slots slot x) k) ≡ put flight slot t k
slots_put f slots flight slot x t lt e all k = ⊎_elim
    (λ it. ap (λ i. option_map f (attempt_in (set slots slot x) i)) it.0 ∙ ap (option_map f) (get_or-set_same slots slot x None lt) ∙ e ∙ sym it.1)
    (λ it. ap (option_map f) (get_or-set_other slots slot k x None it.0) ∙ all k ∙ sym it.1)
    (put_cases flight slot t k)
