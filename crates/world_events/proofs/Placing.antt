-- Where each actor stands, by who started.
use Rattle.std.proofs.Common.{◌≡◌, ◌⊎◌, inl, inr, ℕ, ◌+◌, ◌<◌, ◌≤◌, List, [], ◌∷◌, ◌++◌, Bool, true, false, ◌||◌, Option, Some, None, refl, sym, ap, ◌∙◌, arith, bytes_eq}
use Rattle.std.specs.Prelude.{if◌then◌else◌, option_map, nat_lt}
use Rattle.std.specs.List.{list_any}
use Rattle.std.proofs.Math.Bool.{or-false, or-true}
use Rattle.std.proofs.lemmas.Bool.{ltb-true, ltb-false}
use Rattle.std.proofs.lemmas.List.Folds.{list_any-append}
use Rattle.actor_names.specs.MailNames.{members}
use Rattle.world_events.specs.declared.starts.Starts.{Starts}
use Rattle.world_events.specs.Order.{others_in, number_from, crew_in, place_in, AreStarts}
use Rattle.world_events.specs.Places.{place_by, among_all}
use Rattle.world_events.proofs.AmongAll.{place_of_mail}
use Rattle.world_pipes.specs.Pipework.{is_member}
use Rattle.world_pipes.specs.Wired.{seat}
use Rattle.world_pipes.proofs.Members.{same_text}

-- a number is below their count
low_step : (s t : Bool) (n k o : ℕ) (x y : Option ℕ) → (x ≡ Some k → k < n + o) → (y ≡ Some k → k < n + 1 + o)
    → (if s then x else (if t then Some n else y)) ≡ Some k → k < n + (if s then o else 1 + o)
low_step true t n k o x y first second is = first is
low_step false true n k o x y first second is = let same : n ≡ k = cc in omega (arith, same)
low_step false false n k o x y first second is = let low = second is in omega (arith, low)

pub number_low : (names : List (List ℕ)) (n k : ℕ) (a : List ℕ) → number_from n names a ≡ Some k → k < n + others_in names
number_low [] n k a is = absurd (cc)
number_low (b ∷ later) n k a is =
    low_step (is_member b) (bytes_eq a b) n k (others_in later) (number_from n later a) (number_from (n + 1) later a) (number_low later n k a) (number_low later (n + 1) k a) is

-- one more that is no member

last_other : (s t : Bool) (n : ℕ) → t ≡ false → (if s then None else (if t then Some n else None)) ≡ None
last_other true t n apart = refl
last_other false t n apart = ap (λ (t : Bool). if t then Some n else None) apart

pub number_other : (names : List (List ℕ)) (n : ℕ) (a b : List ℕ) → bytes_eq b a ≡ false → number_from n (names ++ a ∷ []) b ≡ number_from n names b
number_other [] n a b apart = last_other (is_member a) (bytes_eq b a) n apart
number_other (c ∷ later) n a b apart =
    ap (λ (x : Option ℕ). if is_member c then x else (if bytes_eq b c then Some n else number_from (n + 1) (later ++ a ∷ []) b)) (number_other later n a b apart)
    ∙ ap (λ (y : Option ℕ). if is_member c then number_from n later b else (if bytes_eq b c then Some n else y)) (number_other later (n + 1) a b apart)

new_step : (s t : Bool) (n o : ℕ) (x y v w : Option ℕ) → (x ≡ None → v ≡ Some (n + o)) → (y ≡ None → w ≡ Some (n + 1 + o))
    → (if s then x else (if t then Some n else y)) ≡ None → (if s then v else (if t then Some n else w)) ≡ Some (n + (if s then o else 1 + o))
new_step true t n o x y v w first second is = first is
new_step false true n o x y v w first second is = absurd (cc)
new_step false false n o x y v w first second is = let e : n + 1 + o ≡ n + (1 + o) = omega arith in second is ∙ ap Some e

pub number_new : (names : List (List ℕ)) (n : ℕ) (a : List ℕ) → is_member a ≡ false → number_from n names a ≡ None → number_from n (names ++ a ∷ []) a ≡ Some (n + others_in names)
number_new [] n a other none =
    let e : n ≡ n + 0 = omega arith in
    ap (λ (s : Bool). if s then None else (if bytes_eq a a then Some n else None)) other ∙ ap (λ (t : Bool). if t then Some n else None) (same_text a) ∙ ap Some e
number_new (c ∷ later) n a other none =
    new_step (is_member c) (bytes_eq a c) n (others_in later) (number_from n later a) (number_from (n + 1) later a) (number_from n (later ++ a ∷ []) a) (number_from (n + 1) (later ++ a ∷ []) a)
    (number_new later n a other) (number_new later (n + 1) a other) none

push_step : (s : Bool) (o p : ℕ) → p ≡ o + 1 → (if s then p else 1 + p) ≡ (if s then o else 1 + o) + 1
push_step true o p e = e
push_step false o p e = omega (arith, e)

pub others_push : (names : List (List ℕ)) (a : List ℕ) → is_member a ≡ false → others_in (names ++ a ∷ []) ≡ others_in names + 1
others_push [] a other = ap (λ (s : Bool). if s then 0 else 1) other
others_push (c ∷ later) a other = push_step (is_member c) (others_in later) (others_in (later ++ a ∷ [])) (others_push later a other)

pub crew_push : (names : List (List ℕ)) (a : List ℕ) → is_member a ≡ false → crew_in (names ++ a ∷ []) ≡ crew_in names
crew_push names a other =
    ap (λ (t : Bool). if t then 4 else 0)
    (list_any-append is_member names (a ∷ []) ∙ ap (λ (t : Bool). list_any is_member names || (t || false)) other ∙ or-false (list_any is_member names))

-- the members

pub number_members : (names : List (List ℕ)) (n : ℕ) (a : List ℕ) → number_from n (names ++ members) a ≡ number_from n names a
number_members [] n a = refl
number_members (c ∷ later) n a =
    ap (λ (x : Option ℕ). if is_member c then x else (if bytes_eq a c then Some n else number_from (n + 1) (later ++ members) a)) (number_members later n a)
    ∙ ap (λ (y : Option ℕ). if is_member c then number_from n later a else (if bytes_eq a c then Some n else y)) (number_members later (n + 1) a)

pub others_members : (names : List (List ℕ)) → others_in (names ++ members) ≡ others_in names
others_members [] = refl
others_members (c ∷ later) = ap (λ (o : ℕ). if is_member c then o else 1 + o) (others_members later)

pub crew_members : (names : List (List ℕ)) → crew_in (names ++ members) ≡ 4
crew_members names = ap (λ (t : Bool). if t then 4 else 0) (list_any-append is_member names members ∙ or-true (list_any is_member names))

-- The places of all

none_mapped : (crew : ℕ) (o : Option ℕ) → option_map (λ i. crew + i) o ≡ None → o ≡ None
none_mapped crew None is = refl
none_mapped crew (Some i) is = absurd (cc)

-- who stands nowhere has no number
pub no_number : (starts : Starts) (crew : ℕ) (places : List ℕ → Option ℕ) (names : List (List ℕ)) (a : List ℕ) → AreStarts starts crew places names → seat a ≡ None → among_all crew places a ≡ None
    → number_from 0 names a ≡ None
no_number starts crew places names a are other new = sym (are.numbered a other) ∙ none_mapped crew (places a) (sym (place_of_mail crew places a other) ∙ new)

-- each stands where the starts tell
pub stands_in : (starts : Starts) (crew : ℕ) (places : List ℕ → Option ℕ) (names : List (List ℕ)) (a : List ℕ) → AreStarts starts crew places names → among_all crew places a ≡ place_in names a
stands_in starts crew places names a are = ap (λ (n : ℕ). place_by n (seat a) (places a)) are.begun ∙ by_seat (seat a) refl where
  by_seat : (o : Option ℕ) → seat a ≡ o → place_by (crew_in names) o (places a) ≡ place_by (crew_in names) o (number_from 0 names a)
  by_seat None none = ap (option_map (λ i. crew_in names + i)) (are.numbered a none)
  by_seat (Some i) is = refl

pub low_or_high : (n m : ℕ) → (n < m) ⊎ (m ≤ n)
low_or_high n m = by_test (nat_lt n m) refl where
  by_test : (t : Bool) → nat_lt n m ≡ t → (n < m) ⊎ (m ≤ n)
  by_test true e = inl (ltb-true n m e)
  by_test false e = inr (ltb-false n m e)
