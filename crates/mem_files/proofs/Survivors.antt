-- What a file reads as, and what of it is synced, stay among what a machine stop may leave.
use Rattle.std.proofs.Common.{◌≡◌, ◌⊎◌, ⊎_elim, inl, inr, ℕ, ◌+◌, ◌-◌, ◌^◌, ◌<◌, ◌≤◌, ◌&&◌, ◌||◌, min, max, Bool, true, false, List, [], ◌++◌, length, take, drop, get_or, nat_eq, refl, sym, ap, ◌∙◌, arith}
use Rattle.std.specs.List.{list_any, enumerate_from}
use Rattle.std.proofs.Math.Bool.{or-true}
use Rattle.std.proofs.lemmas.Bool.{cases_lt}
use Rattle.std.proofs.lemmas.Bool.Decides.{Decides-eqb}
use Rattle.std.proofs.lemmas.List.{length-take, length-drop, length-append, get_or-take, get_or-drop, get_or_append_left, get_or-append_right}
use Rattle.std.proofs.lemmas.List.Folds.{list_any-append, list_any_at}
use Rattle.std.proofs.lemmas.List.FromFn.{length-enumerate_from, get_or-enumerate_from}
use Rattle.call_fs.specs.Disk.{File}
use Rattle.call_fs.specs.Survival.{settled}
use Rattle.call_fs.specs.Apply.{empty_file, lying, written, put_over, grown, overwritten, cut, synced}
use Rattle.std.specs.Prelude.{IsTrue, slice_index}
use Rattle.mem_files.specs.MemFile.{had, IsSurvivor}

-- the same, however long the file is
pub record Lasts (f : File) : Type 0 where
  pub least_kept : f.least ≤ length f.kept
  pub greatest_kept : length f.kept ≤ f.greatest
  pub least_read : f.least ≤ length f.bytes
  pub greatest_read : length f.bytes ≤ f.greatest
  pub read : (place : ℕ) → place < length f.kept → place < length f.bytes → IsTrue (had f place (slice_index f.bytes place))

pub lasts : (f : File) → IsSurvivor f → Lasts f
lasts f is = record { least_kept = is.least_kept; greatest_kept = is.greatest_kept; least_read = is.least_read; greatest_read = is.greatest_read; read = is.read }

survivor : (f : File) → Lasts f → f.greatest < 2 ^ 63 → IsSurvivor f
survivor f is small = record { least_kept = is.least_kept; greatest_kept = is.greatest_kept; least_read = is.least_read; greatest_read = is.greatest_read; small = small; read = is.read }

same : (n : ℕ) → nat_eq n n ≡ true
same n = (Decides-eqb n n).1 refl

-- values that were given stay given
given_more : (first : Bool) (p : ℕ × ℕ → Bool) (given more : List (ℕ × ℕ)) → (first || list_any p given) ≡ true → (first || list_any p (given ++ more)) ≡ true
given_more true p given more was = refl
given_more false p given more was = list_any-append p given more ∙ ap (λ b. b || list_any p more) was

given_last : (first : Bool) (p : ℕ × ℕ → Bool) (given more : List (ℕ × ℕ)) → list_any p more ≡ true → (first || list_any p (given ++ more)) ≡ true
given_last first p given more is = ap (λ b. first || b) (list_any-append p given more ∙ ap (λ b. list_any p given || b) is ∙ or-true (list_any p given)) ∙ or-true first

-- a place that bytes are put at is given its byte
abbrev is_given : ℕ → ℕ → ℕ × ℕ → Bool
is_given place value g = nat_eq g.0 place && nat_eq g.1 value

gives : (at : ℕ) (xs : List ℕ) (place : ℕ) → at ≤ place → place < at + length xs → list_any (is_given place (get_or xs (place - at) 0)) (enumerate_from at xs) ≡ true
gives at xs place low high =
    let i = place - at in
    let within : i < length xs = omega arith in
    let value = get_or xs i 0 in
    let sum : at + i ≡ place = omega arith in
    list_any_at (is_given place value) (enumerate_from at xs) i (0, 0) (rw (length-enumerate_from at xs) within)
    (ap (is_given place value) (get_or-enumerate_from at xs i (0, 0) within)
    ∙ ap (λ b. b && nat_eq value value) (ap (λ n. nat_eq n place) sum ∙ same place) ∙ same value)

-- the same of the part that lies below the synced length
gives_below : (below at : ℕ) (xs : List ℕ) (place : ℕ) → at ≤ place → place < at + length xs → place < below
    → list_any (is_given place (get_or xs (place - at) 0)) (written below at xs) ≡ true
gives_below below at xs place low high under =
    let part = lying below at xs in
    let size : length part ≡ min (below - at) (length xs) = length-take (below - at) xs in
    ap (λ v. list_any (is_given place v) (enumerate_from at part)) (sym (get_or-take (below - at) xs (place - at) 0 (omega arith)))
    ∙ gives at part place low (omega (arith, size))

-- ---- bytes over others

lying_within : (len at : ℕ) (xs : List ℕ) → at + length (lying len at xs) ≤ max len at
lying_within len at xs = let size = length-take (len - at) xs in omega (arith, size)

length-put_over : (at : ℕ) (xs old : List ℕ) → length xs ≤ length old - at → length (put_over at xs old) ≡ length old
length-put_over at xs old fits =
    let a = length-append (take at old ++ xs) (drop (at + length xs) old) in
    let b = length-append (take at old) xs in
    let c = length-take at old in
    let d = length-drop (at + length xs) old in
    omega (arith, a, b, c, d)

-- each place reads as before, or has its new byte
put_over_at : (at : ℕ) (xs old : List ℕ) → length xs ≤ length old - at → (place : ℕ) → place < length old
    → (get_or (put_over at xs old) place 0 ≡ get_or old place 0) ⊎ ((at ≤ place) × (place < at + length xs) × (get_or (put_over at xs old) place 0 ≡ get_or xs (place - at) 0))
put_over_at at xs old fits place within =
    let front : length (take at old) ≡ min at (length old) = length-take at old in
    let both : length (take at old ++ xs) ≡ length (take at old) + length xs = length-append (take at old) xs in
    let rest = drop (at + length xs) old in
    ⊎_elim
    (λ low. inl (get_or_append_left (take at old ++ xs) rest 0 place (omega (arith, front, both)) ∙ get_or_append_left (take at old) xs 0 place (omega (arith, front)) ∙ get_or-take at old place 0 low))
    (λ high. ⊎_elim
    (λ inside. inr (high, inside, get_or_append_left (take at old ++ xs) rest 0 place (omega (arith, front, both)) ∙ get_or-append_right (take at old) xs at place 0 (omega (arith, front)) high))
    (λ behind.
    let sum : at + length xs + (place - (at + length xs)) ≡ place = omega arith in
    inl (get_or-append_right (take at old ++ xs) rest (at + length xs) place 0 (omega (arith, front, both)) behind
    ∙ get_or-drop (at + length xs) old (place - (at + length xs)) 0 ∙ ap (λ n. get_or old n 0) sum))
    (cases_lt place (at + length xs)))
    (cases_lt place at)

-- ---- each change of a file

pub survivor-empty : (moment : ℕ) → IsSurvivor (empty_file moment)
survivor-empty moment = record {
  least_kept = omega arith;
  greatest_kept = omega arith;
  least_read = omega arith;
  greatest_read = omega arith;
  small = omega arith;
  read = λ place below within. absurd (omega arith);
}

pub lasts-settled : (bytes : List ℕ) (f : File) → Lasts (settled bytes f)
lasts-settled bytes f = record {
  least_kept = omega arith;
  greatest_kept = omega arith;
  least_read = omega arith;
  greatest_read = omega arith;
  read = λ place below within. ap (λ b. b || list_any (is_given place (get_or bytes place 0)) []) (same (get_or bytes place 0));
}

pub survivor-settled : (bytes : List ℕ) (f : File) → length bytes < 2 ^ 63 → IsSurvivor (settled bytes f)
survivor-settled bytes f small = survivor (settled bytes f) (lasts-settled bytes f) small

pub lasts-grown : (now : ℕ) (more : List ℕ) (f : File) → Lasts f → Lasts (grown now more f)
lasts-grown now more f was =
    let size = length-append f.bytes more in
    record {
      least_kept = was.least_kept;
      greatest_kept = omega (arith, was.greatest_kept);
      least_read = omega (arith, was.least_read, size);
      greatest_read = omega arith;
      read = λ place below within.
          let first = nat_eq (get_or f.kept place 0) in
          let given = written (length f.kept) (length f.bytes) more in
          ⊎_elim
          (λ old. ap (λ v. first v || list_any (is_given place v) (f.given ++ given)) (get_or_append_left f.bytes more 0 place old)
          ∙ given_more (first (get_or f.bytes place 0)) (is_given place (get_or f.bytes place 0)) f.given given (was.read place below old))
          (λ new. ap (λ v. first v || list_any (is_given place v) (f.given ++ given)) (get_or-append_right f.bytes more (length f.bytes) place 0 refl new)
          ∙ given_last (first (get_or more (place - length f.bytes) 0)) (is_given place (get_or more (place - length f.bytes) 0)) f.given given
          (gives_below (length f.kept) (length f.bytes) more place new (omega (arith, size, within)) below))
          (cases_lt place (length f.bytes));
    }

pub survivor-grown : (now : ℕ) (more : List ℕ) (f : File) → IsSurvivor f → length (f.bytes ++ more) < 2 ^ 63 → IsSurvivor (grown now more f)
survivor-grown now more f was small = survivor (grown now more f) (lasts-grown now more f (lasts f was)) (omega (arith, small, was.small))

pub lasts-overwritten : (now at : ℕ) (bytes : List ℕ) (f : File) → Lasts f → Lasts (overwritten now at bytes f)
lasts-overwritten now at bytes f was =
    let xs = lying (length f.bytes) at bytes in
    let part : length xs ≡ min (length f.bytes - at) (length bytes) = length-take (length f.bytes - at) bytes in
    let fits : length xs ≤ length f.bytes - at = omega (arith, part) in
    let size = length-put_over at xs f.bytes fits in
    record {
      least_kept = was.least_kept;
      greatest_kept = was.greatest_kept;
      least_read = omega (arith, was.least_read, size);
      greatest_read = omega (arith, was.greatest_read, size);
      read = λ place below within.
          let first = nat_eq (get_or f.kept place 0) in
          let given = written (length f.kept) at xs in
          let old : place < length f.bytes = omega (arith, size, within) in
          ⊎_elim
          (λ is. ap (λ v. first v || list_any (is_given place v) (f.given ++ given)) is
          ∙ given_more (first (get_or f.bytes place 0)) (is_given place (get_or f.bytes place 0)) f.given given (was.read place below old))
          (λ new. ap (λ v. first v || list_any (is_given place v) (f.given ++ given)) new.2
          ∙ given_last (first (get_or xs (place - at) 0)) (is_given place (get_or xs (place - at) 0)) f.given given
          (gives_below (length f.kept) at xs place new.0 new.1 below))
          (put_over_at at xs f.bytes fits place old);
    }

pub survivor-overwritten : (now at : ℕ) (bytes : List ℕ) (f : File) → IsSurvivor f → IsSurvivor (overwritten now at bytes f)
survivor-overwritten now at bytes f was = survivor (overwritten now at bytes f) (lasts-overwritten now at bytes f (lasts f was)) was.small

pub lasts-cut : (len : ℕ) (f : File) → Lasts f → Lasts (cut len f)
lasts-cut len f was =
    let size : length (take len f.bytes) ≡ min len (length f.bytes) = length-take len f.bytes in
    record {
      least_kept = omega (arith, was.least_kept);
      greatest_kept = was.greatest_kept;
      least_read = omega arith;
      greatest_read = omega (arith, was.greatest_read, size);
      read = λ place below within.
          ap (λ v. nat_eq (get_or f.kept place 0) v || list_any (is_given place v) f.given) (get_or-take len f.bytes place 0 (omega (arith, size, within)))
          ∙ was.read place below (omega (arith, size, within));
    }

pub survivor-cut : (len : ℕ) (f : File) → IsSurvivor f → IsSurvivor (cut len f)
survivor-cut len f was = survivor (cut len f) (lasts-cut len f (lasts f was)) was.small

pub survivor-synced : (f : File) → IsSurvivor f → IsSurvivor (synced f)
survivor-synced f was = survivor-settled f.bytes f (omega (arith, was.greatest_read, was.small))
