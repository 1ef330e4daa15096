-- Notes rest on whole lines that a bounce file begins with.
use Rattle.std.proofs.Common.{◌≡◌, ◌⊎◌, inl, inr, ℕ, zero, suc, ◌+◌, ◌<◌, ◌≤◌, List, [], ◌∷◌, ◌++◌, length, take, drop, Some, refl, sym, ap, ◌∙◌, subst, ⊎_elim, arith, slice_get, append_assoc, take-append-drop}
use Rattle.std.specs.List.{enumerate_from}
use Rattle.std.proofs.lemmas.List.{length-take, take-append-le}
use Rattle.std.proofs.Math.Seq.{take-length}
use Rattle.call_fs.specs.Apply.{empty_file, grown, grown_part, lying, synced, written}
use Rattle.call_fs.specs.Disk.{Among, File}
use Rattle.call_fs.specs.Survival.{HadAt, Survives, settled}
use Rattle.bounce_record.specs.Notes.{count, note_text, parting, plain_note, softened, with_note}
use Rattle.bounce_record.specs.Resting.{BeginsWith, IsWhole, NotesRest}
use Rattle.bounce_record.specs.Resting.IsWhole.{Bare, Ends}
use Rattle.bounce_record.proofs.Counting.{count_stays}

-- Lists

long_enough : (fixed xs : List ℕ) → take (length fixed) xs ≡ fixed → length fixed ≤ length xs
long_enough fixed xs e =
    let size = length-take (length fixed) xs in
    let same : length (take (length fixed) xs) ≡ length fixed = ap (λ (t : List ℕ). length t) e in
    omega (arith, size, same)

one_is : (x y : ℕ) → Some x ≡ Some y → x ≡ y
one_is x y e = cc

same_front : (n : ℕ) (xs ys : List ℕ) → n ≤ length xs → n ≤ length ys → ((k : ℕ) → k < n → slice_get xs k ≡ slice_get ys k) → take n xs ≡ take n ys
same_front zero xs ys p q h = refl
same_front (suc n) [] ys p q h = absurd (omega arith)
same_front (suc n) (x ∷ xs) [] p q h = absurd (omega arith)
same_front (suc n) (x ∷ xs) (y ∷ ys) p q h =
    let head : x ≡ y = one_is x y (h 0 (omega arith)) in
    let rest : take n xs ≡ take n ys = same_front n xs ys (omega arith) (omega arith) (λ k lt. h (suc k) (omega arith)) in
    ap (λ (z : ℕ). z ∷ take n xs) head ∙ ap (λ (t : List ℕ). y ∷ t) rest

among_append : (x : ℕ × ℕ) (xs ys : List (ℕ × ℕ)) → Among x (xs ++ ys) → Among x xs ⊎ Among x ys
among_append x [] ys h = inr h
among_append x (y ∷ xs) ys h = ⊎_elim
    (λ (e : x ≡ y). inl (inl e))
    (λ (w : Among x (xs ++ ys)). ⊎_elim (λ (v : Among x xs). inl (inr v)) (λ (v : Among x ys). inr v) (among_append x xs ys w))
    h

-- what is written from a place on gives no earlier place a value
from_there : (at place value : ℕ) (bytes : List ℕ) → Among (place, value) (enumerate_from at bytes) → at ≤ place
from_there at place value [] h = absurd h
from_there at place value (b ∷ bytes) h = ⊎_elim
    (λ (e : (place, value) ≡ (at, b)). let same : place ≡ at = ap (λ (z : ℕ × ℕ). z.0) e in omega (arith, same))
    (λ (w : Among (place, value) (enumerate_from (at + 1) bytes)). let le = from_there (at + 1) place value bytes w in omega (arith, le))
    h

-- Files

pub created : (now : ℕ) → BeginsWith [] (empty_file now)
created now = record { present = refl; kept = refl; since = λ place value h. absurd h; no_shorter = omega arith }

pub grows : (fixed more : List ℕ) (now : ℕ) (f : File) → BeginsWith fixed f → BeginsWith fixed (grown now more f)
grows fixed more now f h =
    let long : length fixed ≤ length f.bytes = long_enough fixed f.bytes h.present in record {
      present = take-append-le (length fixed) f.bytes more long ∙ h.present;
      kept = h.kept;
      since = λ place value among. ⊎_elim
          (λ (w : Among (place, value) f.given). h.since place value w)
          (λ (w : Among (place, value) (written (length f.kept) (length f.bytes) more)).
          let le : length f.bytes ≤ place = from_there (length f.bytes) place value (lying (length f.kept) (length f.bytes) more) w in omega (arith, le, long))
          (among_append (place, value) f.given (written (length f.kept) (length f.bytes) more) among);
      no_shorter = h.no_shorter;
    }

pub grows_in_part : (fixed more : List ℕ) (now wrote : ℕ) (f : File) → BeginsWith fixed f → BeginsWith fixed (grown_part now more wrote f)
grows_in_part fixed more now zero f h = h
grows_in_part fixed more now (suc k) f h = grows fixed (take (suc k) more) now f h

pub syncs : (f : File) → BeginsWith f.bytes (synced f)
syncs f = record { present = take-length f.bytes; kept = take-length f.bytes; since = λ place value h. absurd h; no_shorter = omega arith }

pub survives : (fixed bytes : List ℕ) (f : File) → BeginsWith fixed f → Survives f bytes → BeginsWith fixed (settled bytes f)
survives fixed bytes f h s = record { present = here; kept = here; since = λ place value w. absurd w; no_shorter = long } where
  long : length fixed ≤ length bytes
  long = let a = h.no_shorter in let b = s.no_shorter in omega (arith, a, b)

  kept_long : length fixed ≤ length f.kept
  kept_long = long_enough fixed f.kept h.kept

  had : (k : ℕ) → k < length fixed → HadAt f k (slice_get bytes k) → slice_get bytes k ≡ slice_get f.kept k
  had k lt w = ⊎_elim
      (λ (e : slice_get bytes k ≡ slice_get f.kept k). e)
      (λ given. let le : length fixed ≤ k = h.since k given.0 given.1 in absurd (omega (arith, le, lt)))
      w

  here : take (length fixed) bytes ≡ fixed
  here = same_front (length fixed) bytes f.kept long kept_long (λ k lt. had k lt (s.below k (omega (arith, lt, kept_long)) (omega (arith, lt, long)))) ∙ h.kept

-- Whole lines

pub whole : (file address report : List ℕ) → IsWhole (with_note file address report)
unfolding note_text
whole file address report =
    let text : List ℕ = softened (plain_note address report) in
    Ends (file ++ (parting file ++ text))
    (sym (append_assoc file (parting file ++ text) (10 ∷ []) ∙ ap (λ (t : List ℕ). file ++ t) (append_assoc (parting file) text (10 ∷ []))))

none_named : (bytes r : List ℕ) → count [] r ≤ count bytes r
unfolding count
none_named bytes r = omega arith

more_named : (fixed rest r : List ℕ) → IsWhole fixed → count fixed r ≤ count (fixed ++ rest) r
more_named fixed rest r (Bare e) = subst (λ (t : List ℕ). count t r ≤ count (t ++ rest) r) (sym e) (none_named rest r)
more_named fixed rest r (Ends lines e) = subst (λ (t : List ℕ). count t r ≤ count (t ++ rest) r) (sym e)
    (subst (λ (t : List ℕ). count (lines ++ 10 ∷ []) r ≤ count t r) (sym (append_assoc lines (10 ∷ []) rest)) (count_stays lines rest r))

pub named_in : (fixed bytes r : List ℕ) → IsWhole fixed → take (length fixed) bytes ≡ fixed → count fixed r ≤ count bytes r
named_in fixed bytes r w e =
    let parts : fixed ++ drop (length fixed) bytes ≡ bytes = ap (λ (t : List ℕ). t ++ drop (length fixed) bytes) (sym e) ∙ take-append-drop (length fixed) bytes in
    subst (λ (t : List ℕ). count fixed r ≤ count t r) parts (more_named fixed (drop (length fixed) bytes) r w)

pub notes_rest : NotesRest
notes_rest = record {
  created = created;
  grows = grows;
  grows_in_part = grows_in_part;
  syncs = syncs;
  survives = survives;
  whole = whole;
  named = λ fixed r f w h. (named_in fixed f.bytes r w h.present, named_in fixed f.kept r w h.kept);
}
