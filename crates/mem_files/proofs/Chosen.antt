-- Each choice at a machine stop leaves of a file only bytes that may survive.
use Rattle.std.proofs.Common.{◌≡◌, ⊎_elim, inl, inr, ℕ, zero, suc, ◌+◌, ◌-◌, ◌%◌, ◌<◌, ◌&&◌, ◌||◌, Bool, true, false, cond, List, [], ◌∷◌, length, map, filter, get_or, Option, Some, nat_eq, refl, sym, ap, subst, ◌∙◌, arith}
use Rattle.std.specs.List.{list_any}
use Rattle.std.proofs.Math.Nat.{mod-lt}
use Rattle.std.proofs.lemmas.Bool.{cases_lt}
use Rattle.std.proofs.lemmas.Bool.Decides.{Decides-eqb}
use Rattle.std.proofs.lemmas.List.{length-append, get_or_append_left, get_or-append_right}
use Rattle.std.proofs.lemmas.Option.{slice_get-get_or}
use Rattle.call_fs.specs.Disk.{File, Among}
use Rattle.call_fs.specs.Survival.{HadAt, Survives}
use Rattle.call_fs.specs.Choices.{drawn, given_at, after_kept, values_at, junk_byte, junk_bytes, junked, junk_contents}
use Rattle.mem_files.specs.MemFile.{had}
use Rattle.mem_files.proofs.Survivors.{Lasts}

-- ---- what a place had

both : (a b : Bool) → (a && b) ≡ true → (a ≡ true) × (b ≡ true)
both true b h = (refl, h)
both false b h = absurd cc

pair_is : (g : ℕ × ℕ) (place value : ℕ) → (nat_eq g.0 place && nat_eq g.1 value) ≡ true → (place, value) ≡ g
pair_is g place value h =
    let parts = both (nat_eq g.0 place) (nat_eq g.1 value) h in
    let at = (Decides-eqb g.0 place).0 parts.0 in
    let is = (Decides-eqb g.1 value).0 parts.1 in
    ap (λ n. (n, value)) (sym at) ∙ ap (λ n. (g.0, n)) (sym is)

given_among : (place value : ℕ) (given : List (ℕ × ℕ)) → list_any (λ g. nat_eq g.0 place && nat_eq g.1 value) given ≡ true → Among (place, value) given
given_among place value [] h = absurd cc
given_among place value (g ∷ given) h =
    elim (nat_eq g.0 place && nat_eq g.1 value) as (λ b. (nat_eq g.0 place && nat_eq g.1 value) ≡ b → (b || list_any (λ (x : ℕ × ℕ). nat_eq x.0 place && nat_eq x.1 value) given) ≡ true → Among (place, value) (g ∷ given)) [
      | true ↦ λ is t. inl (pair_is g place value is)
      | false ↦ λ is rest. inr (given_among place value given rest)
    ] refl h

had_at : (f : File) (place value : ℕ) → place < length f.kept → had f place value ≡ true → HadAt f place (Some value)
had_at f place value below h =
    elim (nat_eq (get_or f.kept place 0) value) as (λ b. nat_eq (get_or f.kept place 0) value ≡ b → (b || list_any (λ (g : ℕ × ℕ). nat_eq g.0 place && nat_eq g.1 value) f.given) ≡ true → HadAt f place (Some value)) [
      | true ↦ λ is t. inl (ap (λ n. Some n) (sym ((Decides-eqb (get_or f.kept place 0) value).0 is)) ∙ sym (slice_get-get_or f.kept place 0 below))
      | false ↦ λ is rest. inr (value, given_among place value f.given rest, refl)
    ] refl h

pub read_survives : (f : File) → Lasts f → Survives f f.bytes
read_survives f is = record {
  no_shorter = is.least_read;
  no_longer = is.greatest_read;
  below = λ k under within.
      subst (HadAt f k) (sym (slice_get-get_or f.bytes k 0 within)) (had_at f k (get_or f.bytes k 0) under (is.read k under within));
}

pub kept_survives : (f : File) → Lasts f → Survives f f.kept
kept_survives f is = record {
  no_shorter = is.least_kept;
  no_longer = is.greatest_kept;
  below = λ k under within. inl refl;
}

-- ---- what is drawn

read_among : (xs : List ℕ) (i : ℕ) → i < length xs → Among (get_or xs i 0) xs
read_among [] i within = absurd (omega arith)
read_among (x ∷ xs) zero within = inl refl
read_among (x ∷ xs) (suc i) within = inr (read_among xs i (omega arith))

byte_among : (v : ℕ) (vs : List ℕ) (x : ℕ) → Among (junk_byte (v ∷ vs) x).0 (v ∷ vs)
byte_among v [] x = inl refl
byte_among v (w ∷ more) x = read_among (v ∷ w ∷ more) (drawn x % length (v ∷ w ∷ more)) (mod-lt (drawn x) (omega arith))

map_among : (place value : ℕ) (given : List (ℕ × ℕ)) → Among value (map (λ g. g.1) (filter (λ g. nat_eq g.0 place) given)) → Among (place, value) given
map_among place value [] h = elim h [ ]
map_among place value (g ∷ given) h =
    elim (nat_eq g.0 place) as (λ b. nat_eq g.0 place ≡ b → Among value (map (λ (x : ℕ × ℕ). x.1) (cond b (g ∷ filter (λ (x : ℕ × ℕ). nat_eq x.0 place) given) (filter (λ (x : ℕ × ℕ). nat_eq x.0 place) given))) → Among (place, value) (g ∷ given)) [
      | true ↦ λ is s. ⊎_elim
          (λ (here : value ≡ g.1). inl (ap (λ n. (n, value)) (sym ((Decides-eqb g.0 place).0 is)) ∙ ap (λ n. (g.0, n)) here))
          (λ rest. inr (map_among place value given rest)) s
      | false ↦ λ is s. inr (map_among place value given s)
    ] refl h

drawn_had : (f : File) (place x : ℕ) → place < length f.kept → HadAt f place (Some (junk_byte (values_at f place) x).0)
drawn_had f place x below =
    let kept = get_or f.kept place 0 in
    let there = slice_get-get_or f.kept place 0 below in
    subst (λ (o : Option ℕ). HadAt f place (Some (junk_byte (after_kept o (given_at f place)) x).0)) (sym there)
    (⊎_elim
    (λ (here : (junk_byte (kept ∷ given_at f place) x).0 ≡ kept). inl (ap (λ n. Some n) here ∙ sym there))
    (λ rest. inr ((junk_byte (kept ∷ given_at f place) x).0, map_among place (junk_byte (kept ∷ given_at f place) x).0 f.given rest, refl))
    (byte_among kept (given_at f place) x))

length-junk_bytes : (f : File) (x count : ℕ) → length (junk_bytes f x count).0 ≡ count
length-junk_bytes f x zero = refl
length-junk_bytes f x (suc count) =
    let before = junk_bytes f x count in
    let size = length-append before.0 ((junk_byte (values_at f count) before.1).0 ∷ []) in
    omega (arith, size, length-junk_bytes f x count)

bytes_had : (f : File) (x count k : ℕ) → k < length f.kept → k < count → HadAt f k (Some (get_or (junk_bytes f x count).0 k 0))
bytes_had f x zero k below within = absurd (omega arith)
bytes_had f x (suc count) k below within =
    let before = junk_bytes f x count in
    let byte = (junk_byte (values_at f count) before.1).0 in
    let size = length-junk_bytes f x count in
    ⊎_elim
    (λ earlier. subst (λ n. HadAt f k (Some n)) (sym (get_or_append_left before.0 (byte ∷ []) 0 k (omega (arith, size)))) (bytes_had f x count k below earlier))
    (λ last.
    let here : k ≡ count = omega arith in
    let zero_is : k - count ≡ 0 = omega arith in
    subst (λ n. HadAt f k (Some n)) (sym (get_or-append_right before.0 (byte ∷ []) count k 0 size last ∙ ap (λ i. get_or (byte ∷ []) i 0) zero_is))
    (subst (λ n. HadAt f k (Some (junk_byte (values_at f n) before.1).0)) here (drawn_had f k before.1 below)))
    (cases_lt k count)

pub drawn_survives : (f : File) (x : ℕ) → Lasts f → Survives f (junked f x).0
drawn_survives f x is =
    let count = f.least + drawn x % (f.greatest - f.least + 1) in
    let spread = mod-lt (drawn x) {m = f.greatest - f.least + 1} (omega arith) in
    let size = length-junk_bytes f (drawn x) count in
    record {
      no_shorter = omega (arith, size);
      no_longer = omega (arith, size, spread, is.least_kept, is.greatest_kept);
      below = λ k under within.
          subst (HadAt f k) (sym (slice_get-get_or (junk_bytes f (drawn x) count).0 k 0 within))
          (bytes_had f (drawn x) count k under (omega (arith, size, within)));
    }

-- whichever numbers are drawn before it
pub junk_survives : (files : ℕ → File) (x : ℕ) (numbers : List ℕ) (n : ℕ) → Lasts (files n) → Survives (files n) (junk_contents files x numbers n)
junk_survives files x [] n is = read_survives (files n) is
junk_survives files x (m ∷ ms) n is =
    elim (nat_eq n m) as (λ b. nat_eq n m ≡ b → Survives (files n) (cond b (junked (files m) x).0 (junk_contents files (junked (files m) x).1 ms n))) [
      | true ↦ λ same. subst (λ k. Survives (files n) (junked (files k) x).0) ((Decides-eqb n m).0 same) (drawn_survives (files n) x is)
      | false ↦ λ other. junk_survives files (junked (files m) x).1 ms n is
    ] refl
