-- The records of a version of a channel file.
use Rattle.std.proofs.Common.{◌≡◌, ◌⊎◌, inl, inr, ℕ, zero, suc, ◌+◌, ◌≤◌, ◌<◌, List, [], ◌∷◌, ◌++◌, length, drop, Bool, true, false, Option, Some, refl, sym, ap, ◌∙◌, subst, ⊎_elim, arith, length-append, length-drop, slice_get}
use Rattle.std.specs.Prelude.{◌==◌, All, Contains, flat_map}
use Rattle.std.proofs.lemmas.List.Elements.{All-cons, All-head, All-nil, All-tail}
use Rattle.call_fs.specs.Disk.{Among, File}
use Rattle.envelope_records.specs.declared.channel.Record.{Record}
use Rattle.envelope_records.specs.Records.{AreRecords, letter_of, text_of}
use Rattle.mail_bytes.specs.Texts.{HasNoNul}
use Rattle.program_law.specs.Channel.Versions.{AreVersions, HasVersions, IsMarkedFrom}
use Rattle.program_law.proofs.Channel.Counts.{head_or_tail}
use Rattle.program_law.proofs.Channel.Texts.{At, at_above, at_of, one_width, stands_at, width}

-- A text that reads as another one does from its beginning, begins with that
begins : (xs ys : List ℕ) → ((i : ℕ) → i < length xs → slice_get ys i ≡ slice_get xs i) → ys ≡ xs ++ drop (length xs) ys
begins [] ys f = refl
begins (x ∷ xs) [] f = absurd (let e : slice_get [] 0 ≡ slice_get (x ∷ xs) 0 = f 0 (omega arith) in cc)
begins (x ∷ xs) (y ∷ ys) f =
    let e : slice_get (y ∷ ys) 0 ≡ slice_get (x ∷ xs) 0 = f 0 (omega arith) in
    let same : y ≡ x = cc in
    ap (λ z. z ∷ ys) same ∙ ap (λ zs. x ∷ zs) (begins xs ys (λ i lt. f (suc i) (omega arith)))

get_front : (xs ys : List ℕ) (i : ℕ) → i < length xs → slice_get (xs ++ ys) i ≡ slice_get xs i
get_front [] ys i lt = absurd (omega arith)
get_front (x ∷ xs) ys zero lt = refl
get_front (x ∷ xs) ys (suc i) lt = get_front xs ys i (omega arith)

get_rest : (xs ys : List ℕ) (i : ℕ) → slice_get (xs ++ ys) (length xs + i) ≡ slice_get ys i
get_rest [] ys i = ap (slice_get ys) (let e : 0 + i ≡ i = omega arith in e)
get_rest (x ∷ xs) ys i = ap (slice_get (x ∷ (xs ++ ys))) (let e : suc (length xs) + i ≡ suc (length xs + i) = omega arith in e) ∙ get_rest xs ys i

get_drop : (n : ℕ) (ys : List ℕ) (i : ℕ) → slice_get (drop n ys) i ≡ slice_get ys (n + i)
get_drop zero ys i = ap (slice_get ys) (let e : i ≡ 0 + i = omega arith in e)
get_drop (suc n) [] i = refl
get_drop (suc n) (y ∷ ys) i = get_drop n ys i ∙ ap (slice_get (y ∷ ys)) (let e : suc (n + i) ≡ suc n + i = omega arith in e)

-- the letter that a byte is
abbrev is_dee : ℕ → Bool
is_dee b = b == 68

letter_is : (done : Bool) (b : ℕ) → b ≡ letter_of done → letter_of (is_dee b) ≡ b
letter_is true b e = ap (λ x. letter_of (is_dee x)) e ∙ sym e
letter_is false b e = ap (λ x. letter_of (is_dee x)) e ∙ sym e

module _ (marks : List ℕ) where
  -- from this place on: it reads so but for marks; and each mark is at a place of a record
  abbrev Reads : ℕ → List ℕ → List ℕ → Type 0
  Reads k text bs = (i : ℕ) → i < length text → (slice_get bs i ≡ slice_get text i) ⊎ (Among (k + i) marks × (slice_get bs i ≡ Some 68))

  abbrev Marks : ℕ → List Record → Type 0
  Marks k rs = (p : ℕ) → k ≤ p → Among p marks → (r : Record) × Contains rs r × (r.place ≡ p)

  pub record Read (k : ℕ) (rs : List Record) (bs : List ℕ) : Type 0 where
    pub now : List Record
    pub text : bs ≡ flat_map text_of now
    pub at : At k now
    pub versions : AreVersions marks now rs

  tail_long : (r : Record) → length (r.address ++ 0 ∷ []) ≡ length r.address + 1
  tail_long r = length-append r.address (0 ∷ [])

  same_some : (x y : ℕ) → ◌≡◌ {A = Option ℕ} (Some x) (Some y) → x ≡ y
  same_some x y e = cc

  inner_byte : (k : ℕ) (r : Record) (rs : List Record) (b : ℕ) (bs : List ℕ) → At k (r ∷ rs) → Reads k (flat_map text_of (r ∷ rs)) (b ∷ bs) → Marks k (r ∷ rs)
      → (i : ℕ) → i < length (r.address ++ 0 ∷ []) → slice_get bs i ≡ slice_get (r.address ++ 0 ∷ []) i
  inner_byte k r rs b bs at each places i lt = ⊎_elim
      (λ e. e ∙ get_front (r.address ++ 0 ∷ []) (flat_map text_of rs) i lt)
      (λ w. absurd (not_marked (places (k + suc i) (omega arith) w.0)))
      (each (suc i) (let sum = length-append (text_of r) (flat_map text_of rs) in let one = one_width r in let long = tail_long r in omega arith))
    where
      not_marked : ((s : Record) × Contains (r ∷ rs) s × (s.place ≡ k + suc i)) → ⊥
      not_marked it = ⊎_elim
          (λ same. let here = at.0 in let place = ap (λ (x : Record). x.place) same in let e = it.2 in absurd (omega (arith, here, place, e)))
          (λ more. let up = at_above (k + width r) rs it.0 at.1 more in let e = it.2 in let long = tail_long r in absurd (omega (arith, up, e, long, lt)))
          (head_or_tail r it.0 rs it.1)

  rest_long : (r : Record) (rs : List Record) (b : ℕ) (bs : List ℕ) → length (b ∷ bs) ≡ length (flat_map text_of (r ∷ rs)) → length (drop (length (r.address ++ 0 ∷ [])) bs) ≡ length (flat_map text_of rs)
  rest_long r rs b bs long =
      let sum = length-append (text_of r) (flat_map text_of rs) in
      let one = one_width r in
      let tail = tail_long r in
      let less = length-drop (length (r.address ++ 0 ∷ [])) bs in
      omega (arith, sum, one, tail, less, long)

  rest_reads : (k : ℕ) (r : Record) (rs : List Record) (b : ℕ) (bs : List ℕ) → Reads k (flat_map text_of (r ∷ rs)) (b ∷ bs) → Reads (k + width r) (flat_map text_of rs) (drop (length (r.address ++ 0 ∷ [])) bs)
  rest_reads k r rs b bs each i lt =
      let n : ℕ = length (r.address ++ 0 ∷ []) in
      let long = tail_long r in
      let sum = length-append (text_of r) (flat_map text_of rs) in
      let one = one_width r in
      let there : slice_get (drop n bs) i ≡ slice_get bs (n + i) = get_drop n bs i in
      ⊎_elim
      (λ e. inl (there ∙ e ∙ get_rest (r.address ++ 0 ∷ []) (flat_map text_of rs) i))
      (λ w. inr (subst (λ p. Among p marks) (let e : k + suc (n + i) ≡ (k + width r) + i = omega (arith, long) in e) w.0, there ∙ w.1))
      (each (suc (n + i)) (omega (arith, long, sum, one, lt)))

  rest_places : (k : ℕ) (r : Record) (rs : List Record) → At k (r ∷ rs) → Marks k (r ∷ rs) → Marks (k + width r) rs
  rest_places k r rs at places p le among = pick (places p (omega arith) among) where
    pick : ((s : Record) × Contains (r ∷ rs) s × (s.place ≡ p)) → (s : Record) × Contains rs s × (s.place ≡ p)
    pick it = ⊎_elim
        (λ same. absurd (let here = at.0 in let place = ap (λ (x : Record). x.place) same in let e = it.2 in omega (arith, here, place, e, le)))
        (λ more. (it.0, more, it.2))
        (head_or_tail r it.0 rs it.1)

  first_letter : (k : ℕ) (r : Record) (rs : List Record) (b : ℕ) (bs : List ℕ) → Reads k (flat_map text_of (r ∷ rs)) (b ∷ bs) → letter_of (is_dee b) ≡ b
  first_letter k r rs b bs each = ⊎_elim
      (λ e. letter_is r.done b (same_some b (letter_of r.done) e))
      (λ w. letter_is true b (same_some b 68 w.1))
      (each 0 (let sum = length-append (text_of r) (flat_map text_of rs) in let one = one_width r in omega arith))

  dee_of : (done : Bool) (b : ℕ) → b ≡ letter_of done → is_dee b ≡ done
  dee_of true b e = ap is_dee e
  dee_of false b e = ap is_dee e

  first_version : (k : ℕ) (r : Record) (rs : List Record) (b : ℕ) (bs : List ℕ) → At k (r ∷ rs) → Reads k (flat_map text_of (r ∷ rs)) (b ∷ bs) → (is_dee b ≡ r.done) ⊎ ((is_dee b ≡ true) × Among r.place marks)
  first_version k r rs b bs at each = ⊎_elim
      (λ e. inl (dee_of r.done b (same_some b (letter_of r.done) e)))
      (λ w. inr (dee_of true b (same_some b 68 w.1), subst (λ p. Among p marks) (let here = at.0 in let e : k + 0 ≡ r.place = omega (arith, here) in e) w.0))
      (each 0 (let sum = length-append (text_of r) (flat_map text_of rs) in let one = one_width r in omega arith))

  nothing : (bs : List ℕ) → length bs ≡ 0 → bs ≡ []
  nothing [] e = refl
  nothing (b ∷ bs) e = absurd (omega arith)

  abbrev reads : (k : ℕ) (rs : List Record) (bs : List ℕ) → At k rs → length bs ≡ length (flat_map text_of rs) → Reads k (flat_map text_of rs) bs → Marks k rs → Read k rs bs
  reads k [] bs at long each places = record { now = []; text = nothing bs long; at = tt; versions = tt }
  reads k (r ∷ rs) [] at long each places = absurd (let one = length-append (text_of r) (flat_map text_of rs) in let w = one_width r in omega arith)
  reads k (r ∷ rs) (b ∷ bs) at long each places =
      let wide = one_width r in
      let sum = length-append (text_of r) (flat_map text_of rs) in
      let cut : bs ≡ (r.address ++ 0 ∷ []) ++ drop (length (r.address ++ 0 ∷ [])) bs = begins (r.address ++ 0 ∷ []) bs (λ i lt. inner_byte k r rs b bs at each places i lt) in
      let it : Read (k + width r) rs (drop (length (r.address ++ 0 ∷ [])) bs) = reads (k + width r) rs (drop (length (r.address ++ 0 ∷ [])) bs) at.1 (rest_long r rs b bs long) (rest_reads k r rs b bs each) (rest_places k r rs at places) in
      record {
        now = record { done = is_dee b; place = r.place; address = r.address } ∷ it.now;
        text = ap (λ x. x ∷ bs) (sym (first_letter k r rs b bs each)) ∙ ap (λ xs. letter_of (is_dee b) ∷ xs) (cut ∙ ap (λ xs. (r.address ++ 0 ∷ []) ++ xs) it.text);
        at = (at.0, it.at);
        versions = (record { place = refl; address = refl; letter = first_version k r rs b bs at each }, it.versions);
      }

  plain_kept : (rs records : List Record) → AreVersions marks rs records → All (λ (r : Record). HasNoNul r.address) records → All (λ (r : Record). HasNoNul r.address) rs
  plain_kept [] [] h p = All-nil (λ (r : Record). HasNoNul r.address)
  plain_kept [] (was ∷ records) h p = absurd h
  plain_kept (r ∷ rs) [] h p = absurd h
  plain_kept (r ∷ rs) (was ∷ records) h p =
      All-cons (λ (x : Record). HasNoNul x.address) r rs (subst HasNoNul (sym h.0.address) (All-head (λ (x : Record). HasNoNul x.address) was records p))
      (plain_kept rs records h.1 (All-tail (λ (x : Record). HasNoNul x.address) was records p))

pub versions_are : (text : List ℕ) (marks : List ℕ) (f : File) (records : List Record) → IsMarkedFrom text marks f → AreRecords text records
    → ((place : ℕ) → Among place marks → (r : Record) × Contains records r × (r.place ≡ place)) → HasVersions marks records f.bytes
versions_are text marks f records h a places =
    let it : Read marks 0 records f.bytes =
    reads marks 0 records f.bytes (at_of 0 records (λ before after x e. let p = a.places before after x e in omega (arith, p)))
    (h.long ∙ ap (λ t. length t) a.text)
    (λ i lt. subst (λ t. (slice_get f.bytes i ≡ slice_get t i) ⊎ (Among (0 + i) marks × (slice_get f.bytes i ≡ Some 68))) a.text
    (reads_so i (subst (λ t. i < length t) (sym a.text) lt)))
    (λ p le among. places p among)
    in record {
      now = it.now;
      are = record {
        text = it.text;
        plain = plain_kept marks it.now records it.versions a.plain;
        places = λ before after x e. let p = stands_at 0 it.now before after x it.at e in omega (arith, p);
      };
      versions = it.versions;
    }
  where
    reads_so : (i : ℕ) → i < length text → (slice_get f.bytes i ≡ slice_get text i) ⊎ (Among (0 + i) marks × (slice_get f.bytes i ≡ Some 68))
    reads_so i lt = ⊎_elim
        (λ e. inl e)
        (λ w. inr (subst (λ p. Among p marks) (let e : i ≡ 0 + i = omega arith in e) w.0, w.1))
        (h.each i (slice_get f.bytes i) lt (inl refl))
