-- The text of a channel file after a mark.
use Rattle.std.proofs.Common.{◌≡◌, ℕ, suc, ◌+◌, ◌-◌, ◌≤◌, ◌<◌, List, [], ◌∷◌, ◌++◌, length, take, drop, true, cond, refl, sym, ap, ◌∙◌, subst, ⊎_elim, arith, length-append}
use Rattle.std.specs.Prelude.{◌==◌, if◌then◌else◌, Contains, flat_map}
use Rattle.std.proofs.lemmas.Bool.{cases_Bool, eq-eqb}
use Rattle.std.proofs.lemmas.List.Elements.{All-map, All-weaker}
use Rattle.call_fs.specs.Apply.{put_over}
use Rattle.envelope_records.specs.declared.channel.Record.{Record}
use Rattle.envelope_records.specs.Records.{AreRecords, letter_of, text_of}
use Rattle.mail_bytes.specs.Texts.{HasNoNul}
use Rattle.program_law.specs.Channel.Files.{marked, marked_if}
use Rattle.program_law.proofs.Channel.Counts.{head_or_tail, not_in_none}
use Rattle.program_law.proofs.Channel.Marks.{marked_far}

-- Records one after the other, from this place on

abbrev pub width : Record → ℕ
width r = length r.address + 2

abbrev pub At : ℕ → List Record → Type 0
At k [] = Unit {0}
At k (r ∷ rs) = (r.place ≡ k) × At (k + width r) rs

pub one_width : (r : Record) → length (text_of r) ≡ width r
one_width r = let e = length-append r.address (0 ∷ []) in omega (arith, e)

-- each is at the length of what stands before it
pub stands_at : (k : ℕ) (rs before after : List Record) (it : Record) → At k rs → rs ≡ before ++ it ∷ after → it.place ≡ k + length (flat_map text_of before)
stands_at k [] [] after it h e = absurd (cc)
stands_at k [] (b ∷ before) after it h e = absurd (cc)
stands_at k (r ∷ rs) [] after it h e = let same : r ≡ it = cc in let here = h.0 in let place = ap (λ (x : Record). x.place) same in omega (arith, here, place)
stands_at k (r ∷ rs) (b ∷ before) after it h e =
    let same : r ≡ b = cc in
    let rest = stands_at (k + width r) rs before after it h.1 (let t : rs ≡ before ++ it ∷ after = cc in t) in
    let sum = length-append (text_of b) (flat_map text_of before) in
    let one = one_width b in
    let wide : width r ≡ width b = ap width same in
    omega (arith, rest, sum, one, wide)

pub at_of : (k : ℕ) (rs : List Record) → ((before after : List Record) (it : Record) → rs ≡ before ++ it ∷ after → it.place ≡ k + length (flat_map text_of before)) → At k rs
at_of k [] h = tt
at_of k (r ∷ rs) h = (
  (let e = h [] rs r refl in omega (arith, e)),
  at_of (k + width r) rs (λ before after it e.
      let there = h (r ∷ before) after it (ap (λ t. r ∷ t) e) in
      let sum = length-append (text_of r) (flat_map text_of before) in
      let one = one_width r in
      omega (arith, there, sum, one)),
)

pub at_above : (k : ℕ) (rs : List Record) (r : Record) → At k rs → Contains rs r → k ≤ r.place
at_above k [] r h w = absurd (not_in_none r w)
at_above k (x ∷ rs) r h w = ⊎_elim
    (λ same. let here = h.0 in let place = ap (λ (y : Record). y.place) same in omega (arith, here, place))
    (λ more. let up = at_above (k + width x) rs r h.1 more in omega (arith, up))
    (head_or_tail x r rs w)

-- Marks

same_address : (p : ℕ) (r : Record) → (marked_if p r).address ≡ r.address
same_address p r = ⊎_elim
    (λ yes. ap (λ t. (cond t (record r { done = true }) r).address) yes)
    (λ no. ap (λ t. (cond t (record r { done = true }) r).address) no)
    (cases_Bool (r.place == p))

same_place : (p : ℕ) (r : Record) → (marked_if p r).place ≡ r.place
same_place p r = ⊎_elim
    (λ yes. ap (λ t. (cond t (record r { done = true }) r).place) yes)
    (λ no. ap (λ t. (cond t (record r { done = true }) r).place) no)
    (cases_Bool (r.place == p))

at_marked : (k p : ℕ) (rs : List Record) → At k rs → At k (marked p rs)
at_marked k p [] h = tt
at_marked k p (r ∷ rs) h = (same_place p r ∙ h.0, subst (λ j. At j (marked p rs)) (ap (λ a. k + (length a + 2)) (sym (same_address p r))) (at_marked (k + width r) p rs h.1))

far_marked : (k p : ℕ) (rs : List Record) → At k rs → p < k → marked p rs ≡ rs
far_marked k p [] h lt = refl
far_marked k p (r ∷ rs) h lt =
    let here = h.0 in
    let off : r.place ≡ p → ⊥ = λ e. absurd (omega (arith, here, e, lt)) in
    ap (λ x. x ∷ marked p rs) (marked_far p r off) ∙ ap (λ xs. r ∷ xs) (far_marked (k + width r) p rs h.1 (omega (arith, lt)))

-- Texts

abbrev pub dee : List ℕ
dee = letter_of true ∷ []

pub over_later : (k x : ℕ) (zs : List ℕ) → put_over (suc k) dee (x ∷ zs) ≡ x ∷ put_over k dee zs
over_later k x zs = ap (λ j. ((x ∷ take k zs) ++ dee) ++ drop j (x ∷ zs)) (let e : suc k + 1 ≡ suc (k + 1) = omega arith in e)

over_front : (xs ys : List ℕ) (i : ℕ) → put_over (length xs + i) dee (xs ++ ys) ≡ xs ++ put_over i dee ys
over_front [] ys i = ap (λ j. put_over j dee ys) (let e : 0 + i ≡ i = omega arith in e)
over_front (x ∷ xs) ys i =
    ap (λ j. put_over j dee (x ∷ (xs ++ ys))) (let e : suc (length xs) + i ≡ suc (length xs + i) = omega arith in e)
    ∙ over_later (length xs + i) x (xs ++ ys)
    ∙ ap (λ t. x ∷ t) (over_front xs ys i)

marked_text : (k p : ℕ) (rs : List Record) (r : Record) → At k rs → Contains rs r → r.place ≡ p → flat_map text_of (marked p rs) ≡ put_over (p - k) dee (flat_map text_of rs)
marked_text k p [] r h w e = absurd (not_in_none r w)
marked_text k p (x ∷ rs) r h w e = ⊎_elim
    (λ same.
    let place = ap (λ (y : Record). y.place) same in
    let here = h.0 in
    let on : x.place ≡ p = omega (arith, place, e) in
    let zero_is : p - k ≡ 0 = omega (arith, here, on) in
    ap (λ y. text_of y ++ flat_map text_of (marked p rs)) (marked_here x on)
    ∙ ap (λ ys. text_of (record x { done = true }) ++ flat_map text_of ys) (far_marked (k + width x) p rs h.1 (omega (arith, here, on)))
    ∙ ap (λ i. put_over i dee (text_of x ++ flat_map text_of rs)) (sym zero_is))
    (λ more.
    let up = at_above (k + width x) rs r h.1 more in
    let here = h.0 in
    let one = one_width x in
    let off : x.place ≡ p → ⊥ = λ on. absurd (omega (arith, here, on, up, e)) in
    let sum : length (text_of x) + (p - (k + width x)) ≡ p - k = omega (arith, one, up, e) in
    ap (λ y. text_of y ++ flat_map text_of (marked p rs)) (marked_far p x off)
    ∙ ap (λ t. text_of x ++ t) (marked_text (k + width x) p rs r h.1 more e)
    ∙ sym (over_front (text_of x) (flat_map text_of rs) (p - (k + width x)))
    ∙ ap (λ i. put_over i dee (text_of x ++ flat_map text_of rs)) sum)
    (head_or_tail x r rs w)
  where
    marked_here : (y : Record) → y.place ≡ p → marked_if p y ≡ record y { done = true }
    marked_here y on = ap (λ t. if t then record y { done = true } else y) (eq-eqb y.place p on)

pub mark_is : (bytes : List ℕ) (records : List Record) (r : Record) → AreRecords bytes records → Contains records r → AreRecords (put_over r.place dee bytes) (marked r.place records)
mark_is bytes records r a w = record {
  text = ap (λ t. put_over r.place dee t) a.text ∙ ap (λ i. put_over i dee (flat_map text_of records)) (let e : r.place ≡ r.place - 0 = omega arith in e) ∙ sym (marked_text 0 r.place records r placed w refl);
  plain = All-map (λ it. HasNoNul it.address) (marked_if r.place) records
      (All-weaker (λ (it : Record). HasNoNul it.address) (λ it. HasNoNul (marked_if r.place it).address) (λ it h. subst HasNoNul (sym (same_address r.place it)) h) records a.plain);
  places = λ before after it e. let p = stands_at 0 (marked r.place records) before after it (at_marked 0 r.place records placed) e in omega (arith, p);
}
  where
    placed : At 0 records
    placed = at_of 0 records (λ before after it e. let p = a.places before after it e in omega (arith, p))
