-- How often slots are asked for and run, and which requests some bytes are.
use Rattle.std.proofs.Common.{◌≡◌, ◌⊎◌, inl, inr, ℕ, zero, suc, ◌+◌, ◌<◌, ◌≤◌, List, [], ◌∷◌, ◌++◌, length, replicate, set, get_or, Bool, true, false, ◌||◌, cond, nat_le, refl, sym, ap, ◌∙◌, subst, arith}
use Rattle.std.specs.Prelude.{All, flat_map}
use Rattle.std.proofs.lemmas.Bool.{true≢false, leb-false, eq-eqb, ne_eqb, cases_eq, cases_lt}
use Rattle.std.proofs.lemmas.Grind.{flat_map-append}
use Rattle.std.proofs.lemmas.List.{append_assoc, get_or-set_same, get_or-set_other, get_or_past, get_or-replicate, length-replicate}
use Rattle.std.proofs.lemmas.List.Elements.{All-append}
use Rattle.spawn_protocol.specs.Request.{HasRead, IsRequest, Reader, request_text}
use Rattle.spawn_protocol.specs.Request.Reader.{Reading, Refused}
use Rattle.spawn_protocol.specs.declared.request.Request.{Request}
use Rattle.spawner_parts.specs.Asked.{is_bad, runs_in}
use Rattle.spawner_parts.specs.Counts.{asked, one, runs, times}
use Rattle.spawner_parts.specs.Table.{any_runs}

-- Requests

pub asked_push : (slot : ℕ) (rs : List Request) (r : Request) → asked slot (rs ++ r ∷ []) ≡ one slot r.slot + asked slot rs
asked_push slot [] r = refl
asked_push slot (x ∷ rs) r =
    let rec : asked slot (rs ++ r ∷ []) ≡ one slot r.slot + asked slot rs = asked_push slot rs r in
    ap (λ n. one slot x.slot + n) rec ∙ swapped (one slot x.slot) (one slot r.slot) (asked slot rs)
  where
    swapped : (a b c : ℕ) → a + (b + c) ≡ b + (a + c)
    swapped a b c = omega arith

pub asked_append : (slot : ℕ) (rs others : List Request) → asked slot (rs ++ others) ≡ asked slot rs + asked slot others
asked_append slot [] others = none (asked slot others) where
  none : (a : ℕ) → a ≡ 0 + a
  none a = omega arith
asked_append slot (x ∷ rs) others = ap (λ n. one slot x.slot + n) (asked_append slot rs others) ∙ joined (one slot x.slot) (asked slot rs) (asked slot others)
  where
    joined : (a b c : ℕ) → a + (b + c) ≡ (a + b) + c
    joined a b c = omega arith

-- each request is asked for once at least
pub asked_self : (r : Request) (rs : List Request) → 1 ≤ asked r.slot (r ∷ rs)
asked_self r rs =
    let once : one r.slot r.slot ≡ 1 = ap (λ b. cond b 1 0) (eq-eqb r.slot r.slot refl) in
    more (one r.slot r.slot) (asked r.slot rs) once
  where
    more : (a b : ℕ) → a ≡ 1 → 1 ≤ a + b
    more a b e = omega arith

pub times_more : (slot : ℕ) (owed told : List ℕ) → times slot told ≤ times slot (owed ++ told)
times_more slot [] told = omega arith
times_more slot (s ∷ owed) told = let rest : times slot told ≤ times slot (owed ++ told) = times_more slot owed told in over (times slot told) (one slot s) (times slot (owed ++ told)) rest where
  over : (a b c : ℕ) → a ≤ c → a ≤ b + c
  over a b c le = omega arith

-- Programs

below_of : (running : List Bool) (s : ℕ) → runs_in running s ≡ true → s < length running
below_of running s is = by (cases_lt s (length running)) where
  by : (s < length running) ⊎ (length running ≤ s) → s < length running
  by (inl lt) = lt
  by (inr le) = absurd (true≢false (sym is ∙ get_or_past running s false le))

changed : (slot s : ℕ) (running : List Bool) (b : Bool) → (s ≡ slot → ⊥) → runs slot (set running s b) ≡ runs slot running
changed slot s running b apart = ap (λ x. cond x 1 0) (get_or-set_other running s slot b false (λ e. apart (sym e)))

other_one : (slot s : ℕ) → (s ≡ slot → ⊥) → one slot s ≡ 0
other_one slot s apart = ap (λ x. cond x 1 0) (ne_eqb s slot apart)

pub same_one : (s : ℕ) → one s s ≡ 1
same_one s = ap (λ x. cond x 1 0) (eq-eqb s s refl)

pub started : (slot s : ℕ) (running : List Bool) → s < length running → runs_in running s ≡ false → runs slot (set running s true) ≡ one slot s + runs slot running
started slot s running below free = by (cases_eq s slot) where
  by : (s ≡ slot) ⊎ (s ≡ slot → ⊥) → runs slot (set running s true) ≡ one slot s + runs slot running
  by (inl e) = subst (λ x. runs x (set running s true) ≡ one x s + runs x running) e
      (let now : runs s (set running s true) ≡ 1 = ap (λ x. cond x 1 0) (get_or-set_same running s true false below) in
      let once : one s s ≡ 1 = same_one s in
      let before : runs s running ≡ 0 = ap (λ x. cond x 1 0) free in
      omega arith)
  by (inr apart) =
      let same : runs slot (set running s true) ≡ runs slot running = changed slot s running true apart in
      let none : one slot s ≡ 0 = other_one slot s apart in
      omega arith

pub finished : (slot s : ℕ) (running : List Bool) → runs_in running s ≡ true → one slot s + runs slot (set running s false) ≡ runs slot running
finished slot s running busy = by (cases_eq s slot) where
  by : (s ≡ slot) ⊎ (s ≡ slot → ⊥) → one slot s + runs slot (set running s false) ≡ runs slot running
  by (inl e) = subst (λ x. one x s + runs x (set running s false) ≡ runs x running) e
      (let now : runs s (set running s false) ≡ 0 = ap (λ x. cond x 1 0) (get_or-set_same running s false false (below_of running s busy)) in
      let once : one s s ≡ 1 = same_one s in
      let before : runs s running ≡ 1 = ap (λ x. cond x 1 0) busy in
      omega arith)
  by (inr apart) =
      let same : runs slot (set running s false) ≡ runs slot running = changed slot s running false apart in
      let none : one slot s ≡ 0 = other_one slot s apart in
      omega arith

pub none_at_first : (slot : ℕ) → runs slot (replicate 120 false) ≡ 0
none_at_first slot = ap (λ x. cond x 1 0) (by (cases_lt slot 120)) where
  by : (slot < 120) ⊎ (120 ≤ slot) → get_or (replicate 120 false) slot false ≡ false
  by (inl lt) = get_or-replicate 120 slot false false lt
  by (inr le) = get_or_past (replicate 120 false) slot false (subst (λ n. n ≤ slot) (sym (length-replicate 120 false)) le)

-- what a request has whose program is started
pub or_false : (x y : Bool) → x || y ≡ false → (x ≡ false) × (y ≡ false)
or_false true y is = absurd (true≢false is)
or_false false y is = (refl, is)

pub good_slot : (running : List Bool) (r : Request) → is_bad running r ≡ false → (r.slot < 120) × (runs_in running r.slot ≡ false)
good_slot running r good =
    let parts = or_false (nat_le 120 r.slot) _ good in
    (leb-false 120 r.slot parts.0, (or_false (runs_in running r.slot) _ parts.1).0)

pub idle_slot : (running : List Bool) (slot : ℕ) → any_runs running ≡ false → get_or running slot false ≡ false
idle_slot [] slot none = refl
idle_slot (b ∷ rest) zero none = (or_false b (any_runs rest) none).0
idle_slot (b ∷ rest) (suc n) none = idle_slot rest n (or_false b (any_runs rest) none).1

-- The requests of some bytes

abbrev flat : List Request → List ℕ
flat rs = flat_map request_text rs

both_flat : (rs others : List Request) (ahead left : List ℕ) → ahead ≡ flat others ++ left → flat rs ++ ahead ≡ flat (rs ++ others) ++ left
both_flat rs others ahead left e =
    ap (λ a. flat rs ++ a) e ∙ sym (append_assoc (flat rs) (flat others) left) ∙ ap (λ t. t ++ left) (sym (flat_map-append request_text rs others))

both_whole : (rs others : List Request) → All IsRequest rs → All IsRequest others → All IsRequest (rs ++ others)
both_whole rs others a b = All-append IsRequest rs others a b

-- requests, and then bytes that are these
pub read_both : (rs others : List Request) (bytes ahead : List ℕ) (reader : Reader) → All IsRequest rs → bytes ≡ flat_map request_text rs ++ ahead
    → HasRead ahead others reader → HasRead bytes (rs ++ others) reader
read_both rs others bytes ahead (Reading start) all e h = record {
  text = e ∙ both_flat rs others ahead _ h.text;
  whole = both_whole rs others all h.whole;
  begun = h.begun;
}
read_both rs others bytes ahead Refused all e h = record {
  before = flat rs ++ h.before;
  start = h.start;
  byte = h.byte;
  rest = h.rest;
  split = e ∙ ap (λ a. flat rs ++ a) h.split ∙ sym (append_assoc (flat rs) h.before (h.byte ∷ h.rest));
  text = record { text = both_flat rs others h.before _ h.text.text; whole = both_whole rs others all h.text.whole; begun = h.text.begun };
  full = h.full;
  plain = h.plain;
}
