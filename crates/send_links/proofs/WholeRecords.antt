-- The records of a channel file: the function reads what the relation says.
use Rattle.std.proofs.Common.{◌≡◌, ◌≢◌, ℕ, ◌+◌, List, [], ◌∷◌, ◌++◌, length, Bool, true, false, Option, Some, None, option_map, refl, sym, ap, ◌∙◌, subst, ⊎_elim, arith}
use Rattle.std.specs.Prelude.{All, flat_map, if◌then◌else◌, ◌==◌}
use Rattle.std.proofs.lemmas.List.{append_assoc, append-nil, length-append}
use Rattle.std.proofs.lemmas.List.Elements.{All-head, All-tail}
use Rattle.std.proofs.lemmas.Bool.Decides.{eqb_tells}
use Rattle.std.proofs.lemmas.Grind.{flat_map-append}
use Rattle.envelope_records.specs.declared.channel.Record.{Record}
use Rattle.envelope_records.specs.Records.{letter_of, text_of, AreRecords, IsBadLetter, IsUnended}
use Rattle.mail_bytes.specs.Texts.{HasNoNul}
use Rattle.send_links.specs.Records.{begin_at, and_then, records_from, records_of}
use Rattle.send_links.specs.Records.Within.{Before, In}

abbrev no_nul : ℕ → Type 0
no_nul b = b ≢ 0

abbrev plain : Record → Type 0
plain it = HasNoNul it.address

pick_other : {A : Type 0} (b sep : ℕ) (x y : A) → b ≢ sep → (if b == sep then x else y) ≡ y
pick_other b sep x y far = ⊎_elim (λ w. absurd (far w.1)) (λ w. ap (λ t. if t then x else y) w.0) (eqb_tells b sep)

abbrev read_so : Bool → ℕ → List ℕ → Record
read_so done place address = record { done = done; place = place; address = address }

abbrev behind : Bool → ℕ → List ℕ → List ℕ → ℕ → Option (List Record)
behind done place rest address at = option_map (λ rs. read_so done place address ∷ rs) (records_from rest at Before)

in_record : (w rest : List ℕ) (at : ℕ) (done : Bool) (place : ℕ) (acc : List ℕ) → HasNoNul w
    → records_from (w ++ 0 ∷ rest) at (In done place acc) ≡ behind done place rest (acc ++ w) (at + (length w + 1))
in_record [] rest at done place acc h =
    ap (λ a. behind done place rest a (at + 1)) (sym (append-nil acc))
    ∙ ap (λ p. behind done place rest (acc ++ []) p) (let e : at + 1 ≡ at + (0 + 1) = omega arith in e)
in_record (b ∷ w) rest at done place acc h =
    pick_other b 0 _ (records_from (w ++ 0 ∷ rest) (at + 1) (In done place (acc ++ b ∷ []))) (All-head no_nul b w h)
    ∙ in_record w rest (at + 1) done place (acc ++ b ∷ []) (All-tail no_nul b w h)
    ∙ ap (λ a. behind done place rest a ((at + 1) + (length w + 1))) (append_assoc acc (b ∷ []) w)
    ∙ ap (λ p. behind done place rest (acc ++ b ∷ w) p) (let e : (at + 1) + (length w + 1) ≡ at + (length (b ∷ w) + 1) = omega arith in e)

unended : (w : List ℕ) (at : ℕ) (done : Bool) (place : ℕ) (acc : List ℕ) → HasNoNul w → records_from w at (In done place acc) ≡ None
unended [] at done place acc h = refl
unended (b ∷ w) at done place acc h =
    pick_other b 0 _ (records_from w (at + 1) (In done place (acc ++ b ∷ []))) (All-head no_nul b w h)
    ∙ unended w (at + 1) done place (acc ++ b ∷ []) (All-tail no_nul b w h)

begins_so : (done : Bool) (at : ℕ) → begin_at (letter_of done) at ≡ Some (In done at [])
begins_so true at = refl
begins_so false at = refl

abbrev width : List Record → ℕ
width rs = length (flat_map text_of rs)

abbrev Placed : ℕ → List Record → Type 0
Placed at [] = Unit {0}
Placed at (r ∷ rs) = (r.place ≡ at) × Placed (at + (length r.address + 2)) rs

one_width : (r : Record) → length (text_of r) ≡ length r.address + 2
one_width r = let e = length-append r.address (0 ∷ []) in omega arith

more_width : (rs : List Record) (r : Record) → width (rs ++ r ∷ []) ≡ width rs + (length r.address + 2)
more_width rs r =
    ap length (flat_map-append text_of rs (r ∷ []))
    ∙ length-append (flat_map text_of rs) (text_of r ++ [])
    ∙ ap (λ t. width rs + length t) (append-nil (text_of r))
    ∙ ap (λ k. width rs + k) (one_width r)

placed : (front rs : List Record) → ((before after : List Record) (it : Record) → front ++ rs ≡ before ++ it ∷ after → it.place ≡ width before)
    → Placed (width front) rs
placed front [] h = tt
placed front (r ∷ rs) h = (
  h front rs r refl,
  subst (λ k. Placed k rs) (more_width front r) (placed (front ++ r ∷ []) rs (λ before after it e. h before after it (sym (append_assoc front (r ∷ []) rs) ∙ e))),
)

mapped_twice : (r : Record) (rs : List Record) (o : Option (List Record))
    → option_map (λ more. r ∷ more) (option_map (λ more. rs ++ more) o) ≡ option_map (λ more. (r ∷ rs) ++ more) o
mapped_twice r rs None = refl
mapped_twice r rs (Some more) = refl

mapped_id : (o : Option (List Record)) → o ≡ option_map (λ more. [] ++ more) o
mapped_id None = refl
mapped_id (Some more) = refl

-- whole records, whatever follows them
pub many : (at : ℕ) (rs : List Record) (tail : List ℕ) → All plain rs → Placed at rs
    → records_from (flat_map text_of rs ++ tail) at Before ≡ option_map (λ more. rs ++ more) (records_from tail (at + width rs) Before)
many at [] tail p q =
    mapped_id (records_from tail at Before) ∙ ap (λ k. option_map (λ more. [] ++ more) (records_from tail k Before)) (let e : at ≡ at + 0 = omega arith in e)
many at (r ∷ rs) tail p q =
    let rest : List ℕ = flat_map text_of rs ++ tail in
    let addr : List ℕ = r.address in
    let inner : List ℕ = ((addr ++ 0 ∷ []) ++ flat_map text_of rs) ++ tail in
    let split : inner ≡ addr ++ 0 ∷ rest = append_assoc (addr ++ 0 ∷ []) (flat_map text_of rs) tail ∙ append_assoc addr (0 ∷ []) rest in
    let next : ℕ = at + (length addr + 2) in
    let here : (at + 1) + (length addr + 1) ≡ next = omega arith in
    let wide = length-append (text_of r) (flat_map text_of rs) in
    let one = one_width r in
    let there : next + width rs ≡ at + width (r ∷ rs) = omega arith in
    ap (λ o. and_then o (records_from inner (at + 1))) (begins_so r.done at)
    ∙ ap (λ x. records_from x (at + 1) (In r.done at [])) split
    ∙ in_record addr rest (at + 1) r.done at [] (All-head plain r rs p)
    ∙ ap (λ k. behind r.done at rest addr k) here
    ∙ ap (λ k. behind r.done k rest addr next) (sym q.0)
    ∙ ap (λ o. option_map (λ more. r ∷ more) o) (many next rs tail (All-tail plain r rs p) q.1)
    ∙ mapped_twice r rs (records_from tail (next + width rs) Before)
    ∙ ap (λ k. option_map (λ more. (r ∷ rs) ++ more) (records_from tail k Before)) there

whole : (bytes : List ℕ) (rs : List Record) → AreRecords bytes rs → (tail : List ℕ)
    → records_from (bytes ++ tail) 0 Before ≡ option_map (λ more. rs ++ more) (records_from tail (width rs) Before)
whole bytes rs a tail =
    ap (λ b. records_from (b ++ tail) 0 Before) a.text
    ∙ many 0 rs tail a.plain (placed [] rs a.places)
    ∙ ap (λ k. option_map (λ more. rs ++ more) (records_from tail k Before)) (let e : 0 + width rs ≡ width rs = omega arith in e)

pub are_read : (bytes : List ℕ) (rs : List Record) → AreRecords bytes rs → records_of bytes ≡ Some rs
are_read bytes rs a =
    ap records_of (sym (append-nil bytes)) ∙ whole bytes rs a [] ∙ ap Some (append-nil rs)

pub bad_letter : (bytes : List ℕ) (at : ℕ) → IsBadLetter bytes at → records_of bytes ≡ None
bad_letter bytes at w =
    let none : begin_at w.letter (width w.before) ≡ None =
    pick_other w.letter 84 _ _ (w.bad false) ∙ pick_other w.letter 68 _ _ (w.bad true) in
    ap records_of w.split ∙ whole w.prefix w.before w.whole (w.letter ∷ w.rest)
    ∙ ap (λ o. option_map (λ more. w.before ++ more) (and_then o (records_from w.rest (width w.before + 1)))) none

pub no_end : (bytes : List ℕ) (at : ℕ) → IsUnended bytes at → records_of bytes ≡ None
no_end bytes at w =
    ap records_of w.split ∙ whole w.prefix w.before w.whole (letter_of w.done ∷ w.rest)
    ∙ ap (λ o. option_map (λ more. w.before ++ more) (and_then o (records_from w.rest (width w.before + 1)))) (begins_so w.done (width w.before))
    ∙ ap (λ o. option_map (λ more. w.before ++ more) o) (unended w.rest (width w.before + 1) w.done (width w.before) [] w.bad)
