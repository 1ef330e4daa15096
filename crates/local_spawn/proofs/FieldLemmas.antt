-- A line of users/assign and its pieces.
use Rattle.std.proofs.Common.{◌≡◌, ◌≢◌, ℕ, ◌<◌, ◌^◌, List, [], ◌∷◌, false, Option, Some, None, eqb, ltb, refl, sym, ap, ◌∙◌, subst, ⊎_elim, arith}
use Rattle.std.specs.Prelude.{All, if◌then◌else◌}
use Rattle.std.specs.List.{AllByRecursion, join_with_byte, onto_first, slice_split}
use Rattle.std.specs.Option.{option_and_then}
use Rattle.std.proofs.lemmas.Bool.{cases_Bool, cond-true, cond-false, eqb-true, eqb-false, ne_eqb, lt-ltb, ltb-true}
use Rattle.std.proofs.lemmas.List.Elements.{All-from_recursion, recursion_from_All}
use Rattle.std.proofs.lemmas.List.Splits.{slice_split_at, join_with_byte-slice_split}
use Rattle.mail_bytes.specs.Decimal.{digits, number_of, IsDigit}
use Rattle.mail_bytes.proofs.Digits.{digits_only, number_of-digits, number_of_some}
use Rattle.local_spawn.specs.declared.assign.Assignment.{Assignment}
use Rattle.local_spawn.specs.declared.kinds.Kind.{Kind}
use Rattle.local_spawn.specs.declared.kinds.Kind.TheVariants.{Simple, Wildcard}
use Rattle.local_spawn.specs.Fields.{IsAssignment, IsField, assigned, field, if_u32, kind_of, line_of, number_in, parsed, parsed_by, parsed_fields, sign_of}

abbrev Passes : List ℕ → Type 0
Passes text = All (λ b. eqb b 58 ≡ false) text

-- a field and its colon are the first piece
no_colon : (text : List ℕ) → AllByRecursion (λ b. (b ≢ 58) × (b ≢ 10)) text → AllByRecursion (λ b. eqb b 58 ≡ false) text
no_colon [] h = tt
no_colon (b ∷ text) h = (ne_eqb b 58 h.0.0, no_colon text h.1)

passes : (text : List ℕ) → IsField text → Passes text
passes text h = All-from_recursion (λ b. eqb b 58 ≡ false) text (no_colon text (recursion_from_All (λ b. (b ≢ 58) × (b ≢ 10)) text h))

first_piece : (text rest : List ℕ) → IsField text → slice_split (λ b. eqb b 58) (field text rest) ≡ text ∷ slice_split (λ b. eqb b 58) rest
first_piece text rest h = slice_split_at (λ b. eqb b 58) text 58 rest (passes text h) refl

digits_field : (text : List ℕ) → AllByRecursion IsDigit text → AllByRecursion (λ b. (b ≢ 58) × (b ≢ 10)) text
digits_field [] h = tt
digits_field (b ∷ text) h = let low = h.0.0 in let high = h.0.1 in ((λ e. absurd (omega arith), λ e. absurd (omega arith)), digits_field text h.1)

number_field : (n : ℕ) → IsField (digits n)
number_field n = All-from_recursion (λ b. (b ≢ 58) × (b ≢ 10)) (digits n) (digits_field (digits n) (digits_only n))

signed_field : (kind : Kind) (local : List ℕ) → IsField local → IsField (sign_of kind ∷ local)
signed_field Simple local h =
    All-from_recursion (λ b. (b ≢ 58) × (b ≢ 10)) (61 ∷ local) ((λ e. absurd (omega arith), λ e. absurd (omega arith)), recursion_from_All (λ b. (b ≢ 58) × (b ≢ 10)) local h)
signed_field Wildcard local h =
    All-from_recursion (λ b. (b ≢ 58) × (b ≢ 10)) (43 ∷ local) ((λ e. absurd (omega arith), λ e. absurd (omega arith)), recursion_from_All (λ b. (b ≢ 58) × (b ≢ 10)) local h)

-- the pieces of a line
abbrev pieces_of : Assignment → List (List ℕ)
pieces_of a = (sign_of a.kind ∷ a.local) ∷ a.user ∷ digits a.uid ∷ digits a.gid ∷ a.home ∷ a.dash ∷ a.ext ∷ [] ∷ []

split_line : (a : Assignment) → IsAssignment a → slice_split (λ b. eqb b 58) (line_of a) ≡ pieces_of a
split_line a h =
    let last = field a.ext [] in
    let dash = field a.dash last in
    let home = field a.home dash in
    let gid = field (digits a.gid) home in
    let uid = field (digits a.uid) gid in
    let user = field a.user uid in
    let sign = sign_of a.kind ∷ a.local in
    first_piece sign user (signed_field a.kind a.local h.local)
    ∙ ap (λ t. sign ∷ t) (first_piece a.user uid h.user
    ∙ ap (λ t. a.user ∷ t) (first_piece (digits a.uid) gid (number_field a.uid)
    ∙ ap (λ t. digits a.uid ∷ t) (first_piece (digits a.gid) home (number_field a.gid)
    ∙ ap (λ t. digits a.gid ∷ t) (first_piece a.home dash h.home
    ∙ ap (λ t. a.home ∷ t) (first_piece a.dash last h.dash
    ∙ ap (λ t. a.dash ∷ t) (first_piece a.ext [] h.ext))))))

-- Numbers

number_read : (n : ℕ) → n < 2 ^ 32 → number_in (digits n) ≡ Some n
number_read n small =
    ap (option_and_then if_u32) (number_of-digits n (omega arith))
    ∙ cond-true (ltb n (2 ^ 32)) (Some n) None (lt-ltb n (2 ^ 32) small)

no_number : (n : ℕ) → ◌≡◌ {A = Option ℕ} None (Some n) → ⊥
no_number n e = absurd (cc)

some_number : (m n : ℕ) → ◌≡◌ {A = Option ℕ} (Some m) (Some n) → m ≡ n
some_number m n e = cc

short_by : (m n : ℕ) → if_u32 m ≡ Some n → (m ≡ n) × (m < 2 ^ 32)
short_by m n e = ⊎_elim
    (λ small. (some_number m n (sym (cond-true (ltb m (2 ^ 32)) (Some m) None small) ∙ e), ltb-true m (2 ^ 32) small))
    (λ big. absurd (no_number n (sym (cond-false (ltb m (2 ^ 32)) (Some m) None big) ∙ e)))
    (cases_Bool (ltb m (2 ^ 32)))

number_by : (text : List ℕ) (n : ℕ) (o : Option ℕ) → number_of text ≡ o → option_and_then if_u32 o ≡ Some n → (text ≡ digits n) × (n < 2 ^ 32)
number_by text n None e f = absurd (no_number n f)
number_by text n (Some m) e f =
    let short = short_by m n f in
    let read = number_of_some text m e in
    (read.0 ∙ ap digits short.0, subst (λ k. k < 2 ^ 32) short.0 short.1)

number_is : (text : List ℕ) (n : ℕ) → number_in text ≡ Some n → (text ≡ digits n) × (n < 2 ^ 32)
number_is text n e = number_by text n (number_of text) refl e

-- Signs

kind_read : (kind : Kind) → kind_of (sign_of kind) ≡ Some kind
kind_read Simple = refl
kind_read Wildcard = refl

no_kind : (kind : Kind) → ◌≡◌ {A = Option Kind} None (Some kind) → ⊥
no_kind kind e = absurd (cc)

some_kind : (a b : Kind) → ◌≡◌ {A = Option Kind} (Some a) (Some b) → a ≡ b
some_kind a b e = cc

kind_is : (sign : ℕ) (kind : Kind) → kind_of sign ≡ Some kind → sign ≡ sign_of kind
kind_is sign kind e = ⊎_elim
    (λ simple. eqb-true sign 61 simple ∙ ap sign_of (some_kind Simple kind (sym (cond-true (eqb sign 61) (Some Simple) (if eqb sign 43 then Some Wildcard else None) simple) ∙ e)))
    (λ isnt. other (sym (cond-false (eqb sign 61) (Some Simple) (if eqb sign 43 then Some Wildcard else None) isnt) ∙ e))
    (cases_Bool (eqb sign 61))
  where
    other : (if eqb sign 43 then Some Wildcard else None) ≡ Some kind → sign ≡ sign_of kind
    other f = ⊎_elim
        (λ wild. eqb-true sign 43 wild ∙ ap sign_of (some_kind Wildcard kind (sym (cond-true (eqb sign 43) (Some Wildcard) None wild) ∙ f)))
        (λ isnt. absurd (no_kind kind (sym (cond-false (eqb sign 43) (Some Wildcard) None isnt) ∙ f)))
        (cases_Bool (eqb sign 43))

-- What the line of an assignment is read as.

pub parsed_of : (a : Assignment) → IsAssignment a → parsed (line_of a) ≡ Some a
parsed_of a h =
    ap parsed_by (split_line a h)
    ∙ ap (λ k. assigned k a.local a.user (number_in (digits a.uid)) (number_in (digits a.gid)) a.home a.dash a.ext) (kind_read a.kind)
    ∙ ap (λ n. assigned (Some a.kind) a.local a.user n (number_in (digits a.gid)) a.home a.dash a.ext) (number_read a.uid h.uid)
    ∙ ap (λ n. assigned (Some a.kind) a.local a.user (Some a.uid) n a.home a.dash a.ext) (number_read a.gid h.gid)

-- What is read is the line of an assignment.

abbrev AllPlain : List (List ℕ) → Type 0
AllPlain pieces = AllByRecursion (λ piece. AllByRecursion (λ b. (b ≢ 58) × (b ≢ 10)) piece) pieces

onto_plain : (b : ℕ) (pieces : List (List ℕ)) → b ≢ 58 → b ≢ 10 → AllPlain pieces → AllPlain (onto_first b pieces)
onto_plain b [] colon newline h = (((colon, newline), tt), tt)
onto_plain b (piece ∷ pieces) colon newline h = (((colon, newline), h.0), h.1)

split_plain : (text : List ℕ) → AllByRecursion (λ b. b ≢ 10) text → AllPlain (slice_split (λ b. eqb b 58) text)
split_plain [] h = (tt, tt)
split_plain (b ∷ text) h = ⊎_elim
    (λ colon. subst AllPlain (sym (cond-true (eqb b 58) ([] ∷ slice_split (λ b. eqb b 58) text) (onto_first b (slice_split (λ b. eqb b 58) text)) colon)) (tt, split_plain text h.1))
    (λ isnt. subst AllPlain (sym (cond-false (eqb b 58) ([] ∷ slice_split (λ b. eqb b 58) text) (onto_first b (slice_split (λ b. eqb b 58) text)) isnt))
    (onto_plain b (slice_split (λ b. eqb b 58) text) (eqb-false b 58 isnt) h.0 (split_plain text h.1)))
    (cases_Bool (eqb b 58))

plain_field : (text : List ℕ) → AllByRecursion (λ b. (b ≢ 58) × (b ≢ 10)) text → IsField text
plain_field text h = All-from_recursion (λ b. (b ≢ 58) × (b ≢ 10)) text h

no_assignment : (a : Assignment) → ◌≡◌ {A = Option Assignment} None (Some a) → ⊥
no_assignment a e = absurd (cc)

some_assignment : (a b : Assignment) → ◌≡◌ {A = Option Assignment} (Some a) (Some b) → a ≡ b
some_assignment a b e = cc

-- what was read of pieces
record IsRead (pieces : List (List ℕ)) (a : Assignment) : Type 0 where
  text : join_with_byte 58 pieces ≡ line_of a
  good : IsAssignment a

from_assigned : (kind : Option Kind) (sign : ℕ) (local user : List ℕ) (uid gid : Option ℕ) (uid_text gid_text home dash ext : List ℕ) (a : Assignment)
    → kind_of sign ≡ kind → number_in uid_text ≡ uid → number_in gid_text ≡ gid
    → assigned kind local user uid gid home dash ext ≡ Some a
    → AllPlain ((sign ∷ local) ∷ user ∷ uid_text ∷ gid_text ∷ home ∷ dash ∷ ext ∷ [] ∷ [])
    → IsRead ((sign ∷ local) ∷ user ∷ uid_text ∷ gid_text ∷ home ∷ dash ∷ ext ∷ [] ∷ []) a
from_assigned None sign local user uid gid uid_text gid_text home dash ext a k u g e plain = absurd (no_assignment a e)
from_assigned (Some kind) sign local user None gid uid_text gid_text home dash ext a k u g e plain = absurd (no_assignment a e)
from_assigned (Some kind) sign local user (Some uid) None uid_text gid_text home dash ext a k u g e plain = absurd (no_assignment a e)
from_assigned (Some kind) sign local user (Some uid) (Some gid) uid_text gid_text home dash ext a k u g e plain =
    let made : Assignment = record { kind = kind; local = local; user = user; uid = uid; gid = gid; home = home; dash = dash; ext = ext } in
    let signed = kind_is sign kind k in
    let uid_read = number_is uid_text uid u in
    let gid_read = number_is gid_text gid g in
    subst (IsRead ((sign ∷ local) ∷ user ∷ uid_text ∷ gid_text ∷ home ∷ dash ∷ ext ∷ [] ∷ [])) (some_assignment made a e)
    (record {
      text =
          ap (λ s. s ∷ field local (field user (field uid_text (field gid_text (field home (field dash (field ext []))))))) signed
          ∙ ap (λ t. sign_of kind ∷ field local (field user (field t (field gid_text (field home (field dash (field ext []))))))) uid_read.0
          ∙ ap (λ t. sign_of kind ∷ field local (field user (field (digits uid) (field t (field home (field dash (field ext []))))))) gid_read.0;
      good = record {
        local = plain_field local plain.0.1;
        user = plain_field user plain.1.0;
        uid = uid_read.1;
        gid = gid_read.1;
        home = plain_field home plain.1.1.1.1.0;
        dash = plain_field dash plain.1.1.1.1.1.0;
        ext = plain_field ext plain.1.1.1.1.1.1.0;
      };
    })

from_first : (first user uid gid home dash ext : List ℕ) (a : Assignment) → parsed_fields first user uid gid home dash ext ≡ Some a
    → AllPlain (first ∷ user ∷ uid ∷ gid ∷ home ∷ dash ∷ ext ∷ [] ∷ []) → IsRead (first ∷ user ∷ uid ∷ gid ∷ home ∷ dash ∷ ext ∷ [] ∷ []) a
from_first [] user uid gid home dash ext a e plain = absurd (no_assignment a e)
from_first (sign ∷ local) user uid gid home dash ext a e plain =
    from_assigned (kind_of sign) sign local user (number_in uid) (number_in gid) uid gid home dash ext a refl refl refl e plain

from_pieces : (pieces : List (List ℕ)) (a : Assignment) → parsed_by pieces ≡ Some a → AllPlain pieces → IsRead pieces a
from_pieces (first ∷ user ∷ uid ∷ gid ∷ home ∷ dash ∷ ext ∷ [] ∷ []) a e plain = from_first first user uid gid home dash ext a e plain
from_pieces _ a e plain = absurd (no_assignment a e)

pub parsed_is : (line : List ℕ) (a : Assignment) → All (λ b. b ≢ 10) line → parsed line ≡ Some a → (line ≡ line_of a) × IsAssignment a
parsed_is line a h e =
    let read = from_pieces (slice_split (λ b. eqb b 58) line) a e (split_plain line (recursion_from_All (λ b. b ≢ 10) line h)) in
    (sym (join_with_byte-slice_split 58 line) ∙ read.text, read.good)

-- a line that is read as nothing is that of no assignment
pub unparsed : (line : List ℕ) → parsed line ≡ None → (a : Assignment) → IsAssignment a → line ≢ line_of a
unparsed line e a h f = no_assignment a (sym e ∙ ap parsed f ∙ parsed_of a h)

-- two assignments have two lines
pub same_line : (a b : Assignment) → IsAssignment a → IsAssignment b → line_of a ≡ line_of b → a ≡ b
same_line a b h k e = some_assignment a b (sym (parsed_of a h) ∙ ap parsed e ∙ parsed_of b k)

-- the line of an assignment has no newline, and is not `.`
field_lacks : (text : List ℕ) → AllByRecursion (λ b. (b ≢ 58) × (b ≢ 10)) text → (rest : List ℕ) → AllByRecursion (λ b. b ≢ 10) rest → AllByRecursion (λ b. b ≢ 10) (field text rest)
field_lacks [] h rest k = ((λ e. absurd (omega arith)), k)
field_lacks (b ∷ text) h rest k = (h.0.1, field_lacks text h.1 rest k)

in_field : (text : List ℕ) → IsField text → AllByRecursion (λ b. (b ≢ 58) × (b ≢ 10)) text
in_field text h = recursion_from_All (λ b. (b ≢ 58) × (b ≢ 10)) text h

sign_lacks : (kind : Kind) → sign_of kind ≢ 10
sign_lacks Simple e = absurd (omega arith)
sign_lacks Wildcard e = absurd (omega arith)

pub line_lacks : (a : Assignment) → IsAssignment a → AllByRecursion (λ b. b ≢ 10) (line_of a)
line_lacks a h = (
  sign_lacks a.kind,
  field_lacks a.local (in_field a.local h.local) (field a.user (field (digits a.uid) (field (digits a.gid) (field a.home (field a.dash (field a.ext []))))))
      (field_lacks a.user (in_field a.user h.user) (field (digits a.uid) (field (digits a.gid) (field a.home (field a.dash (field a.ext [])))))
      (field_lacks (digits a.uid) (in_field (digits a.uid) (number_field a.uid)) (field (digits a.gid) (field a.home (field a.dash (field a.ext []))))
      (field_lacks (digits a.gid) (in_field (digits a.gid) (number_field a.gid)) (field a.home (field a.dash (field a.ext [])))
      (field_lacks a.home (in_field a.home h.home) (field a.dash (field a.ext []))
      (field_lacks a.dash (in_field a.dash h.dash) (field a.ext []) (field_lacks a.ext (in_field a.ext h.ext) [] tt)))))),
)

heads : (a b : ℕ) (x y : List ℕ) → ◌≡◌ {A = List ℕ} (a ∷ x) (b ∷ y) → a ≡ b
heads a b x y e = cc

pub dot_is_none : (a : Assignment) → 46 ∷ [] ≢ line_of a
dot_is_none a e = no_sign a.kind (heads 46 (sign_of a.kind) [] _ e)
  where
    no_sign : (kind : Kind) → 46 ≡ sign_of kind → ⊥
    no_sign Simple e = absurd (omega arith)
    no_sign Wildcard e = absurd (omega arith)
