-- The first request of some bytes is found exactly if it is whole.
use Rattle.std.proofs.Common.{◌≡◌, ℕ, ◌+◌, ◌<◌, List, [], ◌∷◌, ◌++◌, length, drop, refl, sym, ap, ◌∙◌, subst, eqb, ltb}
use Rattle.std.specs.Prelude.{◌↔◌, if◌then◌else◌, nat_lt, get_or, Option, Some, Ok}
use Rattle.std.proofs.lemmas.Bool.{cond_both}
use Rattle.std.proofs.lemmas.List.{append-nil, append_assoc, append_cancel_left, at_drop_more}
use Rattle.std.proofs.lemmas.List.Elements.{recursion_from_All}
use Rattle.spawn_protocol.specs.declared.cut.Cut as told
use Rattle.spawn_protocol.specs.declared.cut.Cut.TheVariants as it
use Rattle.spawn_protocol.specs.declared.request.Request.{Request}
use Rattle.spawn_protocol.specs.Request.{IsRequest, Start, IsText, IsTooLong, Reader, HasRead, in_field, step, request_text}
use Rattle.spawn_protocol.specs.Request.Start.{NoByte, InMess, InSender, InRecipient}
use Rattle.spawn_protocol.specs.Request.Reader.{Reading, Refused}
use Rattle.spawn_protocol.specs.Cut.{ComesOf, Cut, cut, cut_from, first_of, told_cut}
use Rattle.spawn_protocol.specs.Cut.Cut.{More, Whole, TooLong}
use Rattle.spawn_protocol.proofs.Requests.{no_text, step_more, some_reading, one_reading, read_back}

-- A byte that gives a request gives one alone, and the reader begins anew.
abbrev Ends : List Request × Reader → Type 0
Ends ([], next) = Unit {0}
Ends (r ∷ more, next) = (more ≡ []) × (next ≡ Reading NoByte)

field_ends : (begun : List ℕ) (b : ℕ) (ended : List Request × Reader) (more : Start) → Ends ended → Ends (in_field begun b ended more)
field_ends begun b ended more h =
    cond_both (eqb b 0) ended (if nat_lt (length begun) 4096 then ([], Reading more) else ([], Refused)) Ends (λ _. h)
    (λ _. cond_both (ltb (length begun) 4096) ([], Reading more) ([], Refused) Ends (λ _. tt) (λ _. tt))

step_ends : (reader : Reader) (b : ℕ) → Ends (step reader b)
step_ends (Reading NoByte) b = tt
step_ends (Reading (InMess slot begun)) b = field_ends begun b ([], Reading (InSender slot begun [])) (InMess slot (begun ++ b ∷ [])) tt
step_ends (Reading (InSender slot mess begun)) b = field_ends begun b ([], Reading (InRecipient slot mess begun [])) (InSender slot mess (begun ++ b ∷ [])) tt
step_ends (Reading (InRecipient slot mess sender begun)) b =
    field_ends begun b (record { slot = slot; mess = mess; sender = sender; recipient = begun } ∷ [], Reading NoByte) (InRecipient slot mess sender (begun ++ b ∷ [])) (refl, refl)
step_ends Refused b = tt

-- What a cut says of the bytes.
abbrev IsSo : List ℕ → Cut → Type 0
IsSo bytes (Whole r rest) = IsRequest r × (bytes ≡ request_text r ++ rest)
IsSo bytes More = (start : Start) × IsText bytes [] start
IsSo bytes TooLong = IsTooLong bytes []

one_is_so : (before bs : List ℕ) (b : ℕ) (r : Request) → IsText (before ++ b ∷ []) (r ∷ []) NoByte → IsSo (before ++ b ∷ bs) (Whole r bs)
one_is_so before bs b r h =
    let text : before ++ b ∷ [] ≡ request_text r = h.text ∙ append-nil (request_text r ++ []) ∙ append-nil (request_text r) in
    ((recursion_from_All IsRequest (r ∷ []) h.whole).0, sym (append_assoc before (b ∷ []) bs) ∙ ap (λ t. t ++ bs) text)

byte_is_so : (before bs : List ℕ) (b : ℕ) (gave : List Request) (next : Reader) → Ends (gave, next) → HasRead (before ++ b ∷ []) gave next
    → (HasRead (before ++ b ∷ []) [] next → IsSo ((before ++ b ∷ []) ++ bs) (cut_from next bs)) → IsSo (before ++ b ∷ bs) (first_of gave bs (cut_from next bs))
byte_is_so before bs b [] next ends h later = subst (λ t. IsSo t (cut_from next bs)) (append_assoc before (b ∷ []) bs) (later h)
byte_is_so before bs b (r ∷ more) next ends h later =
    one_is_so before bs b r (subst (λ t. HasRead (before ++ b ∷ []) (r ∷ t) (Reading NoByte)) ends.0 (subst (λ t. HasRead (before ++ b ∷ []) (r ∷ more) t) ends.1 h))

end_is_so : (before : List ℕ) (reader : Reader) → HasRead before [] reader → IsSo (before ++ []) (cut_from reader [])
end_is_so before (Reading start) h = (start, subst (λ t. IsText t [] start) (sym (append-nil before)) h)
end_is_so before Refused h = subst (λ t. IsTooLong t []) (sym (append-nil before)) h

from_is_so : (before bs : List ℕ) (reader : Reader) → HasRead before [] reader → IsSo (before ++ bs) (cut_from reader bs)
from_is_so before [] reader h = end_is_so before reader h
from_is_so before (b ∷ bs) reader h =
    byte_is_so before bs b (step reader b).0 (step reader b).1 (step_ends reader b) (step_more before [] reader b h) (λ k. from_is_so (before ++ b ∷ []) bs (step reader b).1 k)

is_so : (bytes : List ℕ) → IsSo bytes (cut bytes)
is_so bytes = from_is_so [] bytes (Reading NoByte) no_text

-- Bytes are so in one way alone.

abbrev Reads : List ℕ → Cut → Type 0
Reads bytes (Whole r rest) = (requests : List Request) × (reader : Reader) × HasRead bytes (r ∷ requests) reader
Reads bytes More = (start : Start) × HasRead bytes [] (Reading start)
Reads bytes TooLong = HasRead bytes [] Refused

reads : (bytes : List ℕ) (c : Cut) → IsSo bytes c → Reads bytes c
reads bytes (Whole r rest) h =
    let some = some_reading rest in
    (some.0, some.1, subst (λ t. HasRead t (r ∷ some.0) some.1) (sym h.1) (read_back r rest some.0 some.1 h.0 some.2))
reads bytes More h = h
reads bytes TooLong h = h

first_back : (bytes : List ℕ) (r s : Request) (rest left : List ℕ) → IsSo bytes (Whole s left) → IsSo bytes (Whole r rest) → Whole s left ≡ Whole r rest
first_back bytes r s rest left h k =
    let one : Reads bytes (Whole s left) = reads bytes (Whole s left) h in
    let other : Reads bytes (Whole r rest) = reads bytes (Whole r rest) k in
    let heads : s ∷ one.0 ≡ r ∷ other.0 = (one_reading bytes (s ∷ one.0) (r ∷ other.0) one.1 other.1 one.2 other.2).0 in
    let same : s ≡ r = cc in
    let tail : left ≡ rest = append_cancel_left (request_text s) left rest (sym h.1 ∙ k.1 ∙ ap (λ t. request_text t ++ rest) (sym same)) in
    ap (λ t. Whole t left) same ∙ ap (Whole r) tail

whole_apart : (bytes : List ℕ) (r : Request) (requests : List Request) (one other : Reader) → HasRead bytes (r ∷ requests) one → HasRead bytes [] other → ⊥
whole_apart bytes r requests one other h k =
    let e : r ∷ requests ≡ [] = (one_reading bytes (r ∷ requests) [] one other h k).0 in cc

open_apart : (bytes : List ℕ) (start : Start) → HasRead bytes [] (Reading start) → HasRead bytes [] Refused → ⊥
open_apart bytes start h k =
    let e : Reading start ≡ Refused = (one_reading bytes [] [] (Reading start) Refused h k).1 in cc

same_cut : (bytes : List ℕ) (c d : Cut) → IsSo bytes c → IsSo bytes d → c ≡ d
same_cut bytes (Whole s left) (Whole r rest) h k = first_back bytes r s rest left h k
same_cut bytes (Whole r rest) More h k = let one = reads bytes (Whole r rest) h in absurd (whole_apart bytes r one.0 one.1 (Reading k.0) one.2 k.1)
same_cut bytes (Whole r rest) TooLong h k = let one = reads bytes (Whole r rest) h in absurd (whole_apart bytes r one.0 one.1 Refused one.2 k)
same_cut bytes More (Whole r rest) h k = let one = reads bytes (Whole r rest) k in absurd (whole_apart bytes r one.0 one.1 (Reading h.0) one.2 h.1)
same_cut bytes More More h k = refl
same_cut bytes More TooLong h k = absurd (open_apart bytes h.0 h.1 k)
same_cut bytes TooLong (Whole r rest) h k = let one = reads bytes (Whole r rest) k in absurd (whole_apart bytes r one.0 one.1 Refused one.2 h)
same_cut bytes TooLong More h k = absurd (open_apart bytes k.0 k.1 h)
same_cut bytes TooLong TooLong h k = refl

pub cut_is : (bytes : List ℕ) (c : Cut) → cut bytes ≡ c ↔ IsSo bytes c
cut_is bytes c = (λ e. subst (IsSo bytes) e (is_so bytes), λ h. same_cut bytes (cut bytes) c (is_so bytes) h)

-- What a byte settles.

refused_cut : (bytes : List ℕ) → cut_from Refused bytes ≡ TooLong
refused_cut [] = refl
refused_cut (b ∷ bs) = refused_cut bs

-- the byte at a place decides
at_byte : (bytes : List ℕ) (at : ℕ) (reader : Reader) (gave : List Request) (next : Reader) → at < length bytes → cut_from reader (drop at bytes) ≡ cut bytes
    → step reader (get_or bytes at 0) ≡ (gave, next) → first_of gave (drop (at + 1) bytes) (cut_from next (drop (at + 1) bytes)) ≡ cut bytes
at_byte bytes at reader gave next below from e =
    ap (λ (s : List Request × Reader). first_of s.0 (drop (at + 1) bytes) (cut_from s.1 (drop (at + 1) bytes))) (sym e)
    ∙ sym (at_drop_more (cut_from reader) bytes at 0 below)
    ∙ from

told_at : (bytes : List ℕ) (at : ℕ) (reader next : Reader) (found : told.Cut) → at < length bytes → cut_from reader (drop at bytes) ≡ cut bytes
    → ComesOf reader (get_or bytes at 0) (at + 1) (Ok (Some found)) next → told_cut found bytes ≡ cut bytes
told_at bytes at reader next (it.Whole request n) below from h = ap (λ k. Whole request (drop k bytes)) h.1 ∙ at_byte bytes at reader (request ∷ []) next below from h.0
told_at bytes at reader next it.More below from h = absurd h
told_at bytes at reader next it.TooLong below from h = sym (refused_cut (drop (at + 1) bytes)) ∙ at_byte bytes at reader [] Refused below from h

pub told_by : (bytes : List ℕ) (at : ℕ) (reader next : Reader) (some : Option told.Cut) (found : told.Cut) → some ≡ Some found → at < length bytes
    → cut_from reader (drop at bytes) ≡ cut bytes → ComesOf reader (get_or bytes at 0) (at + 1) (Ok some) next → told_cut found bytes ≡ cut bytes
told_by bytes at reader next some found is below from h =
    told_at bytes at reader next found below from (subst (λ o. ComesOf reader (get_or bytes at 0) (at + 1) (Ok o) next) is h)
