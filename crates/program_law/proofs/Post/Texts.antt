-- Texts of requests: each is determined by the bytes that begin with it, and which one comes first.
use Rattle.std.proofs.Common.{◌≡◌, ◌≢◌, ℕ, zero, suc, List, [], ◌∷◌, ◌++◌, length, take, drop, ◌<◌, ◌⊎◌, inl, inr, Bool, true, false, refl, sym, ap, ◌∙◌, ⊎_elim, arith, append_assoc}
use Rattle.std.specs.Prelude.{flat_map, All, Option}
use Rattle.std.specs.List.{AllByRecursion}
use Rattle.std.proofs.lemmas.Bool.{cases_lt}
use Rattle.std.proofs.lemmas.Grind.{flat_map-append}
use Rattle.std.proofs.lemmas.List.{append-nil, take-append-drop, take_all}
use Rattle.std.proofs.lemmas.List.Elements.{recursion_from_All}
use Rattle.spawn_protocol.specs.declared.request.Request.{Request}
use Rattle.spawn_protocol.specs.Cut.{cut}
use Rattle.spawn_protocol.specs.Cut.Cut.{Whole}
use Rattle.spawn_protocol.specs.Request.{IsRequest, field_text, request_text}
use Rattle.spawn_protocol.proofs.Cuts.{cut_is}
use Rattle.program_law.specs.Post.Posts.{AreLast, AreRequests, HasPlainFields, IsPart}
use Rattle.program_law.specs.Post.Posts.IsPart.{Nothing, Part}

abbrev pub Plain : List ℕ → Type 0
Plain text = AllByRecursion (λ b. b ≢ 0) text

-- a field ends at its first NUL
same_field : (xs ys u v : List ℕ) → Plain xs → Plain ys → xs ++ 0 ∷ u ≡ ys ++ 0 ∷ v → (xs ≡ ys) × (u ≡ v)
same_field [] [] u v h k e = (refl, cc)
same_field [] (y ∷ ys) u v h k e = let is : y ≡ 0 = cc in absurd (k.0 is)
same_field (x ∷ xs) [] u v h k e = let is : x ≡ 0 = cc in absurd (h.0 is)
same_field (x ∷ xs) (y ∷ ys) u v h k e =
    let head : x ≡ y = cc in
    let tail : xs ++ 0 ∷ u ≡ ys ++ 0 ∷ v = cc in
    let w = same_field xs ys u v h.1 k.1 tail in
    ((λ i. head i ∷ w.0 i), w.1)

text_as : (r : Request) (u : List ℕ) → request_text r ++ u ≡ r.slot ∷ (r.mess ++ 0 ∷ (r.sender ++ 0 ∷ (r.recipient ++ 0 ∷ u)))
text_as r u = ap (λ (t : List ℕ). r.slot ∷ t) (
    append_assoc (field_text r.mess) (field_text r.sender ++ field_text r.recipient) u
    ∙ append_assoc r.mess (0 ∷ []) ((field_text r.sender ++ field_text r.recipient) ++ u)
    ∙ ap (λ (t : List ℕ). r.mess ++ 0 ∷ t) (
    append_assoc (field_text r.sender) (field_text r.recipient) u
    ∙ append_assoc r.sender (0 ∷ []) (field_text r.recipient ++ u)
    ∙ ap (λ (t : List ℕ). r.sender ++ 0 ∷ t) (append_assoc r.recipient (0 ∷ []) u)))

same_fields : (p q : Request) (u v : List ℕ) → HasPlainFields p → HasPlainFields q
    → p.slot ∷ (p.mess ++ 0 ∷ (p.sender ++ 0 ∷ (p.recipient ++ 0 ∷ u))) ≡ q.slot ∷ (q.mess ++ 0 ∷ (q.sender ++ 0 ∷ (q.recipient ++ 0 ∷ v))) → (p ≡ q) × (u ≡ v)
same_fields p q u v h k e =
    let slot : p.slot ≡ q.slot = cc in
    let rest : p.mess ++ 0 ∷ (p.sender ++ 0 ∷ (p.recipient ++ 0 ∷ u)) ≡ q.mess ++ 0 ∷ (q.sender ++ 0 ∷ (q.recipient ++ 0 ∷ v)) = cc in
    let plain = λ (text : List ℕ) (all : All (λ b. b ≢ 0) text). recursion_from_All (λ b. b ≢ 0) text all in
    let m = same_field p.mess q.mess (p.sender ++ 0 ∷ (p.recipient ++ 0 ∷ u)) (q.sender ++ 0 ∷ (q.recipient ++ 0 ∷ v)) (plain p.mess h.mess) (plain q.mess k.mess) rest in
    let s = same_field p.sender q.sender (p.recipient ++ 0 ∷ u) (q.recipient ++ 0 ∷ v) (plain p.sender h.sender) (plain q.sender k.sender) m.1 in
    let r = same_field p.recipient q.recipient u v (plain p.recipient h.recipient) (plain q.recipient k.recipient) s.1 in
    ((λ i. record { slot = slot i; mess = m.0 i; sender = s.0 i; recipient = r.0 i }), r.1)

-- two texts of requests that bytes begin with are one
pub text_one : (p q : Request) (u v : List ℕ) → HasPlainFields p → HasPlainFields q → request_text p ++ u ≡ request_text q ++ v → (p ≡ q) × (u ≡ v)
text_one p q u v h k e = same_fields p q u v h k (sym (text_as p u) ∙ e ∙ text_as q v)

pub empty_last : (xs ys : List ℕ) → xs ++ ys ≡ [] → ys ≡ []
empty_last [] ys e = e
empty_last (x ∷ xs) ys e = absurd (cc)

pub plain_fields : (r : Request) → IsRequest r → HasPlainFields r
plain_fields r h = record { mess = h.mess.plain; sender = h.sender.plain; recipient = h.recipient.plain }

-- The first request

-- the first of those that wait is this one, and after it come the others
pub record First (lives : Bool) (r : Request) (rest : List ℕ) (waits : List Request) : Type 0 where
  pub more : List Request
  pub is : waits ≡ r ∷ more
  pub left : AreRequests lives rest more

no_first : (r : Request) (rest tail : List ℕ) → HasPlainFields r → request_text r ++ rest ≡ tail → IsPart tail → ⊥
no_first r rest tail plain e (Nothing none) = let same : request_text r ++ rest ≡ [] = e ∙ none in absurd (cc)
no_first r rest tail plain e (Part other left p some is) =
    let w = text_one r other (rest ++ left) [] plain p (sym (append_assoc (request_text r) rest left) ∙ ap (λ (t : List ℕ). t ++ left) e ∙ is ∙ sym (append-nil (request_text other))) in
    some (empty_last rest left w.1)

pub first_is : (last : ℕ → Option Request) (lives : Bool) (r : Request) (rest : List ℕ) (waits : List Request) → HasPlainFields r → AreLast last waits
    → AreRequests lives (request_text r ++ rest) waits → First lives r rest waits
first_is last lives r rest [] plain all h = absurd (no_first r rest h.tail plain h.text h.part)
first_is last lives r rest (first ∷ more) plain all h =
    let w = text_one r first rest (flat_map request_text more ++ h.tail) plain all.1 (h.text ∙ append_assoc (request_text first) (flat_map request_text more) h.tail) in
    record {
      more = more;
      is = ap (λ (q : Request). q ∷ more) (sym w.0);
      left = record { tail = h.tail; text = w.1; part = h.part; whole = h.whole };
    }

-- The request that is cut off from what a spawner took is the first that waits.
pub cut_first : (last : ℕ → Option Request) (lives : Bool) (r : Request) (ahead rest given : List ℕ) (waits : List Request) → cut ahead ≡ Whole r rest → AreLast last waits
    → AreRequests lives (ahead ++ given) waits → First lives r (rest ++ given) waits
cut_first last lives r ahead rest given waits is all h =
    let so = (cut_is ahead (Whole r rest)).0 is in
    let split : ahead ++ given ≡ request_text r ++ (rest ++ given) = ap (λ (t : List ℕ). t ++ given) so.1 ∙ append_assoc (request_text r) rest given in
    first_is last lives r (rest ++ given) waits (plain_fields r so.0) all (record { tail = h.tail; text = sym split ∙ h.text; part = h.part; whole = h.whole })

-- One more request

-- it comes after the others, if nothing is given in part
pub one_more : (bytes : List ℕ) (waits : List Request) (r : Request) (h : AreRequests true bytes waits) → AreRequests true (bytes ++ request_text r) (waits ++ r ∷ [])
one_more bytes waits r h = record {
  tail = [];
  text = ap (λ (t : List ℕ). t ++ request_text r) (h.text ∙ ap (λ (t : List ℕ). flat_map request_text waits ++ t) (h.whole refl) ∙ append-nil (flat_map request_text waits))
      ∙ ap (λ (t : List ℕ). flat_map request_text waits ++ t) (sym (append-nil (request_text r)))
      ∙ sym (flat_map-append request_text waits (r ∷ []))
      ∙ sym (append-nil (flat_map request_text (waits ++ r ∷ [])));
  part = Nothing refl;
  whole = λ e. refl;
}

drop_some : (k : ℕ) (l : List ℕ) → k < length l → drop k l ≢ []
drop_some k [] h e = omega (arith, h)
drop_some zero (x ∷ l) h e = cc
drop_some (suc k) (x ∷ l) h e = drop_some k l (omega (arith, h)) e

-- or a part of it does, and the sender gives no more
pub cut_more : (bytes : List ℕ) (waits : List Request) (r : Request) (wrote : ℕ) → HasPlainFields r → wrote < length (request_text r) → AreRequests true bytes waits
    → AreRequests false (bytes ++ take wrote (request_text r)) waits
cut_more bytes waits r wrote plain less h = record {
  tail = take wrote (request_text r);
  text = ap (λ (t : List ℕ). t ++ take wrote (request_text r)) (h.text ∙ ap (λ (t : List ℕ). flat_map request_text waits ++ t) (h.whole refl) ∙ append-nil (flat_map request_text waits));
  part = Part r (drop wrote (request_text r)) plain (drop_some wrote (request_text r) less) (take-append-drop wrote (request_text r));
  whole = λ e. absurd (cc);
}

-- what a sender has given that gives no more
pub left_so : (lives : Bool) (bytes : List ℕ) (waits : List Request) → AreRequests lives bytes waits → AreRequests false bytes waits
left_so lives bytes waits h = record { tail = h.tail; text = h.text; part = h.part; whole = λ e. absurd (cc) }

-- all of it, or less
pub whole_or_part : (text : List ℕ) (wrote : ℕ) → (take wrote text ≡ text) ⊎ (wrote < length text)
whole_or_part text wrote = ⊎_elim (λ less. inr less) (λ all. inl (take_all wrote text all)) (cases_lt wrote (length text))
