-- The requests of some bytes: those that were dealt with, and those that wait still.
use Rattle.std.proofs.Common.{◌≡◌, ℕ, ◌+◌, ◌≤◌, List, [], ◌∷◌, ◌++◌, Bool, inl, inr, ⊎_elim, refl, sym, ap, ◌∙◌, subst, append_assoc, arith}
use Rattle.std.specs.Prelude.{All, flat_map}
use Rattle.std.proofs.lemmas.Grind.{flat_map-append}
use Rattle.std.proofs.lemmas.List.{append-nil}
use Rattle.std.proofs.lemmas.List.Elements.{All-head, All-tail}
use Rattle.call_fs.specs.Disk.{Among}
use Rattle.spawn_protocol.specs.Request.{IsRequest, bytes_to, request_text}
use Rattle.spawn_protocol.specs.declared.inbox.Intake.{Intake}
use Rattle.spawn_protocol.specs.declared.inbox.Intake.TheVariants as intake
use Rattle.spawn_protocol.specs.declared.request.Request.{Request}
use Rattle.spawner_parts.specs.Counts.{asked, times, runs}
use Rattle.spawner_parts.specs.Known.{Counts, Reads}
use Rattle.spawner_parts.specs.declared.place.Place.{Place}
use Rattle.spawner_parts.proofs.Tallies.{asked_append, times_more}
use Rattle.program_law.specs.Post.Posts.{HasPlainFields}
use Rattle.program_law.proofs.Post.Texts.{plain_fields, text_one}

abbrev pub AllPlain : List Request → Type 0
AllPlain [] = Unit {0}
AllPlain (r ∷ rs) = HasPlainFields r × AllPlain rs

pub plain_among : (rs : List Request) → AllPlain rs → (r : Request) → Among r rs → HasPlainFields r
plain_among [] all r among = absurd among
plain_among (x ∷ rs) all r among = ⊎_elim
    (λ (same : r ≡ x). subst HasPlainFields (sym same) all.0)
    (λ (later : Among r rs). plain_among rs all.1 r later)
    among

pub all_plain : (rs : List Request) → ((r : Request) → Among r rs → HasPlainFields r) → AllPlain rs
all_plain [] each = tt
all_plain (x ∷ rs) each = (each x (inl refl), all_plain rs (λ r among. each r (inr among)))

pub plain_push : (rs : List Request) (r : Request) → AllPlain rs → HasPlainFields r → AllPlain (rs ++ r ∷ [])
plain_push [] r all plain = (plain, tt)
plain_push (x ∷ rs) r all plain = (all.0, plain_push rs r all.1 plain)

plains : (rs : List Request) → All IsRequest rs → AllPlain rs
plains [] all = tt
plains (r ∷ rs) all = (plain_fields r (All-head IsRequest r rs all), plains rs (All-tail IsRequest r rs all))

-- one more text
pub flat_push : (rs : List Request) (r : Request) → flat_map request_text (rs ++ r ∷ []) ≡ flat_map request_text rs ++ request_text r
flat_push rs r = flat_map-append request_text rs (r ∷ []) ∙ ap (λ (t : List ℕ). flat_map request_text rs ++ t) (append-nil (request_text r))

-- those that come after the first of them
pub record Left (all dealt : List Request) (rest : List ℕ) : Type 0 where
  pub waits : List Request
  pub are : all ≡ dealt ++ waits
  pub text : rest ≡ flat_map request_text waits
  pub plain : AllPlain waits

left : (all dealt : List Request) (rest : List ℕ) → AllPlain all → AllPlain dealt → flat_map request_text all ≡ flat_map request_text dealt ++ rest → Left all dealt rest
left all [] rest p q e = record { waits = all; are = refl; text = sym e; plain = p }
left [] (d ∷ dealt) rest p q e = absurd (cc)
left (r ∷ all) (d ∷ dealt) rest p q e =
    let w = text_one r d (flat_map request_text all) (flat_map request_text dealt ++ rest) p.0 q.0 (e ∙ append_assoc (request_text d) (flat_map request_text dealt) rest) in
    let more = left all dealt rest p.1 q.1 w.1 in
    record { waits = more.waits; are = λ i. w.0 i ∷ more.are i; text = more.text; plain = more.plain }

-- What a spawner took begins with what it dealt with, and if it takes more the rest is what it holds.

record Begins (bytes : List ℕ) (dealt : List Request) : Type 0 where
  more : List ℕ
  is : bytes ≡ flat_map request_text dealt ++ more

begun : (i : Intake) (ahead bytes : List ℕ) (ended : Bool) (dealt : List Request) → Reads i ahead bytes ended dealt → Begins bytes dealt × AllPlain dealt
begun intake.Open ahead bytes ended dealt h = (record { more = ahead; is = h.1 }, plains dealt h.0)
begun intake.Ended ahead bytes ended dealt h = (record { more = bytes_to h.2.0; is = h.2.1.text }, plains dealt h.2.1.whole)
begun intake.TooLong ahead bytes ended dealt h =
    let long = h.2 in (
      record {
        more = bytes_to long.start ++ long.byte ∷ long.rest;
        is = long.split ∙ ap (λ (t : List ℕ). t ++ long.byte ∷ long.rest) long.text.text ∙ append_assoc (flat_map request_text dealt) (bytes_to long.start) (long.byte ∷ long.rest);
      },
      plains dealt long.text.whole,
    )

open_left : (i : Intake) (ahead bytes : List ℕ) (ended : Bool) (dealt : List Request) → i ≡ intake.Open → Reads i ahead bytes ended dealt → bytes ≡ flat_map request_text dealt ++ ahead
open_left i ahead bytes ended dealt is h = let so : Reads intake.Open ahead bytes ended dealt = subst (λ (j : Intake). Reads j ahead bytes ended dealt) is h in so.1

few_sum : (all first later more busy told : ℕ) → all ≡ first + later → first ≡ more + busy → told ≤ more → told ≤ all
few_sum all first later more busy told e f low = omega (arith, e, f, low)

module _ (told : List ℕ) (running : List Bool) (bytes : List ℕ) (ended : Bool) (p : Place) (k : Counts told running bytes ended p) (all : List Request) (plain : AllPlain all) (given : List ℕ)
    (is : flat_map request_text all ≡ bytes ++ given) where
  first : Begins bytes k.dealt × AllPlain k.dealt
  first = begun p.inbox.intake p.inbox.ahead bytes ended k.dealt k.reads

  -- of no slot more reports were given than requests
  pub told_few : (slot : ℕ) → times slot told ≤ asked slot all
  told_few slot =
      let b = first.0 in
      let l = left all k.dealt (b.more ++ given) plain first.1 (is ∙ ap (λ (t : List ℕ). t ++ given) b.is ∙ append_assoc (flat_map request_text k.dealt) b.more given) in
      few_sum (asked slot all) (asked slot k.dealt) (asked slot l.waits) (times slot (k.owed ++ told)) (runs slot running) (times slot told)
      (ap (asked slot) l.are ∙ asked_append slot k.dealt l.waits) (k.sums slot) (times_more slot k.owed told)

  -- what it hasn't dealt with
  pub unread : p.inbox.intake ≡ intake.Open → Left all k.dealt (p.inbox.ahead ++ given)
  unread takes =
      left all k.dealt (p.inbox.ahead ++ given) plain first.1
      (is ∙ ap (λ (t : List ℕ). t ++ given) (open_left p.inbox.intake p.inbox.ahead bytes ended k.dealt takes k.reads) ∙ append_assoc (flat_map request_text k.dealt) p.inbox.ahead given)
