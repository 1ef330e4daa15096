-- Bytes that a reader of reports takes, one part after the other, and how many reports of a slot there are.
use Rattle.std.proofs.Common.{◌≡◌, ℕ, ◌+◌, ◌≤◌, List, [], ◌∷◌, ◌++◌, refl, sym, ap, ◌∙◌, append_assoc, arith}
use Rattle.std.specs.Prelude.{Option, drop, take}
use Rattle.std.proofs.lemmas.List.{append-nil, take-append-drop}
use Rattle.send_known.specs.declared.channel.Channel.{Channel}
use Rattle.spawn_protocol.specs.declared.report.Report.{Report}
use Rattle.spawn_protocol.specs.declared.request.Request.{Request}
use Rattle.spawn_protocol.specs.Report.{IsReport, Reader, kept, read_on, report_text, step}
use Rattle.spawn_protocol.specs.Report.Reader.{AtBegin}
use Rattle.spawn_protocol.proofs.Reports.{no_text, read_cut, read_is}
use Rattle.spawner_parts.specs.Counts.{one}
use Rattle.program_law.specs.Post.Posts.{AllTell, Done, told_of}

-- More bytes

abbrev After : List Report → List Report × Reader → List Report × Reader
After rs s = (rs ++ s.0, s.1)

pub read_more : (r : Reader) (xs ys : List ℕ) → read_on r (xs ++ ys) ≡ After (read_on r xs).0 (read_on (read_on r xs).1 ys)
read_more r [] ys = refl
read_more r (b ∷ xs) ys =
    ap (After (step r b).0) (read_more (step r b).1 xs ys)
    ∙ ap (λ (rs : List Report). let s : List Report × Reader = (rs, (read_on (read_on (step r b).1 xs).1 ys).1) in s)
    (sym (append_assoc (step r b).0 (read_on (step r b).1 xs).0 (read_on (read_on (step r b).1 xs).1 ys).0))

pub gives_more : (r : Reader) (xs ys : List ℕ) → (read_on r (xs ++ ys)).0 ≡ (read_on r xs).0 ++ (read_on (read_on r xs).1 ys).0
gives_more r xs ys = ap (λ (s : List Report × Reader). s.0) (read_more r xs ys)

pub holds_more : (r : Reader) (xs ys : List ℕ) → (read_on r (xs ++ ys)).1 ≡ (read_on (read_on r xs).1 ys).1
holds_more r xs ys = ap (λ (s : List Report × Reader). s.1) (read_more r xs ys)

-- of the first bytes of a text the first of its reports are read
read_part : (r : Reader) (k : ℕ) (text : List ℕ) → (more : List Report) × ((read_on r text).0 ≡ (read_on r (take k text)).0 ++ more)
read_part r k text = (
  (read_on (read_on r (take k text)).1 (drop k text)).0,
  ap (λ (t : List ℕ). (read_on r t).0) (sym (take-append-drop k text)) ∙ gives_more r (take k text) (drop k text),
)

pub read_in_part : (r : Reader) (told text : List ℕ) (k : ℕ) → (more : List Report) × ((read_on r (told ++ text)).0 ≡ (read_on r (told ++ take k text)).0 ++ more)
read_in_part r told text k =
    let w = read_part (read_on r told).1 k text in (
      w.0,
      gives_more r told text
          ∙ ap (λ (t : List Report). (read_on r told).0 ++ t) w.1
          ∙ sym (append_assoc (read_on r told).0 (read_on (read_on r told).1 (take k text)).0 w.0)
          ∙ ap (λ (t : List Report). t ++ w.0) (sym (gives_more r told (take k text))),
    )

-- One report

pub read_report : (r : Report) → IsReport r → read_on AtBegin (report_text r) ≡ (kept r ∷ [], AtBegin)
read_report r is =
    ap (read_on AtBegin) (sym (append-nil (report_text r)))
    ∙ read_is (report_text r ++ []) (kept r ∷ []) AtBegin (read_cut r [] [] AtBegin is no_text)

-- one more is read once it is whole
pub report_more : (reader : Reader) (told : List ℕ) (r : Report) → IsReport r → (read_on reader told).1 ≡ AtBegin
    → read_on reader (told ++ report_text r) ≡ After (read_on reader told).0 (kept r ∷ [], AtBegin)
report_more reader told r is at =
    read_more reader told (report_text r)
    ∙ ap (λ (q : Reader). After (read_on reader told).0 (read_on q (report_text r))) at
    ∙ ap (After (read_on reader told).0) (read_report r is)

-- How many of a slot

pub told_append : (slot : ℕ) (xs ys : List Report) → told_of slot (xs ++ ys) ≡ told_of slot xs + told_of slot ys
told_append slot [] ys = none (told_of slot ys) where
  none : (a : ℕ) → a ≡ 0 + a
  none a = omega arith
told_append slot (x ∷ xs) ys = ap (λ n. one slot x.slot + n) (told_append slot xs ys) ∙ joined (one slot x.slot) (told_of slot xs) (told_of slot ys)
  where
    joined : (a b c : ℕ) → a + (b + c) ≡ (a + b) + c
    joined a b c = omega arith

pub told_grow : (slot : ℕ) (xs ys : List Report) → told_of slot xs ≤ told_of slot (xs ++ ys)
told_grow slot xs ys = fewer (told_of slot (xs ++ ys)) (told_of slot xs) (told_of slot ys) (told_append slot xs ys) where
  fewer : (all first more : ℕ) → all ≡ first + more → first ≤ all
  fewer all first more e = omega arith

pub told_push : (slot : ℕ) (xs : List Report) (r : Report) → told_of slot (xs ++ r ∷ []) ≡ one slot r.slot + told_of slot xs
told_push slot xs r = told_append slot xs (r ∷ []) ∙ swapped (told_of slot xs) (one slot r.slot)
  where
    swapped : (a b : ℕ) → a + (b + 0) ≡ b + a
    swapped a b = omega arith

-- What they tell

module _ (c : Channel) (done : List Done) (last : ℕ → Option Request) where
  pub tell_append : (xs ys : List Report) → AllTell c done last xs → AllTell c done last ys → AllTell c done last (xs ++ ys)
  tell_append [] ys h k = k
  tell_append (x ∷ xs) ys h k = (h.0, tell_append xs ys h.1 k)

  pub tell_first : (xs ys : List Report) → AllTell c done last (xs ++ ys) → AllTell c done last xs
  tell_first [] ys h = tt
  tell_first (x ∷ xs) ys h = (h.0, tell_first xs ys h.1)

  pub tell_last : (xs ys : List Report) → AllTell c done last (xs ++ ys) → AllTell c done last ys
  tell_last [] ys h = h
  tell_last (x ∷ xs) ys h = tell_last xs ys h.1
