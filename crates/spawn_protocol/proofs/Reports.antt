-- Reading reports is their grammar.
use Rattle.std.proofs.Common.{◌≡◌, ◌≢◌, ℕ, List, [], ◌∷◌, ◌++◌, length, map, refl, sym, ap, ◌∙◌, subst, ⊎_elim, arith, eqb, ltb}
use Rattle.std.specs.Prelude.{All, if◌then◌else◌, ◌==◌, flat_map, Option, Some, None, Result, Ok, Err}
use Rattle.std.specs.List.{AllByRecursion}
use Rattle.std.specs.declared.alloc.AllocError.{AllocError}
use Rattle.std.proofs.lemmas.Bool.{cases_lt, cases_eq, cond_both, eqb-true, eqb-false, lt-ltb, le-ltb, ne_eqb, cond-true, cond-false}
use Rattle.std.proofs.lemmas.List.{append-nil, append_assoc, length_push, length-take, flat_map_more, map_push, take_all, take-append-le}
use Rattle.std.proofs.lemmas.List.Elements.{All-push, All-nil, All-cons, All-take, All-map, All-weaker, recursion_from_All}
use Rattle.spawn_protocol.specs.declared.report.Report.{Report}
use Rattle.spawn_protocol.specs.Report.{report_text, IsReport, IsKept, kept_text, kept, Start, bytes_to, HasPlainStart, IsText, Reader, reader_of, HasRead, eaten, given, more_text, read_on, step, Takes}
use Rattle.spawn_protocol.specs.Report.Start.{NoByte, Numbered, Lettered}
use Rattle.spawn_protocol.specs.Report.Reader.{AtBegin, AtLetter, InText}
use Rattle.spawn_protocol.proofs.Runs.{run, run_quiet, run_some, run_one}

-- What stays of a text when a byte more comes.

pub kept_more : (text : List ℕ) (b : ℕ) → more_text (kept_text text) b ≡ kept_text (text ++ b ∷ [])
kept_more text b =
    ⊎_elim
    (λ lt. let all : kept_text text ≡ text = take_all 9998 text (omega arith) in
    ap (λ t. more_text t b) all ∙ cond-true (ltb (length text) 9998) (text ++ b ∷ []) text (lt-ltb (length text) 9998 lt)
    ∙ sym (take_all 9998 (text ++ b ∷ []) (omega (arith, length_push text b))))
    (λ ge. cond-false (ltb (length (kept_text text)) 9998) (kept_text text ++ b ∷ []) (kept_text text) (le-ltb (length (kept_text text)) 9998 (omega (arith, length-take 9998 text)))
    ∙ sym (take-append-le 9998 text (b ∷ []) ge))
    (cases_lt (length text) 9998)

-- the text of a report, by its letter
text_none : (r : Report) → r.letter ≡ 0 → report_text r ≡ r.slot ∷ 0 ∷ []
text_none r e = ap (λ (t : List ℕ). r.slot ∷ t) (ap (λ n. if n == 0 then 0 ∷ [] else r.letter ∷ (r.text ++ 0 ∷ [])) e)

text_lettered : (r : Report) → r.letter ≢ 0 → report_text r ≡ r.slot ∷ r.letter ∷ (r.text ++ 0 ∷ [])
text_lettered r n = ap (λ (t : List ℕ). r.slot ∷ t) (cond-false (eqb r.letter 0) (0 ∷ []) (r.letter ∷ (r.text ++ 0 ∷ [])) (ne_eqb r.letter 0 n))

-- What a byte does.

abbrev After : List ℕ → List Report → ℕ → List Report × Reader → Type 0
After bytes reports b s = HasRead (bytes ++ b ∷ []) (reports ++ s.0) s.1

pub no_text : HasRead [] [] AtBegin
no_text = record {
  whole = [];
  start = NoByte;
  text = record { text = refl; reports = All-nil IsReport; begun = tt };
  gave = refl;
  holds = refl;
}

goes : (bytes : List ℕ) (whole : List Report) (start next : Start) (b : ℕ) → IsText bytes whole start → bytes_to next ≡ bytes_to start ++ b ∷ [] → HasPlainStart next → After bytes (map kept whole) b ([], reader_of next)
goes bytes whole start next b h e plain = record {
  whole = whole;
  start = next;
  text = record {
    text = ap (λ t. t ++ b ∷ []) h.text ∙ append_assoc (flat_map report_text whole) (bytes_to start) (b ∷ []) ∙ ap (λ t. flat_map report_text whole ++ t) (sym e);
    reports = h.reports;
    begun = plain;
  };
  gave = append-nil (map kept whole);
  holds = refl;
}

gives : (bytes : List ℕ) (whole : List Report) (start : Start) (r : Report) (b : ℕ) → IsText bytes whole start → report_text r ≡ bytes_to start ++ b ∷ [] → IsReport r → After bytes (map kept whole) b (kept r ∷ [], AtBegin)
gives bytes whole start r b h e is = record {
  whole = whole ++ r ∷ [];
  start = NoByte;
  text = record {
    text = ap (λ t. t ++ b ∷ []) h.text ∙ append_assoc (flat_map report_text whole) (bytes_to start) (b ∷ []) ∙ ap (λ t. flat_map report_text whole ++ t) (sym e)
        ∙ flat_map_more report_text [] whole r ∙ sym (append-nil (flat_map report_text (whole ++ r ∷ [])));
    reports = All-push IsReport whole r h.reports is;
    begun = tt;
  };
  gave = sym (map_push kept whole r);
  holds = refl;
}

step_start : (bytes : List ℕ) (whole : List Report) (start : Start) (b : ℕ) → IsText bytes whole start → After bytes (map kept whole) b (step (reader_of start) b)
step_start bytes whole NoByte b h = goes bytes whole NoByte (Numbered b) b h refl tt
step_start bytes whole (Numbered slot) b h =
    cond_both (eqb b 0) (record { slot = slot; letter = 0; text = [] } ∷ [], AtBegin) ([], InText slot b []) (After bytes (map kept whole) b)
    (λ e. gives bytes whole (Numbered slot) (record { slot = slot; letter = 0; text = [] }) b h (ap (λ n. slot ∷ n ∷ []) (sym (eqb-true b 0 e)))
    (record { plain = All-nil (λ c. c ≢ 0); none = λ _. refl }))
    (λ n. goes bytes whole (Numbered slot) (Lettered slot b []) b h refl (eqb-false b 0 n, All-nil (λ c. c ≢ 0)))
step_start bytes whole (Lettered slot letter text) b h =
    cond_both (eqb b 0) (record { slot = slot; letter = letter; text = kept_text text } ∷ [], AtBegin) ([], InText slot letter (more_text (kept_text text) b)) (After bytes (map kept whole) b)
    (λ e. gives bytes whole (Lettered slot letter text) (record { slot = slot; letter = letter; text = text }) b h
    (text_lettered (record { slot = slot; letter = letter; text = text }) h.begun.0 ∙ ap (λ n. slot ∷ letter ∷ (text ++ n ∷ [])) (sym (eqb-true b 0 e)))
    (record { plain = h.begun.1; none = λ z. absurd (h.begun.0 z) }))
    (λ n. subst (λ t. After bytes (map kept whole) b ([], InText slot letter t)) (sym (kept_more text b))
    (goes bytes whole (Lettered slot letter text) (Lettered slot letter (text ++ b ∷ [])) b h refl (h.begun.0, All-push (λ c. c ≢ 0) text b h.begun.1 (eqb-false b 0 n))))

pub step_more : (bytes : List ℕ) (reports : List Report) (reader : Reader) (b : ℕ) → HasRead bytes reports reader → HasRead (bytes ++ b ∷ []) (reports ++ (step reader b).0) (step reader b).1
step_more bytes reports reader b h =
    subst (λ r. After bytes reports b (step r b)) (sym h.holds)
    (subst (λ t. After bytes t b (step (reader_of h.start) b)) (sym h.gave) (step_start bytes h.whole h.start b h.text))

pub taken : (old new : Reader) (b : ℕ) (result : Result (Option Report) AllocError) → Takes old b result new → (bytes : List ℕ) (reports : List Report) → HasRead bytes reports old → HasRead (bytes ++ eaten result b) (reports ++ given result) new
taken old new b (Ok (Some report)) w bytes reports h = subst (After bytes reports b) w (step_more bytes reports old b h)
taken old new b (Ok None) w bytes reports h = subst (After bytes reports b) w (step_more bytes reports old b h)
taken old new b (Err why) w bytes reports h =
    subst (λ r. HasRead (bytes ++ []) (reports ++ []) r) (sym w) (subst (λ t. HasRead t (reports ++ []) old) (sym (append-nil bytes)) (subst (λ t. HasRead bytes t old) (sym (append-nil reports)) h))

-- What is so is read.

on_plain : (slot letter : ℕ) (done : List ℕ) (b : ℕ) → b ≢ 0 → step (InText slot letter (kept_text done)) b ≡ ([], InText slot letter (kept_text (done ++ b ∷ [])))
on_plain slot letter done b plain =
    cond-false (eqb b 0) (record { slot = slot; letter = letter; text = kept_text done } ∷ [], AtBegin) ([], InText slot letter (more_text (kept_text done) b)) (ne_eqb b 0 plain)
    ∙ ap (λ (t : List ℕ). let s : List Report × Reader = ([], InText slot letter t) in s) (kept_more done b)

text_by : (slot letter : ℕ) (done text more : List ℕ) → AllByRecursion (λ b. b ≢ 0) text → run step (InText slot letter (kept_text done)) (text ++ more) ≡ run step (InText slot letter (kept_text (done ++ text))) more
text_by slot letter done [] more plain = ap (λ d. run step (InText slot letter (kept_text d)) more) (sym (append-nil done))
text_by slot letter done (b ∷ text) more plain =
    run_quiet step (InText slot letter (kept_text done)) (InText slot letter (kept_text (done ++ b ∷ []))) b (text ++ more) (on_plain slot letter done b plain.0)
    ∙ text_by slot letter (done ++ b ∷ []) text more plain.1
    ∙ ap (λ d. run step (InText slot letter (kept_text d)) more) (append_assoc done (b ∷ []) text)

run_lettered : (slot letter : ℕ) (text more : List ℕ) → letter ≢ 0 → All (λ b. b ≢ 0) text → run step AtBegin (slot ∷ letter ∷ (text ++ more)) ≡ run step (InText slot letter (kept_text text)) more
run_lettered slot letter text more some plain =
    run_quiet step (AtLetter slot) (InText slot letter []) letter (text ++ more)
    (cond-false (eqb letter 0) (record { slot = slot; letter = 0; text = [] } ∷ [], AtBegin) ([], InText slot letter []) (ne_eqb letter 0 some))
    ∙ text_by slot letter [] text more (recursion_from_All (λ b. b ≢ 0) text plain)

abbrev With : Report → List Report × Reader → List Report × Reader
With r s = (r ∷ s.0, s.1)

run_none : (r : Report) (more : List ℕ) → IsReport r → r.letter ≡ 0 → run step AtBegin (report_text r ++ more) ≡ With (kept r) (run step AtBegin more)
run_none r more h e =
    let text : r.text ≡ [] = h.none e in
    let is : (let s : Report = record { slot = r.slot; letter = 0; text = [] } in s) ≡ kept r =
    ap (λ (n : ℕ). let s : Report = record { slot = r.slot; letter = n; text = [] } in s) (sym e)
    ∙ ap (λ (t : List ℕ). let s : Report = record { slot = r.slot; letter = r.letter; text = kept_text t } in s) (sym text) in
    ap (λ t. run step AtBegin (t ++ more)) (text_none r e)
    ∙ ap (λ (s : Report). With s (run step AtBegin more)) is

run_some_letter : (r : Report) (more : List ℕ) → IsReport r → r.letter ≢ 0 → run step AtBegin (report_text r ++ more) ≡ With (kept r) (run step AtBegin more)
run_some_letter r more h n =
    ap (λ t. run step AtBegin (t ++ more)) (text_lettered r n)
    ∙ ap (λ t. run step AtBegin (r.slot ∷ r.letter ∷ t)) (append_assoc r.text (0 ∷ []) more)
    ∙ run_lettered r.slot r.letter r.text (0 ∷ more) n h.plain

run_report : (r : Report) (more : List ℕ) → IsReport r → run step AtBegin (report_text r ++ more) ≡ With (kept r) (run step AtBegin more)
run_report r more h = ⊎_elim (run_none r more h) (run_some_letter r more h) (cases_eq r.letter 0)

run_reports : (whole : List Report) (more : List ℕ) → AllByRecursion IsReport whole → run step AtBegin (flat_map report_text whole ++ more) ≡ (map kept whole ++ (run step AtBegin more).0, (run step AtBegin more).1)
run_reports [] more h = refl
run_reports (r ∷ whole) more h =
    ap (run step AtBegin) (append_assoc (report_text r) (flat_map report_text whole) more)
    ∙ run_report r (flat_map report_text whole ++ more) h.0
    ∙ ap (With (kept r)) (run_reports whole more h.1)

run_start : (start : Start) → HasPlainStart start → run step AtBegin (bytes_to start) ≡ ([], reader_of start)
run_start NoByte h = refl
run_start (Numbered slot) h = refl
run_start (Lettered slot letter text) h =
    ap (λ t. run step AtBegin (slot ∷ letter ∷ t)) (sym (append-nil text)) ∙ run_lettered slot letter text [] h.0 h.1

run_text : (bytes : List ℕ) (whole : List Report) (start : Start) → IsText bytes whole start → run step AtBegin bytes ≡ (map kept whole, reader_of start)
run_text bytes whole start h =
    ap (run step AtBegin) h.text
    ∙ run_reports whole (bytes_to start) (recursion_from_All IsReport whole h.reports)
    ∙ ap (λ (s : List Report × Reader). let t : List Report × Reader = (map kept whole ++ s.0, s.1) in t) (run_start start h.begun)
    ∙ ap (λ (t : List Report). let s : List Report × Reader = (t, reader_of start) in s) (append-nil (map kept whole))

pub read_runs : (bytes : List ℕ) (reports : List Report) (reader : Reader) → HasRead bytes reports reader → run step AtBegin bytes ≡ (reports, reader)
read_runs bytes reports reader h =
    run_text bytes h.whole h.start h.text
    ∙ ap (λ (t : List Report). let s : List Report × Reader = (t, reader_of h.start) in s) (sym h.gave)
    ∙ ap (λ (r : Reader). let s : List Report × Reader = (reports, r) in s) (sym h.holds)

run_is : (r : Reader) (bs : List ℕ) → read_on r bs ≡ run step r bs
run_is r [] = refl
run_is r (b ∷ bs) = ap (λ (s : List Report × Reader). let t : List Report × Reader = ((step r b).0 ++ s.0, s.1) in t) (run_is (step r b).1 bs)

pub read_is : (bytes : List ℕ) (reports : List Report) (reader : Reader) → HasRead bytes reports reader → read_on AtBegin bytes ≡ (reports, reader)
read_is bytes reports reader h = run_is AtBegin bytes ∙ read_runs bytes reports reader h

pub some_reading : (bytes : List ℕ) → (reports : List Report) × (reader : Reader) × HasRead bytes reports reader
some_reading = run_some step HasRead AtBegin no_text step_more read_runs

pub one_reading : (bytes : List ℕ) (reports others : List Report) (reader other : Reader) → HasRead bytes reports reader → HasRead bytes others other → (reports ≡ others) × (reader ≡ other)
one_reading = run_one step HasRead AtBegin no_text step_more read_runs

pub read_cut : (r : Report) (more : List ℕ) (reports : List Report) (reader : Reader) → IsReport r → HasRead more reports reader → HasRead (report_text r ++ more) (kept r ∷ reports) reader
read_cut r more reports reader is h = record {
  whole = r ∷ h.whole;
  start = h.start;
  text = record {
    text = ap (λ t. report_text r ++ t) h.text.text ∙ sym (append_assoc (report_text r) (flat_map report_text h.whole) (bytes_to h.start));
    reports = All-cons IsReport r h.whole is h.text.reports;
    begun = h.text.begun;
  };
  gave = ap (λ (t : List Report). kept r ∷ t) h.gave;
  holds = h.holds;
}

pub read_back : (r : Report) (more : List ℕ) (reports : List Report) (reader : Reader) → IsKept r → HasRead more reports reader → HasRead (report_text r ++ more) (r ∷ reports) reader
read_back r more reports reader is h =
    let same : kept r ≡ r = ap (λ (t : List ℕ). let s : Report = record { slot = r.slot; letter = r.letter; text = t } in s) (take_all 9998 r.text is.short) in
    subst (λ (s : Report). HasRead (report_text r ++ more) (s ∷ reports) reader) same (read_cut r more reports reader is.report h)

is_kept : (r : Report) → IsReport r → IsKept (kept r)
is_kept r h = record {
  report = record { plain = All-take (λ b. b ≢ 0) 9998 r.text h.plain; none = λ e. ap kept_text (h.none e) };
  short = omega (arith, length-take 9998 r.text);
}

pub all_kept : (bytes : List ℕ) (reports : List Report) (reader : Reader) → HasRead bytes reports reader → All IsKept reports
all_kept bytes reports reader h =
    subst (All IsKept) (sym h.gave) (All-map IsKept kept h.whole (All-weaker IsReport (λ r. IsKept (kept r)) is_kept h.whole h.text.reports))
