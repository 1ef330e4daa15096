-- Reports as a relation.
use Rattle.std.proofs.Common.{◌≡◌, ◌≢◌, ℕ, List, [], ◌∷◌, ◌++◌, Bool, true, false, Option, Some, None, eqb, leb, refl, sym, ap, ◌∙◌, subst, inl, inr, ⊎_elim, arith, codes}
use Rattle.std.specs.Prelude.{◌↔◌, ◌&&◌, ◌==◌, nat_lt, All, slice_index, unwrap_or, if◌then◌else◌}
use Rattle.std.specs.List.{AllByRecursion, list_all}
use Rattle.std.proofs.lemmas.Bool.{cases_Bool, cond_both, cond-true, cond-false, eqb-true, eqb-false, ne_eqb, ltb-true}
use Rattle.std.proofs.lemmas.List.Elements.{All-head, All-tail, All-from_recursion, recursion_from_All}
use Rattle.outside.specs.declared.spawner.Status.{Status}
use Rattle.outside.specs.declared.spawner.Status.TheVariants.{Ended, Crashed, Failed}
use Rattle.remote_spawn.specs.Parts.{IsMessageOf, IsVerdict, Message, first_message, is_verdict, parts, recipient_in_part, recipient_text}
use Rattle.remote_spawn.specs.Reports.{IsReport, IsReportOf, IsSuccess, IsTold, crashed, letter_by, letter_of_message, message_of, rank, report_of, silent, text_by, told, told_by, untold_by}
use Rattle.mail_bytes.specs.Texts.{line, HasNoNul}
use Rattle.remote_spawn.specs.Reports.IsReportOf.{CanNotRun, IsRefused, IsSilent, Tells}
use Rattle.remote_spawn.proofs.PartLaws.{are_parts, parts_are, is_first_message, first_message_is}

is_told : (output : List ℕ) → IsTold output (told output)
is_told output = record {
  these = parts output;
  are = are_parts output;
  message = message_of output;
  found = is_first_message (parts output);
  is = refl;
}

told_is : (output report : List ℕ) → IsTold output report → told output ≡ report
told_is output report h =
    let these : parts output ≡ h.these = parts_are output h.these h.are in
    let message : message_of output ≡ h.message = ap first_message these ∙ first_message_is h.these h.message h.found in
    ap (λ m. told_by (letter_by (slice_index output 0) m) (recipient_text (parts output)) m) message
    ∙ ap (λ t. told_by (letter_by (slice_index output 0) h.message) (recipient_text t) h.message) these
    ∙ sym h.is

-- of a program that exited

abbrev exited : ℕ → List ℕ → List ℕ
exited code output = unwrap_or (untold_by code output) (told output)

abbrev by_zero : ℕ → List ℕ → Bool → List ℕ
by_zero code output t =
    unwrap_or (if t then silent output else (if code == 111 then Some (line (codes "ZUnable to run qmail-remote.")) else Some (line (codes "DUnable to run qmail-remote.")))) (told output)

some_output : (b : ℕ) (output : List ℕ) → ◌≡◌ {A = List ℕ} (b ∷ output) [] → ⊥
some_output b output e = absurd (cc)

with_zero : (output : List ℕ) → IsReportOf 0 output (exited 0 output)
with_zero [] = IsSilent refl refl refl
with_zero (b ∷ output) = Tells refl (some_output b output) (is_told (b ∷ output))

abbrev by_exec : List ℕ → Bool → List ℕ
by_exec output t =
    unwrap_or (if t then Some (line (codes "ZUnable to run qmail-remote.")) else Some (line (codes "DUnable to run qmail-remote."))) (told output)

of_code : (code : ℕ) (output : List ℕ) → IsReportOf code output (exited code output)
of_code code output = ⊎_elim
    (λ zero. subst (λ c. IsReportOf c output (exited c output)) (sym (eqb-true code 0 zero)) (with_zero output))
    (λ other. ⊎_elim
    (λ exec. CanNotRun (eqb-true code 111 exec) (ap (by_zero code output) other ∙ ap (by_exec output) exec))
    (λ isnt. IsRefused (eqb-false code 0 other) (eqb-false code 111 isnt) (ap (by_zero code output) other ∙ ap (by_exec output) isnt))
    (cases_Bool (eqb code 111)))
    (cases_Bool (eqb code 0))

tells : (output report : List ℕ) → output ≢ [] → IsTold output report → exited 0 output ≡ report
tells [] report some h = absurd (some refl)
tells (b ∷ output) report some h = told_is (b ∷ output) report h

code_is : (code : ℕ) (output report : List ℕ) → IsReportOf code output report → exited code output ≡ report
code_is code output report (CanNotRun e is) = ap (λ c. exited c output) e ∙ sym is
code_is code output report (IsRefused other isnt is) = ap (by_zero code output) (ne_eqb code 0 other) ∙ ap (by_exec output) (ne_eqb code 111 isnt) ∙ sym is
code_is code output report (IsSilent e none is) = ap (λ c. exited c output) e ∙ ap (λ o. exited 0 o) none ∙ sym is
code_is code output report (Tells e some h) = ap (λ c. exited c output) e ∙ tells output report some h

pub report_is : (status : Status) (output report : List ℕ) → (report_of status output ≡ report) ↔ IsReport status output report
report_is (Ended code) output report = (λ e. subst (IsReportOf code output) e (of_code code output), code_is code output report)
report_is Crashed output report = (λ e. sym e, λ h. sym h)
report_is Failed output report = (λ e. sym e, λ h. sym h)

-- A report is a letter, and a text without NUL.

abbrev Lacks : List ℕ → Type 0
Lacks text = AllByRecursion (λ b. b ≢ 0) text

words_lack : (text : List ℕ) → list_all (λ b. nat_lt 0 b) text ≡ true → Lacks text
words_lack [] e = tt
words_lack (b ∷ text) e =
    let here = ltb-true 0 b (and_left (nat_lt 0 b) (list_all (λ b. nat_lt 0 b) text) e) in
    (λ zero. absurd (omega arith), words_lack text (and_right (nat_lt 0 b) (list_all (λ b. nat_lt 0 b) text) e))
  where
    and_left : (p q : Bool) → (p && q) ≡ true → p ≡ true
    and_left true q e = refl
    and_left false q e = absurd (cc)

    and_right : (p q : Bool) → (p && q) ≡ true → q ≡ true
    and_right true q e = e
    and_right false q e = absurd (cc)

lacks_append : (x y : List ℕ) → Lacks x → Lacks y → Lacks (x ++ y)
lacks_append [] y h k = k
lacks_append (b ∷ x) y h k = (h.0, lacks_append x y h.1 k)

no_nul : (text : List ℕ) → HasNoNul text → Lacks text
no_nul text h = recursion_from_All (λ b. b ≢ 0) text h

recipient_in_part_lacks : (part : List ℕ) → Lacks part → Lacks (recipient_in_part part)
recipient_in_part_lacks [] h = tt
recipient_in_part_lacks (b ∷ text) h = cond_both (is_verdict b) [] text Lacks (λ _. tt) (λ _. h.1)

recipient_lacks : (these : List (List ℕ)) → All HasNoNul these → Lacks (recipient_text these)
recipient_lacks [] h = tt
recipient_lacks (part ∷ more) h = recipient_in_part_lacks part (no_nul part (All-head HasNoNul part more h))

inside : (before : List (List ℕ)) (part : List ℕ) (after : List (List ℕ)) → All HasNoNul (before ++ part ∷ after) → HasNoNul part
inside [] part after h = All-head HasNoNul part after h
inside (first ∷ before) part after h = inside before part after (All-tail HasNoNul first (before ++ part ∷ after) h)

message_lacks : (these : List (List ℕ)) (o : Option Message) (letter : ℕ) → All HasNoNul these → IsMessageOf these o → Lacks (text_by letter o)
message_lacks these None letter h found = tt
message_lacks these (Some message) letter h found =
    cond_both (leb (rank message.0) (rank letter)) message.1 [] Lacks
    (λ _. (no_nul (message.0 ∷ message.1) (inside found.before (message.0 ∷ message.1) found.after (subst (All HasNoNul) found.split h))).1)
    (λ _. tt)

message_letter : (these : List (List ℕ)) (o : Option Message) → IsMessageOf these o → IsVerdict (letter_of_message o)
message_letter these None found = inr (inr refl)
message_letter these (Some message) found = found.verdict

letter_is : (first : ℕ) (o : Option Message) → IsVerdict (letter_of_message o) → IsVerdict (letter_by first o)
letter_is first o h =
    cond_both (eqb first 115) 90 (if first == 104 then 68 else letter_of_message o) IsVerdict (λ _. inr (inl refl))
    (λ _. cond_both (eqb first 104) 68 (letter_of_message o) IsVerdict (λ _. inr (inr refl)) (λ _. h))

not_zero : (letter : ℕ) → IsVerdict letter → letter ≢ 0
not_zero letter h e = ⊎_elim (λ k. absurd (omega arith)) (λ more. ⊎_elim (λ z. absurd (omega arith)) (λ d. absurd (omega arith)) more) h

abbrev IsPlain : List ℕ → Type 0
IsPlain report = IsVerdict (slice_index report 0) × Lacks report

told_plain : (output report : List ℕ) → IsTold output report → IsPlain report
told_plain output report h =
    let verdict = letter_is (slice_index output 0) h.message (message_letter h.these h.message h.found) in
    let letter = letter_by (slice_index output 0) h.message in
    let text = lacks_append (recipient_text h.these) (text_by letter h.message) (recipient_lacks h.these h.are.whole)
    (message_lacks h.these h.message letter h.are.whole h.found) in
    subst IsPlain (sym h.is) (verdict, (not_zero letter verdict, text))

code_plain : (code : ℕ) (output report : List ℕ) → IsReportOf code output report → IsPlain report
code_plain code output report (CanNotRun e is) = subst IsPlain (sym is) (inr (inl refl), words_lack (line (codes "ZUnable to run qmail-remote.")) refl)
code_plain code output report (IsRefused other isnt is) = subst IsPlain (sym is) (inr (inr refl), words_lack (line (codes "DUnable to run qmail-remote.")) refl)
code_plain code output report (IsSilent e none is) = subst IsPlain (sym is) (inr (inl refl), words_lack (line (codes "Zqmail-remote produced no output.")) refl)
code_plain code output report (Tells e some h) = told_plain output report h

plain : (status : Status) (output : List ℕ) → IsPlain (report_of status output)
plain (Ended code) output = code_plain code output (exited code output) (of_code code output)
plain Crashed output = (inr (inl refl), words_lack crashed refl)
plain Failed output = (inr (inl refl), words_lack crashed refl)

pub report_plain : (status : Status) (output : List ℕ) → IsVerdict (slice_index (report_of status output) 0) × All (λ b. b ≢ 0) (report_of status output)
report_plain status output = let w = plain status output in (w.0, All-from_recursion (λ b. b ≢ 0) (report_of status output) w.1)

-- A success was told.

number_clash : (a b : ℕ) → eqb a b ≡ false → a ≢ b
number_clash a b e = eqb-false a b e

letter_at : (report : List ℕ) (text : List ℕ) (letter : ℕ) → report ≡ letter ∷ text → slice_index report 0 ≡ 75 → letter ≡ 75
letter_at report text letter is e = sym (ap (λ t. slice_index t 0) is) ∙ e

no_letter : (o : Option Message) → letter_of_message o ≡ 75 → (text : List ℕ) × (o ≡ Some (75, text))
no_letter None e = absurd (number_clash 68 75 refl e)
no_letter (Some message) e = (message.1, ap (λ letter. let m : Message = (letter, message.1) in Some m) e)

-- which bytes lead to K
record LeadsToK (first : ℕ) (o : Option Message) : Type 0 where
  not_soft : first ≢ 115
  not_hard : first ≢ 104
  letter : letter_of_message o ≡ 75

leads : (first : ℕ) (o : Option Message) → letter_by first o ≡ 75 → LeadsToK first o
leads first o e = ⊎_elim
    (λ soft. absurd (number_clash 90 75 refl (sym (cond-true (eqb first 115) 90 (if first == 104 then 68 else letter_of_message o) soft) ∙ e)))
    (λ isnt. ⊎_elim
    (λ hard. absurd (number_clash 68 75 refl (sym (cond-true (eqb first 104) 68 (letter_of_message o) hard)
    ∙ sym (cond-false (eqb first 115) 90 (if first == 104 then 68 else letter_of_message o) isnt) ∙ e)))
    (λ nor. record {
      not_soft = eqb-false first 115 isnt;
      not_hard = eqb-false first 104 nor;
      letter = sym (cond-false (eqb first 104) 68 (letter_of_message o) nor) ∙ sym (cond-false (eqb first 115) 90 (if first == 104 then 68 else letter_of_message o) isnt) ∙ e;
    })
    (cases_Bool (eqb first 104)))
    (cases_Bool (eqb first 115))

told_success : (output report : List ℕ) → IsTold output report → slice_index report 0 ≡ 75 → IsSuccess (Ended 0) output
told_success output report h e =
    let way = leads (slice_index output 0) h.message (letter_at report (recipient_text h.these ++ text_by (letter_by (slice_index output 0) h.message) h.message) (letter_by (slice_index output 0) h.message) h.is e) in
    let message = no_letter h.message way.letter in
    record {
      ended = refl;
      these = h.these;
      are = h.are;
      text = message.0;
      found = subst (IsMessageOf h.these) message.1 h.found;
      not_soft = way.not_soft;
      not_hard = way.not_hard;
    }

code_success : (code : ℕ) (output report : List ℕ) → IsReportOf code output report → slice_index report 0 ≡ 75 → IsSuccess (Ended code) output
code_success code output report (CanNotRun e is) k = absurd (number_clash 90 75 refl (sym (ap (λ t. slice_index t 0) is) ∙ k))
code_success code output report (IsRefused other isnt is) k = absurd (number_clash 68 75 refl (sym (ap (λ t. slice_index t 0) is) ∙ k))
code_success code output report (IsSilent e none is) k = absurd (number_clash 90 75 refl (sym (ap (λ t. slice_index t 0) is) ∙ k))
code_success code output report (Tells e some h) k = subst (λ c. IsSuccess (Ended c) output) (sym e) (told_success output report h k)

success : (status : Status) (output : List ℕ) → slice_index (report_of status output) 0 ≡ 75 → IsSuccess status output
success (Ended code) output k = code_success code output (exited code output) (of_code code output) k
success Crashed output k = absurd (number_clash 90 75 refl k)
success Failed output k = absurd (number_clash 90 75 refl k)

-- and what was told gives K

not_empty : (before : List (List ℕ)) (part : List ℕ) (after : List (List ℕ)) → ◌≡◌ {A = List (List ℕ)} [] (before ++ part ∷ after) → ⊥
not_empty [] part after e = absurd (cc)
not_empty (first ∷ before) part after e = absurd (cc)

letter_k : (first : ℕ) (text : List ℕ) → first ≢ 115 → first ≢ 104 → letter_by first (Some (75, text)) ≡ 75
letter_k first text soft hard =
    cond-false (eqb first 115) 90 (if first == 104 then 68 else 75) (ne_eqb first 115 soft)
    ∙ cond-false (eqb first 104) 68 75 (ne_eqb first 104 hard)

gives_k : (output : List ℕ) → IsSuccess (Ended 0) output → slice_index (exited 0 output) 0 ≡ 75
gives_k [] h =
    let none : h.these ≡ [] = sym (parts_are [] h.these h.are) in
    absurd (not_empty h.found.before (75 ∷ h.text) h.found.after (sym none ∙ h.found.split))
gives_k (b ∷ output) h =
    let message : message_of (b ∷ output) ≡ Some (75, h.text) =
    ap first_message (parts_are (b ∷ output) h.these h.are) ∙ first_message_is h.these (Some (75, h.text)) h.found in
    ap (letter_by b) message ∙ letter_k b h.text h.not_soft h.not_hard

back : (status : Status) (output : List ℕ) → IsSuccess status output → slice_index (report_of status output) 0 ≡ 75
back status output h =
    ap (λ s. slice_index (report_of s output) 0) h.ended
    ∙ gives_k output (record { ended = refl; these = h.these; are = h.are; text = h.text; found = h.found; not_soft = h.not_soft; not_hard = h.not_hard })

pub success_is : (status : Status) (output : List ℕ) → (slice_index (report_of status output) 0 ≡ 75) ↔ IsSuccess status output
success_is status output = (success status output, back status output)
