-- What the command `work` did, by what its functions say.
use Rattle.std.proofs.Common.{◌≡◌, ◌≢◌, ◌⊎◌, ◌<◌, ℕ, zero, suc, List, [], ◌∷◌, ◌++◌, length, take, Bool, true, Option, Some, None, Result, Ok, Err, Contains, inl, inr, refl, sym, ap, ◌∙◌, subst, ⊎_elim, arith}
use Rattle.std.specs.Prelude.{IfErr, OnOk}
use Rattle.std.proofs.lemmas.List.{append-nil}
use Rattle.std.proofs.lemmas.Result.{on_ok_weaker}
use Rattle.mail_bytes.specs.Told.{Meets, OnTold, Rose}
use Rattle.mem_fs.proofs.InTurn.{told_weaker}
use Rattle.scenario.specs.Text.{PrintsBadLine}
use Rattle.scenario.specs.Working.{IsWorked, PrintsWorked}
use Rattle.scenario.proofs.QuietWork.{work_is_quiet}
use Rattle.script_lines.specs.Contents.{Content}
use Rattle.script_lines.specs.Lines.{IsScript, most_bytes}
use Rattle.qmail_top.specs.declared.play_command.Failure.{Failure}
use Rattle.qmail_top.specs.declared.play_command.Failure.TheVariants.{Memory, Output, Input, Malformed}
use Rattle.qmail_top.specs.Command.{Counted, HasReason, IsChecked, IsPrintedAtEnd, IsReading, status_of}
use Rattle.qmail_top.specs.SafePlays.{WorksSafely}
use Rattle.qmail_top.specs.Works.{Streams, InputRose, OutputRose, WasWorked}
use Rattle.qmail_top.proofs.Commands.{completes, works_safely}

-- a status is this one
abbrev Is : ℕ → ℕ → Type 0
Is a b = a ≡ b

-- a run of threads never refuses a script
pub never_malformed : (P Q : Type 0) (r : Result (Unit {0}) Failure) → IfErr r (λ why. ((why ≡ Output) × P) ⊎ ((why ≡ Memory) × Q)) → r ≡ Err Malformed → ⊥
never_malformed P Q (Ok done) cause e = absurd (cc)
never_malformed P Q (Err why) cause e = ⊎_elim (λ output. let is = output.0 in absurd (cc)) (λ memory. let is = memory.0 in absurd (cc)) cause

never : {A : Type 0} (left : Option (List ℕ)) (P : List ℕ → Type 0) (impossible : A → ⊥) → OnTold left (λ script. A → P script)
never None P impossible = tt
never (Some script) P impossible = λ is. absurd (impossible is)

-- A script that was read, and what its run says

-- bytes that are a script are all that its source had
read_all : (before after bytes : List ℕ) (content : Content) → IsReading before after bytes → IsScript bytes content → after ≡ []
read_all before after bytes content reading script = ⊎_elim (λ end. end) (λ over. let most = script.short in absurd (omega arith)) reading.enough

whole_script : (before after bytes : List ℕ) (content : Content) → IsReading before after bytes → IsScript bytes content → IsScript before content
whole_script before after bytes content reading script =
    let all : before ≡ bytes = reading.taken ∙ (ap (λ (t : List ℕ). bytes ++ t) (read_all before after bytes content reading script) ∙ append-nil bytes) in
    subst (λ (t : List ℕ). IsScript t content) (sym all) script

-- what is printed of them is printed of the script
pub printed_of : (before after old new : Option (List ℕ)) (bytes : List ℕ) (content : Content) (r : Result (Unit {0}) Failure) → Meets before after (λ script rest. IsReading script rest bytes) → IsScript bytes content
    → OnOk r (Meets old new (λ x y. (text : List ℕ) × IsWorked content.opening content.lines text × (y ≡ x ++ text)))
    → OnTold before (λ script. OnOk r (Meets old new (λ x y. (text : List ℕ) × PrintsWorked script text × (y ≡ x ++ text))))
printed_of (Some before) (Some after) old new bytes content r reading script printed =
    on_ok_weaker r (λ told. told_weaker old new (λ x y t. (t.0, record { content = content; says = whole_script before after bytes content reading script; worked = t.1 }, t.2)) told) printed
printed_of (Some before) None old new bytes content r reading script printed = absurd reading
printed_of None after old new bytes content r reading script printed = tt

pub begun_of : (before after old new : Option (List ℕ)) (bytes : List ℕ) (content : Content) (r : Result (Unit {0}) Failure) → Meets before after (λ script rest. IsReading script rest bytes) → IsScript bytes content
    → (r ≡ Err Output → Meets old new (λ x y. (text : List ℕ) × (k : ℕ) × IsWorked content.opening content.lines text × (y ≡ x ++ take k text)))
    → IfErr r (λ why. OnTold before (λ script. why ≡ Output → Meets old new (λ x y. (text : List ℕ) × (k : ℕ) × PrintsWorked script text × (y ≡ x ++ take k text))))
begun_of before after old new bytes content (Ok done) reading script begun = tt
begun_of (Some before) (Some after) old new bytes content (Err why) reading script begun = λ is.
    told_weaker old new (λ x y t. (t.0, t.1, record { content = content; says = whole_script before after bytes content reading script; worked = t.2 }, t.3)) (begun (ap Err is))
begun_of (Some before) None old new bytes content (Err why) reading script begun = absurd reading
begun_of None after old new bytes content (Err why) reading script begun = tt

-- why a run ended, by what it says, if the source hadn't failed
pub run_reason : (r : Result (Unit {0}) Failure) (source sink : Counted) (Same : Type 0) → IfErr r (λ why. ((why ≡ Output) × Rose sink.before sink.after) ⊎ ((why ≡ Memory) × Same)) → (Same → sink.after ≡ sink.before) → source.after ≡ source.before
    → IfErr r (λ why. HasReason why source sink)
run_reason (Ok done) source sink Same cause still calm = tt
run_reason (Err why) source sink Same cause still calm = ⊎_elim
    (λ output. subst (λ (w : Failure). HasReason w source sink) (sym output.0) output.1)
    (λ memory. subst (λ (w : Failure). HasReason w source sink) (sym memory.0) (calm, still memory.1))
    cause

pub run_unwritten : (r : Result (Unit {0}) Failure) (P Same : Type 0) → IfErr r (λ why. ((why ≡ Output) × P) ⊎ ((why ≡ Memory) × Same)) → IfErr r (λ why. (why ≡ Input) ⊎ (why ≡ Memory) → Same)
run_unwritten (Ok done) P Same cause = tt
run_unwritten (Err why) P Same cause = ⊎_elim
    (λ output e. let is = output.0 in ⊎_elim (λ input. absurd (cc)) (λ memory. absurd (cc)) e)
    (λ memory e. memory.1)
    cause

pub run_refuses : (r : Result (Unit {0}) Failure) (left : Option (List ℕ)) (P : List ℕ → Type 0) → (r ≡ Err Malformed → ⊥) → IfErr r (λ why. OnTold left (λ script. why ≡ Malformed → P script))
run_refuses (Ok done) left P other = tt
run_refuses (Err why) left P other = never left P (λ is. other (ap Err is))

-- it was read to its end
pub run_unended : (ended : Option Bool) (Unprinted Refused : Type 0) (left : Option (List ℕ)) (bytes : List ℕ) (content : Content) → (most_bytes < length bytes) ⊎ OnTold ended (λ is. is ≡ true) → IsScript bytes content → IsPrintedAtEnd ended Unprinted Refused left
run_unended None Unprinted Refused left bytes content told script = tt
run_unended (Some is) Unprinted Refused left bytes content told script = λ e. ⊎_elim (λ long. let short = script.short in absurd (omega arith)) (λ end. absurd (cc)) told

pub run_ended : (r : Result (Unit {0}) Failure) (ended : Option Bool) (bytes : List ℕ) (content : Content) → (most_bytes < length bytes) ⊎ OnTold ended (λ is. is ≡ true) → IsScript bytes content → OnOk r (OnTold ended (λ is. is ≡ true))
run_ended (Ok done) ended bytes content told script = ⊎_elim (λ long. let short = script.short in absurd (omega arith)) (λ end. end) told
run_ended (Err why) ended bytes content told script = tt

pub run_reached : (before after : Option (List ℕ)) (bytes : List ℕ) (content : Content) (Unwritten Refused : Type 0) → Meets before after (λ script rest. IsReading script rest bytes) → IsScript bytes content
    → Meets before after (λ script rest. rest ≢ [] → Unwritten ⊎ (Refused × (most_bytes < length script)))
run_reached before after bytes content Unwritten Refused reading script = told_weaker before after (λ x y read some. absurd (some (read_all x y bytes content read script))) reading

pub run_read : (before after : Option (List ℕ)) (bytes : List ℕ) (content : Content) (Done : Type 0) → Meets before after (λ script rest. IsReading script rest bytes) → IsScript bytes content → Meets before after (λ script rest. Done → rest ≡ [])
run_read before after bytes content Done reading script = told_weaker before after (λ x y read done. read_all x y bytes content read script) reading

-- What a run was, whole or cut off

all_safely : (left old new : Option (List ℕ)) (done : Type 0) → OnTold left (λ script. Meets old new (λ before after. (text : List ℕ) × PrintsWorked script text × (after ≡ before ++ text)))
    → OnTold left (λ script. done → Meets old new (λ before after. (text : List ℕ) × WorksSafely script text × (after ≡ before ++ text)))
all_safely None old new done prints = tt
all_safely (Some script) old new done prints = λ is. told_weaker old new (λ before after took. (took.0, works_safely script took.0 took.1 (work_is_quiet _ _ _ took.1.worked), took.2)) prints

first_safely : (left old new : Option (List ℕ)) (failed : Type 0) → OnTold left (λ script. failed → Meets old new (λ before after. (text : List ℕ) × (k : ℕ) × PrintsWorked script text × (after ≡ before ++ take k text)))
    → OnTold left (λ script. failed → Meets old new (λ before after. (text : List ℕ) × (k : ℕ) × WorksSafely script text × (after ≡ before ++ take k text)))
first_safely None old new failed begins = tt
first_safely (Some script) old new failed begins = λ is. told_weaker old new (λ before after took. (took.0, took.1, works_safely script took.0 took.2 (work_is_quiet _ _ _ took.2.worked), took.3)) (begins is)

either_told : (left : Option (List ℕ)) (P Q : List ℕ → Type 0) → ((script : List ℕ) → P script → Q script) → OnTold left P → OnTold left Q
either_told None P Q weaker told = tt
either_told (Some script) P Q weaker told = weaker script told

-- it was done to its end
pub worked_whole : (old new : Streams) (Unwritten : Type 0) → OnTold old.left (λ script. Meets old.taken new.taken (λ before after. (text : List ℕ) × PrintsWorked script text × (after ≡ before ++ text)))
    → Meets old.left new.left (λ script rest. rest ≢ [] → Unwritten ⊎ (Is 0 91 × (most_bytes < length script))) → Meets old.left new.left (λ script rest. Is 0 0 → rest ≡ []) → OnTold new.ended (λ is. is ≡ true)
    → IsPrintedAtEnd new.ended Unwritten (Is 0 91) old.left → OnTold old.left (λ script. IsChecked script (Ok tt)) → WasWorked old new Unwritten 0
worked_whole old new Unwritten prints reached ended told_end unended checked = record {
  input = λ e. absurd (omega (arith, e));
  output = λ e. absurd (omega (arith, e));
  unfailed = λ e. absurd (omega (arith, e));
  malformed = never old.left _ (λ e. omega (arith, e));
  checked = either_told old.left _ _ (λ script is e. is.played tt) checked;
  known = (0, omega arith, refl);
  complete = either_told old.left (λ script. IsChecked script (Ok tt)) _ (λ script is content says calm quiet. inl refl) checked;
  prints = all_safely old.left old.taken new.taken (Is 0 0) prints;
  begins = never old.left _ (λ e. omega (arith, e));
  refuses = never old.left _ (λ e. omega (arith, e));
  reached = reached;
  unended = unended;
  ended = ended;
  told_end = λ e. told_end;
  unwritten = λ e. ⊎_elim (λ e. absurd (omega (arith, e))) (λ e. absurd (omega (arith, e))) e;
}

-- what is printed at the end, by what refuses it
pub unended_as : (ended : Option Bool) (Unwritten A B : Type 0) (left : Option (List ℕ)) → (A → B) → IsPrintedAtEnd ended Unwritten A left → IsPrintedAtEnd ended Unwritten B left
unended_as None Unwritten A B left f told = tt
unended_as (Some is) Unwritten A B left f told = λ e. ⊎_elim (λ none. inl none) (λ refused. inr (f refused.0, refused.1)) (told e)

-- what is printed before the end, by what refuses it
pub reached_as : (before after : Option (List ℕ)) (Unwritten A B : Type 0) → (A → B) → Meets before after (λ script rest. rest ≢ [] → Unwritten ⊎ (A × (most_bytes < length script)))
    → Meets before after (λ script rest. rest ≢ [] → Unwritten ⊎ (B × (most_bytes < length script)))
reached_as before after Unwritten A B f told = told_weaker before after (λ x y h some. ⊎_elim (λ none. inl none) (λ refused. inr (f refused.0, refused.1)) (h some)) told

-- a source that was read to its end if this holds was so also if more does
pub read_as : (before after : Option (List ℕ)) (A B : Type 0) → (B → A) → Meets before after (λ script rest. A → rest ≡ []) → Meets before after (λ script rest. B → rest ≡ [])
read_as before after A B f told = told_weaker before after (λ x y h is. h (f is)) told

never_read : {A : Type 0} (before after : Option (List ℕ)) (P : List ℕ → List ℕ → Type 0) (impossible : A → ⊥) → Meets before after P → Meets before after (λ script rest. A → rest ≡ [])
never_read before after P impossible told = told_weaker before after (λ x y h is. absurd (impossible is)) told

module _ (old new : Streams) (Unwritten : Type 0) where
  abbrev Begins : Failure → Type 0
  Begins why = OnTold old.left (λ script. why ≡ Output → Meets old.taken new.taken (λ before after. (text : List ℕ) × (k : ℕ) × PrintsWorked script text × (after ≡ before ++ take k text)))

  abbrev Refuses : Failure → Type 0
  Refuses why = OnTold old.left (λ script. why ≡ Malformed → Meets old.taken new.taken (λ before after. (text : List ℕ) × PrintsBadLine script text (OutputRose old new) × (after ≡ before ++ text)))

  abbrev Reached : Failure → Type 0
  Reached why = Meets old.left new.left (λ script rest. rest ≢ [] → Unwritten ⊎ ((why ≡ Malformed) × (most_bytes < length script)))

  abbrev Caused : Failure → Type 0
  Caused why = HasReason why (record { before = old.input_faults; after = new.input_faults }) (record { before = old.output_faults; after = new.output_faults })

  failed : (why : Failure) → Begins why → Refuses why → Reached why → IsPrintedAtEnd new.ended Unwritten (why ≡ Malformed) old.left → Caused why → ((why ≡ Input) ⊎ (why ≡ Memory) → Unwritten) → OnTold old.left (λ script. IsChecked script (Err why))
      → WasWorked old new Unwritten (status_of why)
  failed Memory begins refuses reached unended cause unwritten checked = record {
    input = λ e. absurd (omega (arith, e));
    output = λ e. absurd (omega (arith, e));
    unfailed = λ e. cause;
    malformed = never old.left _ (λ e. omega (arith, e));
    checked = never old.left _ (λ e. ⊎_elim (λ e. absurd (omega (arith, e))) (λ e. absurd (omega (arith, e))) e);
    known = (1, omega arith, refl);
    complete = completes Memory old.left _ _ cause checked;
    prints = never old.left _ (λ e. omega (arith, e));
    begins = never old.left _ (λ e. omega (arith, e));
    refuses = never old.left _ (λ e. omega (arith, e));
    reached = reached_as old.left new.left Unwritten _ _ (λ e. absurd (cc)) reached;
    unended = unended_as new.ended Unwritten _ _ old.left (λ e. absurd (cc)) unended;
    ended = never_read old.left new.left _ (λ e. omega (arith, e)) reached;
    told_end = λ e. absurd (omega (arith, e));
    unwritten = λ e. unwritten (inr refl);
  }
  failed Output begins refuses reached unended cause unwritten checked = record {
    input = λ e. absurd (omega (arith, e));
    output = λ e. cause;
    unfailed = λ e. absurd (omega (arith, e));
    malformed = never old.left _ (λ e. omega (arith, e));
    checked = either_told old.left _ _ (λ script is e. is.played tt) checked;
    known = (2, omega arith, refl);
    complete = completes Output old.left _ _ cause checked;
    prints = never old.left _ (λ e. omega (arith, e));
    begins = first_safely old.left old.taken new.taken (Is 53 53) (either_told old.left _ _ (λ script is e. is refl) begins);
    refuses = never old.left _ (λ e. omega (arith, e));
    reached = reached_as old.left new.left Unwritten _ _ (λ e. absurd (cc)) reached;
    unended = unended_as new.ended Unwritten _ _ old.left (λ e. absurd (cc)) unended;
    ended = never_read old.left new.left _ (λ e. omega (arith, e)) reached;
    told_end = λ e. absurd (omega (arith, e));
    unwritten = λ e. ⊎_elim (λ e. absurd (omega (arith, e))) (λ e. absurd (omega (arith, e))) e;
  }
  failed Input begins refuses reached unended cause unwritten checked = record {
    input = λ e. cause;
    output = λ e. absurd (omega (arith, e));
    unfailed = λ e. absurd (omega (arith, e));
    malformed = never old.left _ (λ e. omega (arith, e));
    checked = never old.left _ (λ e. ⊎_elim (λ e. absurd (omega (arith, e))) (λ e. absurd (omega (arith, e))) e);
    known = (3, omega arith, refl);
    complete = completes Input old.left _ _ cause checked;
    prints = never old.left _ (λ e. omega (arith, e));
    begins = never old.left _ (λ e. omega (arith, e));
    refuses = never old.left _ (λ e. omega (arith, e));
    reached = reached_as old.left new.left Unwritten _ _ (λ e. absurd (cc)) reached;
    unended = unended_as new.ended Unwritten _ _ old.left (λ e. absurd (cc)) unended;
    ended = never_read old.left new.left _ (λ e. omega (arith, e)) reached;
    told_end = λ e. absurd (omega (arith, e));
    unwritten = λ e. unwritten (inl refl);
  }
  failed Malformed begins refuses reached unended cause unwritten checked = record {
    input = λ e. absurd (omega (arith, e));
    output = λ e. absurd (omega (arith, e));
    unfailed = λ e. absurd (omega (arith, e));
    malformed = either_told old.left _ _ (λ script is e. is.refused refl) checked;
    checked = never old.left _ (λ e. ⊎_elim (λ e. absurd (omega (arith, e))) (λ e. absurd (omega (arith, e))) e);
    known = (4, omega arith, refl);
    complete = completes Malformed old.left _ _ cause checked;
    prints = never old.left _ (λ e. omega (arith, e));
    begins = never old.left _ (λ e. omega (arith, e));
    refuses = either_told old.left _ _ (λ script is e. is refl) refuses;
    reached = reached_as old.left new.left Unwritten _ _ (λ e. refl) reached;
    unended = unended_as new.ended Unwritten _ _ old.left (λ e. refl) unended;
    ended = never_read old.left new.left _ (λ e. omega (arith, e)) reached;
    told_end = λ e. absurd (omega (arith, e));
    unwritten = λ e. ⊎_elim (λ e. absurd (omega (arith, e))) (λ e. absurd (omega (arith, e))) e;
  }

  -- it failed
  pub worked_failed : (why : Failure) (status : ℕ) → status ≡ status_of why → Begins why → Refuses why → Reached why → IsPrintedAtEnd new.ended Unwritten (why ≡ Malformed) old.left → Caused why → ((why ≡ Input) ⊎ (why ≡ Memory) → Unwritten)
      → OnTold old.left (λ script. IsChecked script (Err why)) → WasWorked old new Unwritten status
  worked_failed why status is begins refuses reached unended cause unwritten checked = subst (WasWorked old new Unwritten) (sym is) (failed why begins refuses reached unended cause unwritten checked)

-- there was no memory for its words, and nothing was done
pub worked_nothing : (s : Streams) (Unwritten : Type 0) → Unwritten → WasWorked s s Unwritten 51
worked_nothing s Unwritten none = record {
  input = λ e. absurd (omega (arith, e));
  output = λ e. absurd (omega (arith, e));
  unfailed = λ e. (refl, refl);
  malformed = never s.left _ (λ e. omega (arith, e));
  checked = never s.left _ (λ e. ⊎_elim (λ e. absurd (omega (arith, e))) (λ e. absurd (omega (arith, e))) e);
  known = (1, omega arith, refl);
  complete = all_complete s.left;
  prints = never s.left _ (λ e. omega (arith, e));
  begins = never s.left _ (λ e. omega (arith, e));
  refuses = never s.left _ (λ e. omega (arith, e));
  reached = all_reached s.left;
  unended = all_unwritten s.ended;
  ended = never_read s.left s.left _ (λ e. omega (arith, e)) (all_reached s.left);
  told_end = λ e. absurd (omega (arith, e));
  unwritten = λ e. none;
}
  where
    all_complete : (left : Option (List ℕ)) → OnTold left (λ script. (content : Content) → IsScript script content → ¬ (InputRose s s) → ¬ (OutputRose s s) → Is 51 0 ⊎ Is 51 51)
    all_complete None = tt
    all_complete (Some script) = λ content says calm quiet. inr refl

    all_reached : (left : Option (List ℕ)) → Meets left left (λ script rest. rest ≢ [] → Unwritten ⊎ (Is 51 91 × (most_bytes < length script)))
    all_reached None = tt
    all_reached (Some script) = λ some. inl none

    all_unwritten : (ended : Option Bool) → IsPrintedAtEnd ended Unwritten (Is 51 91) s.left
    all_unwritten None = tt
    all_unwritten (Some is) = λ e. inl none

-- it never ends as words that are no command do
pub no_usage : (status : ℕ) → Contains (0 ∷ 51 ∷ 53 ∷ 54 ∷ 91 ∷ []) status → status ≢ 100
no_usage status (zero, within, is) e = absurd (omega arith)
no_usage status (suc zero, within, is) e = absurd (omega arith)
no_usage status (suc (suc zero), within, is) e = absurd (omega arith)
no_usage status (suc (suc (suc zero)), within, is) e = absurd (omega arith)
no_usage status (suc (suc (suc (suc zero))), within, is) e = absurd (omega arith)
no_usage status (suc (suc (suc (suc (suc k)))), within, is) e = absurd (omega arith)
