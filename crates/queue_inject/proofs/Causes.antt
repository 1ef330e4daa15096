-- Which exit status comes when, and why.
use Rattle.std.proofs.Common.{◌≡◌, ◌≢◌, ◌⊎◌, ℕ, ◌+◌, List, length, Option, Some, None, Bool, true, false, refl, sym, ap, ◌∙◌, subst, ⊎_elim, inl, inr, arith}
use Rattle.std.specs.Prelude.{if◌then◌else◌, nat_lt, slice_get, ◌==◌, ◌||◌, IsTrue}
use Rattle.std.specs.Option.{option_or}
use Rattle.std.proofs.lemmas.Bool.{ltb-true}
use Rattle.call_fs.specs.declared.calls.CallData.{CallData}
use Rattle.call_fs.specs.declared.calls.Answer.TheVariants.{Refused}
use Rattle.call_fs.specs.declared.calls.FsError.TheVariants.{Memory}
use Rattle.call_fs.specs.declared.program.Ready.{Ready}
use Rattle.call_fs.specs.declared.past.NeedData.TheVariants as needs
use Rattle.call_fs.specs.declared.past.Own.{Own}
use Rattle.envelope_records.specs.declared.envelope.EnvFault.{EnvFault}
use Rattle.envelope_records.specs.declared.envelope.EnvFault.TheVariants.{Format, TooLong, EndEarly}
use Rattle.envelope_records.specs.Envelope.{Step, step, Reading, read_envelope}
use Rattle.envelope_records.specs.Envelope.Step.{Goes, Ends, Fails}
use Rattle.envelope_records.specs.Envelope.Reading.{Whole, Open, Broken}
use Rattle.queue_inject.specs.declared.injection.Arguments.{Arguments}
use Rattle.queue_inject.specs.declared.injection.InputEnd.{InputEnd}
use Rattle.queue_inject.specs.declared.injection.InputEnd.TheVariants as ends
use Rattle.queue_inject.specs.declared.row.Row.{Row}
use Rattle.queue_inject.specs.declared.row.Row.TheVariants as at
use Rattle.queue_inject.specs.Texts.{limit, message_text, end_status, message_end, fault_status, past_limit, envelope_text, envelope_of, intd_text}
use Rattle.queue_inject.specs.Table.{place_after, due_by, has_input, is_late, in_time, Next}
use Rattle.queue_inject.specs.Run.{IsRun}
use Rattle.call_fs.specs.Past.{HasCall}
use Rattle.queue_inject.specs.Causes.{first_fault, IsTry, IsTaken, IsQueuing, IsFailure, FailsWith, IsCutShort, is_of_input, is_of_call, IsCausedBy}
use Rattle.queue_inject.proofs.Failures.{IsOfKind, kind_of_call, by_memory, fails, has_or, has_gives, has_failure}
use Rattle.queue_inject.proofs.Runs.{IsEnding, IsAt, run_at, tried}
use Rattle.queue_inject.proofs.Runs.IsEnding.{ByInput, ByCall}

-- The statuses of faults of the input

abbrev IsInputStatus : Option ℕ → Type 0
IsInputStatus None = Unit {0}
IsInputStatus (Some status) = IsOfKind true status

of_end : (end : InputEnd) → IsOfKind true (end_status end)
of_end ends.Whole = record { no_success = refl; no_timeout = refl; of_input = refl; of_call = refl }
of_end ends.Unread = record { no_success = refl; no_timeout = refl; of_input = refl; of_call = refl }
of_end ends.Malformed = record { no_success = refl; no_timeout = refl; of_input = refl; of_call = refl }

of_message : (t : Bool) (end : InputEnd) → IsInputStatus (if t then Some 31 else message_end end)
of_message true end = record { no_success = refl; no_timeout = refl; of_input = refl; of_call = refl }
of_message false ends.Whole = tt
of_message false ends.Unread = of_end ends.Unread
of_message false ends.Malformed = of_end ends.Malformed

of_fault : (fault : EnvFault) → IsOfKind true (fault_status fault)
of_fault TooLong = record { no_success = refl; no_timeout = refl; of_input = refl; of_call = refl }
of_fault EndEarly = of_end ends.Unread
of_fault Format = of_end ends.Malformed

of_step : (s : Step) → IsOfKind true (past_limit s)
of_step (Fails TooLong) = of_fault TooLong
of_step (Fails Format) = of_message true ends.Whole
of_step (Fails EndEarly) = of_message true ends.Whole
of_step (Goes stage) = of_message true ends.Whole
of_step (Ends sender recipients) = of_message true ends.Whole

of_envelope : (reading : Reading) (end : InputEnd) (next : Option ℕ) → IsInputStatus (envelope_text reading end next).fault
of_envelope (Whole sender recipients) end next = tt
of_envelope (Open stage) end None = of_end end
of_envelope (Open stage) end (Some b) = of_step (step stage b)
of_envelope (Broken before fault) end next = of_fault fault

either_input : (a b : Option ℕ) → IsInputStatus a → IsInputStatus b → IsInputStatus (option_or a b)
either_input None b h k = k
either_input (Some status) b h k = h

input_status : (args : Arguments) → IsInputStatus (first_fault args)
unfolding message_text intd_text envelope_of
input_status args = either_input (message_text args).fault (intd_text args).fault
    (of_message (nat_lt limit (length args.message)) args.message_end)
    (of_envelope (read_envelope _) args.envelope_end (slice_get args.envelope limit))

pub kind_of_input : (args : Arguments) (status : ℕ) → first_fault args ≡ Some status → IsOfKind true status
kind_of_input args status e = subst IsInputStatus e (input_status args)

-- of each text
pub kind_of_message : (args : Arguments) (status : ℕ) → (message_text args).fault ≡ Some status → IsOfKind true status
unfolding message_text
kind_of_message args status e = subst IsInputStatus e (of_message (nat_lt limit (length args.message)) args.message_end)

pub kind_of_todo : (args : Arguments) (status : ℕ) → (intd_text args).fault ≡ Some status → IsOfKind true status
unfolding intd_text envelope_of
kind_of_todo args status e = subst IsInputStatus e (of_envelope (read_envelope _) args.envelope_end (slice_get args.envelope limit))

-- The end of a run

data Outcome (args : Arguments) (past : List Own) (now status : ℕ) : Type 0 where
  CutShort : IsCutShort args past now → ¬ (HasCall past IsQueuing) → 52 ≡ status → Outcome args past now status
  Well : ¬ (IsCutShort args past now) → first_fault args ≡ None → ¬ (HasCall past (IsFailure args)) → HasCall past IsQueuing → 0 ≡ status → Outcome args past now status
  Badly : ¬ (IsCutShort args past now) → IsEnding args past status → Outcome args past now status

unqueued_at : (args : Arguments) (past : List Own) (status : ℕ) → IsEnding args past status → ¬ (HasCall past IsQueuing)
unqueued_at args past status (ByInput clear fault) = clear.unqueued
unqueued_at args past status (ByCall unqueued f one) = unqueued

pub out_of_time : (input late : Bool) (call : CallData) (status : ℕ) → in_time input late (needs.File call) ≡ needs.Ended status → (late ≡ true) × (52 ≡ status)
out_of_time true true call status e = (refl, cc)
out_of_time true false call status e = absurd (cc)
out_of_time false late call status e = absurd (cc)

module _ (args : Arguments) (past : List Own) (now : ℕ) (input : Bool) (status : ℕ) where
  abbrev EndsAt : Row → Type 0
  EndsAt row = in_time input (is_late args now) (due_by args row) ≡ needs.Ended status

  cut_short : (row : Row) (call : CallData) → place_after args past ≡ row → due_by args row ≡ needs.File call → ¬ (HasCall past IsQueuing) → EndsAt row → Outcome args past now status
  cut_short row call is due unqueued end =
      let told = out_of_time input (is_late args now) call status (ap (in_time input (is_late args now)) (sym due) ∙ end) in
      CutShort (record { next = call; due = ap (due_by args) is ∙ due; late = ltb-true (args.start + 86400) now told.0 }) unqueued told.1

  uncut : (row : Row) (last : ℕ) → place_after args past ≡ row → due_by args row ≡ needs.Ended last → ¬ (IsCutShort args past now)
  uncut row last is end cut = let due = cut.due in let at_row = ap (due_by args) is in absurd (cc)

  ends_at : (row : Row) → place_after args past ≡ row → IsAt args past row → EndsAt row → Outcome args past now status
  ends_at (at.Create k) is (clear, in_range, below) end = cut_short (at.Create k) _ is refl clear.unqueued end
  ends_at (at.LinkMess k n fd) is (clear, in_range) end = cut_short (at.LinkMess k n fd) _ is refl clear.unqueued end
  ends_at (at.UnlinkPid k n fd) is (clear, in_range) end = cut_short (at.UnlinkPid k n fd) _ is refl clear.unqueued end
  ends_at (at.AppendMess n fd done) is clear end = cut_short (at.AppendMess n fd done) _ is refl clear.unqueued end
  ends_at (at.SyncMess n fd) is (clear, whole) end = cut_short (at.SyncMess n fd) _ is refl clear.unqueued end
  ends_at (at.CreateIntd n) is (clear, whole) end = cut_short (at.CreateIntd n) _ is refl clear.unqueued end
  ends_at (at.AppendTodo n fd done) is (clear, whole) end = cut_short (at.AppendTodo n fd done) _ is refl clear.unqueued end
  ends_at (at.SyncTodo n fd) is (clear, none) end = cut_short (at.SyncTodo n fd) _ is refl clear.unqueued end
  ends_at (at.LinkTodo n) is (clear, none) end = cut_short (at.LinkTodo n) _ is refl clear.unqueued end
  ends_at (at.CleanIntd n last) is here end = cut_short (at.CleanIntd n last) _ is refl (unqueued_at args past _ here) end
  ends_at (at.CleanMess n last) is here end = cut_short (at.CleanMess n last) _ is refl (unqueued_at args past _ here) end
  ends_at at.Queued is (none, unfailed, queued) end = Well (uncut at.Queued 0 is refl) none unfailed queued (cc)
  ends_at (at.Failed last) is here end = Badly (uncut (at.Failed last) _ is refl) (subst (IsEnding args past) (cc) here)

-- The causes

abbrev Known : ℕ → Type 0
Known status = IsTrue ((status == 0) || ((status == 52) || (is_of_input status || is_of_call status)))

known_by : (a b c d : Bool) → a ≡ false → b ≡ false → (c ≡ true) ⊎ (d ≡ true) → (a || (b || (c || d))) ≡ true
known_by true b c d no_a no_b h = refl
known_by false true c d no_a no_b h = refl
known_by false false true d no_a no_b h = refl
known_by false false false true no_a no_b h = refl
known_by false false false false no_a no_b h = ⊎_elim (λ e. cc) (λ e. cc) h

not_zero : {input : Bool} {status : ℕ} → IsOfKind input status → status ≢ 0
not_zero kind e = let told = kind.no_success in let at_zero = ap (λ n. n == 0) e in absurd (cc)

not_late : {input : Bool} {status : ℕ} → IsOfKind input status → status ≢ 52
not_late kind e = let told = kind.no_timeout in let at_late = ap (λ n. n == 52) e in absurd (cc)

blame : (args : Arguments) (status : ℕ) (past : List Own) → HasCall past (FailsWith args status)
    → (status ≡ 51) ⊎ HasCall past (λ call answer. IsFailure args call answer × (answer ≢ Refused Memory))
blame args status past h = has_or (FailsWith args status) (λ call answer. IsFailure args call answer × (answer ≢ Refused Memory)) (status ≡ 51)
    (λ call answer f. ⊎_elim (λ is. inl is) (λ other. inr (fails f, other)) (by_memory f)) past h

module _ (args : Arguments) (past : List Own) (now : ℕ) (run : IsRun args past) where
  all_tried : HasCall past (IsTaken args 9) → (k : ℕ) → IsTry k → HasCall past (IsTaken args k)
  all_tried h k in_range = tried args past 9 run h k in_range.0 in_range.1

  causes : (status : ℕ) → Outcome args past now status → IsCausedBy args past now status
  causes status (CutShort cut unqueued is) = subst (IsCausedBy args past now) is (record {
    known = refl;
    queued = (λ e. absurd (omega arith), λ h. absurd (unqueued h));
    well = (λ e. absurd (omega arith), λ w. absurd (w.2 cut));
    late = (λ e. cut, λ c. refl);
    input = λ s of. (λ e. let at_late = ap is_of_input e in absurd (cc), λ w. absurd (w.2 cut));
    failed = λ s of. (λ e. let at_late = ap is_of_call e in absurd (cc), λ w. absurd (w.1 cut));
    tried = all_tried;
    complete = λ none uncut only. absurd (uncut cut);
  })
  causes status (Well uncut none unfailed queued is) = subst (IsCausedBy args past now) is (record {
    known = refl;
    queued = (λ e. queued, λ h. refl);
    well = (λ e. (none, unfailed, uncut), λ w. refl);
    late = (λ e. absurd (omega arith), λ cut. absurd (uncut cut));
    input = λ s of. (λ e. let at_zero = ap is_of_input e in absurd (cc), λ w. let some = w.0 in absurd (cc));
    failed = λ s of. (λ e. let at_zero = ap is_of_call e in absurd (cc), λ w. absurd (unfailed (has_failure args s past w.0)));
    tried = all_tried;
    complete = λ no_fault no_cut only. inl refl;
  })
  causes status (Badly uncut (ByInput clear fault)) =
      let kind = kind_of_input args status fault in
      record {
        known = known_by (status == 0) (status == 52) (is_of_input status) (is_of_call status) kind.no_success kind.no_timeout (inl kind.of_input);
        queued = (λ e. absurd (not_zero kind e), λ h. absurd (clear.unqueued h));
        well = (λ e. absurd (not_zero kind e), λ w. let none = w.0 in absurd (cc));
        late = (λ e. absurd (not_late kind e), λ cut. absurd (uncut cut));
        input = λ s of. (λ e. (fault ∙ ap Some e, clear.unfailed, uncut), λ w. let some = w.0 in cc);
        failed = λ s of. (λ e. let told = kind.of_call in let at_s = ap is_of_call e in absurd (cc), λ w. absurd (clear.unfailed (has_failure args s past w.0)));
        tried = all_tried;
        complete = λ none no_cut only. absurd (cc);
      }
  causes status (Badly uncut (ByCall unqueued f one)) =
      let kind : IsOfKind false status = has_gives (FailsWith args status) (IsOfKind false status) (λ call answer g. kind_of_call g) past f in
      let failure : HasCall past (IsFailure args) = has_failure args status past f in
      record {
        known = known_by (status == 0) (status == 52) (is_of_input status) (is_of_call status) kind.no_success kind.no_timeout (inr kind.of_call);
        queued = (λ e. absurd (not_zero kind e), λ h. absurd (unqueued h));
        well = (λ e. absurd (not_zero kind e), λ w. absurd (w.1 failure));
        late = (λ e. absurd (not_late kind e), λ cut. absurd (uncut cut));
        input = λ s of. (λ e. let told = kind.of_input in let at_s = ap is_of_input e in absurd (cc), λ w. absurd (w.1 failure));
        failed = λ s of. (λ e. (subst (λ n. HasCall past (FailsWith args n)) e f, uncut), λ w. sym (one s w.0));
        tried = all_tried;
        complete = λ none no_cut only. ⊎_elim (λ is. inr is) (λ other. absurd (only other)) (blame args status past f);
      }

pub caused : (args : Arguments) (past : List Own) (now : ℕ) (ready : Ready) (status : ℕ) → IsRun args past → Next args past now ready ≡ needs.Ended status → IsCausedBy args past now status
caused args past now ready status run end = causes args past now run status (ends_at args past now (has_input ready) status (place_after args past) refl (run_at args past run) end)
