-- Why a run of a spawner ended so, by its past.
use Rattle.std.proofs.Common.{◌≡◌, ◌⊎◌, ◌↔◌, ℕ, ◌+◌, List, [], ◌∷◌, true, false, cond, refl, sym, ap, ◌∙◌, subst, inl, inr, ⊎_elim, arith}
use Rattle.std.proofs.lemmas.Bool.{false≢true, true≢false, not-true}
use Rattle.call_fs.specs.declared.past.GotData.{GotData}
use Rattle.call_fs.specs.declared.past.GotData.TheVariants as came
use Rattle.call_fs.specs.declared.past.NeedData.{NeedData}
use Rattle.call_fs.specs.declared.past.NeedData.TheVariants as needs
use Rattle.call_fs.specs.declared.past.Own.{Own}
use Rattle.call_fs.specs.declared.program.Port.TheVariants as port
use Rattle.call_fs.specs.declared.program.Ready.{Ready}
use Rattle.call_fs.specs.Past.{IsRunBy, Table, taken, taken_by}
use Rattle.call_fs.specs.Program.{MayCome}
use Rattle.program_runner.specs.Outside.{FailsToGive}
use Rattle.program_runner.specs.Programs.{FailsToHear, HasFailedToHear}
use Rattle.program_runner.specs.Runs.{HasEvent}
use Rattle.spawn_protocol.proofs.Requests.{some_reading}
use Rattle.spawner_parts.specs.Asked.{runs_in}
use Rattle.spawner_parts.specs.Causes.{EndsWith, IsFailed, IsOver, end_by, has_end, programs, programs_by}
use Rattle.spawner_parts.specs.Causes.EndsWith.{GiveFailed, RequestsFailed, ProgramFailed}
use Rattle.spawner_parts.specs.Causes.IsOver.{RequestsEnded, FieldTooLong}
use Rattle.spawner_parts.specs.Counts.{asked, dealt_with, reported, runs, times}
use Rattle.spawner_parts.specs.Counts as counts
use Rattle.spawner_parts.specs.Table.{any_runs, none_runs}
use Rattle.spawner_parts.proofs.Tallies.{idle_slot}
use Rattle.spawn_command.specs.Spawned.{HasLongField, HasNoneLeft}
use Rattle.spawn_command.proofs.Laws.{Laws}
use Rattle.spawn_command.proofs.Programs.{few_programs, same_program}

-- What a failure was

pub data Failure (status : ℕ) (event : Own) : Type 0 where
  OfGive : status ≡ 53 → FailsToGive event → Failure status event
  OfInput : status ≡ 54 → event.due ≡ needs.Take port.Input → event.came ≡ came.Failed → Failure status event
  OfProgram : (slot : ℕ) → status ≡ 54 → event.due ≡ needs.Take (port.Program slot) → event.came ≡ came.Failed → Failure status event

failure_by : (status : ℕ) (due : NeedData) (got : GotData) → EndsWith status due got → (event : Own) → event.due ≡ due → event.came ≡ got → Failure status event
failure_by _ _ _ (GiveFailed bytes) event due got = OfGive refl (record { bytes = bytes; due = due; came = got })
failure_by _ _ _ RequestsFailed event due got = OfInput refl due got
failure_by _ _ _ (ProgramFailed slot) event due got = OfProgram slot refl due got

pub failure : (status : ℕ) (event : Own) (before : List Own) → IsFailed (event ∷ before) status → Failure status event
failure status event before why = failure_by status event.due event.came why event refl refl

gave_badly : (event : Own) (before : List Own) → FailsToGive event → IsFailed (event ∷ before) 53
gave_badly event before f = subst (λ d. EndsWith 53 d event.came) (sym f.due) (subst (λ g. EndsWith 53 (needs.Give port.Output f.bytes) g) (sym f.came) (GiveFailed f.bytes))

-- Why it was over

pub record Over (past : List Own) (status : ℕ) : Type 0 where
  pub none : none_runs (programs past) ≡ true
  pub why : ((status ≡ 0) × (has_end past ≡ true)) ⊎ ((status ≡ 91) × HasLongField (taken past))

pub over : (past : List Own) (status : ℕ) → IsOver past status → Over past status
over past _ (RequestsEnded end none) = record { none = none; why = inl (refl, end) }
over past _ (FieldTooLong requests long none) = record { none = none; why = inr (refl, (requests, long)) }

-- nothing comes of an end
no_end : (status : ℕ) (got : GotData) → MayCome (needs.Ended status) got → ⊥
no_end status got may = may

module _ (next : Table) (cause : List Own → ℕ → Type 0) (laws : Laws next cause) where
  -- after a failed give there is no event
  last_gave : (past : List Own) → IsRunBy next past → HasEvent past FailsToGive → IsFailed past 53
  last_gave [] run h = absurd h
  last_gave (event ∷ before) run (inl f) = gave_badly event before f
  last_gave (event ∷ before) run (inr h) =
      let due : event.due ≡ needs.Ended 53 = sym run.1.0 ∙ laws.fails before event.read event.ready 53 run.0 (last_gave before run.0 h) in
      absurd (no_end 53 event.came (subst (λ d. MayCome d event.came) due run.1.1))

  module _ (past : List Own) (now : ℕ) (ready : Ready) (status : ℕ) (run : IsRunBy next past) (due : next past now ready ≡ needs.Ended status) where
    why : cause past status
    why = laws.ends past now ready status run due

    -- what is due is that end and no other
    pub same_end : (other : ℕ) → next past now ready ≡ needs.Ended other → status ≡ other
    same_end other is = let e : needs.Ended status ≡ needs.Ended other = sym due ∙ is in cc

    -- without a failed give, if nothing is left to do, it hasn't failed
    unfailed : (code : ℕ) → HasNoneLeft past → ((has_end past ≡ true) ⊎ HasLongField (taken past)) → IsFailed past code → ⊥
    unfailed code s over why = by past run s over why where
      no_program : (slot : ℕ) (some : List Own) → none_runs (programs some) ≡ true → runs_in (programs some) slot ≡ true → ⊥
      no_program slot some none busy = true≢false (sym busy ∙ idle_slot (programs some) slot (not-true (any_runs (programs some)) none))

      by : (past : List Own) → IsRunBy next past → HasNoneLeft past → ((has_end past ≡ true) ⊎ HasLongField (taken past)) → IsFailed past code → ⊥
      by [] run s over why = why
      by (event ∷ before) run s over why = with_failure (failure code event before why) where
        with_failure : Failure code event → ⊥
        with_failure (OfGive is f) = s.gave (inl f)
        with_failure (OfInput is due got) =
            let open_still = laws.input before event.read event.ready run.0 (run.1.0 ∙ due) in
            let ends : has_end (event ∷ before) ≡ has_end before
            = ap (λ d. end_by (has_end before) d event.came) due ∙ ap (λ g. end_by (has_end before) (needs.Take port.Input) g) got in
            let took : taken (event ∷ before) ≡ taken before
            = ap (λ d. taken_by (taken before) d event.came) due ∙ ap (λ g. taken_by (taken before) (needs.Take port.Input) g) got in
            ⊎_elim (λ end. false≢true (sym open_still.0 ∙ sym ends ∙ end)) (λ long. open_still.1 (subst HasLongField took long)) over
        with_failure (OfProgram slot is due got) =
            let busy = laws.program before event.read event.ready slot run.0 (run.1.0 ∙ due) in
            let same : programs (event ∷ before) ≡ programs before
            = ap (λ d. programs_by (programs before) d event.came) due ∙ ap (λ g. programs_by (programs before) (needs.Take (port.Program slot)) g) got in
            no_program slot before (ap none_runs (sym same) ∙ s.none) busy

    -- so each request has its report
    settled : HasNoneLeft past → ((has_end past ≡ true) ⊎ HasLongField (taken past)) → counts.IsSettled past
    settled s over =
        let read = some_reading (taken past) in
        record {
          requests = read.0;
          reader = read.1;
          read = read.2;
          each = λ slot.
              let idle : runs_in (programs past) slot ≡ false = idle_slot (programs past) slot (not-true (any_runs (programs past)) s.none) in
              let all : asked slot read.0 ≡ times slot (reported past) + runs slot (programs past)
              = laws.each past now ready read.0 read.1 slot run read.2 (subst (λ d. counts.IsAtRest past d) (sym due) (unfailed status s over)) in
              let none : runs slot (programs past) ≡ 0 = ap (λ b. cond b 1 0) idle in
              omega arith;
          well = λ code. unfailed code s over;
        }

    -- a run that ended otherwise than by a failed give gave all
    gave : ((status ≡ 53) → ⊥) → ¬ (HasEvent past FailsToGive)
    gave other h = other (same_end 53 (laws.fails past now ready 53 run (last_gave past run h)))

    failed_code : (code : ℕ) → IsFailed past code → (code ≡ 53) ⊎ (code ≡ 54)
    failed_code code why = by past why where
      by : (past : List Own) → IsFailed past code → (code ≡ 53) ⊎ (code ≡ 54)
      by [] why = absurd why
      by (event ∷ before) why = with_failure (failure code event before why) where
        with_failure : Failure code event → (code ≡ 53) ⊎ (code ≡ 54)
        with_failure (OfGive is f) = inl is
        with_failure (OfInput is due got) = inr is
        with_failure (OfProgram slot is due got) = inr is

    -- by its cause: a failure, an end, or out of memory
    pub parted : IsFailed past status × ((status ≡ 53) ⊎ (status ≡ 54)) ⊎ (Over past status ⊎ (status ≡ 51))
    parted = ⊎_elim (⊎_elim (λ f. inl (f, failed_code status f)) (λ o. inr (inl (over past status o)))) (λ m. inr (inr m)) (laws.splits past status why)

    over_if : ((status ≡ 0) ⊎ (status ≡ 91)) → Over past status
    over_if is = ⊎_elim (λ f. absurd (clash is f.1)) (⊎_elim (λ o. o) (λ m. absurd (starved is m))) parted where
      clash : ((status ≡ 0) ⊎ (status ≡ 91)) → ((status ≡ 53) ⊎ (status ≡ 54)) → ⊥
      clash (inl a) (inl b) = omega arith
      clash (inl a) (inr b) = omega arith
      clash (inr a) (inl b) = omega arith
      clash (inr a) (inr b) = omega arith

      starved : ((status ≡ 0) ⊎ (status ≡ 91)) → status ≡ 51 → ⊥
      starved (inl a) m = omega arith
      starved (inr a) m = omega arith

    pub done : (status ≡ 0) ↔ ((has_end past ≡ true) × HasNoneLeft past)
    done = (
      λ is. let o = over_if (inl is) in
          (⊎_elim (λ a. a.1) (λ b. absurd (let other = b.0 in omega arith)) o.why, record { none = o.none; gave = gave (λ e. omega arith) }),
      λ h. same_end 0 (laws.settles past now ready 0 run (RequestsEnded h.0 h.1.none) (settled h.1 (inl h.0))),
    )

    pub malformed : (status ≡ 91) ↔ (HasLongField (taken past) × HasNoneLeft past)
    malformed = (
      λ is. let o = over_if (inr is) in
          (⊎_elim (λ a. absurd (let other = a.0 in omega arith)) (λ b. b.1) o.why, record { none = o.none; gave = gave (λ e. omega arith) }),
      λ h. same_end 91 (laws.settles past now ready 91 run (FieldTooLong h.0.0 h.0.1 h.1.none) (settled h.1 (inr h.0))),
    )

    -- so each request has its report then
    pub has_reports : ((status ≡ 0) ⊎ (status ≡ 91)) → counts.IsSettled past
    has_reports = ⊎_elim (λ is. let h = done.0 is in settled h.1 (inl h.0)) (λ is. let h = malformed.0 is in settled h.1 (inr h.0))

    -- 53: a give to the output failed
    pub at_53 : status ≡ 53 → HasEvent past FailsToGive
    at_53 is = ⊎_elim (λ f. by past f.0) (⊎_elim (λ o. absurd (⊎_elim (λ a. let other = a.0 in omega arith) (λ b. let other = b.0 in omega arith) o.why)) (λ m. absurd (omega arith))) parted where
      by : (past : List Own) → IsFailed past status → HasEvent past FailsToGive
      by [] why = absurd why
      by (event ∷ before) why = with_failure (failure status event before why) where
        with_failure : Failure status event → HasEvent (event ∷ before) FailsToGive
        with_failure (OfGive code f) = inl f
        with_failure (OfInput code due got) = absurd (omega arith)
        with_failure (OfProgram slot code due got) = absurd (omega arith)

    -- 54: its requests couldn't be taken, or what a program printed that it has
    pub at_54 : status ≡ 54 → HasFailedToHear past
    at_54 is = ⊎_elim (λ f. by past run f.0) (⊎_elim (λ o. absurd (⊎_elim (λ a. let other = a.0 in omega arith) (λ b. let other = b.0 in omega arith) o.why)) (λ m. absurd (omega arith))) parted where
      by : (past : List Own) → IsRunBy next past → IsFailed past status → HasFailedToHear past
      by [] run why = absurd why
      by (event ∷ before) run why = with_failure (failure status event before why) where
        with_failure : Failure status event → FailsToHear before event
        with_failure (OfGive code f) = absurd (omega arith)
        with_failure (OfInput code due got) = record { came = got; of = inl due }
        with_failure (OfProgram slot code due got) =
            let busy = laws.program before event.read event.ready slot run.0 (run.1.0 ∙ due) in
            let small = few_programs before slot busy in
            record { came = got; of = inr (slot, omega arith, due, same_program slot before busy) }
