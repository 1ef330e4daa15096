-- Why a cleaner that was run ended so.
use Rattle.std.proofs.Common.{◌≡◌, ◌⊎◌, inl, inr, ℕ, List, [], ◌∷◌, ◌++◌, refl, sym, ◌∙◌, subst, ⊎_elim, arith}
use Rattle.call_fs.specs.declared.program.Ready.{Ready}
use Rattle.call_fs.specs.declared.past.NeedData.{NeedData}
use Rattle.call_fs.specs.declared.past.NeedData.TheVariants.{Ended, Give}
use Rattle.call_fs.specs.declared.program.Port.{Port}
use Rattle.call_fs.specs.Past.{IsRunBy, Table}
use Rattle.call_fs.specs.declared.past.GotData.{GotData}
use Rattle.call_fs.specs.declared.past.Own.{Own}
use Rattle.program_runner.specs.Outside.{Outside, TakesEnd, FailsToTake, FailsToGive}
use Rattle.mail_bytes.specs.Told.{OnTold, Rose}
use Rattle.call_fs.specs.declared.program.TheConstants.{INPUT_READY}
use Rattle.program_runner.specs.Runs.{HasEvent, HasRun, IsRunning, most_turns}
use Rattle.queue_clean.specs.Table.{Next}
use Rattle.clean_command.specs.Cleaned.{HasCleaned, StillRuns, AreAnswered}
use Rattle.queue_clean.specs.Causes.{EndsWith, IsAnswered, IsEnded}
use Rattle.queue_clean.specs.Causes.EndsWith.{InputEnded, GiveFailed, TakeFailed}

-- the last event of a past that ended so
abbrev pub Ends : List Own → ℕ → Type 0
Ends past status = ((status ≡ 0) × HasEvent past TakesEnd) ⊎ (((status ≡ 53) × HasEvent past FailsToGive) ⊎ ((status ≡ 54) × HasEvent past FailsToTake))

by_event : (status : ℕ) (due : NeedData) (came : GotData) → EndsWith status due came → (event : Own) (before : List Own) → event.due ≡ due → event.came ≡ came → Ends (event ∷ before) status
by_event _ _ _ InputEnded event before due came = inl (refl, inl (record { due = due; came = came }))
by_event _ _ _ (GiveFailed bytes) event before due came = inr (inl (refl, inl (record { bytes = bytes; due = due; came = came })))
by_event _ _ _ TakeFailed event before due came = inr (inr (refl, inl (record { due = due; came = came })))

pub ends : (past : List Own) (status : ℕ) → IsEnded past status → Ends past status
ends [] status why = absurd why
ends (event ∷ before) status why = by_event status event.due event.came why event before refl refl

pub known : (past : List Own) (status : ℕ) → Ends past status → (status ≡ 0) ⊎ ((status ≡ 53) ⊎ (status ≡ 54))
known past status = ⊎_elim (λ a. inl a.0) (⊎_elim (λ b. inr (inl b.0)) (λ c. inr (inr c.0)))

module _ (past : List Own) (status : ℕ) where
  pub at_0 : Ends past status → status ≡ 0 → HasEvent past TakesEnd
  at_0 e is = ⊎_elim (λ a. a.1) (⊎_elim (λ b. let other = b.0 in absurd (omega arith)) (λ c. let other = c.0 in absurd (omega arith))) e

  pub at_53 : Ends past status → status ≡ 53 → HasEvent past FailsToGive
  at_53 e is = ⊎_elim (λ a. let other = a.0 in absurd (omega arith)) (⊎_elim (λ b. b.1) (λ c. let other = c.0 in absurd (omega arith))) e

  pub at_54 : Ends past status → status ≡ 54 → HasEvent past FailsToTake
  at_54 e is = ⊎_elim (λ a. let other = a.0 in absurd (omega arith)) (⊎_elim (λ b. let other = b.0 in absurd (omega arith)) (λ c. c.1)) e

-- a run for all arguments that are possible, if all are
for_all : (possible : Unit {0} → Type 0) (old new : Outside) (status : ℕ) → ((args : Unit {0}) → possible args)
    → HasRun Next possible INPUT_READY old.last status old new → HasRun Next (λ _. Unit {0}) INPUT_READY old.last status old new
for_all possible old new status all r = record {
  past = r.past;
  last = r.last;
  finds = r.finds;
  run = λ args is. r.run args (all args);
  ends = λ args is. r.ends args (all args);
  before_last = r.before_last;
  did = r.did;
  looks = r.looks;
}

abbrev pub HaveCauses : Type 0
HaveCauses = (args : Unit {0}) (past : List Own) (now : ℕ) (ready : Ready) (status : ℕ) → IsRunBy (Next args) past → Next args past now ready ≡ Ended status → IsEnded past status

-- what a run did up to an event is a run
run_to : (next : Table) (later rest past : List Own) → later ++ rest ≡ past → IsRunBy next past → IsRunBy next rest
run_to next [] rest past is run = subst (IsRunBy next) (sym is) run
run_to next (event ∷ later) rest [] is run = absurd (cc)
run_to next (event ∷ later) rest (other ∷ past) is run = let same : later ++ rest ≡ past = cc in run_to next later rest past same run.0

-- why each answer is given
abbrev pub HaveAnswers : Type 0
HaveAnswers = (args : Unit {0}) (before : List Own) (now : ℕ) (ready : Ready) (port : Port) (bytes : List ℕ) → IsRunBy (Next args) before → Next args before now ready ≡ Give port bytes
    → IsAnswered before port bytes

are_answered : HaveAnswers → (past : List Own) → IsRunBy (Next tt) past → AreAnswered past
are_answered answers past run later before event port bytes is due =
    let to = run_to (Next tt) later (event ∷ before) past is run in
    answers tt before event.read event.ready port bytes to.0 (to.1.0 ∙ due)

-- the whole run
pub cleaned : (possible : Unit {0} → Type 0) (old new : Outside) (status : ℕ) → ((args : Unit {0}) → possible args)
    → HasRun Next possible INPUT_READY old.last status old new → HaveCauses → HaveAnswers → HasCleaned old new status
cleaned possible old new status all r causes answers =
    let ran = for_all possible old new status all r in
    let why = causes tt ran.past ran.last INPUT_READY status (ran.run tt tt) (ran.ends tt tt) in
    let e = ends ran.past status why in
    let rest = ran.looks.rest in
    record {
      ran = ran;
      why = why;
      answers = are_answered answers ran.past (ran.run tt tt);
      ended = λ is. let took = at_0 ran.past status e is in (took, subst (λ (o : Outside). OnTold o.left (λ left. left ≡ [])) (sym rest) (ran.did.over took));
      output = λ is. subst (λ (o : Outside). Rose old.output_faults o.output_faults) (sym rest) (ran.did.output_cause (at_53 ran.past status e is));
      input = λ is. subst (λ (o : Outside). Rose old.input_faults o.input_faults) (sym rest) (ran.did.input_cause (at_54 ran.past status e is));
      known = known ran.past status e;
    }

-- a run that hasn't ended yet
pub still_runs : (stands : Unit {0} → List Own → Type 0) (possible : Unit {0} → Type 0) (old new : Outside) → ((args : Unit {0}) → possible args)
    → IsRunning Next stands possible INPUT_READY old.last most_turns old new → StillRuns old new
still_runs stands possible old new all r = record { past = r.past; long = r.long; run = r.run tt (all tt); did = r.did }
