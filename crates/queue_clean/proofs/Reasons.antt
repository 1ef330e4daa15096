-- Why a cleaner answers and ends as it does: what is known of a run, by the row after it.
use Rattle.std.proofs.Common.{◌≡◌, ℕ, ◌+◌, ◌-◌, List, [], ◌∷◌, ◌++◌, get_or, Option, Some, None, Bool, true, false, refl, sym, ap, ◌∙◌, subst, inl, inr, arith}
use Rattle.std.specs.Prelude.{if◌then◌else◌, ◌==◌, ◌%◌, slice_get, codes}
use Rattle.call_fs.specs.declared.calls.CallData.{CallData}
use Rattle.call_fs.specs.declared.calls.CallData.TheVariants as call
use Rattle.call_fs.specs.declared.calls.Answer.{Answer}
use Rattle.call_fs.specs.declared.calls.Answer.TheVariants as answer
use Rattle.call_fs.specs.declared.calls.FsError.TheVariants.{NotThere, Fault}
use Rattle.call_fs.specs.declared.calls.Told.{Told}
use Rattle.call_fs.specs.Columns.{IsAnswerTo}
use Rattle.call_fs.specs.Past.{IsRunBy}
use Rattle.call_fs.specs.Program.{MayCome}
use Rattle.call_fs.specs.declared.program.Port.{Port}
use Rattle.call_fs.specs.declared.program.Port.TheVariants.{Input, Output}
use Rattle.call_fs.specs.declared.program.Ready.{Ready}
use Rattle.call_fs.specs.declared.past.NeedData.{NeedData}
use Rattle.call_fs.specs.declared.past.NeedData.TheVariants as needs
use Rattle.call_fs.specs.declared.past.GotData.{GotData}
use Rattle.call_fs.specs.declared.past.GotData.TheVariants as came
use Rattle.call_fs.specs.declared.past.Own.{Own}
use Rattle.queue_paths.specs.Names.{path}
use Rattle.queue_clean.specs.declared.command.Command.{Command}
use Rattle.queue_clean.specs.declared.row.Reply.{Reply}
use Rattle.queue_clean.specs.declared.row.Reply.TheVariants.{Removed, Failed, Unknown}
use Rattle.queue_clean.specs.declared.row.Row.{Row}
use Rattle.queue_clean.specs.declared.row.Row.TheVariants as at
use Rattle.queue_clean.specs.Commands.{commands, command_of, first_name, second_name}
use Rattle.queue_clean.specs.Table.{Place, first_row, take_up, next_command, gone_told, is_gone, name_in, moment_in, Step, found, stated, took, gave, after_intd, after_second, is_old, leads_to, goes_on, place_after, reply_text, due_at, Next}
use Rattle.queue_clean.specs.Table.Step.{Goes}
use Rattle.queue_clean.specs.Causes.{last_command, EndsInFault, IsAnswered, EndsWith, IsEnded}
use Rattle.queue_clean.specs.Causes.EndsWith.{InputEnded, GiveFailed, TakeFailed}

-- What is known

-- the command that was taken up last is this one
record Works (p : Place) (command : Command) : Type 0 where
  text : List ℕ
  last : last_command p ≡ Some text
  is : command_of text ≡ Some command

-- it is no command, and no unlink was made for it
record IsUnknown (past : List Own) (p : Place) : Type 0 where
  text : List ℕ
  last : last_command p ≡ Some text
  none : command_of text ≡ None
  clear : EndsInFault past → ⊥

record IsDone (past : List Own) (p : Place) : Type 0 where
  command : Command
  works : Works p command
  clear : EndsInFault past → ⊥

record IsFailed (past : List Own) (p : Place) : Type 0 where
  command : Command
  works : Works p command
  fault : EndsInFault past

abbrev At : List Own → Place → Row → Type 0
At past p at.FindPid = Unit {0}
At past p at.StatPid = Unit {0}
At past p (at.JudgePid moment) = Unit {0}
At past p at.TakeInput = Unit {0}
At past p (at.UnlinkIntd command) = Works p command
At past p (at.UnlinkSecond command) = Works p command
At past p (at.Answer Removed) = IsDone past p
At past p (at.Answer Failed) = IsFailed past p
At past p (at.Answer Unknown) = IsUnknown past p
At past p (at.Ended status) = IsEnded past status

abbrev IsAt : List Own → Place → Type 0
IsAt past p = At past p p.row

-- The next command

first_at : (past : List Own) (p : Place) (text : List ℕ) (o : Option Command) → last_command p ≡ Some text → command_of text ≡ o → (EndsInFault past → ⊥) → At past p (first_row o)
first_at past p text None last is clear = record { text = text; last = last; none = is; clear = clear }
first_at past p text (Some command) last is clear = record { text = text; last = last; is = is }

taken_at : (past : List Own) (p : Place) (o : Option (List ℕ)) → slice_get (commands p.taken) p.begun ≡ o → (EndsInFault past → ⊥) → IsAt past (take_up o p)
taken_at past p None e clear = tt
taken_at past p (Some text) e clear =
    let now : Place = take_up (Some text) p in
    let same : (p.begun + 1) - 1 ≡ p.begun = omega arith in
    first_at past now text (command_of text) (ap (slice_get (commands p.taken)) same ∙ e) refl clear

next_at : (past : List Own) (p : Place) → (EndsInFault past → ⊥) → IsAt past (next_command p)
next_at past p clear = taken_at past p (slice_get (commands p.taken) p.begun) refl clear

-- What came

-- a search, a taking and a giving are no unlinks
no_unlink : (before : List Own) (event : Own) (due : NeedData) → due ≡ event.due → ((name : List ℕ) → due ≡ needs.File (call.Unlink name) → ⊥) → EndsInFault (event ∷ before) → ⊥
no_unlink before event due e other f = let holds = f.holds in other holds.0 (e ∙ f.due ∙ ap needs.File holds.1)

gone_clear : (before : List Own) (event : Own) → is_gone event.came ≡ true → EndsInFault (event ∷ before) → ⊥
gone_clear before event gone f =
    let told = ap is_gone f.came in
    let kept = ap gone_told f.holds.2 in
    absurd (cc)

-- an unlink that left its name answered a fault
record IsRefused (got : GotData) : Type 0 where
  told : Told
  came_is : got ≡ came.Answered told
  fault : told.answer ≡ answer.Refused Fault

refused_by : (name : List ℕ) (given : Answer) → IsAnswerTo (call.Unlink name) given → gone_told given ≡ false → given ≡ answer.Refused Fault
refused_by name answer.Done may kept = absurd (cc)
refused_by name (answer.Refused NotThere) may kept = absurd (cc)
refused_by name (answer.Refused Fault) may kept = refl
refused_by name _ may kept = absurd may

refused : (name : List ℕ) (got : GotData) → MayCome (needs.File (call.Unlink name)) got → is_gone got ≡ false → IsRefused got
refused name (came.Answered told) may kept = record { told = told; came_is = refl; fault = refused_by name told.answer may kept }
refused name _ may kept = absurd may

fault_at : (before : List Own) (event : Own) (name : List ℕ) → needs.File (call.Unlink name) ≡ event.due → MayCome event.due event.came → is_gone event.came ≡ false → EndsInFault (event ∷ before)
fault_at before event name due may kept =
    let w = refused name event.came (subst (λ d. MayCome d event.came) (sym due) may) kept in
    record { call = call.Unlink name; told = w.told; due = sym due; came = w.came_is; holds = (name, refl, w.fault) }

-- One event

module _ (before : List Own) (event : Own) (p : Place) where
  abbrev Leads : Step → Type 0
  Leads step = IsAt (event ∷ before) (goes_on step p)

  found_at : (o : Option (List ℕ)) → (EndsInFault (event ∷ before) → ⊥) → Leads (found o)
  found_at None clear = next_at (event ∷ before) p clear
  found_at (Some name) clear = tt

  stated_at : (o : Option ℕ) → Leads (Goes (stated o))
  stated_at None = tt
  stated_at (Some moment) = tt

  judged_at : (t : Bool) (name other : List ℕ) (o : Option (List ℕ)) → (if t then needs.File (call.Unlink name) else needs.File (call.NextName (codes "pid") other)) ≡ event.due
      → Leads (if t then Goes at.FindPid else found o)
  judged_at true name other o due = tt
  judged_at false name other o due = found_at o (no_unlink before event _ due (λ n e. cc))

  took_at : (got : GotData) → event.came ≡ got → needs.Take Input ≡ event.due → MayCome (needs.Take Input) got → Leads (took got)
  took_at (came.Took bytes) is due may = next_at (event ∷ before) (record p { taken = p.taken ++ bytes }) (no_unlink before event _ due (λ n e. cc))
  took_at came.End is due may = subst (λ d. EndsWith 0 d event.came) due (subst (λ c. EndsWith 0 (needs.Take Input) c) (sym is) InputEnded)
  took_at came.Failed is due may = subst (λ d. EndsWith 54 d event.came) due (subst (λ c. EndsWith 54 (needs.Take Input) c) (sym is) TakeFailed)
  took_at _ is due may = absurd may

  scan_at : (t : Bool) → (EndsInFault (event ∷ before) → ⊥) → IsAt (event ∷ before) (if t then record p { row = at.FindPid; name = [] } else next_command p)
  scan_at true clear = tt
  scan_at false clear = next_at (event ∷ before) p clear

  gave_at : (bytes : List ℕ) (got : GotData) → event.came ≡ got → needs.Give Output bytes ≡ event.due → MayCome (needs.Give Output bytes) got → Leads (gave got)
  gave_at bytes came.Gave is due may = scan_at (p.begun % 31 == 0) (no_unlink before event _ due (λ n e. cc))
  gave_at bytes came.Failed is due may = subst (λ d. EndsWith 53 d event.came) due (subst (λ c. EndsWith 53 (needs.Give Output bytes) c) (sym is) (GiveFailed bytes))
  gave_at bytes _ is due may = absurd may

  intd_at : (command : Command) (t : Bool) → Works p command → is_gone event.came ≡ t → needs.File (call.Unlink (path (first_name command))) ≡ event.due → MayCome event.due event.came
      → Leads (Goes (after_intd command t))
  intd_at command true works gone due may = record { text = works.text; last = works.last; is = works.is }
  intd_at command false works gone due may = record {
    command = command;
    works = record { text = works.text; last = works.last; is = works.is };
    fault = fault_at before event (path (first_name command)) due may gone;
  }

  second_at : (command : Command) (t : Bool) → Works p command → is_gone event.came ≡ t → needs.File (call.Unlink (path (second_name command))) ≡ event.due → MayCome event.due event.came
      → Leads (Goes (after_second t))
  second_at command true works gone due may = record {
    command = command;
    works = record { text = works.text; last = works.last; is = works.is };
    clear = gone_clear before event gone;
  }
  second_at command false works gone due may = record {
    command = command;
    works = record { text = works.text; last = works.last; is = works.is };
    fault = fault_at before event (path (second_name command)) due may gone;
  }

  event_at : (row : Row) → At before p row → due_at row p.name event.read ≡ event.due → MayCome event.due event.came → Leads (leads_to row event.read event.came)
  event_at at.FindPid known due may = found_at (name_in event.came) (no_unlink before event _ due (λ n e. cc))
  event_at at.StatPid known due may = stated_at (moment_in event.came)
  event_at (at.JudgePid moment) known due may = judged_at (is_old moment event.read) _ _ (name_in event.came) due
  event_at at.TakeInput known due may = took_at event.came refl due (subst (λ d. MayCome d event.came) (sym due) may)
  event_at (at.UnlinkIntd command) known due may = intd_at command (is_gone event.came) known refl due may
  event_at (at.UnlinkSecond command) known due may = second_at command (is_gone event.came) known refl due may
  event_at (at.Answer reply) known due may = gave_at (reply_text reply) event.came refl due (subst (λ d. MayCome d event.came) (sym due) may)
  event_at (at.Ended status) known due may = absurd (subst (λ d. MayCome d event.came) (sym due) may)

-- a whole run
run_at : (args : Unit {0}) (past : List Own) → IsRunBy (Next args) past → IsAt past (place_after past)
run_at args [] run = tt
run_at args (event ∷ before) (run, due) = event_at before event (place_after before) (place_after before).row (run_at args before run) due.0 due.1

-- The end of a run

apart : (a b : ℕ) → (a ≡ b → ⊥) → a ∷ [] ≡ b ∷ [] → ⊥
apart a b other e = other (ap (λ (l : List ℕ). get_or l 0 0) e)

some_none : {A : Type 0} (o : Option A) (x : A) → o ≡ Some x → o ≡ None → ⊥
some_none o x e f = cc

gives_at : (past : List Own) (reply : Reply) → At past (place_after past) (at.Answer reply) → IsAnswered past Output (reply_text reply)
gives_at past Removed known = record {
  text = known.works.text;
  command = known.works.last;
  output = refl;
  known = inl refl;
  unknown = (λ e. absurd (apart 43 120 (λ n. omega arith) e), λ e. absurd (some_none _ known.command known.works.is e));
  failed = (λ e. absurd (apart 43 33 (λ n. omega arith) e), λ f. absurd (known.clear f));
}
gives_at past Failed known = record {
  text = known.works.text;
  command = known.works.last;
  output = refl;
  known = inr (inl refl);
  unknown = (λ e. absurd (apart 33 120 (λ n. omega arith) e), λ e. absurd (some_none _ known.command known.works.is e));
  failed = (λ e. known.fault, λ f. refl);
}
gives_at past Unknown known = record {
  text = known.text;
  command = known.last;
  output = refl;
  known = inr (inr refl);
  unknown = (λ e. known.none, λ e. refl);
  failed = (λ e. absurd (apart 120 33 (λ n. omega arith) e), λ f. absurd (known.clear f));
}

-- a name in `pid` is unlinked, or the next one is searched for: no giving, and no end
judged_calls : (t : Bool) (a b : CallData) (P : NeedData → Type 0) → P (needs.File a) → P (needs.File b) → P (if t then needs.File a else needs.File b)
judged_calls true a b P x y = x
judged_calls false a b P x y = y

gives_by : (past : List Own) (row : Row) (name : List ℕ) (now : ℕ) (port : Port) (bytes : List ℕ) → At past (place_after past) row → due_at row name now ≡ needs.Give port bytes → IsAnswered past port bytes
gives_by past at.FindPid name now port bytes known e = absurd (cc)
gives_by past at.StatPid name now port bytes known e = absurd (cc)
gives_by past (at.JudgePid moment) name now port bytes known e =
    absurd (judged_calls (is_old moment now) _ _ (λ d. d ≡ needs.Give port bytes → ⊥) (λ f. cc) (λ f. cc) e)
gives_by past at.TakeInput name now port bytes known e = absurd (cc)
gives_by past (at.UnlinkIntd command) name now port bytes known e = absurd (cc)
gives_by past (at.UnlinkSecond command) name now port bytes known e = absurd (cc)
gives_by past (at.Answer reply) name now port bytes known e =
    let out : Output ≡ port = cc in
    let text : reply_text reply ≡ bytes = cc in
    subst (λ o. IsAnswered past o bytes) out (subst (IsAnswered past Output) text (gives_at past reply known))
gives_by past (at.Ended status) name now port bytes known e = absurd (cc)

ends_by : (past : List Own) (row : Row) (name : List ℕ) (now status : ℕ) → At past (place_after past) row → due_at row name now ≡ needs.Ended status → IsEnded past status
ends_by past at.FindPid name now status known e = absurd (cc)
ends_by past at.StatPid name now status known e = absurd (cc)
ends_by past (at.JudgePid moment) name now status known e =
    absurd (judged_calls (is_old moment now) _ _ (λ d. d ≡ needs.Ended status → ⊥) (λ f. cc) (λ f. cc) e)
ends_by past at.TakeInput name now status known e = absurd (cc)
ends_by past (at.UnlinkIntd command) name now status known e = absurd (cc)
ends_by past (at.UnlinkSecond command) name now status known e = absurd (cc)
ends_by past (at.Answer reply) name now status known e = absurd (cc)
ends_by past (at.Ended last) name now status known e = let same : last ≡ status = cc in subst (IsEnded past) same known

pub answers : (args : Unit {0}) (past : List Own) (now : ℕ) (ready : Ready) (port : Port) (bytes : List ℕ) → IsRunBy (Next args) past → Next args past now ready ≡ needs.Give port bytes
    → IsAnswered past port bytes
answers args past now ready port bytes run e = gives_by past (place_after past).row (place_after past).name now port bytes (run_at args past run) e

pub ends : (args : Unit {0}) (past : List Own) (now : ℕ) (ready : Ready) (status : ℕ) → IsRunBy (Next args) past → Next args past now ready ≡ needs.Ended status → IsEnded past status
ends args past now ready status run e = ends_by past (place_after past).row (place_after past).name now status (run_at args past run) e
