-- What hinders a delivery that ends otherwise than with 0 or 51.
use Rattle.std.proofs.Common.{◌≡◌, ◌≢◌, ℕ, List, [], ◌∷◌, ◌++◌, length, take, Bool, true, false, Option, Some, None, Contains, refl, sym, ap, ◌∙◌, subst, inl, inr, arith}
use Rattle.std.specs.Prelude.{◌⊎◌, if◌then◌else◌, nat_lt, ◌==◌, bytes_eq}
use Rattle.std.specs.Option.{option_map}
use Rattle.std.proofs.lemmas.Bool.{false≢true}
use Rattle.std.proofs.lemmas.List.Elements.{Contains-append_right}
use Rattle.call_fs.specs.declared.calls.Answer.{Answer}
use Rattle.call_fs.specs.declared.calls.Answer.TheVariants as answer
use Rattle.call_fs.specs.declared.calls.CallData.{CallData}
use Rattle.call_fs.specs.declared.calls.CallData.TheVariants as call
use Rattle.call_fs.specs.declared.calls.Fd.{Fd}
use Rattle.call_fs.specs.declared.calls.FsError.TheVariants as why
use Rattle.call_fs.specs.declared.calls.How.TheVariants as how
use Rattle.call_fs.specs.declared.calls.Told.{Told}
use Rattle.call_fs.specs.declared.past.GotData.{GotData}
use Rattle.call_fs.specs.declared.past.GotData.TheVariants as came
use Rattle.call_fs.specs.declared.past.NeedData.{NeedData}
use Rattle.call_fs.specs.declared.past.NeedData.TheVariants as needs
use Rattle.call_fs.specs.declared.past.ChildData.TheVariants.{Forward as ForwardChild}
use Rattle.call_fs.specs.declared.past.Own.{Own}
use Rattle.call_fs.specs.declared.program.Port.TheVariants as port
use Rattle.call_fs.specs.declared.program.Ready.{Ready}
use Rattle.call_fs.specs.Columns.{IsAnswerTo}
use Rattle.call_fs.specs.Past.{HasCall, IsFault, IsRunBy, taken}
use Rattle.call_fs.specs.Program.{MayCome}
use Rattle.call_fs.proofs.Coming.{by_fit}
use Rattle.dot_qmail.specs.declared.choice.Chosen.{Chosen}
use Rattle.dot_qmail.specs.declared.choice.Chosen.TheVariants as chosen
use Rattle.dot_qmail.specs.declared.line.Line.{Line}
use Rattle.dot_qmail.specs.declared.line.Line.TheVariants as line
use Rattle.dot_qmail.specs.Lines.{plan_of}
use Rattle.local_parts.specs.declared.arguments.LocalArgs.{LocalArgs}
use Rattle.local_parts.specs.declared.forwarding.Injection.{Injection}
use Rattle.local_parts.specs.Choosing.{chosen_by, file_name}
use Rattle.local_parts.specs.Course.{Work, begun as begun_course, course_of, cut, default_text, lines_of, passed, work_of}
use Rattle.local_parts.specs.Course.Work.{Nothing, ToCommand, ToMaildir, ToMailbox}
use Rattle.local_parts.specs.Forwarding.{injection_of}
use Rattle.local_parts.specs.Host.{host_in}
use Rattle.local_parts.specs.Inputs.{message_in}
use Rattle.local_parts.specs.Looping.{is_looping}
use Rattle.local_parts.specs.Names.{last_name}
use Rattle.local_parts.specs.Texts.{delivered_to}
use Rattle.local_parts.proofs.Courses.{lines_stay}
use Rattle.maildir_drop.specs.declared.names.DropNames.{DropNames}
use Rattle.maildir_drop.specs.declared.row.Attempt.{Attempt}
use Rattle.maildir_drop.specs.declared.row.Attempt.TheVariants.{First, Second, Third}
use Rattle.maildir_drop.specs.declared.row.Outcome.{Outcome}
use Rattle.maildir_drop.specs.declared.row.Outcome.TheVariants.{Dropped, Failed}
use Rattle.maildir_drop.specs.declared.row.Row.{Row as DropRow}
use Rattle.maildir_drop.specs.declared.row.Row.TheVariants as drop
use Rattle.maildir_drop.specs.declared.row.Why.{Why}
use Rattle.maildir_drop.specs.declared.row.Why.TheVariants as drop_why
use Rattle.maildir_drop.specs.Ends.{end_at}
use Rattle.maildir_drop.specs.Names.{is_name, names_of, pair_at}
use Rattle.maildir_drop.specs.Table.{answered, begin_row, due_at as drop_due, failed, is_complete, next_row}
use Rattle.local_deliver.specs.declared.place.Place.{Place}
use Rattle.local_deliver.specs.declared.row.Failure.TheVariants as failure
use Rattle.local_deliver.specs.declared.row.Reading.{Reading}
use Rattle.local_deliver.specs.declared.row.Reading.TheVariants as reading
use Rattle.local_deliver.specs.declared.row.Row.{Row}
use Rattle.local_deliver.specs.declared.row.Row.TheVariants as at
use Rattle.local_deliver.specs.declared.row.Wanted.{Wanted}
use Rattle.local_deliver.specs.declared.row.Wanted.TheVariants as wanted
use Rattle.local_deliver.specs.Carried.{instructions, of_choice, of_read, plan_by}
use Rattle.local_deliver.specs.Deeds.{host_of, host_read, me_name, read_of, told_names}
use Rattle.local_deliver.specs.Deeds.FileText.{Whole}
use Rattle.local_deliver.specs.Drops.{Drop, drop_arguments, end_drop, moved_drop}
use Rattle.local_deliver.specs.Failures.{status_of, text_of}
use Rattle.local_deliver.specs.Table.{Next, act, begins_lines, closed, command_failed, dropped, dropped_by, drops_by, due_at, due_by_drop, file_wanted, follows, forward_failed, forwarded, gave, goes_on, hosted, hosted_by, input_ended, instructed, last_step, line_done, lines_done, looks, named, opened, place_after, read_on, step_of, takes}
use Rattle.local_deliver.proofs.Carrying.{holds, not_ended_drop}
use Rattle.local_deliver.proofs.Deeds.{deeds_of}
use Rattle.local_deliver.proofs.MeNames.{no_me}
use Rattle.local_deliver.proofs.Underway.{AtSome as AtWork, Inv}
use Rattle.program_runner.specs.Outside.{FailsToGive, FailsToTake}
use Rattle.program_runner.specs.Runs.{HasEvent}
use Rattle.local_command.specs.Delivered.{FailsOverChild}
use Rattle.local_command.specs.Unhindered.{IsBadEnd, IsMissing, IsTaken}

-- a call of the past that failed, or met a name that is missing or taken
data Trouble (past : List Own) : Type 0 where
  Faulted : HasCall past IsFault → Trouble past
  Missing : HasCall past IsMissing → Trouble past
  Taken : HasCall past IsTaken → Trouble past

-- what hinders a delivery
pub data Hindered (args : LocalArgs) (past : List Own) : Type 0 where
  NoMessage : message_in (taken past) ≡ None → Hindered args past
  Loops : (message : List ℕ) → message_in (taken past) ≡ Some message → is_looping (delivered_to args) message ≡ true → Hindered args past
  NoHost : host_read past ≡ None → Hindered args past
  NoForm : is_name args.home ≡ false → Hindered args past
  NoPlan : instructions args past ≡ None → Hindered args past
  HasMailbox : (lines : List Line) (path : List ℕ) → instructions args past ≡ Some lines → Contains lines (line.Mailbox path) → Hindered args past
  BadName : (lines : List Line) (path host message : List ℕ) (moment : ℕ) → instructions args past ≡ Some lines → Contains lines (line.Maildir path) → host_read past ≡ Some host
      → message_in (taken past) ≡ Some message → is_name (pair_at (names_of (drop_arguments args moment path host message)) First).tmp ≡ false → Hindered args past
  IsFaulted : HasCall past IsFault → Hindered args past
  LacksSome : HasCall past IsMissing → Hindered args past
  FindsTaken : HasCall past IsTaken → Hindered args past
  InputFailed : HasEvent past FailsToTake → Hindered args past
  OutputFailed : HasEvent past FailsToGive → Hindered args past
  ChildFailed : HasEvent past FailsOverChild → Hindered args past
  EndsBad : HasEvent past IsBadEnd → Hindered args past

by_trouble : (args : LocalArgs) (past : List Own) → Trouble past → Hindered args past
by_trouble args past (Faulted h) = IsFaulted h
by_trouble args past (Missing h) = LacksSome h
by_trouble args past (Taken h) = FindsTaken h

trouble_later : (event : Own) (before : List Own) → Trouble before → Trouble (event ∷ before)
trouble_later event before (Faulted h) = Faulted (inr h)
trouble_later event before (Missing h) = Missing (inr h)
trouble_later event before (Taken h) = Taken (inr h)

abbrev event_of : ℕ → Ready → NeedData → GotData → Own
event_of now ready due got = record { read = now; ready = ready; due = due; came = got }

-- a report goes out
given : (args : LocalArgs) (now : ℕ) (ready : Ready) (text : List ℕ) (got : GotData) (before : List Own) → Hindered args before → Hindered args (event_of now ready (needs.Give port.Output text) got ∷ before)
given args now ready text got before (NoMessage e) = NoMessage e
given args now ready text got before (Loops message e l) = Loops message e l
given args now ready text got before (NoHost e) = NoHost e
given args now ready text got before (NoForm e) = NoForm e
given args now ready text got before (NoPlan e) = NoPlan e
given args now ready text got before (HasMailbox lines path e c) = HasMailbox lines path e c
given args now ready text got before (BadName lines path host message moment e c h m n) = BadName lines path host message moment e c h m n
given args now ready text got before (IsFaulted h) = IsFaulted (inr h)
given args now ready text got before (LacksSome h) = LacksSome (inr h)
given args now ready text got before (FindsTaken h) = FindsTaken (inr h)
given args now ready text got before (InputFailed h) = InputFailed (inr h)
given args now ready text got before (OutputFailed h) = OutputFailed (inr h)
given args now ready text got before (ChildFailed h) = ChildFailed (inr h)
given args now ready text got before (EndsBad h) = EndsBad (inr h)

-- At each row

abbrev TellsOf : LocalArgs → List Own → Place → Type 0
TellsOf args past p = instructions args past ≡ Some (lines_of p.course)

-- a drop that is to be deferred met trouble
abbrev FineWhy : List Own → Why → Type 0
FineWhy past drop_why.Defer = Trouble past
FineWhy past drop_why.Memory = Unit {0}

abbrev FineOutcome : List Own → Outcome → Type 0
FineOutcome past Dropped = Unit {0}
FineOutcome past (Failed reason) = FineWhy past reason

abbrev FineRow : List Own → DropRow → Type 0
FineRow past (drop.Shut a fd reason) = FineWhy past reason
FineRow past (drop.Unlink a outcome) = FineOutcome past outcome
FineRow past (drop.Ended a outcome) = FineOutcome past outcome
FineRow past (drop.Create a) = Unit {0}
FineRow past (drop.Append a fd) = Unit {0}
FineRow past (drop.Sync a fd) = Unit {0}
FineRow past (drop.Close a fd) = Unit {0}
FineRow past (drop.Link a) = Unit {0}

record FineDrop (args : LocalArgs) (past : List Own) (p : Place) (it : Drop) : Type 0 where
  told : TellsOf args past p
  row : FineRow past it.place.row

abbrev FineSome : LocalArgs → List Own → Place → Option Drop → Type 0
FineSome args past p None = Unit {0}
FineSome args past p (Some it) = FineDrop args past p it

abbrev OrDone : LocalArgs → List Own → ℕ → Type 0
OrDone args past status = (status ≡ 0) ⊎ Hindered args past

abbrev OrOver : LocalArgs → List Own → ℕ → Type 0
OrOver args past status = (status ≡ 0) ⊎ ((status ≡ 51) ⊎ Hindered args past)

abbrev Fine : LocalArgs → List Own → Row → Place → Type 0
Fine args past (at.Close what fd reading.Fault) p = HasCall past IsFault
Fine args past (at.Close what fd reading.Whole) p = Unit {0}
Fine args past (at.Close what fd reading.Memory) p = Unit {0}
Fine args past at.Drop p = FineSome args past p p.dropping
Fine args past at.Run p = TellsOf args past p
Fine args past (at.Report status) p = OrDone args past status
Fine args past (at.Fail reason) p = Hindered args past
Fine args past (at.Ended status) p = OrOver args past status
Fine args past at.TakeInput p = Unit {0}
Fine args past (at.Open what) p = Unit {0}
Fine args past (at.Read what fd) p = Unit {0}
Fine args past at.NextName p = Unit {0}
Fine args past at.Start p = Unit {0}
Fine args past at.Feed p = Unit {0}
Fine args past at.TakeStatus p = Unit {0}

abbrev FineAt : LocalArgs → List Own → Place → Type 0
FineAt args past p = Fine args past p.row p

-- a line that is next is one of the lines
mailbox_in : (ahead : List Line) (path : List ℕ) → work_of ahead ≡ ToMailbox path → Contains ahead (line.Mailbox path)
mailbox_in [] path e = absurd (cc)
mailbox_in (line.Forward address ∷ more) path e = Contains-append_right (line.Forward address ∷ []) more (line.Mailbox path) (mailbox_in more path e)
mailbox_in (line.Command text ∷ more) path e = absurd (cc)
mailbox_in (line.Maildir other ∷ more) path e = absurd (cc)
mailbox_in (line.Mailbox other ∷ more) path e = let same : other ≡ path = cc in (0, omega arith, ap (λ t. line.Mailbox t) same)

maildir_in : (ahead : List Line) (path : List ℕ) → work_of ahead ≡ ToMaildir path → Contains ahead (line.Maildir path)
maildir_in [] path e = absurd (cc)
maildir_in (line.Forward address ∷ more) path e = Contains-append_right (line.Forward address ∷ []) more (line.Maildir path) (maildir_in more path e)
maildir_in (line.Command text ∷ more) path e = absurd (cc)
maildir_in (line.Mailbox other ∷ more) path e = absurd (cc)
maildir_in (line.Maildir other ∷ more) path e = let same : other ≡ path = cc in (0, omega arith, ap (λ t. line.Maildir t) same)

-- Going on, after some event

module _ (args : LocalArgs) (now : ℕ) (past : List Own) where
  abbrev Goes : Place → Type 0
  Goes p = FineAt args past p

  -- the message and the host are known
  abbrev KnownSo : Place → Type 0
  KnownSo p = (message_in (taken past) ≡ Some p.message) × (host_read past ≡ Some p.host)

  last_goes : (o : Option Injection) (lines : List Line) (p : Place) → Goes (takes (last_step o lines) p)
  last_goes None lines p = inl refl
  last_goes (Some it) lines p = tt

  abbrev first_drop : List ℕ → Place → Bool → Drop
  first_drop path p t = record {
    names = names_of (drop_arguments args now path p.host p.message);
    place = record { row = (if t then drop.Create First else failed First drop_why.Defer); left = (drop_arguments args now path p.host p.message).bytes };
  }

  first_drops : (path : List ℕ) (p : Place) (t : Bool) → is_name (pair_at (names_of (drop_arguments args now path p.host p.message)) First).tmp ≡ t → TellsOf args past p → KnownSo p
      → Contains (lines_of p.course) (line.Maildir path) → Goes (drops_by (end_drop (first_drop path p t)) (first_drop path p t) p)
  first_drops path p true e told known within = record { told = told; row = tt }
  first_drops path p false e told known within = BadName (lines_of p.course) path p.host p.message now told within known.1 known.0 e

  works : (w : Work) (p : Place) → work_of p.course.ahead ≡ w → TellsOf args past p → KnownSo p → Goes (takes (step_of args now w (lines_of p.course) p) p)
  works Nothing p e told known = last_goes (injection_of args p.names p.message (lines_of p.course)) (lines_of p.course) p
  works (ToCommand text) p e told known = told
  works (ToMaildir path) p e told known =
      first_drops path p (is_name (pair_at (names_of (drop_arguments args now path p.host p.message)) First).tmp) refl told known
      (Contains-append_right p.course.done p.course.ahead (line.Maildir path) (maildir_in p.course.ahead path e))
  works (ToMailbox path) p e told known =
      HasMailbox (lines_of p.course) path told (Contains-append_right p.course.done p.course.ahead (line.Mailbox path) (mailbox_in p.course.ahead path e))

  goes : (p : Place) → TellsOf args past p → KnownSo p → Goes (goes_on args now p)
  goes p told known = works (work_of p.course.ahead) p refl told known

  passes : (p : Place) → TellsOf args past p → KnownSo p → Goes (line_done args now p)
  passes p told known = goes (record p { course = passed p.course }) (told ∙ ap Some (sym (lines_stay p.course))) known

  cuts : (p : Place) → Goes (lines_done args now p)
  cuts p = last_goes (injection_of args p.names p.message (lines_of (cut p.course))) (lines_of (cut p.course)) (record p { course = cut p.course })

  begins : (p : Place) (bytes : List ℕ) → instructions args past ≡ plan_of bytes → KnownSo p → Goes (begins_lines args now (course_of bytes) p)
  unfolding course_of
  begins p bytes told known = by (plan_of bytes) refl
    where
      by : (o : Option (List Line)) → plan_of bytes ≡ o → Goes (begins_lines args now (option_map begun_course o) p)
      by None e = NoPlan (told ∙ e)
      by (Some lines) e = goes (record p { course = begun_course lines }) (told ∙ e) known

  -- what was chosen tells the instructions
  told_by : (p : Place) (o : Option Chosen) → told_names args.home past ≡ p.names → chosen_by args p.names ≡ o → instructions args past ≡ of_choice args p.names o (λ name. read_of name past)
  told_by p o names e = ap (λ n. plan_by args n (λ name. read_of name past)) names ∙ ap (λ c. of_choice args p.names c (λ name. read_of name past)) e

  follows_so : (p : Place) → told_names args.home past ≡ p.names → KnownSo p → (o : Option Chosen) → chosen_by args p.names ≡ o → Goes (follows args now o p)
  follows_so p names known None e = NoPlan (told_by p None names e)
  follows_so p names known (Some chosen.Default) e = begins p (default_text args) (told_by p (Some chosen.Default) names e) known
  follows_so p names known (Some (chosen.File place)) e = tt

  told_lines : (p : Place) (place : ℕ) → told_names args.home past ≡ p.names → chosen_by args p.names ≡ Some (chosen.File place) → read_of (file_name args p.names place) past ≡ Whole p.read → KnownSo p
      → (bytes : List ℕ) → p.read ≡ bytes → Goes (instructed args now bytes p)
  told_lines p place names is read known [] e = begins p (default_text args) (told_by p (Some (chosen.File place)) names is ∙ ap (of_read args) (read ∙ ap Whole e)) known
  told_lines p place names is read known (b ∷ bytes) e = begins p (b ∷ bytes) (told_by p (Some (chosen.File place)) names is ∙ ap (of_read args) (read ∙ ap Whole e)) known

  looked : (p : Place) → Goes (looks args p)
  looked p = by (is_name args.home) refl
    where
      by : (t : Bool) → is_name args.home ≡ t → Goes (if t then record p { row = at.NextName } else record p { row = at.Fail failure.Home })
      by true e = tt
      by false e = NoForm e

  names_host : (host : List ℕ) (p : Place) → message_in (taken past) ≡ Some p.message → Goes (hosted args host p)
  names_host host p input = by (is_looping (delivered_to args) p.message) refl
    where
      by : (t : Bool) → is_looping (delivered_to args) p.message ≡ t → Goes (if t then record p { row = at.Fail failure.Looping } else looks args (record p { host = host }))
      by true e = Loops p.message input e
      by false e = looked (record p { host = host })

  names_by : (o : Option (List ℕ)) (p : Place) → host_read past ≡ o → message_in (taken past) ≡ Some p.message → Goes (hosted_by args o p)
  names_by None p e input = NoHost e
  names_by (Some host) p e input = names_host host p input

-- A step of the drop at work

module _ (now : ℕ) (ready : Ready) (before : List Own) where
  abbrev made : CallData → Answer → List ℕ → Own
  made c told bytes = event_of now ready (needs.File c) (came.Answered (record { answer = told; bytes = bytes }))

  head_call : (P : CallData → Answer → Type 0) (c : CallData) (told : Answer) (bytes : List ℕ) → P c told → HasCall (made c told bytes ∷ before) P
  head_call P c told bytes h = inl (record { call = c; told = record { answer = told; bytes = bytes }; due = refl; came = refl; holds = h })

  faulted : (c : CallData) (bytes : List ℕ) → Trouble (made c (answer.Refused why.Fault) bytes ∷ before)
  faulted c bytes = Faulted (head_call IsFault c (answer.Refused why.Fault) bytes refl)

  missed : (c : CallData) (bytes : List ℕ) → (c ≢ call.Open me_name how.Read) → Trouble (made c (answer.Refused why.NotThere) bytes ∷ before)
  missed c bytes other = Missing (head_call IsMissing c (answer.Refused why.NotThere) bytes (refl, other))

  found_taken : (c : CallData) (bytes : List ℕ) → Trouble (made c (answer.Refused why.Exists) bytes ∷ before)
  found_taken c bytes = Taken (head_call IsTaken c (answer.Refused why.Exists) bytes refl)

  later_why : (event : Own) (reason : Why) → FineWhy before reason → FineWhy (event ∷ before) reason
  later_why event drop_why.Defer h = trouble_later event before h
  later_why event drop_why.Memory h = tt

  later_outcome : (event : Own) (outcome : Outcome) → FineOutcome before outcome → FineOutcome (event ∷ before) outcome
  later_outcome event Dropped h = tt
  later_outcome event (Failed reason) h = later_why event reason h

  next_fine : (past : List Own) (a : Attempt) (fd : Fd) (t : Bool) → FineRow past (next_row a fd t)
  next_fine past a fd true = tt
  next_fine past a fd false = tt

  module _ (names : DropNames) where
    begun_fine : (past : List Own) (a : Attempt) → Trouble past → FineRow past (begin_row names a)
    begun_fine past a h = elim (is_name (pair_at names a).tmp) as (λ t. FineRow past (if t then drop.Create a else failed a drop_why.Defer)) [ true ↦ tt | false ↦ h ]

    abbrev After : CallData → DropRow → List ℕ → Answer → List ℕ → Type 0
    After c row left told bytes = FineRow (made c told bytes ∷ before) (answered names row (record { row = row; left = left }) told).row

    at_create : (a : Attempt) (left : List ℕ) (told : Answer) (bytes : List ℕ) → IsAnswerTo (call.CreateExcl (pair_at names a).tmp) told → After (call.CreateExcl (pair_at names a).tmp) (drop.Create a) left told bytes
    at_create a left (answer.Created fd n) bytes fit = next_fine _ a fd (is_complete left)
    at_create First left (answer.Refused why.Exists) bytes fit = begun_fine _ Second (found_taken (call.CreateExcl (pair_at names First).tmp) bytes)
    at_create Second left (answer.Refused why.Exists) bytes fit = begun_fine _ Third (found_taken (call.CreateExcl (pair_at names Second).tmp) bytes)
    at_create Third left (answer.Refused why.Exists) bytes fit = found_taken (call.CreateExcl (pair_at names Third).tmp) bytes
    at_create a left (answer.Refused why.NotThere) bytes fit = missed (call.CreateExcl (pair_at names a).tmp) bytes (λ e. cc)
    at_create a left (answer.Refused why.Fault) bytes fit = faulted (call.CreateExcl (pair_at names a).tmp) bytes
    at_create a left (answer.Refused why.Memory) bytes fit = tt
    at_create a left told bytes fit = absurd fit

    at_append : (a : Attempt) (fd : Fd) (left : List ℕ) (told : Answer) (bytes : List ℕ) → IsAnswerTo (call.Append fd (take 8192 left)) told → After (call.Append fd (take 8192 left)) (drop.Append a fd) left told bytes
    at_append a fd left answer.Done bytes fit = next_fine _ a fd _
    at_append a fd left (answer.Refused why.Fault) bytes fit = faulted (call.Append fd (take 8192 left)) bytes
    at_append a fd left (answer.Refused why.Memory) bytes fit = tt
    at_append a fd left told bytes fit = absurd fit

    at_sync : (a : Attempt) (fd : Fd) (left : List ℕ) (told : Answer) (bytes : List ℕ) → IsAnswerTo (call.Sync fd) told → After (call.Sync fd) (drop.Sync a fd) left told bytes
    at_sync a fd left answer.Done bytes fit = tt
    at_sync a fd left (answer.Refused why.Fault) bytes fit = faulted (call.Sync fd) bytes
    at_sync a fd left told bytes fit = absurd fit

    abbrev link : Attempt → CallData
    link a = call.Link (pair_at names a).tmp (pair_at names a).new

    at_link : (a : Attempt) (left : List ℕ) (told : Answer) (bytes : List ℕ) → IsAnswerTo (link a) told → After (link a) (drop.Link a) left told bytes
    at_link a left answer.Done bytes fit = tt
    at_link a left (answer.Refused why.NotThere) bytes fit = missed (link a) bytes (λ e. cc)
    at_link a left (answer.Refused why.Exists) bytes fit = found_taken (link a) bytes
    at_link a left (answer.Refused why.Fault) bytes fit = faulted (link a) bytes
    at_link a left (answer.Refused why.Memory) bytes fit = tt
    at_link a left told bytes fit = absurd fit

-- A step

module _ (args : LocalArgs) (now : ℕ) (ready : Ready) (before : List Own) (p : Place) where
  abbrev ev : NeedData → GotData → Own
  ev due got = event_of now ready due got

  abbrev Step : Row → GotData → Type 0
  Step row got = FineAt args (ev (due_at args row p) got ∷ before) (act args now row got p)

  abbrev Known : Row → Type 0
  Known row = Inv args (deeds_of before) row p

  abbrev told_of : Answer → List ℕ → GotData
  told_of told bytes = came.Answered (record { answer = told; bytes = bytes })

  at_end : (o : Option (List ℕ)) → message_in p.message ≡ o → Known at.TakeInput → FineAt args (ev (needs.Take port.Input) came.End ∷ before) (input_ended o p)
  at_end None e h = NoMessage (ap message_in h.0 ∙ e)
  at_end (Some message) e h = tt

  at_input : (got : GotData) → Known at.TakeInput → MayCome (needs.Take port.Input) got → Step at.TakeInput got
  at_input (came.Took bytes) h may = tt
  at_input came.End h may = at_end (message_in p.message) refl h
  at_input came.Failed h may = InputFailed (inl (record { due = refl; came = refl }))
  at_input (came.Answered told) h may = absurd may
  at_input (came.Ended status) h may = absurd may
  at_input came.Crashed h may = absurd may
  at_input came.Gave h may = absurd may
  at_input (came.Started pid) h may = absurd may
  at_input came.Memory h may = absurd may

  other_name : (name : List ℕ) → bytes_eq name me_name ≡ false → call.Open name how.Read ≢ call.Open me_name how.Read
  other_name name e is = let same : name ≡ me_name = cc in false≢true (sym e ∙ ap (λ n. bytes_eq n me_name) same ∙ refl)

  at_open : (what : Wanted) (name : List ℕ) (told : Answer) (bytes : List ℕ) → file_wanted what p ≡ name → Known (at.Open what) → IsAnswerTo (call.Open name how.Read) told
      → FineAt args (ev (needs.File (call.Open name how.Read)) (told_of told bytes) ∷ before) (opened args what told p)
  at_open what name (answer.Opened fd) bytes same h fit = tt
  at_open wanted.Host name (answer.Refused why.NotThere) bytes same h fit = names_host args now (ev (needs.File (call.Open name how.Read)) (told_of (answer.Refused why.NotThere) bytes) ∷ before) _ p h.input
  at_open wanted.Instructions name (answer.Refused why.NotThere) bytes same h fit =
      by_trouble args _ (missed now ready before (call.Open name how.Read) bytes (other_name name (ap (λ n. bytes_eq n me_name) (sym same ∙ h.is) ∙ no_me args p.names h.file.place h.file.chosen)))
  at_open what name (answer.Refused why.Fault) bytes same h fit = by_trouble args _ (faulted now ready before (call.Open name how.Read) bytes)
  at_open what name (answer.Refused why.Memory) bytes same h fit = inr (inl refl)
  at_open what name told bytes same h fit = absurd fit

  at_read : (what : Wanted) (fd : Fd) (from : ℕ) (told : Answer) (bytes : List ℕ) → IsAnswerTo (call.ReadAt fd from 8192) told
      → FineAt args (ev (needs.File (call.ReadAt fd from 8192)) (told_of told bytes) ∷ before) (read_on what fd told bytes p)
  at_read what fd from (answer.Count count) bytes fit =
      elim (nat_lt (length bytes) 8192) as (λ t. Fine args (ev (needs.File (call.ReadAt fd from 8192)) (told_of (answer.Count count) bytes) ∷ before)
      (if t then at.Close what fd reading.Whole else at.Read what fd)
      (record p { row = (if t then at.Close what fd reading.Whole else at.Read what fd); read = p.read ++ bytes })) [ true ↦ tt | false ↦ tt ]
  at_read what fd from (answer.Refused why.Fault) bytes fit = head_call now ready before IsFault (call.ReadAt fd from 8192) (answer.Refused why.Fault) bytes refl
  at_read what fd from told bytes fit = absurd fit

  at_close : (what : Wanted) (fd : Fd) (went : Reading) (told : Told) → Known (at.Close what fd went) → Fine args before (at.Close what fd went) p
      → FineAt args (ev (needs.File (call.Close fd)) (came.Answered told) ∷ before) (closed args now what went p)
  at_close wanted.Host fd reading.Whole told h w = names_by args now (ev (needs.File (call.Close fd)) (came.Answered told) ∷ before) (host_in p.read) p (ap host_of h.me) h.input
  at_close wanted.Instructions fd reading.Whole told h w =
      told_lines args now (ev (needs.File (call.Close fd)) (came.Answered told) ∷ before) p h.file.place h.file.before.names h.file.chosen h.bytes
      (h.file.before.input, h.file.before.host) p.read refl
  at_close what fd reading.Fault told h w = IsFaulted (inr w)
  at_close what fd reading.Memory told h w = inr (inl refl)

  at_names : (after : List ℕ) (told : Answer) (bytes : List ℕ) → Known at.NextName → IsAnswerTo (call.NextName args.home after) told
      → FineAt args (ev (needs.File (call.NextName args.home after)) (told_of told bytes) ∷ before) (named args now told p)
  at_names after (answer.Name name) bytes h fit = tt
  at_names after answer.NoName bytes h fit =
      follows_so args now (ev (needs.File (call.NextName args.home after)) (told_of answer.NoName bytes) ∷ before) p h.names (h.input, h.host) (chosen_by args p.names) refl
  at_names after (answer.Refused why.NotThere) bytes h fit = by_trouble args _ (missed now ready before (call.NextName args.home after) bytes (λ e. cc))
  at_names after (answer.Refused why.Fault) bytes h fit = by_trouble args _ (faulted now ready before (call.NextName args.home after) bytes)
  at_names after told bytes h fit = absurd fit

  -- a command

  bad_exit : (text : List ℕ) (code : ℕ) → (code == 0) ≡ false → (code == 99) ≡ false → Hindered args (ev (needs.Command text) (came.Ended code) ∷ before)
  bad_exit text code nonzero other = EndsBad (inl (nonzero, other))

  at_exit : (text : List ℕ) (code : ℕ) (s t : Bool) → (code == 0) ≡ s → (code == 99) ≡ t → instructions args before ≡ Some (lines_of p.course)
      → (message_in (taken before) ≡ Some p.message) × (host_read before ≡ Some p.host)
      → FineAt args (ev (needs.Command text) (came.Ended code) ∷ before) (if s then line_done args now p else (if t then lines_done args now p else command_failed code p))
  at_exit text code true t nonzero other told known = passes args now (ev (needs.Command text) (came.Ended code) ∷ before) p told known
  at_exit text code false true nonzero other told known = cuts args now (ev (needs.Command text) (came.Ended code) ∷ before) p
  at_exit text code false false nonzero other told known = inr (bad_exit text code nonzero other)

  at_run : (text : List ℕ) (got : GotData) → Known at.Run → TellsOf args before p → MayCome (needs.Command text) got → FineAt args (ev (needs.Command text) got ∷ before) (act args now at.Run got p)
  at_run text (came.Ended code) h w may = at_exit text code (code == 0) (code == 99) refl refl w (h.under.known.input, h.under.known.host)
  at_run text came.Crashed h w may = inr (EndsBad (inl tt))
  at_run text came.Failed h w may = inr (ChildFailed (inl (record { due = tt; came = refl })))
  at_run text came.Memory h w may = inr (inl refl)
  at_run text (came.Answered it) h w may = absurd may
  at_run text (came.Took bytes) h w may = absurd may
  at_run text came.End h w may = absurd may
  at_run text came.Gave h w may = absurd may
  at_run text (came.Started pid) h w may = absurd may

  -- the injector

  at_start : (got : GotData) → MayCome (needs.Start (ForwardChild args.uid p.room)) got → Step at.Start got
  at_start (came.Started pid) may = tt
  at_start came.Memory may = inr (inl refl)
  at_start came.Failed may = inr (ChildFailed (inl (record { due = tt; came = refl })))
  at_start (came.Answered it) may = absurd may
  at_start (came.Took bytes) may = absurd may
  at_start came.End may = absurd may
  at_start (came.Ended code) may = absurd may
  at_start came.Crashed may = absurd may
  at_start came.Gave may = absurd may

  at_feed : (got : GotData) → MayCome (needs.Give (port.Program 0) p.text) got → Step at.Feed got
  at_feed came.Gave may = tt
  at_feed came.Failed may = inr (inr (ChildFailed (inl (record { due = tt; came = refl }))))
  at_feed (came.Answered it) may = absurd may
  at_feed (came.Took bytes) may = absurd may
  at_feed came.End may = absurd may
  at_feed (came.Ended code) may = absurd may
  at_feed came.Crashed may = absurd may
  at_feed (came.Started pid) may = absurd may
  at_feed came.Memory may = absurd may

  at_code : (code : ℕ) (t : Bool) → (code == 0) ≡ t → FineAt args (ev (needs.Take (port.Status 0)) (came.Ended code) ∷ before) (if t then forwarded p else forward_failed code p)
  at_code code true e = inl refl
  at_code code false e = inr (EndsBad (inl e))

  at_status : (got : GotData) → MayCome (needs.Take (port.Status 0)) got → Step at.TakeStatus got
  at_status (came.Ended code) may = at_code code (code == 0) refl
  at_status came.Crashed may = inr (EndsBad (inl tt))
  at_status came.Failed may = inr (ChildFailed (inl (record { due = tt; came = refl })))
  at_status (came.Answered it) may = absurd may
  at_status (came.Took bytes) may = absurd may
  at_status came.End may = absurd may
  at_status came.Gave may = absurd may
  at_status (came.Started pid) may = absurd may
  at_status came.Memory may = absurd may

  given_so : (status : ℕ) (text : List ℕ) (got : GotData) → OrDone args before status → OrOver args (ev (needs.Give port.Output text) got ∷ before) status
  given_so status text got (inl e) = inl e
  given_so status text got (inr h) = inr (inr (given args now ready text got before h))

  at_report : (status : ℕ) (text : List ℕ) (got : GotData) → OrDone args before status → MayCome (needs.Give port.Output text) got
      → FineAt args (ev (needs.Give port.Output text) got ∷ before) (gave status got p)
  at_report status text came.Gave w may = given_so status text came.Gave w
  at_report status text came.Failed w may = inr (inr (OutputFailed (inl (record { bytes = text; due = refl; came = refl }))))
  at_report status text (came.Answered it) w may = absurd may
  at_report status text (came.Took bytes) w may = absurd may
  at_report status text came.End w may = absurd may
  at_report status text (came.Ended code) w may = absurd may
  at_report status text came.Crashed w may = absurd may
  at_report status text (came.Started pid) w may = absurd may
  at_report status text came.Memory w may = absurd may

  -- the drop at work

  module _ (event : Own) (is : p.row ≡ at.Drop) (it : Drop) (told : TellsOf args (event ∷ before) p) (known : (message_in (taken (event ∷ before)) ≡ Some p.message) × (host_read (event ∷ before) ≡ Some p.host))
      (row_fine : FineRow (event ∷ before) it.place.row) where
    still_at : FineAt args (event ∷ before) (record p { dropping = Some it })
    still_at = subst (λ row. Fine args (event ∷ before) row (record p { dropping = Some it })) (sym is) (record { told = told; row = row_fine })

    drop_goes : (row : DropRow) → it.place.row ≡ row → FineAt args (event ∷ before) (dropped_by args now (end_at it.names row) it p)
    drop_goes (drop.Ended a Dropped) same = passes args now (event ∷ before) (record p { dropping = None }) told known
    drop_goes (drop.Ended a (Failed drop_why.Defer)) same = by_trouble args (event ∷ before) (subst (FineRow (event ∷ before)) same row_fine)
    drop_goes (drop.Ended a (Failed drop_why.Memory)) same = inr (inl refl)
    drop_goes (drop.Create a) same = still_at
    drop_goes (drop.Append a fd) same = still_at
    drop_goes (drop.Sync a fd) same = still_at
    drop_goes (drop.Close a fd) same = still_at
    drop_goes (drop.Link a) same = still_at
    drop_goes (drop.Shut a fd reason) same = still_at
    drop_goes (drop.Unlink a outcome) same = still_at

  abbrev file_event : CallData → Told → Own
  file_event c told = ev (needs.File c) (came.Answered told)

  at_drop : (names : DropNames) (left : List ℕ) (row : DropRow) (got : GotData) → p.row ≡ at.Drop → TellsOf args before p
      → (message_in (taken before) ≡ Some p.message) × (host_read before ≡ Some p.host) → FineRow before row → MayCome (drop_due names row left) got
      → FineAt args (ev (drop_due names row left) got ∷ before) (dropped args now got (Some (record { names = names; place = record { row = row; left = left } })) p)
  at_drop names left (drop.Create a) got is told known fine may =
      by_fit (call.CreateExcl (pair_at names a).tmp) (λ g. FineAt args (ev (drop_due names (drop.Create a) left) g ∷ before) (dropped args now g (Some (record { names = names; place = record { row = drop.Create a; left = left } })) p)) got may
      (λ t fit. drop_goes (file_event (call.CreateExcl (pair_at names a).tmp) t) is (moved_drop (came.Answered t) (record { names = names; place = record { row = drop.Create a; left = left } })) told known
      (at_create now ready before names a left t.answer t.bytes fit) _ refl)
  at_drop names left (drop.Append a fd) got is told known fine may =
      by_fit (call.Append fd (take 8192 left)) (λ g. FineAt args (ev (drop_due names (drop.Append a fd) left) g ∷ before) (dropped args now g (Some (record { names = names; place = record { row = drop.Append a fd; left = left } })) p)) got may
      (λ t fit. drop_goes (file_event (call.Append fd (take 8192 left)) t) is (moved_drop (came.Answered t) (record { names = names; place = record { row = drop.Append a fd; left = left } })) told known
      (at_append now ready before names a fd left t.answer t.bytes fit) _ refl)
  at_drop names left (drop.Sync a fd) got is told known fine may =
      by_fit (call.Sync fd) (λ g. FineAt args (ev (drop_due names (drop.Sync a fd) left) g ∷ before) (dropped args now g (Some (record { names = names; place = record { row = drop.Sync a fd; left = left } })) p)) got may
      (λ t fit. drop_goes (file_event (call.Sync fd) t) is (moved_drop (came.Answered t) (record { names = names; place = record { row = drop.Sync a fd; left = left } })) told known
      (at_sync now ready before names a fd left t.answer t.bytes fit) _ refl)
  at_drop names left (drop.Close a fd) got is told known fine may =
      by_fit (call.Close fd) (λ g. FineAt args (ev (drop_due names (drop.Close a fd) left) g ∷ before) (dropped args now g (Some (record { names = names; place = record { row = drop.Close a fd; left = left } })) p)) got may
      (λ t fit. drop_goes (file_event (call.Close fd) t) is (moved_drop (came.Answered t) (record { names = names; place = record { row = drop.Close a fd; left = left } })) told known tt _ refl)
  at_drop names left (drop.Link a) got is told known fine may =
      by_fit (call.Link (pair_at names a).tmp (pair_at names a).new) (λ g. FineAt args (ev (drop_due names (drop.Link a) left) g ∷ before) (dropped args now g (Some (record { names = names; place = record { row = drop.Link a; left = left } })) p)) got may
      (λ t fit. drop_goes (file_event (call.Link (pair_at names a).tmp (pair_at names a).new) t) is (moved_drop (came.Answered t) (record { names = names; place = record { row = drop.Link a; left = left } })) told known
      (at_link now ready before names a left t.answer t.bytes fit) _ refl)
  at_drop names left (drop.Shut a fd reason) got is told known fine may =
      by_fit (call.Close fd) (λ g. FineAt args (ev (drop_due names (drop.Shut a fd reason) left) g ∷ before) (dropped args now g (Some (record { names = names; place = record { row = drop.Shut a fd reason; left = left } })) p)) got may
      (λ t fit. drop_goes (file_event (call.Close fd) t) is (moved_drop (came.Answered t) (record { names = names; place = record { row = drop.Shut a fd reason; left = left } })) told known
      (later_why now ready before (file_event (call.Close fd) t) reason fine) _ refl)
  at_drop names left (drop.Unlink a outcome) got is told known fine may =
      by_fit (call.Unlink (pair_at names a).tmp) (λ g. FineAt args (ev (drop_due names (drop.Unlink a outcome) left) g ∷ before) (dropped args now g (Some (record { names = names; place = record { row = drop.Unlink a outcome; left = left } })) p)) got may
      (λ t fit. drop_goes (file_event (call.Unlink (pair_at names a).tmp) t) is (moved_drop (came.Answered t) (record { names = names; place = record { row = drop.Unlink a outcome; left = left } })) told known
      (later_outcome now ready before (file_event (call.Unlink (pair_at names a).tmp) t) outcome fine) _ refl)
  at_drop names left (drop.Ended a outcome) got is told known fine may = absurd may

  at_some : (o : Option Drop) (got : GotData) → p.row ≡ at.Drop → FineSome args before p o → AtWork args (deeds_of before) p o → MayCome (due_by_drop o) got
      → FineAt args (ev (due_by_drop o) got ∷ before) (dropped args now got o p)
  at_some None got is w h may = absurd may
  at_some (Some it) got is w h may = at_drop it.names it.place.left it.place.row got is w.told (h.0.under.known.input, h.0.under.known.host) w.row may

  step : (row : Row) (got : GotData) → p.row ≡ row → Known row → Fine args before row p → MayCome (due_at args row p) got → Step row got
  step at.TakeInput got is h w may = at_input got h may
  step (at.Open what) got is h w may =
      by_fit (call.Open (file_wanted what p) how.Read) (Step (at.Open what)) got may (λ told fit. at_open what (file_wanted what p) told.answer told.bytes refl h fit)
  step (at.Read what fd) got is h w may =
      by_fit (call.ReadAt fd (length p.read) 8192) (Step (at.Read what fd)) got may (λ told fit. at_read what fd (length p.read) told.answer told.bytes fit)
  step (at.Close what fd went) got is h w may = by_fit (call.Close fd) (Step (at.Close what fd went)) got may (λ told fit. at_close what fd went told h w)
  step at.NextName got is h w may =
      by_fit (call.NextName args.home (last_name p.names)) (Step at.NextName) got may (λ told fit. at_names (last_name p.names) told.answer told.bytes h fit)
  step at.Drop got is h w may = at_some p.dropping got is w h may
  step at.Run got is h w may = at_run p.text got h w may
  step at.Start got is h w may = at_start got may
  step at.Feed got is h w may = at_feed got may
  step at.TakeStatus got is h w may = at_status got may
  step (at.Report status) got is h w may = at_report status p.text got w may
  step (at.Fail reason) got is h w may = at_report (status_of reason) (text_of reason) got (inr w) may
  step (at.Ended status) got is h w may = absurd may

-- after each run
fines : (args : LocalArgs) (past : List Own) → IsRunBy (Next args) past → FineAt args past (place_after args past)
fines args [] run = tt
fines args (event ∷ before) run =
    let p : Place = place_after args before in
    let may = subst (λ x. MayCome x event.came) (sym run.1.0) run.1.1 in
    subst (λ x. FineAt args (record { read = event.read; ready = event.ready; due = x; came = event.came } ∷ before) (act args event.read p.row event.came p)) run.1.0
    (step args event.read event.ready before p p.row event.came refl (holds args before run.0) (fines args before run.0) may)

-- of a delivery that has ended
ended_so : (args : LocalArgs) (past : List Own) (p : Place) (row : Row) (status : ℕ) → Inv args (deeds_of past) row p → Fine args past row p → due_at args row p ≡ needs.Ended status
    → OrOver args past status
ended_so args past p (at.Ended ended) status h w due = let e : ended ≡ status = cc in subst (OrOver args past) e w
ended_so args past p at.TakeInput status h w due = absurd (cc)
ended_so args past p (at.Open what) status h w due = absurd (cc)
ended_so args past p (at.Read what fd) status h w due = absurd (cc)
ended_so args past p (at.Close what fd went) status h w due = absurd (cc)
ended_so args past p at.NextName status h w due = absurd (cc)
ended_so args past p at.Drop status h w due = absurd (by p.dropping h due)
  where
    by : (o : Option Drop) → AtWork args (deeds_of past) p o → due_by_drop o ≡ needs.Ended status → ⊥
    by None h due = absurd (cc)
    by (Some it) h due = not_ended_drop it.names it.place.left it.place.row status h.1 due
ended_so args past p at.Run status h w due = absurd (cc)
ended_so args past p at.Start status h w due = absurd (cc)
ended_so args past p at.Feed status h w due = absurd (cc)
ended_so args past p at.TakeStatus status h w due = absurd (cc)
ended_so args past p (at.Report reported) status h w due = absurd (cc)
ended_so args past p (at.Fail reason) status h w due = absurd (cc)

pub hindered : (args : LocalArgs) (past : List Own) (now : ℕ) (ready : Ready) (status : ℕ) → IsRunBy (Next args) past → Next args past now ready ≡ needs.Ended status
    → (status ≡ 0) ⊎ ((status ≡ 51) ⊎ Hindered args past)
hindered args past now ready status run due = ended_so args past (place_after args past) (place_after args past).row status (holds args past run) (fines args past run) due
