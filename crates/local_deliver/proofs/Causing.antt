-- Why a delivery has ended as it did: each row has its cause in the past.
use Rattle.std.proofs.Common.{◌≡◌, ℕ, List, [], ◌∷◌, ◌++◌, length, take, Bool, true, false, Option, Some, None, Contains, refl, sym, ap, ◌∙◌, subst, inl, inr, arith}
use Rattle.std.specs.Prelude.{◌⊎◌, if◌then◌else◌, nat_lt, ◌==◌}
use Rattle.std.specs.Option.{option_map}
use Rattle.std.proofs.lemmas.List.Elements.{Contains-append_right}
use Rattle.call_fs.specs.declared.calls.Answer.{Answer}
use Rattle.call_fs.specs.declared.calls.Answer.TheVariants as answer
use Rattle.call_fs.specs.declared.calls.CallData.{CallData}
use Rattle.call_fs.specs.declared.calls.CallData.TheVariants as call
use Rattle.call_fs.specs.declared.calls.Fd.{Fd}
use Rattle.call_fs.specs.declared.calls.FsError.TheVariants as why
use Rattle.call_fs.specs.declared.calls.How.TheVariants as how
use Rattle.call_fs.specs.declared.calls.Told.{Told}
use Rattle.call_fs.specs.declared.past.ChildData.TheVariants.{Forward as ForwardChild}
use Rattle.call_fs.specs.declared.past.GotData.{GotData}
use Rattle.call_fs.specs.declared.past.GotData.TheVariants as came
use Rattle.call_fs.specs.declared.past.NeedData.{NeedData}
use Rattle.call_fs.specs.declared.past.NeedData.TheVariants as needs
use Rattle.call_fs.specs.declared.past.Own.{Own}
use Rattle.call_fs.specs.declared.program.Port.TheVariants as port
use Rattle.call_fs.specs.declared.program.Ready.{Ready}
use Rattle.call_fs.specs.Columns.{IsAnswerTo}
use Rattle.call_fs.specs.Past.{HasCall, IsRunBy, taken}
use Rattle.call_fs.specs.Program.{MayCome}
use Rattle.dot_qmail.specs.declared.choice.Chosen.{Chosen}
use Rattle.dot_qmail.specs.declared.choice.Chosen.TheVariants as chosen
use Rattle.dot_qmail.specs.declared.line.Line.{Line}
use Rattle.dot_qmail.specs.declared.line.Line.TheVariants as line
use Rattle.dot_qmail.specs.Lines.{plan_of}
use Rattle.local_parts.specs.declared.arguments.LocalArgs.{LocalArgs}
use Rattle.local_parts.specs.declared.forwarding.Injection.{Injection}
use Rattle.local_parts.specs.Choosing.{chosen_by, file_name}
use Rattle.local_parts.specs.Course.{Work, begun as begun_course, course_of, cut, default_text, lines_of, passed, work_of}
use Rattle.local_parts.specs.Course.Work.{Nothing, ToCommand, ToMaildir, ToMailbox}
use Rattle.local_parts.specs.Endings.{is_lasting_command, is_lasting_injection, status_by}
use Rattle.local_parts.specs.Forwarding.{injection_of}
use Rattle.local_parts.specs.Host.{host_in}
use Rattle.local_parts.specs.Inputs.{message_in}
use Rattle.local_parts.specs.Looping.{is_looping}
use Rattle.local_parts.specs.Names.{last_name}
use Rattle.local_parts.specs.Texts.{delivered_to}
use Rattle.local_parts.proofs.Courses.{lines_stay}
use Rattle.maildir_drop.specs.declared.arguments.Arguments.{Arguments}
use Rattle.maildir_drop.specs.declared.names.DropNames.{DropNames}
use Rattle.maildir_drop.specs.declared.row.Attempt.TheVariants.{First}
use Rattle.maildir_drop.specs.declared.row.Outcome.TheVariants.{Dropped, Failed}
use Rattle.maildir_drop.specs.declared.row.Row.{Row as DropRow}
use Rattle.maildir_drop.specs.declared.row.Row.TheVariants as drop
use Rattle.maildir_drop.specs.declared.row.Why.TheVariants as drop_why
use Rattle.maildir_drop.specs.Causes.{IsCause, LacksMemory as CallLacksMemory}
use Rattle.maildir_drop.specs.Causes.IsDeferred.{HasNoForm}
use Rattle.maildir_drop.specs.Ends.{end_at}
use Rattle.maildir_drop.specs.Names.{is_name, names_of, pair_at}
use Rattle.maildir_drop.specs.Table.{due_at as drop_due, failed}
use Rattle.maildir_drop.proofs.Reasons.{Caused, step as drop_step}
use Rattle.local_deliver.specs.declared.place.Place.{Place}
use Rattle.local_deliver.specs.declared.row.Failure.TheVariants as failure
use Rattle.local_deliver.specs.declared.row.Reading.{Reading}
use Rattle.local_deliver.specs.declared.row.Reading.TheVariants as reading
use Rattle.local_deliver.specs.declared.row.Row.{Row}
use Rattle.local_deliver.specs.declared.row.Row.TheVariants as at
use Rattle.local_deliver.specs.declared.row.Wanted.{Wanted}
use Rattle.local_deliver.specs.declared.row.Wanted.TheVariants as wanted
use Rattle.local_deliver.specs.Carried.{instructions, of_choice, of_read}
use Rattle.local_deliver.specs.Causes.{AreKnown, FoundNoMemory, IsCausedBy, IsLasting, IsPassing, Once, WasReadWhole}
use Rattle.local_deliver.specs.Causes.AreKnown.{ByDefault, ByFile}
use Rattle.local_deliver.specs.Causes.FoundNoMemory.{ByCall, ByCommand, ByStart}
use Rattle.local_deliver.specs.Causes.IsCausedBy.{Lasting, NoMemory, Passing, Success}
use Rattle.local_deliver.specs.Causes.IsLasting.{CommandExited, HasNoMailbox, InjectorExited, IsLoop}
use Rattle.local_deliver.specs.Causes.IsPassing.{CallFailed, CommandFailed, DropDeferred, FileIsMissing, FirstIsBlank, GiveFailed, HasMailbox, HomeHasNoForm, HomeIsMissing, HostIsBad, InjectorFailed, InputFailed, IsNoMessage, StartFailed}
use Rattle.local_deliver.specs.Causes.IsPassingEnd.{Crashed, OtherStatus, Unknown}
use Rattle.local_deliver.specs.Deeds.{FileText, host_of, host_read, me_name, read_of, told_names}
use Rattle.local_deliver.specs.Deeds.FileText.{Whole}
use Rattle.local_deliver.specs.Drops.{Drop, begun_drop, drop_arguments, end_drop, moved_drop}
use Rattle.local_deliver.specs.Failures.{status_of, text_of}
use Rattle.local_deliver.specs.Table.{Next, act, begins_lines, closed, command_failed, dropped, dropped_by, drops_by, due_at, due_by_drop, file_wanted, follows, forward_failed, forwarded, gave, goes_on, hosted, hosted_by, input_ended, instructed, last_step, line_done, lines_done, looks, named, opened, place_after, read_on, step_of, takes}
use Rattle.local_deliver.proofs.Carrying.{carried_out, holds, not_ended_drop}
use Rattle.local_deliver.proofs.Underway.{AtSome as AtWork, Inv}
use Rattle.call_fs.proofs.Coming.{by_fit}
use Rattle.local_deliver.proofs.Deeds.{deeds_of}

-- the causes that stay causes when more comes
data Because (args : LocalArgs) (past : List Own) : ℕ → Type 0 where
  ByLasting : Once (IsLasting args) past → Because args past 100
  ByPassing : Once (IsPassing args) past → Because args past 111
  ByMemory : Once FoundNoMemory past → Because args past 51

later : (args : LocalArgs) (event : Own) (before : List Own) (status : ℕ) → Because args before status → Because args (event ∷ before) status
later args event before _ (ByLasting h) = ByLasting (inr h)
later args event before _ (ByPassing h) = ByPassing (inr h)
later args event before _ (ByMemory h) = ByMemory (inr h)

-- the instructions became known just now, and are these
abbrev KnownAs : LocalArgs → List Line → List Own → Type 0
KnownAs args lines past = AreKnown args past × (instructions args past ≡ Some lines)

-- the lines that are followed are those of the instructions, that became known at some moment
abbrev TellsOf : LocalArgs → List Own → Place → Type 0
TellsOf args past p = (instructions args past ≡ Some (lines_of p.course)) × Once (KnownAs args (lines_of p.course)) past

record AtDrop (args : LocalArgs) (past : List Own) (p : Place) (it : Drop) : Type 0 where
  told : TellsOf args past p
  moment : ℕ
  path : List ℕ
  host : List ℕ
  message : List ℕ
  names : it.names ≡ names_of (drop_arguments args moment path host message)
  caused : Caused it.names past it.place.row

abbrev AtSome : LocalArgs → List Own → Place → Option Drop → Type 0
AtSome args past p None = Unit {0}
AtSome args past p (Some it) = AtDrop args past p it

abbrev OrDone : LocalArgs → List Own → ℕ → Type 0
OrDone args past status = (status ≡ 0) ⊎ Because args past status

abbrev Why : LocalArgs → List Own → Row → Place → Type 0
Why args past at.TakeInput p = Unit {0}
Why args past (at.Open what) p = Unit {0}
Why args past (at.Read what fd) p = Unit {0}
Why args past (at.Close what fd reading.Whole) p = Unit {0}
Why args past (at.Close what fd reading.Fault) p = Because args past 111
Why args past (at.Close what fd reading.Memory) p = Because args past 51
Why args past at.NextName p = Unit {0}
Why args past at.Drop p = AtSome args past p p.dropping
Why args past at.Run p = TellsOf args past p
Why args past at.Start p = Unit {0}
Why args past at.Feed p = Unit {0}
Why args past at.TakeStatus p = Unit {0}
Why args past (at.Report status) p = OrDone args past status
Why args past (at.Fail reason) p = Because args past (status_of reason)
Why args past (at.Ended status) p = OrDone args past status

abbrev WhyAt : LocalArgs → List Own → Place → Type 0
WhyAt args past p = Why args past p.row p

-- a line of a mailbox that is next is one of the lines
mailbox_in : (ahead : List Line) (path : List ℕ) → work_of ahead ≡ ToMailbox path → Contains ahead (line.Mailbox path)
mailbox_in [] path e = absurd (cc)
mailbox_in (line.Forward address ∷ more) path e = Contains-append_right (line.Forward address ∷ []) more (line.Mailbox path) (mailbox_in more path e)
mailbox_in (line.Command text ∷ more) path e = absurd (cc)
mailbox_in (line.Maildir other ∷ more) path e = absurd (cc)
mailbox_in (line.Mailbox other ∷ more) path e = let same : other ≡ path = cc in (0, omega arith, ap (λ t. line.Mailbox t) same)

-- a call of the past that found no memory
no_memory : (past : List Own) → HasCall past CallLacksMemory → Once FoundNoMemory past
no_memory [] h = absurd h
no_memory (event ∷ before) (inl w) =
    inl (ByCall w.call (w.told.bytes, (w.due, w.came ∙ ap (λ a. came.Answered (record { answer = a; bytes = w.told.bytes })) w.holds)))
no_memory (event ∷ before) (inr h) = inr (no_memory before h)

-- what holds at each moment at which something else does
at_each : (P Q : List Own → Type 0) (past : List Own) → ((at : List Own) → P at → Q at) → Once P past → Once Q past
at_each P Q [] f h = f [] h
at_each P Q (event ∷ before) f (inl h) = inl (f (event ∷ before) h)
at_each P Q (event ∷ before) f (inr h) = inr (at_each P Q before f h)

-- Going on, after some event

module _ (args : LocalArgs) (now : ℕ) (event : Own) (before : List Own) where
  abbrev past : List Own
  past = event ∷ before

  abbrev Goes : Place → Type 0
  Goes p = WhyAt args past p

  passing : IsPassing args past → Because args past 111
  passing h = ByPassing (inl h)

  last_goes : (o : Option Injection) (lines : List Line) (p : Place) → Goes (takes (last_step o lines) p)
  last_goes None lines p = inl refl
  last_goes (Some it) lines p = tt

  abbrev arguments : List ℕ → Place → Arguments
  arguments path p = drop_arguments args now path p.host p.message

  abbrev first_drop : List ℕ → Place → Bool → Drop
  first_drop path p t = record {
    names = names_of (arguments path p);
    place = record { row = (if t then drop.Create First else failed First drop_why.Defer); left = (arguments path p).bytes };
  }

  first_drops : (path : List ℕ) (p : Place) (t : Bool) → is_name (pair_at (names_of (arguments path p)) First).tmp ≡ t → TellsOf args past p
      → Goes (drops_by (end_drop (first_drop path p t)) (first_drop path p t) p)
  first_drops path p true e told = record { told = told; moment = now; path = path; host = p.host; message = p.message; names = refl; caused = tt }
  first_drops path p false e told = passing (DropDeferred now path p.host p.message (HasNoForm First e))

  drops : (path : List ℕ) (p : Place) → TellsOf args past p → Goes (drops_by (end_drop (begun_drop (arguments path p))) (begun_drop (arguments path p)) p)
  drops path p told = first_drops path p (is_name (pair_at (names_of (arguments path p)) First).tmp) refl told

  works : (w : Work) (p : Place) → work_of p.course.ahead ≡ w → TellsOf args past p → Goes (takes (step_of args now w (lines_of p.course) p) p)
  works Nothing p e told = last_goes (injection_of args p.names p.message (lines_of p.course)) (lines_of p.course) p
  works (ToCommand text) p e told = told
  works (ToMaildir path) p e told = drops path p told
  works (ToMailbox path) p e told =
      let within = Contains-append_right p.course.done p.course.ahead (line.Mailbox path) (mailbox_in p.course.ahead path e) in
      ByPassing (at_each (KnownAs args (lines_of p.course)) (IsPassing args) past (λ q known. HasMailbox (lines_of p.course) path known.0 known.1 within) told.1)

  goes : (p : Place) → TellsOf args past p → Goes (goes_on args now p)
  goes p told = works (work_of p.course.ahead) p refl told

  passes : (p : Place) → TellsOf args past p → Goes (line_done args now p)
  passes p told = goes (record p { course = passed p.course })
      (told.0 ∙ ap Some (sym (lines_stay p.course)), subst (λ ls. Once (KnownAs args ls) past) (sym (lines_stay p.course)) told.1)

  cuts : (p : Place) → Goes (lines_done args now p)
  cuts p = last_goes (injection_of args p.names p.message (lines_of (cut p.course))) (lines_of (cut p.course)) (record p { course = cut p.course })

  begins : (p : Place) (bytes : List ℕ) → AreKnown args past → instructions args past ≡ plan_of bytes → Goes (begins_lines args now (course_of bytes) p)
  unfolding course_of
  begins p bytes known told = by (plan_of bytes) refl
    where
      by : (o : Option (List Line)) → plan_of bytes ≡ o → Goes (begins_lines args now (option_map begun_course o) p)
      by None e = passing (FirstIsBlank known (told ∙ e))
      by (Some lines) e = goes (record p { course = begun_course lines }) (told ∙ e, inl (known, told ∙ e))

  abbrev home_names : List (List ℕ)
  home_names = told_names args.home past

  abbrev read : List ℕ → FileText
  read = λ name. read_of name past

  follows_so : (p : Place) (after bytes : List ℕ) → event.due ≡ needs.File (call.NextName args.home after) → event.came ≡ came.Answered (record { answer = answer.NoName; bytes = bytes })
      → home_names ≡ p.names → (o : Option Chosen) → chosen_by args p.names ≡ o → Goes (follows args now o p)
  follows_so p after bytes due came same None e = ByLasting (inl (HasNoMailbox after bytes (due, came) (ap (chosen_by args) same ∙ e)))
  follows_so p after bytes due came same (Some chosen.Default) e =
      let is : chosen_by args home_names ≡ Some chosen.Default = ap (chosen_by args) same ∙ e in
      begins p (default_text args) (ByDefault after bytes (due, came) is) (ap (λ o. of_choice args home_names o read) is)
  follows_so p after bytes due came same (Some (chosen.File place)) e = tt

  told_lines : (p : Place) (place : ℕ) → chosen_by args home_names ≡ Some (chosen.File place) → WasReadWhole (file_name args home_names place) past → read (file_name args home_names place) ≡ Whole p.read
      → (bytes : List ℕ) → p.read ≡ bytes → Goes (instructed args now bytes p)
  told_lines p place is whole file [] e =
      begins p (default_text args) (ByFile place is whole) (ap (λ o. of_choice args home_names o read) is ∙ ap (of_read args) (file ∙ ap Whole e))
  told_lines p place is whole file (b ∷ bytes) e =
      begins p (b ∷ bytes) (ByFile place is whole) (ap (λ o. of_choice args home_names o read) is ∙ ap (of_read args) (file ∙ ap Whole e))

  looked : (p : Place) → Goes (looks args p)
  looked p = by (is_name args.home) refl
    where
      by : (t : Bool) → is_name args.home ≡ t → Goes (if t then record p { row = at.NextName } else record p { row = at.Fail failure.Home })
      by true e = tt
      by false e = passing (HomeHasNoForm e)

  names_host : (host : List ℕ) (p : Place) → message_in (taken past) ≡ Some p.message → Goes (hosted args host p)
  names_host host p input = by (is_looping (delivered_to args) p.message) refl
    where
      by : (t : Bool) → is_looping (delivered_to args) p.message ≡ t → Goes (if t then record p { row = at.Fail failure.Looping } else looks args (record p { host = host }))
      by true e = ByLasting (inl (IsLoop p.message input e))
      by false e = looked (record p { host = host })

  names_by : (o : Option (List ℕ)) (p : Place) → host_read past ≡ o → WasReadWhole me_name past → message_in (taken past) ≡ Some p.message → Goes (hosted_by args o p)
  names_by None p e whole input = passing (HostIsBad whole e)
  names_by (Some host) p e whole input = names_host host p input

-- A step

module _ (args : LocalArgs) (now : ℕ) (ready : Ready) (before : List Own) (p : Place) where
  abbrev event_of : NeedData → GotData → Own
  event_of due got = record { read = now; ready = ready; due = due; came = got }

  abbrev Step : Row → GotData → Type 0
  Step row got = WhyAt args (event_of (due_at args row p) got ∷ before) (act args now row got p)

  abbrev Known : Row → Type 0
  Known row = Inv args (deeds_of before) row p

  at_end : (o : Option (List ℕ)) → message_in p.message ≡ o → Known at.TakeInput → WhyAt args (event_of (needs.Take port.Input) came.End ∷ before) (input_ended o p)
  at_end None e h = ByPassing (inl (IsNoMessage (refl, refl) (ap message_in h.0 ∙ e)))
  at_end (Some message) e h = tt

  at_input : (got : GotData) → Known at.TakeInput → MayCome (needs.Take port.Input) got → Step at.TakeInput got
  at_input (came.Took bytes) h may = tt
  at_input came.End h may = at_end (message_in p.message) refl h
  at_input came.Failed h may = ByPassing (inl (InputFailed (refl, refl)))
  at_input (came.Answered told) h may = absurd may
  at_input (came.Ended status) h may = absurd may
  at_input came.Crashed h may = absurd may
  at_input came.Gave h may = absurd may
  at_input (came.Started pid) h may = absurd may
  at_input came.Memory h may = absurd may

  abbrev told_of : Answer → List ℕ → GotData
  told_of told bytes = came.Answered (record { answer = told; bytes = bytes })

  failed_call : (c : CallData) (bytes : List ℕ) → Because args (event_of (needs.File c) (told_of (answer.Refused why.Fault) bytes) ∷ before) 111
  failed_call c bytes = ByPassing (inl (CallFailed c (bytes, (refl, refl))))

  memory_call : (c : CallData) (bytes : List ℕ) → Because args (event_of (needs.File c) (told_of (answer.Refused why.Memory) bytes) ∷ before) 51
  memory_call c bytes = ByMemory (inl (ByCall c (bytes, (refl, refl))))

  at_open : (what : Wanted) (name : List ℕ) (told : Answer) (bytes : List ℕ) → file_wanted what p ≡ name → Known (at.Open what) → IsAnswerTo (call.Open name how.Read) told
      → WhyAt args (event_of (needs.File (call.Open name how.Read)) (told_of told bytes) ∷ before) (opened args what told p)
  at_open what name (answer.Opened fd) bytes same h fit = tt
  at_open wanted.Host name (answer.Refused why.NotThere) bytes same h fit =
      names_host args now (event_of (needs.File (call.Open name how.Read)) (told_of (answer.Refused why.NotThere) bytes)) before _ p h.input
  at_open wanted.Instructions name (answer.Refused why.NotThere) bytes same h fit =
      let names : told_names args.home before ≡ p.names = h.file.before.names in
      let is : name ≡ file_name args (told_names args.home before) h.file.place = sym same ∙ h.is ∙ ap (λ n. file_name args n h.file.place) (sym names) in
      ByPassing (inl (FileIsMissing h.file.place (ap (chosen_by args) names ∙ h.file.chosen) (bytes, (ap (λ n. needs.File (call.Open n how.Read)) is, refl))))
  at_open what name (answer.Refused why.Fault) bytes same h fit = failed_call (call.Open name how.Read) bytes
  at_open what name (answer.Refused why.Memory) bytes same h fit = inr (memory_call (call.Open name how.Read) bytes)
  at_open what name told bytes same h fit = absurd fit

  at_read : (what : Wanted) (fd : Fd) (from : ℕ) (told : Answer) (bytes : List ℕ) → IsAnswerTo (call.ReadAt fd from 8192) told
      → WhyAt args (event_of (needs.File (call.ReadAt fd from 8192)) (told_of told bytes) ∷ before) (read_on what fd told bytes p)
  at_read what fd from (answer.Count count) bytes fit =
      elim (nat_lt (length bytes) 8192) as (λ t. Why args (event_of (needs.File (call.ReadAt fd from 8192)) (told_of (answer.Count count) bytes) ∷ before)
      (if t then at.Close what fd reading.Whole else at.Read what fd)
      (record p { row = (if t then at.Close what fd reading.Whole else at.Read what fd); read = p.read ++ bytes })) [ true ↦ tt | false ↦ tt ]
  at_read what fd from (answer.Refused why.Fault) bytes fit = failed_call (call.ReadAt fd from 8192) bytes
  at_read what fd from told bytes fit = absurd fit

  at_close : (what : Wanted) (fd : Fd) (went : Reading) (told : Told) → Known (at.Close what fd went) → Why args before (at.Close what fd went) p
      → WhyAt args (event_of (needs.File (call.Close fd)) (came.Answered told) ∷ before) (closed args now what went p)
  at_close wanted.Host fd reading.Whole told h w =
      names_by args now (event_of (needs.File (call.Close fd)) (came.Answered told)) before (host_in p.read) p (ap host_of h.me)
      (record { fd = fd; told = told; bytes = p.read; closed = (refl, refl); opened = h.opened; whole = h.me }) h.input
  at_close wanted.Instructions fd reading.Whole told h w =
      let names : told_names args.home before ≡ p.names = h.file.before.names in
      let file = λ (n : List (List ℕ)). file_name args n h.file.place in
      let whole : read_of (file (told_names args.home before)) before ≡ Whole p.read = ap (λ n. read_of (file n) before) names ∙ h.bytes in
      told_lines args now (event_of (needs.File (call.Close fd)) (came.Answered told)) before p h.file.place (ap (chosen_by args) names ∙ h.file.chosen)
      (record { fd = fd; told = told; bytes = p.read; closed = (refl, refl); opened = h.opened ∙ ap file (sym names); whole = whole }) whole p.read refl
  at_close wanted.Host fd reading.Fault told h w = later args (event_of (needs.File (call.Close fd)) (came.Answered told)) before 111 w
  at_close wanted.Instructions fd reading.Fault told h w = later args (event_of (needs.File (call.Close fd)) (came.Answered told)) before 111 w
  at_close wanted.Host fd reading.Memory told h w = inr (later args (event_of (needs.File (call.Close fd)) (came.Answered told)) before 51 w)
  at_close wanted.Instructions fd reading.Memory told h w = inr (later args (event_of (needs.File (call.Close fd)) (came.Answered told)) before 51 w)

  at_names : (after : List ℕ) (told : Answer) (bytes : List ℕ) → Known at.NextName → IsAnswerTo (call.NextName args.home after) told
      → WhyAt args (event_of (needs.File (call.NextName args.home after)) (told_of told bytes) ∷ before) (named args now told p)
  at_names after (answer.Name name) bytes h fit = tt
  at_names after answer.NoName bytes h fit =
      follows_so args now (event_of (needs.File (call.NextName args.home after)) (told_of answer.NoName bytes)) before p after bytes refl refl h.names (chosen_by args p.names) refl
  at_names after (answer.Refused why.NotThere) bytes h fit = ByPassing (inl (HomeIsMissing after (bytes, (refl, refl))))
  at_names after (answer.Refused why.Fault) bytes h fit = failed_call (call.NextName args.home after) bytes
  at_names after told bytes h fit = absurd fit

  -- a command that exited with another status than 0 and 99
  bad_exit : (code : ℕ) (t : Bool) → (code == 0) ≡ false → is_lasting_command code ≡ t → Because args (event_of (needs.Command p.text) (came.Ended code) ∷ before) (status_by t)
  bad_exit code true isnt e = ByLasting (inl (CommandExited p.text code (refl, refl) e))
  bad_exit code false isnt e = ByPassing (inl (CommandFailed p.text (came.Ended code) (refl, refl) (OtherStatus code isnt e)))

  exits : (code : ℕ) (s t : Bool) → (code == 0) ≡ s → TellsOf args before p
      → WhyAt args (event_of (needs.Command p.text) (came.Ended code) ∷ before) (if s then line_done args now p else (if t then lines_done args now p else command_failed code p))
  exits code true t e told = passes args now (event_of (needs.Command p.text) (came.Ended code)) before p (told.0, inr told.1)
  exits code false true e told = cuts args now (event_of (needs.Command p.text) (came.Ended code)) before p
  exits code false false e told = inr (bad_exit code (is_lasting_command code) e refl)

  at_run : (got : GotData) → TellsOf args before p → MayCome (needs.Command p.text) got → Step at.Run got
  at_run (came.Ended code) told may = exits code (code == 0) (code == 99) refl told
  at_run came.Memory told may = inr (ByMemory (inl (ByCommand p.text (refl, refl))))
  at_run came.Crashed told may = inr (ByPassing (inl (CommandFailed p.text came.Crashed (refl, refl) Crashed)))
  at_run came.Failed told may = inr (ByPassing (inl (CommandFailed p.text came.Failed (refl, refl) Unknown)))
  at_run (came.Answered it) told may = absurd may
  at_run (came.Took bytes) told may = absurd may
  at_run came.End told may = absurd may
  at_run came.Gave told may = absurd may
  at_run (came.Started pid) told may = absurd may

  at_start : (got : GotData) → MayCome (needs.Start (ForwardChild args.uid p.room)) got → Step at.Start got
  at_start (came.Started pid) may = tt
  at_start came.Memory may = inr (ByMemory (inl (ByStart (ForwardChild args.uid p.room) (refl, refl))))
  at_start came.Failed may = inr (ByPassing (inl (StartFailed (ForwardChild args.uid p.room) (refl, refl))))
  at_start (came.Answered it) may = absurd may
  at_start (came.Took bytes) may = absurd may
  at_start came.End may = absurd may
  at_start (came.Ended code) may = absurd may
  at_start came.Crashed may = absurd may
  at_start came.Gave may = absurd may

  at_feed : (got : GotData) → MayCome (needs.Give (port.Program 0) p.text) got → Step at.Feed got
  at_feed came.Gave may = tt
  at_feed came.Failed may = inr (ByPassing (inl (GiveFailed (port.Program 0) p.text (refl, refl))))
  at_feed (came.Answered it) may = absurd may
  at_feed (came.Took bytes) may = absurd may
  at_feed came.End may = absurd may
  at_feed (came.Ended code) may = absurd may
  at_feed came.Crashed may = absurd may
  at_feed (came.Started pid) may = absurd may
  at_feed came.Memory may = absurd may

  bad_end : (code : ℕ) (t : Bool) → (code == 0) ≡ false → is_lasting_injection code ≡ t → Because args (event_of (needs.Take (port.Status 0)) (came.Ended code) ∷ before) (status_by t)
  bad_end code true isnt e = ByLasting (inl (InjectorExited code (refl, refl) e))
  bad_end code false isnt e = ByPassing (inl (InjectorFailed (came.Ended code) (refl, refl) (OtherStatus code isnt e)))

  at_code : (code : ℕ) (t : Bool) → (code == 0) ≡ t → WhyAt args (event_of (needs.Take (port.Status 0)) (came.Ended code) ∷ before) (if t then forwarded p else forward_failed code p)
  at_code code true e = inl refl
  at_code code false e = inr (bad_end code (is_lasting_injection code) e refl)

  at_status : (got : GotData) → MayCome (needs.Take (port.Status 0)) got → Step at.TakeStatus got
  at_status (came.Ended code) may = at_code code (code == 0) refl
  at_status came.Crashed may = inr (ByPassing (inl (InjectorFailed came.Crashed (refl, refl) Crashed)))
  at_status came.Failed may = inr (ByPassing (inl (InjectorFailed came.Failed (refl, refl) Unknown)))
  at_status (came.Answered it) may = absurd may
  at_status (came.Took bytes) may = absurd may
  at_status came.End may = absurd may
  at_status came.Gave may = absurd may
  at_status (came.Started pid) may = absurd may
  at_status came.Memory may = absurd may

  done_later : (event : Own) (status : ℕ) → OrDone args before status → OrDone args (event ∷ before) status
  done_later event status (inl e) = inl e
  done_later event status (inr h) = inr (later args event before status h)

  at_report : (status : ℕ) (text : List ℕ) (got : GotData) → OrDone args before status → MayCome (needs.Give port.Output text) got
      → WhyAt args (event_of (needs.Give port.Output text) got ∷ before) (gave status got p)
  at_report status text came.Gave w may = done_later (event_of (needs.Give port.Output text) came.Gave) status w
  at_report status text came.Failed w may = inr (ByPassing (inl (GiveFailed port.Output text (refl, refl))))
  at_report status text (came.Answered it) w may = absurd may
  at_report status text (came.Took bytes) w may = absurd may
  at_report status text came.End w may = absurd may
  at_report status text (came.Ended code) w may = absurd may
  at_report status text came.Crashed w may = absurd may
  at_report status text (came.Started pid) w may = absurd may
  at_report status text came.Memory w may = absurd may

  -- a step of the drop at work

  by_answer : (names : DropNames) (row : DropRow) (left : List ℕ) (P : GotData → Type 0) (got : GotData) → MayCome (drop_due names row left) got
      → ((told : Told) → MayCome (drop_due names row left) (came.Answered told) → P (came.Answered told)) → P got
  by_answer names (drop.Create a) left P got may f = by_fit (call.CreateExcl (pair_at names a).tmp) P got may f
  by_answer names (drop.Append a fd) left P got may f = by_fit (call.Append fd (take 8192 left)) P got may f
  by_answer names (drop.Sync a fd) left P got may f = by_fit (call.Sync fd) P got may f
  by_answer names (drop.Close a fd) left P got may f = by_fit (call.Close fd) P got may f
  by_answer names (drop.Link a) left P got may f = by_fit (call.Link (pair_at names a).tmp (pair_at names a).new) P got may f
  by_answer names (drop.Shut a fd reason) left P got may f = by_fit (call.Close fd) P got may f
  by_answer names (drop.Unlink a outcome) left P got may f = by_fit (call.Unlink (pair_at names a).tmp) P got may f
  by_answer names (drop.Ended a outcome) left P got may f = absurd may

  told_still : (names : DropNames) (row : DropRow) (left : List ℕ) (told : Told) → TellsOf args before p → TellsOf args (event_of (drop_due names row left) (came.Answered told) ∷ before) p
  told_still names (drop.Create a) left told w = (w.0, inr w.1)
  told_still names (drop.Append a fd) left told w = (w.0, inr w.1)
  told_still names (drop.Sync a fd) left told w = (w.0, inr w.1)
  told_still names (drop.Close a fd) left told w = (w.0, inr w.1)
  told_still names (drop.Link a) left told w = (w.0, inr w.1)
  told_still names (drop.Shut a fd reason) left told w = (w.0, inr w.1)
  told_still names (drop.Unlink a outcome) left told w = (w.0, inr w.1)
  told_still names (drop.Ended a outcome) left told w = (w.0, inr w.1)

  module _ (event : Own) (is : p.row ≡ at.Drop) (it : Drop) (h : AtDrop args (event ∷ before) p it) where
    still_at : WhyAt args (event ∷ before) (record p { dropping = Some it })
    still_at = subst (λ row. Why args (event ∷ before) row (record p { dropping = Some it })) (sym is)
        (record { told = h.told; moment = h.moment; path = h.path; host = h.host; message = h.message; names = h.names; caused = h.caused })

    drop_goes : (row : DropRow) → it.place.row ≡ row → WhyAt args (event ∷ before) (dropped_by args now (end_at it.names row) it p)
    drop_goes (drop.Ended a Dropped) same = passes args now event before (record p { dropping = None }) h.told
    drop_goes (drop.Ended a (Failed drop_why.Defer)) same =
        let c = subst (Caused it.names (event ∷ before)) same h.caused in
        ByPassing (inl (DropDeferred h.moment h.path h.host h.message (subst (λ n. IsCause n (event ∷ before) drop_why.Defer) h.names c)))
    drop_goes (drop.Ended a (Failed drop_why.Memory)) same = inr (ByMemory (no_memory (event ∷ before) (subst (Caused it.names (event ∷ before)) same h.caused)))
    drop_goes (drop.Create a) same = still_at
    drop_goes (drop.Append a fd) same = still_at
    drop_goes (drop.Sync a fd) same = still_at
    drop_goes (drop.Close a fd) same = still_at
    drop_goes (drop.Link a) same = still_at
    drop_goes (drop.Shut a fd reason) same = still_at
    drop_goes (drop.Unlink a outcome) same = still_at

  at_some : (o : Option Drop) (got : GotData) → p.row ≡ at.Drop → AtSome args before p o → MayCome (due_by_drop o) got
      → WhyAt args (event_of (due_by_drop o) got ∷ before) (dropped args now got o p)
  at_some None got is h may = absurd may
  at_some (Some it) got is h may =
      let due = drop_due it.names it.place.row it.place.left in
      by_answer it.names it.place.row it.place.left (λ g. WhyAt args (event_of due g ∷ before) (dropped args now g (Some it) p)) got may
      (λ told fit.
      let event = event_of due (came.Answered told) in
      let next : Drop = moved_drop (came.Answered told) it in
      drop_goes event is next (record {
        told = told_still it.names it.place.row it.place.left told h.told;
        moment = h.moment;
        path = h.path;
        host = h.host;
        message = h.message;
        names = h.names;
        caused = drop_step it.names event before it.place.row it.place.left refl fit h.caused refl;
      }) next.place.row refl)

  step : (row : Row) (got : GotData) → p.row ≡ row → Known row → Why args before row p → MayCome (due_at args row p) got → Step row got
  step at.TakeInput got is h w may = at_input got h may
  step (at.Open what) got is h w may =
      by_fit (call.Open (file_wanted what p) how.Read) (Step (at.Open what)) got may (λ told fit. at_open what (file_wanted what p) told.answer told.bytes refl h fit)
  step (at.Read what fd) got is h w may =
      by_fit (call.ReadAt fd (length p.read) 8192) (Step (at.Read what fd)) got may (λ told fit. at_read what fd (length p.read) told.answer told.bytes fit)
  step (at.Close what fd went) got is h w may = by_fit (call.Close fd) (Step (at.Close what fd went)) got may (λ told fit. at_close what fd went told h w)
  step at.NextName got is h w may =
      by_fit (call.NextName args.home (last_name p.names)) (Step at.NextName) got may (λ told fit. at_names (last_name p.names) told.answer told.bytes h fit)
  step at.Drop got is h w may = at_some p.dropping got is w may
  step at.Run got is h w may = at_run got w may
  step at.Start got is h w may = at_start got may
  step at.Feed got is h w may = at_feed got may
  step at.TakeStatus got is h w may = at_status got may
  step (at.Report status) got is h w may = at_report status p.text got w may
  step (at.Fail reason) got is h w may = at_report (status_of reason) (text_of reason) got (inr w) may
  step (at.Ended status) got is h w may = absurd may

-- after each run
whys : (args : LocalArgs) (past : List Own) → IsRunBy (Next args) past → WhyAt args past (place_after args past)
whys args [] run = tt
whys args (event ∷ before) run =
    let p : Place = place_after args before in
    let may = subst (λ x. MayCome x event.came) (sym run.1.0) run.1.1 in
    subst (λ x. WhyAt args (record { read = event.read; ready = event.ready; due = x; came = event.came } ∷ before) (act args event.read p.row event.came p)) run.1.0
    (step args event.read event.ready before p p.row event.came refl (holds args before run.0) (whys args before run.0) may)

-- where a drop is at work, the lines that are followed are those of the instructions
pub told_at_drop : (args : LocalArgs) (past : List Own) (it : Drop) → IsRunBy (Next args) past → (place_after args past).row ≡ at.Drop → (place_after args past).dropping ≡ Some it
    → instructions args past ≡ Some (lines_of (place_after args past).course)
told_at_drop args past it run is drops =
    let p : Place = place_after args past in
    (subst (AtSome args past p) drops (subst (λ row. Why args past row p) is (whys args past run))).told.0

-- of a delivery that has ended
ended_so : (args : LocalArgs) (past : List Own) (p : Place) (row : Row) (status : ℕ) → Inv args (deeds_of past) row p → Why args past row p → due_at args row p ≡ needs.Ended status
    → OrDone args past status
ended_so args past p (at.Ended ended) status h w due = let e : ended ≡ status = cc in subst (OrDone args past) e w
ended_so args past p at.TakeInput status h w due = absurd (cc)
ended_so args past p (at.Open what) status h w due = absurd (cc)
ended_so args past p (at.Read what fd) status h w due = absurd (cc)
ended_so args past p (at.Close what fd went) status h w due = absurd (cc)
ended_so args past p at.NextName status h w due = absurd (cc)
ended_so args past p at.Drop status h w due = absurd (by p.dropping h due)
  where
    by : (o : Option Drop) → AtWork args (deeds_of past) p o → due_by_drop o ≡ needs.Ended status → ⊥
    by None h due = absurd (cc)
    by (Some it) h due = not_ended_drop it.names it.place.left it.place.row status h.1 due
ended_so args past p at.Run status h w due = absurd (cc)
ended_so args past p at.Start status h w due = absurd (cc)
ended_so args past p at.Feed status h w due = absurd (cc)
ended_so args past p at.TakeStatus status h w due = absurd (cc)
ended_so args past p (at.Report given) status h w due = absurd (cc)
ended_so args past p (at.Fail reason) status h w due = absurd (cc)

pub causes : (args : LocalArgs) (past : List Own) (now : ℕ) (ready : Ready) (status : ℕ) → IsRunBy (Next args) past → Next args past now ready ≡ needs.Ended status → IsCausedBy args past status
causes args past now ready status run due =
    by status due (ended_so args past (place_after args past) (place_after args past).row status (holds args past run) (whys args past run) due)
  where
    by : (s : ℕ) → Next args past now ready ≡ needs.Ended s → OrDone args past s → IsCausedBy args past s
    by s is (inl e) = subst (IsCausedBy args past) (sym e) (Success (carried_out args past now ready run (is ∙ ap needs.Ended e)))
    by _ is (inr (ByLasting h)) = Lasting h
    by _ is (inr (ByPassing h)) = Passing h
    by _ is (inr (ByMemory h)) = NoMemory h
