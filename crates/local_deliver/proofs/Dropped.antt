-- What holds of the drop at work at each row: what a drop begins with, and what a step of it keeps; and which steps lead to the
-- injector's input, and to its status.
use Rattle.std.proofs.Common.{◌≡◌, ℕ, List, [], ◌∷◌, length, Bool, true, false, Option, Some, None, refl, sym, subst}
use Rattle.std.specs.Prelude.{if◌then◌else◌, nat_lt, ◌==◌, codes, IfSome}
use Rattle.call_fs.specs.declared.calls.Answer.{Answer}
use Rattle.call_fs.specs.declared.calls.Answer.TheVariants as answer
use Rattle.call_fs.specs.declared.calls.CallData.TheVariants as call
use Rattle.call_fs.specs.declared.calls.How.TheVariants as how
use Rattle.call_fs.specs.declared.calls.Fd.{Fd}
use Rattle.call_fs.specs.declared.calls.FsError.TheVariants as why
use Rattle.call_fs.specs.declared.past.GotData.{GotData}
use Rattle.call_fs.specs.declared.past.GotData.TheVariants as came
use Rattle.call_fs.specs.Program.{MayCome}
use Rattle.dot_qmail.specs.declared.choice.Chosen.{Chosen}
use Rattle.dot_qmail.specs.declared.choice.Chosen.TheVariants as chosen
use Rattle.dot_qmail.specs.declared.line.Line.{Line}
use Rattle.local_parts.specs.declared.arguments.LocalArgs.{LocalArgs}
use Rattle.local_parts.specs.declared.forwarding.Injection.{Injection}
use Rattle.local_parts.specs.Choosing.{chosen_by}
use Rattle.local_parts.specs.Course.{Course, Work, course_of, cut, default_text, lines_of, passed, work_of}
use Rattle.local_parts.specs.Course.Work.{Nothing, ToCommand, ToMaildir, ToMailbox}
use Rattle.local_parts.specs.Forwarding.{injection_of}
use Rattle.local_parts.specs.Host.{host_in}
use Rattle.local_parts.specs.Inputs.{message_in}
use Rattle.local_parts.specs.Looping.{is_looping}
use Rattle.local_parts.specs.Names.{last_name}
use Rattle.local_parts.specs.Texts.{delivered_to}
use Rattle.maildir_drop.specs.Ends.{EndData}
use Rattle.maildir_drop.specs.Ends.EndData.{IsDropped, IsDeferred, LacksMemory}
use Rattle.maildir_drop.specs.Names.{is_name}
use Rattle.local_deliver.specs.declared.place.Place.{Place}
use Rattle.local_deliver.specs.declared.row.Failure.TheVariants as failure
use Rattle.local_deliver.specs.declared.row.Reading.{Reading}
use Rattle.local_deliver.specs.declared.row.Reading.TheVariants as reading
use Rattle.local_deliver.specs.declared.row.Row.{Row}
use Rattle.local_deliver.specs.declared.row.Row.TheVariants as at
use Rattle.local_deliver.specs.declared.row.Wanted.{Wanted}
use Rattle.local_deliver.specs.declared.row.Wanted.TheVariants as wanted
use Rattle.local_deliver.specs.declared.step.Step.{Step}
use Rattle.local_deliver.specs.declared.step.Step.TheVariants as step
use Rattle.local_deliver.specs.Drops.{Drop, begun_drop, drop_arguments, end_drop, moved_drop}
use Rattle.local_deliver.specs.Failures.{status_of}
use Rattle.local_deliver.specs.Table.{act, begins_lines, closed, command_failed, dropped, dropped_by, drops_by, due_at, due_by_drop, fed, file_wanted, follows, forward_failed, forwarded, gave, goes_on, hosted, hosted_by, injected, injected_with, input_ended, instructed, last_step, line_done, lines_done, looks, missing, named, opened, ran, read_on, read_whole, started, step_of, takes, took}
use Rattle.local_deliver.specs.Writes.{at_work}
use Rattle.call_fs.proofs.Coming.{by_fit}

-- Q holds of the drop, if one is at work; and F and S hold where the injector is given its input, and where its status is taken
abbrev pub AtRow : (Drop → Type 0) → Type 0 → Type 0 → Row → Option Drop → Type 0
AtRow Q F S at.Drop None = Unit {0}
AtRow Q F S at.Drop (Some d) = Q d
AtRow Q F S at.Feed o = F
AtRow Q F S at.TakeStatus o = S
AtRow Q F S at.TakeInput o = Unit {0}
AtRow Q F S (at.Open what) o = Unit {0}
AtRow Q F S (at.Read what fd) o = Unit {0}
AtRow Q F S (at.Close what fd went) o = Unit {0}
AtRow Q F S at.NextName o = Unit {0}
AtRow Q F S at.Run o = Unit {0}
AtRow Q F S at.Start o = Unit {0}
AtRow Q F S (at.Report status) o = Unit {0}
AtRow Q F S (at.Fail reason) o = Unit {0}
AtRow Q F S (at.Ended status) o = Unit {0}

abbrev pub AtPlace : (Drop → Type 0) → Type 0 → Type 0 → Place → Type 0
AtPlace Q F S p = AtRow Q F S p.row p.dropping

-- it holds of the drop that is at work
pub works : (Q : Drop → Type 0) (F S : Type 0) (row : Row) (o : Option Drop) → AtRow Q F S row o → IfSome (at_work row o) Q
works Q F S at.Drop None q = tt
works Q F S at.Drop (Some d) q = q
works Q F S row o q = tt

-- of this message
abbrev pub Begins : LocalArgs → ℕ → List ℕ → (Drop → Type 0) → Type 0
Begins args now message Q = (path host : List ℕ) → Q (begun_drop (drop_arguments args now path host message))

-- at these rows a drop may begin
abbrev pub MayBegin : Row → Place → Type 0
MayBegin (at.Close what fd went) p = Unit {0}
MayBegin at.NextName p = Unit {0}
MayBegin at.Drop p = (d : Drop) × (p.dropping ≡ Some d)
MayBegin at.Run p = Unit {0}
MayBegin at.TakeInput p = ⊥
MayBegin (at.Open what) p = ⊥
MayBegin (at.Read what fd) p = ⊥
MayBegin at.Start p = ⊥
MayBegin at.Feed p = ⊥
MayBegin at.TakeStatus p = ⊥
MayBegin (at.Report status) p = ⊥
MayBegin (at.Fail reason) p = ⊥
MayBegin (at.Ended status) p = ⊥

module _ (args : LocalArgs) (now : ℕ) (Q : Drop → Type 0) (F S : Type 0) where
  drops : (d : Drop) (o : Option EndData) (p : Place) → Q d → AtPlace Q F S (drops_by o d p)
  drops d None p q = q
  drops d (Some end) p q = tt

  abbrev Fresh : Step → Type 0
  Fresh (step.Drop d) = Q d
  Fresh (step.Report text) = Unit {0}
  Fresh (step.Start it) = Unit {0}
  Fresh (step.Run text) = Unit {0}
  Fresh (step.Fail reason) = Unit {0}

  taken : (s : Step) (p : Place) → Fresh s → AtPlace Q F S (takes s p)
  taken (step.Report text) p f = tt
  taken (step.Start it) p f = tt
  taken (step.Run text) p f = tt
  taken (step.Drop d) p f = drops d (end_drop d) p f
  taken (step.Fail reason) p f = tt

  last_fresh : (o : Option Injection) (lines : List Line) → Fresh (last_step o lines)
  last_fresh None lines = tt
  last_fresh (Some it) lines = tt

  fresh : (w : Work) (lines : List Line) (p : Place) → Begins args now p.message Q → Fresh (step_of args now w lines p)
  fresh Nothing lines p b = last_fresh (injection_of args p.names p.message lines) lines
  fresh (ToCommand text) lines p b = tt
  fresh (ToMaildir path) lines p b = b path p.host
  fresh (ToMailbox path) lines p b = tt

  goes : (p : Place) → Begins args now p.message Q → AtPlace Q F S (goes_on args now p)
  goes p b = taken (step_of args now (work_of p.course.ahead) (lines_of p.course) p) p (fresh (work_of p.course.ahead) (lines_of p.course) p b)

  begins : (o : Option Course) (p : Place) → Begins args now p.message Q → AtPlace Q F S (begins_lines args now o p)
  begins None p b = tt
  begins (Some course) p b = goes (record p { course = course }) b

  followed : (o : Option Chosen) (p : Place) → Begins args now p.message Q → AtPlace Q F S (follows args now o p)
  followed None p b = tt
  followed (Some chosen.Default) p b = begins (course_of (default_text args)) p b
  followed (Some (chosen.File place)) p b = tt

  looked : (p : Place) → AtPlace Q F S (looks args p)
  looked p = elim (is_name args.home) as (λ t. AtPlace Q F S (if t then record p { row = at.NextName } else record p { row = at.Fail failure.Home })) [ true ↦ tt | false ↦ tt ]

  names_host : (host : List ℕ) (p : Place) → AtPlace Q F S (hosted args host p)
  names_host host p = elim (is_looping (delivered_to args) p.message) as
      (λ t. AtPlace Q F S (if t then record p { row = at.Fail failure.Looping } else looks args (record p { host = host }))) [ true ↦ tt | false ↦ looked (record p { host = host }) ]

  names_by : (o : Option (List ℕ)) (p : Place) → AtPlace Q F S (hosted_by args o p)
  names_by None p = tt
  names_by (Some host) p = names_host host p

  misses : (what : Wanted) (p : Place) → AtPlace Q F S (missing args what p)
  misses wanted.Host p = names_host (codes "localhost") p
  misses wanted.Instructions p = tt

  opens : (what : Wanted) (told : Answer) (p : Place) → AtPlace Q F S (opened args what told p)
  opens what (answer.Opened fd) p = tt
  opens what (answer.Refused why.NotThere) p = misses what p
  opens what (answer.Refused why.Exists) p = tt
  opens what (answer.Refused why.Fault) p = tt
  opens what (answer.Refused why.Memory) p = tt
  opens what (answer.Created fd number) p = tt
  opens what (answer.Count count) p = tt
  opens what answer.Done p = tt
  opens what (answer.Stat stat) p = tt
  opens what (answer.Name name) p = tt
  opens what answer.NoName p = tt

  reads : (what : Wanted) (fd : Fd) (told : Answer) (bytes : List ℕ) (p : Place) → AtPlace Q F S (read_on what fd told bytes p)
  reads what fd (answer.Count count) bytes p =
      elim (nat_lt (length bytes) 8192) as (λ t. AtRow Q F S (if t then at.Close what fd reading.Whole else at.Read what fd) p.dropping) [ true ↦ tt | false ↦ tt ]
  reads what fd (answer.Refused why.Memory) bytes p = tt
  reads what fd (answer.Refused why.NotThere) bytes p = tt
  reads what fd (answer.Refused why.Exists) bytes p = tt
  reads what fd (answer.Refused why.Fault) bytes p = tt
  reads what fd (answer.Opened other) bytes p = tt
  reads what fd (answer.Created other number) bytes p = tt
  reads what fd answer.Done bytes p = tt
  reads what fd (answer.Stat stat) bytes p = tt
  reads what fd (answer.Name name) bytes p = tt
  reads what fd answer.NoName bytes p = tt

  told_lines : (bytes : List ℕ) (p : Place) → Begins args now p.message Q → AtPlace Q F S (instructed args now bytes p)
  told_lines [] p b = begins (course_of (default_text args)) p b
  told_lines (x ∷ bytes) p b = begins (course_of (x ∷ bytes)) p b

  wholes : (what : Wanted) (p : Place) → Begins args now p.message Q → AtPlace Q F S (read_whole args now what p)
  wholes wanted.Host p b = names_by (host_in p.read) p
  wholes wanted.Instructions p b = told_lines p.read p b

  closes : (what : Wanted) (went : Reading) (p : Place) → Begins args now p.message Q → AtPlace Q F S (closed args now what went p)
  closes what reading.Whole p b = wholes what p b
  closes what reading.Fault p b = tt
  closes what reading.Memory p b = tt

  names : (told : Answer) (p : Place) → Begins args now p.message Q → AtPlace Q F S (named args now told p)
  names (answer.Name name) p b = tt
  names answer.NoName p b = followed (chosen_by args p.names) p b
  names (answer.Refused why.Memory) p b = tt
  names (answer.Refused why.NotThere) p b = tt
  names (answer.Refused why.Exists) p b = tt
  names (answer.Refused why.Fault) p b = tt
  names (answer.Opened fd) p b = tt
  names (answer.Created fd number) p b = tt
  names (answer.Count count) p b = tt
  names answer.Done p b = tt
  names (answer.Stat stat) p b = tt

  exits : (code : ℕ) (s t : Bool) (p : Place) → Begins args now p.message Q → AtPlace Q F S (if s then line_done args now p else (if t then lines_done args now p else command_failed code p))
  exits code true t p b = goes (record p { course = passed p.course }) b
  exits code false true p b = goes (record p { course = cut p.course }) b
  exits code false false p b = tt

  drop_goes : (o : Option EndData) (d : Drop) (p : Place) → p.row ≡ at.Drop → end_drop d ≡ o → Begins args now p.message Q → (end_drop d ≡ None → Q d) → AtPlace Q F S (dropped_by args now o d p)
  drop_goes None d p is e b q = subst (λ row. AtRow Q F S row (Some d)) (sym is) (q e)
  drop_goes (Some (IsDropped name)) d p is e b q = goes (record p { dropping = None; course = passed p.course }) b
  drop_goes (Some IsDeferred) d p is e b q = tt
  drop_goes (Some LacksMemory) d p is e b q = tt

  -- what is handed in at the rows where no drop is at work
  inputs : (o : Option (List ℕ)) (p : Place) → AtPlace Q F S (input_ended o p)
  inputs None p = tt
  inputs (Some message) p = tt

  takes_input : (got : GotData) (p : Place) → AtPlace Q F S (took got p)
  takes_input (came.Took bytes) p = tt
  takes_input came.End p = inputs (message_in p.message) p
  takes_input (came.Answered told) p = tt
  takes_input (came.Ended status) p = tt
  takes_input came.Crashed p = tt
  takes_input came.Gave p = tt
  takes_input (came.Started pid) p = tt
  takes_input came.Failed p = tt
  takes_input came.Memory p = tt

  runs : (got : GotData) (p : Place) → Begins args now p.message Q → AtPlace Q F S (ran args now got p)
  runs (came.Ended code) p b = exits code (code == 0) (code == 99) p b
  runs came.Memory p b = tt
  runs (came.Answered told) p b = tt
  runs (came.Took bytes) p b = tt
  runs came.End p b = tt
  runs came.Crashed p b = tt
  runs came.Gave p b = tt
  runs (came.Started pid) p b = tt
  runs came.Failed p b = tt

  starts : (got : GotData) (p : Place) → ((pid : ℕ) → got ≡ came.Started pid → F) → AtPlace Q F S (started got p)
  starts (came.Started pid) p f = f pid refl
  starts came.Memory p f = tt
  starts (came.Answered told) p f = tt
  starts (came.Took bytes) p f = tt
  starts came.End p f = tt
  starts (came.Ended status) p f = tt
  starts came.Crashed p f = tt
  starts came.Gave p f = tt
  starts came.Failed p f = tt

  feeds : (got : GotData) (p : Place) → (got ≡ came.Gave → S) → AtPlace Q F S (fed got p)
  feeds came.Gave p s = s refl
  feeds (came.Answered told) p s = tt
  feeds (came.Took bytes) p s = tt
  feeds came.End p s = tt
  feeds (came.Ended status) p s = tt
  feeds came.Crashed p s = tt
  feeds (came.Started pid) p s = tt
  feeds came.Failed p s = tt
  feeds came.Memory p s = tt

  injects_with : (code : ℕ) (p : Place) → AtPlace Q F S (injected_with code p)
  injects_with code p = elim (code == 0) as (λ t. AtPlace Q F S (if t then forwarded p else forward_failed code p)) [ true ↦ tt | false ↦ tt ]

  injects : (got : GotData) (p : Place) → AtPlace Q F S (injected got p)
  injects (came.Ended code) p = injects_with code p
  injects (came.Answered told) p = tt
  injects (came.Took bytes) p = tt
  injects came.End p = tt
  injects came.Crashed p = tt
  injects came.Gave p = tt
  injects (came.Started pid) p = tt
  injects came.Failed p = tt
  injects came.Memory p = tt

  gives : (status : ℕ) (got : GotData) (p : Place) → AtPlace Q F S (gave status got p)
  gives status came.Gave p = tt
  gives status (came.Answered told) p = tt
  gives status (came.Took bytes) p = tt
  gives status came.End p = tt
  gives status (came.Ended code) p = tt
  gives status came.Crashed p = tt
  gives status (came.Started pid) p = tt
  gives status came.Failed p = tt
  gives status came.Memory p = tt

  -- a step at which no drop is at work, or at which one goes on or ends; only a start leads to the injector's input, and only a give
  -- to its status
  pub stepped : (row : Row) (got : GotData) (p : Place) → p.row ≡ row → (MayBegin row p → Begins args now p.message Q)
      → ((d : Drop) → row ≡ at.Drop → p.dropping ≡ Some d → end_drop (moved_drop got d) ≡ None → Q (moved_drop got d))
      → (row ≡ at.Start → (pid : ℕ) → got ≡ came.Started pid → F) → (row ≡ at.Feed → got ≡ came.Gave → S)
      → MayCome (due_at args row p) got → AtPlace Q F S (act args now row got p)
  stepped at.TakeInput got p is b q f s may = takes_input got p
  stepped (at.Open what) got p is b q f s may = by_fit (call.Open (file_wanted what p) how.Read) (λ g. AtPlace Q F S (act args now (at.Open what) g p)) got may (λ told fit. opens what told.answer p)
  stepped (at.Read what fd) got p is b q f s may =
      by_fit (call.ReadAt fd (length p.read) 8192) (λ g. AtPlace Q F S (act args now (at.Read what fd) g p)) got may (λ told fit. reads what fd told.answer told.bytes p)
  stepped (at.Close what fd went) got p is b q f s may = closes what went p (b tt)
  stepped at.NextName got p is b q f s may =
      by_fit (call.NextName args.home (last_name p.names)) (λ g. AtPlace Q F S (act args now at.NextName g p)) got may (λ told fit. names told.answer p (b tt))
  stepped at.Drop got p is b q f s may = by p.dropping refl may
    where
      by : (o : Option Drop) → p.dropping ≡ o → MayCome (due_by_drop o) got → AtPlace Q F S (dropped args now got o p)
      by None e m = absurd m
      by (Some d) e m = drop_goes (end_drop (moved_drop got d)) (moved_drop got d) p is refl (b (d, e)) (q d refl e)
  stepped at.Run got p is b q f s may = runs got p (b tt)
  stepped at.Start got p is b q f s may = starts got p (f refl)
  stepped at.Feed got p is b q f s may = feeds got p (s refl)
  stepped at.TakeStatus got p is b q f s may = injects got p
  stepped (at.Report status) got p is b q f s may = gives status got p
  stepped (at.Fail reason) got p is b q f s may = gives (status_of reason) got p
  stepped (at.Ended status) got p is b q f s may = absurd may
