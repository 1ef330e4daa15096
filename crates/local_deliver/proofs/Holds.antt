-- The calls of a delivery use what it holds open.
use Rattle.std.proofs.Common.{◌≡◌, ℕ, List, [], ◌∷◌, length, lit≤, Bool, true, false, Option, Some, None, refl, sym, ap, subst}
use Rattle.std.specs.Prelude.{if◌then◌else◌, nat_lt, ◌==◌}
use Rattle.std.specs.Option.{IsSome, is_some}
use Rattle.call_fs.specs.declared.calls.Answer.{Answer}
use Rattle.call_fs.specs.declared.calls.Answer.TheVariants as answer
use Rattle.call_fs.specs.declared.calls.CallData.TheVariants as call
use Rattle.call_fs.specs.declared.calls.Fd.{Fd}
use Rattle.call_fs.specs.declared.calls.FsError.TheVariants as why
use Rattle.call_fs.specs.declared.calls.How.TheVariants as how
use Rattle.call_fs.specs.declared.modes.Mode.{Mode}
use Rattle.call_fs.specs.declared.past.GotData.{GotData}
use Rattle.call_fs.specs.declared.past.GotData.TheVariants as came
use Rattle.call_fs.specs.declared.past.Own.{Own}
use Rattle.call_fs.specs.Columns.{IsAnswerTo}
use Rattle.call_fs.specs.Past.{held, held_by, held_after, IsRunBy, UsesHeld}
use Rattle.call_fs.specs.Program.{MayCome}
use Rattle.call_fs.proofs.Maps.{put_same}
use Rattle.dot_qmail.specs.declared.choice.Chosen.{Chosen}
use Rattle.dot_qmail.specs.declared.choice.Chosen.TheVariants as chosen
use Rattle.dot_qmail.specs.declared.line.Line.{Line}
use Rattle.local_parts.specs.declared.arguments.LocalArgs.{LocalArgs}
use Rattle.local_parts.specs.declared.forwarding.Injection.{Injection}
use Rattle.local_parts.specs.Choosing.{chosen_by}
use Rattle.local_parts.specs.Course.{Course, Work, work_of, passed, cut, lines_of, course_of, default_text}
use Rattle.local_parts.specs.Course.Work.{Nothing, ToCommand, ToMaildir, ToMailbox}
use Rattle.local_parts.specs.Forwarding.{injection_of}
use Rattle.local_parts.specs.Host.{host_in}
use Rattle.local_parts.specs.Inputs.{message_in}
use Rattle.local_parts.specs.Looping.{is_looping}
use Rattle.local_parts.specs.Names.{last_name}
use Rattle.local_parts.specs.Texts.{delivered_to}
use Rattle.maildir_drop.specs.declared.row.Attempt.TheVariants.{First}
use Rattle.maildir_drop.specs.Ends.{EndData}
use Rattle.maildir_drop.specs.Ends.EndData.{IsDropped, IsDeferred, LacksMemory}
use Rattle.maildir_drop.specs.Names.{is_name, names_of}
use Rattle.maildir_drop.proofs.Holds.{HoldsRow as HoldsDrop, begins as drop_begins, step as drop_step, uses_row as drop_uses}
use Rattle.local_deliver.specs.declared.place.Place.{Place}
use Rattle.local_deliver.specs.declared.row.Failure.TheVariants as failure
use Rattle.local_deliver.specs.declared.row.Reading.{Reading}
use Rattle.local_deliver.specs.declared.row.Reading.TheVariants as reading
use Rattle.local_deliver.specs.declared.row.Row.{Row}
use Rattle.local_deliver.specs.declared.row.Row.TheVariants as at
use Rattle.local_deliver.specs.declared.row.Wanted.{Wanted}
use Rattle.local_deliver.specs.declared.row.Wanted.TheVariants as wanted
use Rattle.local_deliver.specs.declared.step.Step.{Step}
use Rattle.local_deliver.specs.declared.step.Step.TheVariants as step
use Rattle.local_deliver.specs.Drops.{Drop, drop_arguments, due_drop, end_drop, moved_drop}
use Rattle.local_deliver.specs.Table.{act, begins_lines, by_default, closed, command_failed, dropped, dropped_by, due_by_drop, drops_by, due_at, exited, file_wanted, follows, forward_failed, forwarded, goes_on, hosted, hosted_by, injected, injected_with, input_ended, instructed, last_step, line_done, lines_done, looks, missing, named, Next, opened, place_after, ran, read_on, read_whole, started, step_of, takes, took, fed, gave}
use Rattle.call_fs.proofs.Coming.{by_fit}

-- what a row, with the drop at work, holds open
abbrev pub HoldsRow : (ℕ → Option Mode) → Row → Option Drop → Type 0
HoldsRow h (at.Read what fd) d = h fd.0 ≡ Some (Mode.Opened how.Read)
HoldsRow h (at.Close what fd went) d = h fd.0 ≡ Some (Mode.Opened how.Read)
HoldsRow h at.Drop None = ⊥
HoldsRow h at.Drop (Some d) = HoldsDrop h d.place.row
HoldsRow h at.TakeInput d = Unit {0}
HoldsRow h (at.Open what) d = Unit {0}
HoldsRow h at.NextName d = Unit {0}
HoldsRow h at.Run d = Unit {0}
HoldsRow h at.Start d = Unit {0}
HoldsRow h at.Feed d = Unit {0}
HoldsRow h at.TakeStatus d = Unit {0}
HoldsRow h (at.Report status) d = Unit {0}
HoldsRow h (at.Fail reason) d = Unit {0}
HoldsRow h (at.Ended status) d = Unit {0}

abbrev Holds : (ℕ → Option Mode) → Place → Type 0
Holds h p = HoldsRow h p.row p.dropping

some_held : (o : Option Mode) (mode : Mode) → o ≡ Some mode → IsSome o
some_held o mode e = ap is_some e

-- Where nothing is held but what a drop that has just begun holds

module _ (args : LocalArgs) (now : ℕ) (h : ℕ → Option Mode) where
  drops : (d : Drop) (o : Option EndData) (p : Place) → HoldsDrop h d.place.row → Holds h (drops_by o d p)
  drops d None p own = own
  drops d (Some end) p own = tt

  -- a step that a line leads to
  abbrev Fresh : Step → Type 0
  Fresh (step.Drop d) = HoldsDrop h d.place.row
  Fresh (step.Report text) = Unit {0}
  Fresh (step.Start it) = Unit {0}
  Fresh (step.Run text) = Unit {0}
  Fresh (step.Fail reason) = Unit {0}

  taken : (s : Step) (p : Place) → Fresh s → Holds h (takes s p)
  taken (step.Report text) p f = tt
  taken (step.Start it) p f = tt
  taken (step.Run text) p f = tt
  taken (step.Drop d) p f = drops d (end_drop d) p f
  taken (step.Fail reason) p f = tt

  last_fresh : (o : Option Injection) (lines : List Line) → Fresh (last_step o lines)
  last_fresh None lines = tt
  last_fresh (Some it) lines = tt

  fresh : (w : Work) (lines : List Line) (p : Place) → Fresh (step_of args now w lines p)
  fresh Nothing lines p = last_fresh (injection_of args p.names p.message lines) lines
  fresh (ToCommand text) lines p = tt
  fresh (ToMaildir path) lines p = drop_begins (names_of (drop_arguments args now path p.host p.message)) h First
  fresh (ToMailbox path) lines p = tt

  goes : (p : Place) → Holds h (goes_on args now p)
  goes p = taken (step_of args now (work_of p.course.ahead) (lines_of p.course) p) p (fresh (work_of p.course.ahead) (lines_of p.course) p)

  line_made : (p : Place) → Holds h (line_done args now p)
  line_made p = goes (record p { course = passed p.course })

  lines_made : (p : Place) → Holds h (lines_done args now p)
  lines_made p = goes (record p { course = cut p.course })

  begins : (o : Option Course) (p : Place) → Holds h (begins_lines args now o p)
  begins None p = tt
  begins (Some course) p = goes (record p { course = course })

  defaults : (p : Place) → Holds h (by_default args now p)
  defaults p = begins (course_of (default_text args)) p

  followed : (o : Option Chosen) (p : Place) → Holds h (follows args now o p)
  followed None p = tt
  followed (Some chosen.Default) p = defaults p
  followed (Some (chosen.File place)) p = tt

  looked : (p : Place) → Holds h (looks args p)
  looked p = elim (is_name args.home) as (λ t. Holds h (if t then record p { row = at.NextName } else record p { row = at.Fail failure.Home })) [ true ↦ tt | false ↦ tt ]

  names_host : (host : List ℕ) (p : Place) → Holds h (hosted args host p)
  names_host host p = elim (is_looping (delivered_to args) p.message) as
      (λ t. Holds h (if t then record p { row = at.Fail failure.Looping } else looks args (record p { host = host }))) [ true ↦ tt | false ↦ looked (record p { host = host }) ]

  names_by : (o : Option (List ℕ)) (p : Place) → Holds h (hosted_by args o p)
  names_by None p = tt
  names_by (Some host) p = names_host host p

  misses : (what : Wanted) (p : Place) → Holds h (missing args what p)
  misses wanted.Host p = names_host _ p
  misses wanted.Instructions p = tt

  told_lines : (bytes : List ℕ) (p : Place) → Holds h (instructed args now bytes p)
  told_lines [] p = defaults p
  told_lines (b ∷ bytes) p = begins (course_of (b ∷ bytes)) p

  wholes : (what : Wanted) (p : Place) → Holds h (read_whole args now what p)
  wholes wanted.Host p = names_by (host_in p.read) p
  wholes wanted.Instructions p = told_lines p.read p

  closes : (what : Wanted) (went : Reading) (p : Place) → Holds h (closed args now what went p)
  closes what reading.Whole p = wholes what p
  closes what reading.Fault p = tt
  closes what reading.Memory p = tt

  exits : (code : ℕ) (p : Place) → Holds h (exited args now code p)
  exits code p = by (code == 0) (code == 99)
    where
      by : (s t : Bool) → Holds h (if s then line_done args now p else (if t then lines_done args now p else command_failed code p))
      by true t = line_made p
      by false true = lines_made p
      by false false = tt

drop_goes : (args : LocalArgs) (now : ℕ) (p : Place) (h : ℕ → Option Mode) (o : Option EndData) (d : Drop) → HoldsDrop h d.place.row → p.row ≡ at.Drop → Holds h (dropped_by args now o d p)
drop_goes args now p h None d own is = subst (λ row. HoldsRow h row (Some d)) (sym is) own
drop_goes args now p h (Some (IsDropped name)) d own is = line_made args now h (record p { dropping = None })
drop_goes args now p h (Some IsDeferred) d own is = tt
drop_goes args now p h (Some LacksMemory) d own is = tt

module _ (args : LocalArgs) (now : ℕ) (p : Place) (h : ℕ → Option Mode) where
  ends_input : (o : Option (List ℕ)) → Holds h (input_ended o p)
  ends_input None = tt
  ends_input (Some message) = tt

  takes_input : (got : GotData) → Holds h (took got p)
  takes_input (came.Took bytes) = tt
  takes_input came.End = ends_input (message_in p.message)
  takes_input (came.Answered told) = tt
  takes_input (came.Ended status) = tt
  takes_input came.Crashed = tt
  takes_input came.Gave = tt
  takes_input (came.Started pid) = tt
  takes_input came.Failed = tt
  takes_input came.Memory = tt

  opens : (what : Wanted) (name : List ℕ) (told : Answer) → IsAnswerTo (call.Open name how.Read) told → Holds (held_after h (call.Open name how.Read) told) (opened args what told p)
  opens what name (answer.Opened fd) fit = put_same h fd.0 (Some (Mode.Opened how.Read))
  opens what name (answer.Refused why.NotThere) fit = misses args now (held_after h (call.Open name how.Read) (answer.Refused why.NotThere)) what p
  opens what name (answer.Refused why.Exists) fit = tt
  opens what name (answer.Refused why.Fault) fit = tt
  opens what name (answer.Refused why.Memory) fit = tt
  opens what name told fit = absurd fit

  reads : (what : Wanted) (fd : Fd) (from : ℕ) (told : Answer) (bytes : List ℕ) → h fd.0 ≡ Some (Mode.Opened how.Read) → IsAnswerTo (call.ReadAt fd from 8192) told
      → Holds (held_after h (call.ReadAt fd from 8192) told) (read_on what fd told bytes p)
  reads what fd from (answer.Count count) bytes own fit =
      elim (nat_lt (length bytes) 8192) as (λ t. HoldsRow h (if t then at.Close what fd reading.Whole else at.Read what fd) p.dropping) [ true ↦ own | false ↦ own ]
  reads what fd from (answer.Refused why.Fault) bytes own fit = own
  reads what fd from told bytes own fit = absurd fit

  names : (dir after : List ℕ) (told : Answer) → IsAnswerTo (call.NextName dir after) told → Holds (held_after h (call.NextName dir after) told) (named args now told p)
  names dir after (answer.Name name) fit = tt
  names dir after answer.NoName fit = followed args now (held_after h (call.NextName dir after) answer.NoName) (chosen_by args p.names) p
  names dir after (answer.Refused why.NotThere) fit = tt
  names dir after (answer.Refused why.Fault) fit = tt
  names dir after told fit = absurd fit

  runs : (got : GotData) → Holds h (ran args now got p)
  runs (came.Ended code) = exits args now h code p
  runs came.Memory = tt
  runs (came.Answered told) = tt
  runs (came.Took bytes) = tt
  runs came.End = tt
  runs came.Crashed = tt
  runs came.Gave = tt
  runs (came.Started pid) = tt
  runs came.Failed = tt

  starts : (got : GotData) → Holds h (started got p)
  starts (came.Started pid) = tt
  starts came.Memory = tt
  starts (came.Answered told) = tt
  starts (came.Took bytes) = tt
  starts came.End = tt
  starts (came.Ended status) = tt
  starts came.Crashed = tt
  starts came.Gave = tt
  starts came.Failed = tt

  feeds : (got : GotData) → Holds h (fed got p)
  feeds came.Gave = tt
  feeds (came.Answered told) = tt
  feeds (came.Took bytes) = tt
  feeds came.End = tt
  feeds (came.Ended status) = tt
  feeds came.Crashed = tt
  feeds (came.Started pid) = tt
  feeds came.Failed = tt
  feeds came.Memory = tt

  injects_with : (code : ℕ) → Holds h (injected_with code p)
  injects_with code = elim (code == 0) as (λ t. Holds h (if t then forwarded p else forward_failed code p)) [ true ↦ tt | false ↦ tt ]

  injects : (got : GotData) → Holds h (injected got p)
  injects (came.Ended code) = injects_with code
  injects (came.Answered told) = tt
  injects (came.Took bytes) = tt
  injects came.End = tt
  injects came.Crashed = tt
  injects came.Gave = tt
  injects (came.Started pid) = tt
  injects came.Failed = tt
  injects came.Memory = tt

  gives : (status : ℕ) (got : GotData) → Holds h (gave status got p)
  gives status came.Gave = tt
  gives status (came.Answered told) = tt
  gives status (came.Took bytes) = tt
  gives status came.End = tt
  gives status (came.Ended code) = tt
  gives status came.Crashed = tt
  gives status (came.Started pid) = tt
  gives status came.Failed = tt
  gives status came.Memory = tt

  abbrev StepOf : Row → GotData → Type 0
  StepOf row got = Holds (held_by h (due_at args row p) got) (act args now row got p)

  drops_on : (o : Option Drop) (got : GotData) → p.row ≡ at.Drop → HoldsRow h at.Drop o → MayCome (due_by_drop o) got → Holds (held_by h (due_by_drop o) got) (dropped args now got o p)
  drops_on None got is own may = absurd may
  drops_on (Some d) got is own may =
      drop_goes args now p (held_by h (due_drop d) got) (end_drop (moved_drop got d)) (moved_drop got d) (drop_step d.names d.place.left h d.place.row got own may) is

  step_holds : (row : Row) (got : GotData) → p.row ≡ row → HoldsRow h row p.dropping → MayCome (due_at args row p) got → StepOf row got
  step_holds at.TakeInput got is own may = takes_input got
  step_holds (at.Open what) got is own may = by_fit (call.Open (file_wanted what p) how.Read) (StepOf (at.Open what)) got may (λ told fit. opens what (file_wanted what p) told.answer fit)
  step_holds (at.Read what fd) got is own may =
      by_fit (call.ReadAt fd (length p.read) 8192) (StepOf (at.Read what fd)) got may (λ told fit. reads what fd (length p.read) told.answer told.bytes own fit)
  step_holds (at.Close what fd went) got is own may = by_fit (call.Close fd) (StepOf (at.Close what fd went)) got may (λ told fit. closes args now (held_after h (call.Close fd) told.answer) what went p)
  step_holds at.NextName got is own may =
      by_fit (call.NextName args.home (last_name p.names)) (StepOf at.NextName) got may (λ told fit. names args.home (last_name p.names) told.answer fit)
  step_holds at.Drop got is own may = drops_on p.dropping got is own may
  step_holds at.Run got is own may = runs got
  step_holds at.Start got is own may = starts got
  step_holds at.Feed got is own may = feeds got
  step_holds at.TakeStatus got is own may = injects got
  step_holds (at.Report status) got is own may = gives status got
  step_holds (at.Fail reason) got is own may = gives _ got
  step_holds (at.Ended status) got is own may = absurd may

holds : (args : LocalArgs) (past : List Own) → IsRunBy (Next args) past → Holds (held past) (place_after args past)
holds args [] run = tt
holds args (event ∷ before) run =
    let p : Place = place_after args before in
    let may = subst (λ x. MayCome x event.came) (sym run.1.0) run.1.1 in
    subst (λ x. Holds (held_by (held before) x event.came) (act args event.read p.row event.came p)) run.1.0
    (step_holds args event.read p (held before) p.row event.came refl (holds args before run.0) may)

uses_drop : (h : ℕ → Option Mode) (o : Option Drop) → HoldsRow h at.Drop o → UsesHeld h (due_by_drop o)
uses_drop h None own = tt
uses_drop h (Some d) own = drop_uses d.names d.place.left h d.place.row own

uses_row : (args : LocalArgs) (p : Place) (h : ℕ → Option Mode) (row : Row) → HoldsRow h row p.dropping → UsesHeld h (due_at args row p)
uses_row args p h at.TakeInput own = tt
uses_row args p h (at.Open what) own = tt
uses_row args p h (at.Read what fd) own = (some_held (h fd.0) (Mode.Opened how.Read) own, lit≤ tt)
uses_row args p h (at.Close what fd went) own = some_held (h fd.0) (Mode.Opened how.Read) own
uses_row args p h at.NextName own = tt
uses_row args p h at.Drop own = uses_drop h p.dropping own
uses_row args p h at.Run own = tt
uses_row args p h at.Start own = tt
uses_row args p h at.Feed own = tt
uses_row args p h at.TakeStatus own = tt
uses_row args p h (at.Report status) own = tt
uses_row args p h (at.Fail reason) own = tt
uses_row args p h (at.Ended status) own = tt

pub uses : (args : LocalArgs) (past : List Own) → IsRunBy (Next args) past → UsesHeld (held past) (due_at args (place_after args past).row (place_after args past))
uses args past run = uses_row args (place_after args past) (held past) (place_after args past).row (holds args past run)

-- at the row of a drop there is one
pub at_work : (args : LocalArgs) (past : List Own) → IsRunBy (Next args) past → (place_after args past).row ≡ at.Drop → (place_after args past).dropping ≡ None → ⊥
at_work args past run is none =
    let p : Place = place_after args past in
    subst (λ o. HoldsRow (held past) at.Drop o) none (subst (λ row. HoldsRow (held past) row p.dropping) is (holds args past run))
