-- A delivery that stands at a drop has one.
use Rattle.std.proofs.Common.{◌≡◌, ℕ, List, [], ◌∷◌, length, Bool, true, false, Option, Some, None, refl, sym, subst}
use Rattle.std.specs.Prelude.{if◌then◌else◌, nat_lt, ◌==◌, codes}
use Rattle.call_fs.specs.declared.calls.Answer.{Answer}
use Rattle.call_fs.specs.declared.calls.Answer.TheVariants as answer
use Rattle.call_fs.specs.declared.calls.Fd.{Fd}
use Rattle.call_fs.specs.declared.calls.FsError.TheVariants as why
use Rattle.call_fs.specs.declared.past.GotData.{GotData}
use Rattle.call_fs.specs.declared.past.GotData.TheVariants as came
use Rattle.call_fs.specs.Program.{MayCome}
use Rattle.dot_qmail.specs.declared.choice.Chosen.{Chosen}
use Rattle.dot_qmail.specs.declared.choice.Chosen.TheVariants as chosen
use Rattle.local_parts.specs.declared.arguments.LocalArgs.{LocalArgs}
use Rattle.local_parts.specs.Choosing.{chosen_by}
use Rattle.local_parts.specs.Course.{Course, course_of, cut, default_text, lines_of, passed, work_of}
use Rattle.local_parts.specs.Host.{host_in}
use Rattle.local_parts.specs.Inputs.{message_in}
use Rattle.local_parts.specs.Looping.{is_looping}
use Rattle.local_parts.specs.Texts.{delivered_to}
use Rattle.maildir_drop.specs.Ends.{EndData}
use Rattle.maildir_drop.specs.Ends.EndData.{IsDropped, IsDeferred, LacksMemory}
use Rattle.maildir_drop.specs.Names.{is_name}
use Rattle.local_deliver.specs.declared.place.Place.{Place}
use Rattle.local_deliver.specs.declared.row.Failure.TheVariants as failure
use Rattle.local_deliver.specs.declared.row.Reading.{Reading}
use Rattle.local_deliver.specs.declared.row.Reading.TheVariants as reading
use Rattle.local_deliver.specs.declared.row.Row.{Row}
use Rattle.local_deliver.specs.declared.row.Row.TheVariants as at
use Rattle.local_deliver.specs.declared.row.Wanted.{Wanted}
use Rattle.local_deliver.specs.declared.row.Wanted.TheVariants as wanted
use Rattle.local_deliver.specs.declared.step.Step.{Step}
use Rattle.local_deliver.specs.declared.step.Step.TheVariants as step
use Rattle.local_deliver.specs.Drops.{Drop, end_drop, moved_drop}
use Rattle.local_deliver.specs.Table.{Next, act, begins_lines, closed, command_failed, dropped, dropped_by, drops_by, due_at, due_by_drop, follows, forward_failed, forwarded, goes_on, hosted, hosted_by, input_ended, instructed, line_done, lines_done, looks, missing, named, opened, place_after, read_on, read_whole, step_of, takes}
use Rattle.call_fs.specs.Past.{IsRunBy}
use Rattle.call_fs.specs.declared.past.NeedData.{NeedData}
use Rattle.call_fs.specs.declared.past.Own.{Own}

abbrev pub HasDrop : Row → Option Drop → Type 0
HasDrop at.Drop None = ⊥
HasDrop row o = Unit {0}

abbrev pub Drops : Place → Type 0
Drops p = HasDrop p.row p.dropping

module _ (args : LocalArgs) (now : ℕ) where
  begun : (o : Option EndData) (d : Drop) (p : Place) → Drops (drops_by o d p)
  begun None d p = tt
  begun (Some end) d p = tt

  taken : (s : Step) (p : Place) → Drops (takes s p)
  taken (step.Report text) p = tt
  taken (step.Start it) p = tt
  taken (step.Run text) p = tt
  taken (step.Drop d) p = begun (end_drop d) d p
  taken (step.Fail reason) p = tt

  goes : (p : Place) → Drops (goes_on args now p)
  goes p = taken (step_of args now (work_of p.course.ahead) (lines_of p.course) p) p

  begins : (o : Option Course) (p : Place) → Drops (begins_lines args now o p)
  begins None p = tt
  begins (Some course) p = goes (record p { course = course })

  followed : (o : Option Chosen) (p : Place) → Drops (follows args now o p)
  followed None p = tt
  followed (Some chosen.Default) p = begins (course_of (default_text args)) p
  followed (Some (chosen.File place)) p = tt

  looked : (b : Bool) (p : Place) → Drops (if b then record p { row = at.NextName } else record p { row = at.Fail failure.Home })
  looked true p = tt
  looked false p = tt

  names_host : (host : List ℕ) (p : Place) → Drops (hosted args host p)
  names_host host p = by (is_looping (delivered_to args) p.message)
    where
      by : (b : Bool) → Drops (if b then record p { row = at.Fail failure.Looping } else looks args (record p { host = host }))
      by true = tt
      by false = looked (is_name args.home) (record p { host = host })

  names_by : (o : Option (List ℕ)) (p : Place) → Drops (hosted_by args o p)
  names_by None p = tt
  names_by (Some host) p = names_host host p

  misses : (what : Wanted) (p : Place) → Drops (missing args what p)
  misses wanted.Host p = names_host (codes "localhost") p
  misses wanted.Instructions p = tt

  opens : (what : Wanted) (told : Answer) (p : Place) → Drops (opened args what told p)
  opens what (answer.Opened fd) p = tt
  opens what (answer.Refused why.NotThere) p = misses what p
  opens what (answer.Refused why.Memory) p = tt
  opens what told p = tt

  reads : (what : Wanted) (fd : Fd) (told : Answer) (bytes : List ℕ) (p : Place) → Drops (read_on what fd told bytes p)
  reads what fd (answer.Count count) bytes p = by (nat_lt (length bytes) 8192)
    where
      by : (b : Bool) → HasDrop (if b then at.Close what fd reading.Whole else at.Read what fd) p.dropping
      by true = tt
      by false = tt
  reads what fd (answer.Refused why.Memory) bytes p = tt
  reads what fd told bytes p = tt

  told_lines : (bytes : List ℕ) (p : Place) → Drops (instructed args now bytes p)
  told_lines [] p = begins (course_of (default_text args)) p
  told_lines (x ∷ bytes) p = begins (course_of (x ∷ bytes)) p

  wholes : (what : Wanted) (p : Place) → Drops (read_whole args now what p)
  wholes wanted.Host p = names_by (host_in p.read) p
  wholes wanted.Instructions p = told_lines p.read p

  closes : (what : Wanted) (went : Reading) (p : Place) → Drops (closed args now what went p)
  closes what reading.Whole p = wholes what p
  closes what reading.Fault p = tt
  closes what reading.Memory p = tt

  names : (told : Answer) (p : Place) → Drops (named args now told p)
  names (answer.Name name) p = tt
  names answer.NoName p = followed (chosen_by args p.names) p
  names (answer.Refused why.Memory) p = tt
  names told p = tt

  exits : (code : ℕ) (s t : Bool) (p : Place) → Drops (if s then line_done args now p else (if t then lines_done args now p else command_failed code p))
  exits code true t p = goes (record p { course = passed p.course })
  exits code false true p = goes (record p { course = cut p.course })
  exits code false false p = tt

  drop_goes : (o : Option EndData) (d : Drop) (p : Place) → p.row ≡ at.Drop → Drops (dropped_by args now o d p)
  drop_goes None d p is = subst (λ (row : Row). HasDrop row (Some d)) (sym is) tt
  drop_goes (Some (IsDropped name)) d p is = goes (record p { dropping = None; course = passed p.course })
  drop_goes (Some IsDeferred) d p is = tt
  drop_goes (Some LacksMemory) d p is = tt

  inputs : (o : Option (List ℕ)) (p : Place) → Drops (input_ended o p)
  inputs None p = tt
  inputs (Some message) p = tt

  injects_with : (b : Bool) (code : ℕ) (p : Place) → Drops (if b then forwarded p else forward_failed code p)
  injects_with true code p = tt
  injects_with false code p = tt

  pub drops_step : (row : Row) (got : GotData) (p : Place) → p.row ≡ row → MayCome (due_at args row p) got → Drops (act args now row got p)
  drops_step at.TakeInput (came.Took bytes) p is may = tt
  drops_step at.TakeInput came.End p is may = inputs (message_in p.message) p
  drops_step at.TakeInput got p is may = tt
  drops_step (at.Open what) (came.Answered told) p is may = opens what told.answer p
  drops_step (at.Open what) got p is may = tt
  drops_step (at.Read what fd) (came.Answered told) p is may = reads what fd told.answer told.bytes p
  drops_step (at.Read what fd) got p is may = tt
  drops_step (at.Close what fd went) got p is may = closes what went p
  drops_step at.NextName (came.Answered told) p is may = names told.answer p
  drops_step at.NextName got p is may = tt
  drops_step at.Drop got p is may = by p.dropping may
    where
      by : (o : Option Drop) → MayCome (due_by_drop o) got → Drops (dropped args now got o p)
      by None may = absurd may
      by (Some d) may = drop_goes (end_drop (moved_drop got d)) (moved_drop got d) p is
  drops_step at.Run (came.Ended code) p is may = exits code (code == 0) (code == 99) p
  drops_step at.Run came.Memory p is may = tt
  drops_step at.Run got p is may = tt
  drops_step at.Start (came.Started pid) p is may = tt
  drops_step at.Start came.Memory p is may = tt
  drops_step at.Start got p is may = tt
  drops_step at.Feed came.Gave p is may = tt
  drops_step at.Feed got p is may = tt
  drops_step at.TakeStatus (came.Ended code) p is may = injects_with (code == 0) code p
  drops_step at.TakeStatus got p is may = tt
  drops_step (at.Report status) came.Gave p is may = tt
  drops_step (at.Report status) got p is may = tt
  drops_step (at.Fail reason) came.Gave p is may = tt
  drops_step (at.Fail reason) got p is may = tt
  drops_step (at.Ended status) got p is may = absurd may

-- after each past
pub drops_always : (args : LocalArgs) (past : List Own) → IsRunBy (Next args) past → Drops (place_after args past)
drops_always args [] run = tt
drops_always args (event ∷ before) run =
    let p = place_after args before in
    drops_step args event.read p.row event.came p refl (subst (λ (n : NeedData). MayCome n event.came) (sym run.1.0) run.1.1)
