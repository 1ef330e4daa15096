-- The calls of a spawner use what it holds open.
use Rattle.std.proofs.Common.{◌≡◌, ℕ, List, ◌∷◌, length, lit≤, Bool, true, false, if◌then◌else◌, nat_lt, Option, Some, None, sym, ap, subst}
use Rattle.std.specs.Option.{IsSome, is_some}
use Rattle.call_fs.specs.declared.calls.Answer.{Answer}
use Rattle.call_fs.specs.declared.calls.Answer.TheVariants as answer
use Rattle.call_fs.specs.declared.calls.CallData.TheVariants as call
use Rattle.call_fs.specs.declared.calls.Fd.{Fd}
use Rattle.call_fs.specs.declared.calls.FsError.TheVariants as why
use Rattle.call_fs.specs.declared.calls.How.TheVariants as how
use Rattle.call_fs.specs.declared.past.ChildData.{ChildData}
use Rattle.call_fs.specs.declared.past.GotData.{GotData}
use Rattle.call_fs.specs.declared.past.GotData.TheVariants as came
use Rattle.call_fs.specs.declared.past.Own.{Own}
use Rattle.call_fs.specs.declared.program.Ready.{Ready}
use Rattle.call_fs.specs.Columns.{IsAnswerTo}
use Rattle.call_fs.specs.declared.modes.Mode.{Mode}
use Rattle.call_fs.specs.Past.{held, held_by, held_after, UsesHeld}
use Rattle.call_fs.specs.Program.{MayCome}
use Rattle.call_fs.proofs.Maps.{put_same}
use Rattle.spawn_protocol.specs.Inbox.{pull, with_more}
use Rattle.spawn_protocol.specs.declared.inbox.Intake.{Intake}
use Rattle.spawn_protocol.specs.declared.inbox.Intake.TheVariants as intake
use Rattle.spawn_protocol.specs.declared.request.Request.{Request}
use Rattle.spawner_parts.specs.declared.place.Place.{Place}
use Rattle.spawner_parts.specs.declared.row.Row.{Row}
use Rattle.spawner_parts.specs.declared.row.Row.TheVariants as at
use Rattle.spawner_parts.specs.Asked.{is_bad, runs_in}
use Rattle.spawner_parts.specs.Table.{IsKind, IsReadied, Kind, act, arrive, closed, due_at, ended_by, gave, heeded, is_asked, launched, next_request, none_runs, opened_by, opens, printed, read_by, reports, resting, row_now, took, turning, bad_request}
use Rattle.spawner_parts.specs.Table.IsReadied.{IsAnswered, IsGiven}
use Rattle.spawner_parts.specs.Known.{HoldsRow}
use Rattle.call_fs.proofs.Coming.{by_fit}

some_held : (o : Option Mode) (mode : Mode) → o ≡ Some mode → IsSome o
some_held o mode e = ap is_some e

module _ (h : ℕ → Option Mode) where
  ended_holds : (i : Intake) → HoldsRow h (ended_by i)
  ended_holds intake.Open = tt
  ended_holds intake.Ended = tt
  ended_holds intake.TooLong = tt

  resting_holds : (p : Place) → HoldsRow h (resting p)
  resting_holds p = by (none_runs p.running) where
    by : (b : Bool) → HoldsRow h (if b then ended_by p.inbox.intake else at.Idle)
    by true = ended_holds p.inbox.intake
    by false = tt

  turning_holds : (p : Place) (child : Option ℕ) → HoldsRow h (turning p child)
  turning_holds p None = resting_holds p
  turning_holds p (Some slot) = by (runs_in p.running slot) where
    by : (b : Bool) → HoldsRow h (if b then at.TakeOutput slot else resting p)
    by true = tt
    by false = resting_holds p

  idle_holds : (p : Place) (ready : Ready) → HoldsRow h (arrive at.Idle p ready)
  idle_holds p ready = by (is_asked p ready) where
    by : (b : Bool) → HoldsRow h (if b then at.TakeInput else turning p ready.child)
    by true = tt
    by false = turning_holds p ready.child

  pub arrive_holds : (row : Row) (p : Place) (ready : Ready) → HoldsRow h row → HoldsRow h (arrive row p ready)
  arrive_holds at.Idle p ready own = idle_holds p ready
  arrive_holds at.Greet p ready own = own
  arrive_holds at.TakeInput p ready own = own
  arrive_holds at.OpenMess p ready own = own
  arrive_holds (at.ReadMess fd) p ready own = own
  arrive_holds (at.CloseMess fd whole) p ready own = own
  arrive_holds at.Start p ready own = own
  arrive_holds at.Feed p ready own = own
  arrive_holds (at.TakeOutput slot) p ready own = own
  arrive_holds (at.TakeStatus slot) p ready own = own
  arrive_holds at.Report p ready own = own
  arrive_holds (at.Ended code) p ready own = own

  heeded_holds : (o : Option Request) (p : Place) → HoldsRow h (heeded o p).row
  heeded_holds None p = tt
  heeded_holds (Some r) p = by (is_bad p.running r) where
    by : (b : Bool) → HoldsRow h (if b then reports bad_request r.slot p else opens r p).row
    by true = tt
    by false = tt

  next_holds : (p : Place) → HoldsRow h (next_request p).row
  next_holds p = heeded_holds (pull p.inbox).request (record p { inbox = (pull p.inbox).inbox })

  gives : (got : GotData) (p : Place) → HoldsRow h (gave got p).row
  gives came.Gave p = next_holds p
  gives got p = tt

  takes : (got : GotData) (p : Place) → HoldsRow h (took got p).row
  takes (came.Took bytes) p = next_holds (record p { inbox = with_more bytes p.inbox })
  takes came.End p = tt
  takes got p = tt

  launches : (report : List ℕ) (got : GotData) (p : Place) → HoldsRow h (launched report got p).row
  launches report (came.Started pid) p = tt
  launches report came.Memory p = tt
  launches report got p = tt

  prints : (slot : ℕ) (got : GotData) (p : Place) → HoldsRow h (printed slot got p).row
  prints slot (came.Took bytes) p = tt
  prints slot came.End p = tt
  prints slot got p = tt

  readied_holds : (given : List ℕ → List ℕ) (p q : Place) → IsReadied given p q → HoldsRow h q.row
  readied_holds given p q (IsAnswered report e) = subst (λ (x : Place). HoldsRow h x.row) (sym e) tt
  readied_holds given p q (IsGiven e) = subst (λ (x : Place). HoldsRow h x.row) (sym e) tt

  closes : (kind : Kind) → IsKind kind → (whole : Bool) (p : Place) → HoldsRow h (closed kind whole p).row
  closes kind good true p = readied_holds kind.given p (kind.readied p) (good p)
  closes kind good false p = tt

module _ (kind : Kind) (good : IsKind kind) (program : ChildData) (p : Place) (h : ℕ → Option Mode) where
  opening : (name : List ℕ) (told : Answer) → IsAnswerTo (call.Open name how.Read) told → HoldsRow (held_after h (call.Open name how.Read) told) (opened_by told p).row
  opening name (answer.Opened fd) fit = put_same h fd.0 (Some (Mode.Opened how.Read))
  opening name (answer.Refused why.NotThere) fit = tt
  opening name (answer.Refused why.Exists) fit = tt
  opening name (answer.Refused why.Fault) fit = tt
  opening name (answer.Refused why.Memory) fit = tt
  opening name told fit = absurd fit

  reading : (fd : Fd) (from : ℕ) (told : Answer) (bytes : List ℕ) → h fd.0 ≡ Some (Mode.Opened how.Read) → IsAnswerTo (call.ReadAt fd from 8192) told
      → HoldsRow (held_after h (call.ReadAt fd from 8192) told) (read_by fd told bytes p).row
  reading fd from (answer.Count count) bytes own fit = by (nat_lt (length bytes) 8192) where
    by : (b : Bool) → HoldsRow h (if b then at.CloseMess fd true else at.ReadMess fd)
    by true = own
    by false = own
  reading fd from (answer.Refused why) bytes own fit = own
  reading fd from told bytes own fit = absurd fit

  abbrev pub StepOf : Row → GotData → Type 0
  StepOf row got = HoldsRow (held_by h (due_at program row p) got) (act kind row got p).row

  pub step : (row : Row) (got : GotData) → HoldsRow h row → MayCome (due_at program row p) got → StepOf row got
  step at.Greet got own may = gives h got p
  step at.Idle got own may = absurd may
  step at.TakeInput got own may = takes h got p
  step at.OpenMess got own may = by_fit (call.Open p.name how.Read) (StepOf at.OpenMess) got may (λ told fit. opening p.name told.answer fit)
  step (at.ReadMess fd) got own may =
      by_fit (call.ReadAt fd (length p.message) 8192) (StepOf (at.ReadMess fd)) got may (λ told fit. reading fd (length p.message) told.answer told.bytes own fit)
  step (at.CloseMess fd whole) got own may =
      by_fit (call.Close fd) (StepOf (at.CloseMess fd whole)) got may (λ told fit. closes (held_after h (call.Close fd) told.answer) kind good whole p)
  step at.Start got own may = launches h kind.unstarted got p
  step at.Feed got own may = next_holds h p
  step (at.TakeOutput slot) got own may = prints h slot got p
  step (at.TakeStatus slot) got own may = tt
  step at.Report got own may = gives h got p
  step (at.Ended code) got own may = absurd may

pub holds_step : (kind : Kind) (good : IsKind kind) (program : ChildData) (event : Own) (before : List Own) (p : Place)
    → event.due ≡ due_at program (row_now p event.ready) p → MayCome event.due event.came → HoldsRow (held before) p.row
    → HoldsRow (held (event ∷ before)) (act kind (row_now p event.ready) event.came p).row
holds_step kind good program event before p due came own =
    let row : Row = row_now p event.ready in
    let old = arrive_holds (held before) p.row p event.ready own in
    let may = subst (λ x. MayCome x event.came) due came in
    subst (λ x. HoldsRow (held_by (held before) x event.came) (act kind row event.came p).row) (sym due)
    (step kind good program p (held before) row event.came old may)

uses_row : (program : ChildData) (h : ℕ → Option Mode) (p : Place) (row : Row) → HoldsRow h row → UsesHeld h (due_at program row p)
uses_row program h p at.Greet own = tt
uses_row program h p at.Idle own = tt
uses_row program h p at.TakeInput own = tt
uses_row program h p at.OpenMess own = tt
uses_row program h p (at.ReadMess fd) own = (some_held (h fd.0) (Mode.Opened how.Read) own, lit≤ tt)
uses_row program h p (at.CloseMess fd whole) own = some_held (h fd.0) (Mode.Opened how.Read) own
uses_row program h p at.Start own = tt
uses_row program h p at.Feed own = tt
uses_row program h p (at.TakeOutput slot) own = tt
uses_row program h p (at.TakeStatus slot) own = tt
uses_row program h p at.Report own = tt
uses_row program h p (at.Ended code) own = tt

pub uses : (program : ChildData) (past : List Own) (p : Place) (ready : Ready) → HoldsRow (held past) p.row → UsesHeld (held past) (due_at program (row_now p ready) p)
uses program past p ready own = uses_row program (held past) p (row_now p ready) (arrive_holds (held past) p.row p ready own)
