-- What a program is given is the message as it was read.
use Rattle.std.proofs.Common.{◌≡◌, ℕ, List, [], ◌∷◌, ◌++◌, length, Bool, true, false, if◌then◌else◌, nat_lt, Option, Some, None, refl, sym, ap, ◌∙◌, subst}
use Rattle.call_fs.specs.declared.calls.Answer.{Answer}
use Rattle.call_fs.specs.declared.calls.Answer.TheVariants as answer
use Rattle.call_fs.specs.declared.calls.CallData.TheVariants as call
use Rattle.call_fs.specs.declared.calls.Fd.{Fd}
use Rattle.call_fs.specs.declared.calls.FsError.TheVariants as why
use Rattle.call_fs.specs.declared.calls.How.TheVariants as how
use Rattle.call_fs.specs.declared.past.ChildData.{ChildData}
use Rattle.call_fs.specs.declared.past.GotData.{GotData}
use Rattle.call_fs.specs.declared.past.GotData.TheVariants as came
use Rattle.call_fs.specs.declared.past.NeedData.TheVariants as needs
use Rattle.call_fs.specs.declared.past.Own.{Own}
use Rattle.call_fs.specs.declared.program.Port.TheVariants as port
use Rattle.call_fs.specs.declared.program.Ready.{Ready}
use Rattle.call_fs.specs.Program.{MayCome}
use Rattle.spawn_protocol.specs.Inbox.{pull, with_more}
use Rattle.spawn_protocol.specs.declared.request.Request.{Request}
use Rattle.spawner_parts.specs.declared.place.Place.{Place}
use Rattle.spawner_parts.specs.declared.row.Row.{Row}
use Rattle.spawner_parts.specs.declared.row.Row.TheVariants as at
use Rattle.spawner_parts.specs.Asked.{is_bad}
use Rattle.spawner_parts.specs.Known.{Carries, last_read, more_read, read_after}
use Rattle.spawner_parts.specs.Table.{IsKind, IsReadied, Kind, act, bad_request, due_at, fed, gave, heeded, launched, next_request, opened_by, opens, printed, read_by, reports, row_now, took}
use Rattle.spawner_parts.specs.Table.IsReadied.{IsAnswered, IsGiven}
use Rattle.call_fs.proofs.Coming.{by_fit}
use Rattle.spawner_parts.proofs.Rows.{arrive_keeps}

module _ (given : List ℕ → List ℕ) (read : List ℕ) where
  abbrev Holds : Place → Type 0
  Holds q = Carries given read q.row q

  heeded_carries : (o : Option Request) (p : Place) → Holds (heeded o p)
  heeded_carries None p = tt
  heeded_carries (Some r) p = by (is_bad p.running r) where
    by : (b : Bool) → Holds (if b then reports bad_request r.slot p else opens r p)
    by true = tt
    by false = refl

  next_carries : (p : Place) → Holds (next_request p)
  next_carries p = heeded_carries (pull p.inbox).request (record p { inbox = (pull p.inbox).inbox })

  fed_by : (o : Option Request) (p : Place) → Holds (record (heeded o p) { message = [] })
  fed_by None p = tt
  fed_by (Some r) p = by (is_bad p.running r) where
    by : (b : Bool) → Holds (record (if b then reports bad_request r.slot p else opens r p) { message = [] })
    by true = tt
    by false = refl

  fed_carries : (p : Place) → Holds (fed p)
  fed_carries p = fed_by (pull p.inbox).request (record p { inbox = (pull p.inbox).inbox })

  gave_carries : (got : GotData) (p : Place) → Holds (gave got p)
  gave_carries came.Gave p = next_carries p
  gave_carries got p = tt

  took_carries : (got : GotData) (p : Place) → Holds (took got p)
  took_carries (came.Took bytes) p = next_carries (record p { inbox = with_more bytes p.inbox })
  took_carries came.End p = tt
  took_carries got p = tt

  launched_carries : (report : List ℕ) (got : GotData) (p : Place) → p.message ≡ given read → Holds (launched report got p)
  launched_carries report (came.Started pid) p own = own
  launched_carries report came.Memory p own = tt
  launched_carries report got p own = tt

  printed_carries : (slot : ℕ) (got : GotData) (p : Place) → Holds (printed slot got p)
  printed_carries slot (came.Took bytes) p = tt
  printed_carries slot came.End p = tt
  printed_carries slot got p = tt

  readied_carries : (p q : Place) → IsReadied given p q → p.message ≡ read → Holds q
  readied_carries p q (IsAnswered report e) own = subst Holds (sym e) tt
  readied_carries p q (IsGiven e) own = subst Holds (sym e) (ap given own)

opened_carries : (given : List ℕ → List ℕ) (told : Answer) (p : Place) → p.message ≡ [] → Carries given [] (opened_by told p).row (opened_by told p)
opened_carries given (answer.Opened fd) p own = own
opened_carries given (answer.Refused why.NotThere) p own = tt
opened_carries given (answer.Refused why.Exists) p own = tt
opened_carries given (answer.Refused why.Fault) p own = tt
opened_carries given (answer.Refused why.Memory) p own = tt
opened_carries given told p own = tt

read_carries : (given : List ℕ → List ℕ) (read : List ℕ) (fd : Fd) (told : Answer) (bytes : List ℕ) (p : Place) → p.message ≡ read
    → Carries given (more_read read told bytes) (read_by fd told bytes p).row (read_by fd told bytes p)
read_carries given read fd (answer.Count count) bytes p own = by (nat_lt (length bytes) 8192) where
  by : (b : Bool) → Carries given (read ++ bytes) (if b then at.CloseMess fd true else at.ReadMess fd) (record p { row = if b then at.CloseMess fd true else at.ReadMess fd; message = p.message ++ bytes })
  by true = ap (λ m. m ++ bytes) own
  by false = ap (λ m. m ++ bytes) own
read_carries given read fd told bytes p own = tt

module _ (kind : Kind) (good : IsKind kind) (program : ChildData) (read : List ℕ) (p : Place) where
  abbrev Step : Row → GotData → Type 0
  Step row got = Carries kind.given (read_after read (due_at program row p) got) (act kind row got p).row (act kind row got p)

  step : (row : Row) (got : GotData) → Carries kind.given read row p → MayCome (due_at program row p) got → Step row got
  step at.Greet got own may = gave_carries kind.given read got p
  step at.Idle got own may = absurd may
  step at.TakeInput got own may = took_carries kind.given read got p
  step at.OpenMess got own may = by_fit (call.Open p.name how.Read) (Step at.OpenMess) got may (λ told fit. opened_carries kind.given told.answer p own)
  step (at.ReadMess fd) got own may =
      by_fit (call.ReadAt fd (length p.message) 8192) (Step (at.ReadMess fd)) got may (λ told fit. read_carries kind.given read fd told.answer told.bytes p own)
  step (at.CloseMess fd true) got own may = readied_carries kind.given read p (kind.readied p) (good p) own
  step (at.CloseMess fd false) got own may = tt
  step at.Start got own may = launched_carries kind.given read kind.unstarted got p own
  step at.Feed got own may = fed_carries kind.given read p
  step (at.TakeOutput slot) got own may = printed_carries kind.given read slot got p
  step (at.TakeStatus slot) got own may = tt
  step at.Report got own may = gave_carries kind.given read got p
  step (at.Ended code) got own may = absurd may

looks : (given : List ℕ → List ℕ) (read : List ℕ) (p : Place) (ready : Ready) → Carries given read p.row p → Carries given read (row_now p ready) p
looks given read p ready own = arrive_keeps (λ row. Carries given read row p) tt tt (λ slot. tt) (λ status. tt) p p.row ready own

pub carried : (kind : Kind) (program : ChildData) (event : Own) (before : List Own) (p : Place) → IsKind kind → event.due ≡ due_at program (row_now p event.ready) p
    → MayCome event.due event.came → Carries kind.given (last_read before) p.row p
    → let q = act kind (row_now p event.ready) event.came p in Carries kind.given (last_read (event ∷ before)) q.row q
carried kind program event before p good due came own =
    let row : Row = row_now p event.ready in
    let may = subst (λ x. MayCome x event.came) due came in
    subst (λ x. Carries kind.given (read_after (last_read before) x event.came) (act kind row event.came p).row (act kind row event.came p)) (sym due)
    (step kind good program (last_read before) p row event.came (looks kind.given (last_read before) p event.ready own) may)

given_at : (given : List ℕ → List ℕ) (program : ChildData) (read : List ℕ) (p : Place) (slot : ℕ) (bytes : List ℕ) (row : Row) → Carries given read row p
    → due_at program row p ≡ needs.Give (port.Program slot) bytes → bytes ≡ given read
given_at given program read p slot bytes at.Feed own is = let same : bytes ≡ p.message = cc in same ∙ own
given_at given program read p slot bytes at.Greet own is = absurd (cc)
given_at given program read p slot bytes at.Idle own is = absurd (cc)
given_at given program read p slot bytes at.TakeInput own is = absurd (cc)
given_at given program read p slot bytes at.OpenMess own is = absurd (cc)
given_at given program read p slot bytes (at.ReadMess fd) own is = absurd (cc)
given_at given program read p slot bytes (at.CloseMess fd whole) own is = absurd (cc)
given_at given program read p slot bytes at.Start own is = absurd (cc)
given_at given program read p slot bytes (at.TakeOutput other) own is = absurd (cc)
given_at given program read p slot bytes (at.TakeStatus other) own is = absurd (cc)
given_at given program read p slot bytes at.Report own is = absurd (cc)
given_at given program read p slot bytes (at.Ended code) own is = absurd (cc)

pub gives : (given : List ℕ → List ℕ) (program : ChildData) (past : List Own) (p : Place) (ready : Ready) (slot : ℕ) (bytes : List ℕ) → Carries given (last_read past) p.row p
    → due_at program (row_now p ready) p ≡ needs.Give (port.Program slot) bytes → bytes ≡ given (last_read past)
gives given program past p ready slot bytes own due = given_at given program (last_read past) p slot bytes (row_now p ready) (looks given (last_read past) p ready own) due
