-- Why a spawner has ended.
use Rattle.std.proofs.Common.{◌≡◌, inl, inr, ℕ, List, [], ◌∷◌, ◌++◌, length, Bool, true, false, ◌&&◌, if◌then◌else◌, nat_lt, set, Option, Some, None, refl, sym, ap, ◌∙◌, subst}
use Rattle.std.specs.Prelude.{slice_index_or}
use Rattle.std.proofs.lemmas.List.Elements.{All-nil}
use Rattle.call_fs.specs.declared.calls.Answer.{Answer}
use Rattle.call_fs.specs.declared.calls.Answer.TheVariants as answer
use Rattle.call_fs.specs.declared.calls.CallData.TheVariants as call
use Rattle.call_fs.specs.declared.calls.Fd.{Fd}
use Rattle.call_fs.specs.declared.calls.FsError.TheVariants as why
use Rattle.call_fs.specs.declared.calls.How.TheVariants as how
use Rattle.call_fs.specs.declared.past.GotData.{GotData}
use Rattle.call_fs.specs.declared.past.GotData.TheVariants as came
use Rattle.call_fs.specs.declared.past.NeedData.{NeedData}
use Rattle.call_fs.specs.declared.past.NeedData.TheVariants as needs
use Rattle.call_fs.specs.declared.past.ChildData.{ChildData}
use Rattle.call_fs.specs.declared.past.Own.{Own}
use Rattle.call_fs.specs.declared.program.Port.TheVariants as port
use Rattle.call_fs.specs.declared.program.Ready.{Ready}
use Rattle.call_fs.specs.Program.{MayCome}
use Rattle.spawn_protocol.specs.Inbox.{pull, with_more}
use Rattle.spawn_protocol.specs.Request.{IsRequest}
use Rattle.spawn_protocol.specs.declared.inbox.Intake.{Intake}
use Rattle.spawn_protocol.specs.declared.inbox.Intake.TheVariants as intake
use Rattle.spawn_protocol.specs.declared.request.Request.{Request}
use Rattle.spawner_parts.specs.declared.place.Place.{Place}
use Rattle.spawner_parts.specs.declared.row.Row.{Row}
use Rattle.spawner_parts.specs.declared.row.Row.TheVariants as at
use Rattle.spawner_parts.specs.Asked.{is_bad, runs_in}
use Rattle.spawner_parts.specs.Known.{Heard, Hears, HearsIn, Kept, Knows}
use Rattle.spawner_parts.specs.Causes.{slot_of, EndsWith, IsEnded, end_by, has_end, programs, programs_by}
use Rattle.call_fs.specs.Past.{taken, taken_by}
use Rattle.spawner_parts.specs.Table.IsReadied.{IsAnswered, IsGiven}
use Rattle.spawner_parts.specs.Causes.EndsWith.{GiveFailed, RequestsFailed, ProgramFailed}
use Rattle.spawner_parts.specs.Causes.IsOver.{RequestsEnded, FieldTooLong}
use Rattle.spawner_parts.specs.Table.{IsKind, IsReadied, Kind, act, arrive, bad_request, begun, closed, due_at, ended_by, gave, heeded, is_asked, is_open, next_request, none_runs, opened_by, opens, read_by, reports, resting, row_now, took, turning}
use Rattle.spawner_parts.proofs.Coming.{by_give, by_input, by_program, by_start}
use Rattle.call_fs.proofs.Coming.{by_fit}
use Rattle.spawner_parts.proofs.Hears.{more_heard, pull_hears}

-- What is known after an event

-- a row that is kept between two events: it is never a taking of requests, and an end has its cause
abbrev KeptBy : NeedData → GotData → Row → Type 0
KeptBy due got at.TakeInput = ⊥
KeptBy due got (at.Ended status) = EndsWith status due got
KeptBy due got row = Unit {0}

record After (runs : List Bool) (bytes : List ℕ) (ended : Bool) (due : NeedData) (got : GotData) (p : Place) : Type 0 where
  kept : KeptBy due got p.row
  running : p.running ≡ programs_by runs due got
  hears : HearsIn p.inbox (taken_by bytes due got) (end_by ended due got)

heeded_after : (runs : List Bool) (bytes : List ℕ) (ended : Bool) (due : NeedData) (got : GotData) (o : Option Request) (p : Place)
    → p.running ≡ programs_by runs due got → HearsIn p.inbox (taken_by bytes due got) (end_by ended due got) → After runs bytes ended due got (heeded o p)
heeded_after runs bytes ended due got None p same h = record { kept = tt; running = same; hears = h }
heeded_after runs bytes ended due got (Some r) p same h = by (is_bad p.running r) where
  by : (b : Bool) → After runs bytes ended due got (if b then reports bad_request r.slot p else opens r p)
  by true = record { kept = tt; running = same; hears = h }
  by false = record { kept = tt; running = same; hears = h }

next_after : (runs : List Bool) (bytes : List ℕ) (ended : Bool) (due : NeedData) (got : GotData) (p : Place)
    → p.running ≡ programs_by runs due got → HearsIn p.inbox (taken_by bytes due got) (end_by ended due got) → After runs bytes ended due got (next_request p)
next_after runs bytes ended due got p same h =
    heeded_after runs bytes ended due got (pull p.inbox).request (record p { inbox = (pull p.inbox).inbox }) same
    (pull_hears p.inbox.intake p.inbox.ahead (taken_by bytes due got) (end_by ended due got) h)

-- each row, with what it is known to be at: a taking of requests only while it takes any
abbrev Open : Row → Place → Type 0
Open at.TakeInput p = p.inbox.intake ≡ intake.Open
Open row p = Unit {0}

module _ (kind : Kind) (good : IsKind kind) (program : ChildData) (runs : List Bool) (bytes : List ℕ) (ended : Bool) (p : Place) (here : slot_of program ≡ p.request.slot)
    (same : p.running ≡ runs) (h : HearsIn p.inbox bytes ended) where
  abbrev Step : Row → GotData → Type 0
  Step row got = After runs bytes ended (due_at program row p) got (act kind row got p)

  opening : (told : Answer) (got : GotData) → After runs bytes ended (needs.File (call.Open p.name how.Read)) got (opened_by told p)
  opening (answer.Created fd number) got = record { kept = tt; running = same; hears = h }
  opening (answer.Opened fd) got = record { kept = tt; running = same; hears = h }
  opening (answer.Count count) got = record { kept = tt; running = same; hears = h }
  opening answer.Done got = record { kept = tt; running = same; hears = h }
  opening (answer.Stat stat) got = record { kept = tt; running = same; hears = h }
  opening (answer.Name name) got = record { kept = tt; running = same; hears = h }
  opening answer.NoName got = record { kept = tt; running = same; hears = h }
  opening (answer.Refused why.NotThere) got = record { kept = tt; running = same; hears = h }
  opening (answer.Refused why.Exists) got = record { kept = tt; running = same; hears = h }
  opening (answer.Refused why.Fault) got = record { kept = tt; running = same; hears = h }
  opening (answer.Refused why.Memory) got = record { kept = tt; running = same; hears = h }

  reading : (fd : Fd) (told : Answer) (read : List ℕ) (got : GotData) → After runs bytes ended (needs.File (call.ReadAt fd (length p.message) 8192)) got (read_by fd told read p)
  reading fd (answer.Count count) read got = record { kept = by (nat_lt (length read) 8192); running = same; hears = h } where
    by : (b : Bool) → KeptBy (needs.File (call.ReadAt fd (length p.message) 8192)) got (if b then at.CloseMess fd true else at.ReadMess fd)
    by true = tt
    by false = tt
  reading fd (answer.Created to number) read got = record { kept = tt; running = same; hears = h }
  reading fd (answer.Opened to) read got = record { kept = tt; running = same; hears = h }
  reading fd answer.Done read got = record { kept = tt; running = same; hears = h }
  reading fd (answer.Stat stat) read got = record { kept = tt; running = same; hears = h }
  reading fd (answer.Name name) read got = record { kept = tt; running = same; hears = h }
  reading fd answer.NoName read got = record { kept = tt; running = same; hears = h }
  reading fd (answer.Refused why) read got = record { kept = tt; running = same; hears = h }

  readied : (fd : Fd) (got : GotData) (q : Place) → IsReadied kind.given p q → After runs bytes ended (needs.File (call.Close fd)) got q
  readied fd got q (IsAnswered report e) = subst (After runs bytes ended (needs.File (call.Close fd)) got) (sym e) (record { kept = tt; running = same; hears = h })
  readied fd got q (IsGiven e) = subst (After runs bytes ended (needs.File (call.Close fd)) got) (sym e) (record { kept = tt; running = same; hears = h })

  closing : (fd : Fd) (whole : Bool) (got : GotData) → After runs bytes ended (needs.File (call.Close fd)) got (closed kind whole p)
  closing fd true got = readied fd got (kind.readied p) (good p)
  closing fd false got = record { kept = tt; running = same; hears = h }

  giving : (text : List ℕ) (got : GotData) → MayCome (needs.Give port.Output text) got → After runs bytes ended (needs.Give port.Output text) got (gave got p)
  giving text got may = by_give port.Output text (λ g. After runs bytes ended (needs.Give port.Output text) g (gave g p))
      (next_after runs bytes ended (needs.Give port.Output text) came.Gave p same h)
      (record { kept = GiveFailed text; running = same; hears = h }) got may

  more_hears : (more : List ℕ) → p.inbox.intake ≡ intake.Open → HearsIn (with_more more p.inbox) (bytes ++ more) ended
  more_hears more free = subst (λ i. Hears i (p.inbox.ahead ++ more) (bytes ++ more) ended) (sym free)
      (more_heard p.inbox.ahead bytes more (subst (λ i. Hears i p.inbox.ahead bytes ended) free h))

  taking : p.inbox.intake ≡ intake.Open → (got : GotData) → MayCome (needs.Take port.Input) got → After runs bytes ended (needs.Take port.Input) got (took got p)
  taking free got may = by_input (λ g. After runs bytes ended (needs.Take port.Input) g (took g p))
      (λ more. next_after runs bytes ended (needs.Take port.Input) (came.Took more) (record p { inbox = with_more more p.inbox }) same (more_hears more free))
      (record { kept = tt; running = same; hears = (refl, refl) })
      (record { kept = RequestsFailed; running = same; hears = h }) got may

  starting : (got : GotData) → MayCome (needs.Start program) got → Step at.Start got
  starting got may = by_start program (Step at.Start)
      (λ pid. record { kept = tt; running = ap (λ r. set r p.request.slot true) same ∙ ap (λ s. set runs s true) (sym here); hears = h })
      (record { kept = tt; running = same; hears = h })
      (record { kept = tt; running = same; hears = h }) got may

  feeding : (got : GotData) → Step at.Feed got
  feeding got =
      let n = next_after runs bytes ended (due_at program at.Feed p) got p same h in
      record { kept = n.kept; running = n.running; hears = n.hears }

  printing : (slot : ℕ) (got : GotData) → MayCome (needs.Take (port.Program slot)) got → Step (at.TakeOutput slot) got
  printing slot got may = by_program slot (Step (at.TakeOutput slot))
      (λ more. record { kept = tt; running = same; hears = h })
      (record { kept = tt; running = same; hears = h })
      (record { kept = ProgramFailed slot; running = same; hears = h }) got may

  step : (row : Row) (got : GotData) → Open row p → MayCome (due_at program row p) got → Step row got
  step at.Greet got free may = giving (120 ∷ []) got may
  step at.Idle got free may = absurd may
  step at.TakeInput got free may = taking free got may
  step at.OpenMess got free may = by_fit (call.Open p.name how.Read) (Step at.OpenMess) got may (λ told fit. opening told.answer (came.Answered told))
  step (at.ReadMess fd) got free may =
      by_fit (call.ReadAt fd (length p.message) 8192) (Step (at.ReadMess fd)) got may (λ told fit. reading fd told.answer told.bytes (came.Answered told))
  step (at.CloseMess fd whole) got free may = closing fd whole got
  step at.Start got free may = starting got may
  step at.Feed got free may = feeding got
  step (at.TakeOutput slot) got free may = printing slot got may
  step (at.TakeStatus slot) got free may = record { kept = tt; running = ap (λ r. set r slot false) same; hears = h }
  step at.Report got free may = giving p.report got may
  step (at.Ended code) got free may = absurd may

-- where a step comes from
abbrev Comes : List Own → Place → Row → Type 0
Comes past p at.TakeInput = p.inbox.intake ≡ intake.Open
Comes past p (at.Ended status) = IsEnded past status
Comes past p row = Unit {0}

ending_comes : (past : List Own) (p : Place) (state : Intake) (ahead : List ℕ) → Hears state ahead (taken past) (has_end past) → none_runs (programs past) ≡ true → Comes past p (ended_by state)
ending_comes past p intake.Open ahead h none = tt
ending_comes past p intake.Ended ahead h none = inr (RequestsEnded h.1 none)
ending_comes past p intake.TooLong ahead h none = inr (FieldTooLong h.1.0 h.1.1 none)

module _ (past : List Own) (p : Place) (k : Knows past p) where
  resting_comes : Comes past p (resting p)
  resting_comes = by (none_runs p.running) refl where
    by : (b : Bool) → none_runs p.running ≡ b → Comes past p (if b then ended_by p.inbox.intake else at.Idle)
    by true is = ending_comes past p p.inbox.intake p.inbox.ahead k.hears (ap none_runs (sym k.running) ∙ is)
    by false is = tt

  turning_comes : (child : Option ℕ) → Comes past p (turning p child)
  turning_comes None = resting_comes
  turning_comes (Some slot) = by (runs_in p.running slot) where
    by : (b : Bool) → Comes past p (if b then at.TakeOutput slot else resting p)
    by true = tt
    by false = resting_comes

  open_by : (state : Intake) (links : Bool) → is_open state && links ≡ true → state ≡ intake.Open
  open_by intake.Open links is = refl
  open_by intake.Ended links is = absurd (cc)
  open_by intake.TooLong links is = absurd (cc)

  idle_comes : (ready : Ready) → Comes past p (arrive at.Idle p ready)
  idle_comes ready = by (is_asked p ready) refl where
    by : (b : Bool) → is_asked p ready ≡ b → Comes past p (if b then at.TakeInput else turning p ready.child)
    by true is = open_by p.inbox.intake (slice_index_or ready.links 0 false) is
    by false is = turning_comes ready.child

  comes : (row : Row) (ready : Ready) → Kept past row → Comes past p (arrive row p ready)
  comes at.Idle ready kept = idle_comes ready
  comes at.Greet ready kept = tt
  comes at.TakeInput ready kept = absurd kept
  comes at.OpenMess ready kept = tt
  comes (at.ReadMess fd) ready kept = tt
  comes (at.CloseMess fd whole) ready kept = tt
  comes at.Start ready kept = tt
  comes at.Feed ready kept = tt
  comes (at.TakeOutput slot) ready kept = tt
  comes (at.TakeStatus slot) ready kept = tt
  comes at.Report ready kept = tt
  comes (at.Ended code) ready kept = inl kept

  is_at : (row : Row) → Comes past p row → Open row p
  is_at at.TakeInput c = c
  is_at at.Greet c = tt
  is_at at.Idle c = tt
  is_at at.OpenMess c = tt
  is_at (at.ReadMess fd) c = tt
  is_at (at.CloseMess fd whole) c = tt
  is_at at.Start c = tt
  is_at at.Feed c = tt
  is_at (at.TakeOutput slot) c = tt
  is_at (at.TakeStatus slot) c = tt
  is_at at.Report c = tt
  is_at (at.Ended code) c = tt

kept_of : (event : Own) (before : List Own) (row : Row) → KeptBy event.due event.came row → Kept (event ∷ before) row
kept_of event before at.TakeInput k = k
kept_of event before at.Greet k = tt
kept_of event before at.Idle k = tt
kept_of event before at.OpenMess k = tt
kept_of event before (at.ReadMess fd) k = tt
kept_of event before (at.CloseMess fd whole) k = tt
kept_of event before at.Start k = tt
kept_of event before at.Feed k = tt
kept_of event before (at.TakeOutput slot) k = tt
kept_of event before (at.TakeStatus slot) k = tt
kept_of event before at.Report k = tt
kept_of event before (at.Ended code) k = k

none_heard : Heard [] []
none_heard = record { requests = []; whole = All-nil IsRequest; text = refl }

pub knows_begin : Knows [] begun
knows_begin = record { kept = tt; running = refl; hears = none_heard }

pub knows_step : (kind : Kind) (good : IsKind kind) (program : ChildData) (event : Own) (before : List Own) (p : Place) → slot_of program ≡ p.request.slot
    → event.due ≡ due_at program (row_now p event.ready) p → MayCome event.due event.came → Knows before p
    → Knows (event ∷ before) (act kind (row_now p event.ready) event.came p)
knows_step kind good program event before p here due came k =
    let row : Row = row_now p event.ready in
    let free = is_at before p k row (comes before p k p.row event.ready k.kept) in
    let may = subst (λ x. MayCome x event.came) due came in
    let a = subst (λ x. After (programs before) (taken before) (has_end before) x event.came (act kind row event.came p)) (sym due)
    (step kind good program (programs before) (taken before) (has_end before) p here k.running k.hears row event.came free may) in
    record { kept = kept_of event before (act kind row event.came p).row a.kept; running = a.running; hears = a.hears }

-- an end is due only at its row
at_end : (program : ChildData) (past : List Own) (p : Place) (row : Row) (status : ℕ) → Comes past p row → due_at program row p ≡ needs.Ended status → IsEnded past status
at_end program past p (at.Ended code) status c due = let same : code ≡ status = cc in subst (IsEnded past) same c
at_end program past p at.Greet status c due = absurd (cc)
at_end program past p at.Idle status c due = absurd (cc)
at_end program past p at.TakeInput status c due = absurd (cc)
at_end program past p at.OpenMess status c due = absurd (cc)
at_end program past p (at.ReadMess fd) status c due = absurd (cc)
at_end program past p (at.CloseMess fd whole) status c due = absurd (cc)
at_end program past p at.Start status c due = absurd (cc)
at_end program past p at.Feed status c due = absurd (cc)
at_end program past p (at.TakeOutput slot) status c due = absurd (cc)
at_end program past p (at.TakeStatus slot) status c due = absurd (cc)
at_end program past p at.Report status c due = absurd (cc)

pub ends : (program : ChildData) (past : List Own) (p : Place) (ready : Ready) (status : ℕ) → Knows past p → due_at program (row_now p ready) p ≡ needs.Ended status → IsEnded past status
ends program past p ready status k due = at_end program past p (row_now p ready) status (comes past p k p.row ready k.kept) due
