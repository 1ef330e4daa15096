-- What a spawner gives, by where it stands: nothing before its first byte, and then whole reports.
use Rattle.std.proofs.Common.{◌≡◌, ◌⊎◌, inl, inr, ℕ, ◌+◌, List, [], ◌∷◌, ◌++◌, length, Bool, true, false, if◌then◌else◌, Option, Some, None, refl, sym, ap, ◌∙◌, subst, append_assoc}
use Rattle.std.specs.Prelude.{nat_lt}
use Rattle.call_fs.specs.Program.{MayCome}
use Rattle.call_fs.specs.declared.calls.Answer.{Answer}
use Rattle.call_fs.specs.declared.calls.Answer.TheVariants as answer
use Rattle.call_fs.specs.declared.calls.CallData.{CallData}
use Rattle.call_fs.specs.declared.calls.CallData.TheVariants as call
use Rattle.call_fs.specs.declared.calls.Fd.{Fd}
use Rattle.call_fs.specs.declared.calls.FsError.TheVariants as why
use Rattle.call_fs.specs.declared.calls.How.TheVariants as how
use Rattle.call_fs.specs.declared.file_system.TheConstants.{PIECE}
use Rattle.call_fs.specs.declared.past.ChildData.{ChildData}
use Rattle.call_fs.specs.declared.past.GotData.{GotData}
use Rattle.call_fs.specs.declared.past.GotData.TheVariants as came
use Rattle.call_fs.specs.declared.past.NeedData.{NeedData}
use Rattle.call_fs.specs.declared.past.NeedData.TheVariants as needs
use Rattle.call_fs.specs.declared.past.Own.{Own}
use Rattle.call_fs.specs.declared.program.Port.TheVariants as port
use Rattle.call_fs.specs.declared.program.Ready.{Ready}
use Rattle.local_spawn.specs.declared.assign.Assignment.{Assignment}
use Rattle.local_spawn.specs.declared.delivery.Delivery.{Delivery}
use Rattle.local_spawn.specs.declared.place.Place.{Place as LocalPlace}
use Rattle.local_spawn.specs.declared.row.Row.{Row as LocalRow}
use Rattle.local_spawn.specs.declared.row.Row.TheVariants as local_at
use Rattle.local_spawn.specs.Deliveries.{delivery_for, refusal}
use Rattle.local_spawn.specs.Table as local
use Rattle.mail_bytes.specs.Texts.{HasNoNul}
use Rattle.outside.specs.declared.spawner.Status.{Status}
use Rattle.program_law.specs.Post.Posts.{told_by, told_of}
use Rattle.program_law.proofs.Post.Readings.{report_more, told_push}
use Rattle.program_law.proofs.Post.TakesUp.{fed_is}
use Rattle.program_law.proofs.Post.Told.{local_speaks, memory_is, refusal_is, remote_speaks, said, said_is, said_slot, said_text, unable_is, words}
use Rattle.program_law.proofs.Post.Works.{arrives}
use Rattle.remote_spawn.specs.Table as remote
use Rattle.spawn_protocol.specs.declared.report.Report.{Report}
use Rattle.spawn_protocol.specs.declared.request.Request.{Request}
use Rattle.spawn_protocol.specs.Inbox.{pull, with_more}
use Rattle.spawn_protocol.specs.Report.{Reader, kept, numbered, read_on, report_text}
use Rattle.spawn_protocol.specs.Report.Reader.{AtBegin}
use Rattle.spawner_parts.specs.declared.place.Place.{Place}
use Rattle.spawner_parts.specs.declared.row.Row.{Row}
use Rattle.spawner_parts.specs.declared.row.Row.TheVariants as at
use Rattle.spawner_parts.specs.Asked.{is_bad}
use Rattle.spawner_parts.specs.Counts.{one, reported_by, times, with_report}
use Rattle.spawner_parts.specs.Table.{Kind, act, arrive, bad_request, due_at, greeting, heeded, next_request, no_memory, opened_by, opens, read_by, reports, row_now, status_of, unable}
use Rattle.spawner_parts.proofs.Balance.{told_slot}
use Rattle.settle_law.proofs.Greeting.{closing_work, opening_work, reading_work}

-- The first byte was given, and then these bytes: whole reports of these slots, the newest first.
pub record Speaks (given told : List ℕ) : Type 0 where
  pub texts : List ℕ
  pub is : given ≡ greeting ++ texts
  pub reports : List Report
  pub read : read_on AtBegin texts ≡ (reports, AtBegin)
  pub count : (slot : ℕ) → told_of slot reports ≡ times slot told
  pub some : reports ≡ [] → texts ≡ []

-- a report that is due is whole
pub record IsWhole (report : List ℕ) : Type 0 where
  pub slot : ℕ
  pub text : List ℕ
  pub is : report ≡ numbered slot text
  pub plain : HasNoNul text

abbrev pub Says : Row → Place → (given told : List ℕ) → Type 0
Says at.Greet p given told = (given ≡ []) × (told ≡ [])
Says at.Report p given told = Speaks given told × IsWhole p.report
Says row p given told = Speaks given told

pub none_or_speaks : (row : Row) (p : Place) (given told : List ℕ) → Says row p given told → (given ≡ []) ⊎ Speaks given told
none_or_speaks at.Greet p given told h = inl h.0
none_or_speaks at.Report p given told h = inr h.0
none_or_speaks row p given told h = inr h

-- One report more

pushed_some : (rs : List Report) (r : Report) → rs ++ r ∷ [] ≡ [] → ⊥
pushed_some [] r e = cc
pushed_some (x ∷ rs) r e = cc

one_more : (given told report : List ℕ) → Speaks given told → IsWhole report → Speaks (given ++ report) (with_report report told)
one_more given told report S W =
    let r : Report = said W.slot W.text in
    let text : report ≡ report_text r = W.is ∙ said_text W.slot W.text W.plain in
    let begins : (read_on AtBegin S.texts).1 ≡ AtBegin = ap (λ (s : List Report × Reader). s.1) S.read in
    let reported : with_report report told ≡ W.slot ∷ told = ap (λ (b : List ℕ). with_report b told) W.is ∙ told_slot W.slot W.text told in
    record {
      texts = S.texts ++ report;
      is = ap (λ (l : List ℕ). l ++ report) S.is ∙ append_assoc greeting S.texts report;
      reports = S.reports ++ kept r ∷ [];
      read = ap (λ (t : List ℕ). read_on AtBegin (S.texts ++ t)) text ∙ report_more AtBegin S.texts r (said_is W.slot W.text W.plain) begins
          ∙ ap (λ (s : List Report × Reader). let now : List Report × Reader = (s.0 ++ kept r ∷ [], AtBegin) in now) S.read;
      count = λ slot. told_push slot S.reports (kept r) ∙ ap (λ (k : ℕ). one slot k + told_of slot S.reports) (said_slot W.slot W.text)
          ∙ ap (λ (n : ℕ). one slot W.slot + n) (S.count slot) ∙ sym (ap (times slot) reported);
      some = λ none. absurd (pushed_some S.reports (kept r) none);
    }

first : (given told : List ℕ) → (given ≡ []) × (told ≡ []) → Speaks (given ++ greeting) told
first given told h = record {
  texts = [];
  is = ap (λ (l : List ℕ). l ++ greeting) h.0;
  reports = [];
  read = refl;
  count = λ slot. sym (ap (times slot) h.1);
  some = λ e. refl;
}

-- The next request

module _ (given told : List ℕ) (S : Speaks given told) where
  heeds : (o : Option Request) (p : Place) → let q = heeded o p in Says q.row q given told
  heeds None p = S
  heeds (Some r) p = by (is_bad p.running r)
    where
      by : (b : Bool) → let q = if b then reports bad_request r.slot p else opens r p in Says q.row q given told
      by true = (S, record { slot = r.slot; text = bad_request; is = refl; plain = words bad_request refl })
      by false = S

  takes_up : (p : Place) → let q = next_request p in Says q.row q given told
  takes_up p = let it = pull p.inbox in heeds it.request (record p { inbox = it.inbox })

-- A step

module _ (kind : Kind) (unstarted : HasNoNul kind.unstarted) (ended : (status : Status) (output : List ℕ) → HasNoNul (kind.ended status output))
    (readied : (p : Place) (given told : List ℕ) → Speaks given told → let q = kind.readied p in Says q.row q given told) (program : ChildData) (p : Place) (given told : List ℕ) (wrote : ℕ) where
  abbrev Then : Row → GotData → Type 0
  Then row got = let q = act kind row got p in Says q.row q (told_by (due_at program row p) got wrote given) (reported_by told (due_at program row p) got)

  abbrev Answers : List ℕ → Type 0
  Answers report = let q = reports report p.request.slot p in Says q.row q given told

  answered : (report : List ℕ) → HasNoNul report → Speaks given told → Answers report
  answered report plain h = (h, record { slot = p.request.slot; text = report; is = refl; plain = plain })

  opening : (it : Answer) → Speaks given told → let q = opened_by it p in Says q.row q given told
  opening (answer.Opened fd) h = h
  opening (answer.Refused why.Memory) h = answered no_memory memory_is.plain h
  opening it h = answered unable unable_is.plain h

  reading : (fd : Fd) (it : Answer) (bytes : List ℕ) → Speaks given told → let q = read_by fd it bytes p in Says q.row q given told
  reading fd (answer.Count count) bytes h = by (nat_lt (length bytes) PIECE)
    where
      by : (b : Bool) → let q = record p { row = if b then at.CloseMess fd true else at.ReadMess fd; message = p.message ++ bytes } in Says q.row q given told
      by true = h
      by false = h
  reading fd it bytes h = h

  step : (row : Row) (got : GotData) → Says row p given told → MayCome (due_at program row p) got → ((text : List ℕ) → due_at program row p ≡ needs.Give port.Output text → got ≡ came.Gave) → Then row got
  step at.Greet got h may well = subst (Then at.Greet) (sym (well greeting refl)) (takes_up (given ++ greeting) told (first given told h) p)
  step at.Idle got h may well = absurd may
  step at.TakeInput (came.Took bytes) h may well = takes_up given told h (record p { inbox = with_more bytes p.inbox })
  step at.TakeInput got h may well = h
  step at.OpenMess (came.Answered it) h may well = opening it.answer h
  step at.OpenMess got h may well = answered unable unable_is.plain h
  step (at.ReadMess fd) (came.Answered it) h may well = reading fd it.answer it.bytes h
  step (at.ReadMess fd) got h may well = h
  step (at.CloseMess fd true) got h may well = readied p given told h
  step (at.CloseMess fd false) got h may well = answered unable unable_is.plain h
  step at.Start (came.Started pid) h may well = h
  step at.Start came.Memory h may well = answered no_memory memory_is.plain h
  step at.Start got h may well = answered kind.unstarted unstarted h
  step at.Feed got h may well = subst (λ (q : Place). Says q.row q given told) (sym (fed_is p)) (takes_up given told h (record p { message = [] }))
  step (at.TakeOutput slot) (came.Took bytes) h may well = h
  step (at.TakeOutput slot) came.End h may well = h
  step (at.TakeOutput slot) got h may well = h
  step (at.TakeStatus slot) got h may well = (h, record { slot = slot; text = kind.ended (status_of got) p.output; is = refl; plain = ended (status_of got) p.output })
  step at.Report got h may well =
      subst (Then at.Report) (sym (well p.report refl)) (takes_up (given ++ p.report) (with_report p.report told) (one_more given told p.report h.0 h.1) p)
  step (at.Ended code) got h may well = absurd may

-- between two steps nothing is given
pub comes : (row : Row) (p : Place) (ready : Ready) (given told : List ℕ) → Says row p given told → Says (arrive row p ready) p given told
comes at.Idle p ready given told h = arrives (λ (row : Row). Says row p given told) p h h (λ code. h) (λ slot run. h) ready
comes at.Greet p ready given told h = h
comes at.TakeInput p ready given told h = h
comes at.OpenMess p ready given told h = h
comes (at.ReadMess fd) p ready given told h = h
comes (at.CloseMess fd whole) p ready given told h = h
comes at.Start p ready given told h = h
comes at.Feed p ready given told h = h
comes (at.TakeOutput slot) p ready given told h = h
comes (at.TakeStatus slot) p ready given told h = h
comes at.Report p ready given told h = h
comes (at.Ended code) p ready given told h = h

-- An event

abbrev pub GivesAll : Own → Type 0
GivesAll own = (text : List ℕ) → own.due ≡ needs.Give port.Output text → own.came ≡ came.Gave

module _ (own : Own) (wrote : ℕ) (given told : List ℕ) where
  abbrev Said : Place → Type 0
  Said q = Says q.row q (told_by own.due own.came wrote given) (reported_by told own.due own.came)

  abbrev SaidBy : NeedData → Place → Type 0
  SaidBy due q = Says q.row q (told_by due own.came wrote given) (reported_by told due own.came)

  -- of a spawner that serves
  served : (kind : Kind) → HasNoNul kind.unstarted → ((status : Status) (output : List ℕ) → HasNoNul (kind.ended status output))
      → ((p : Place) (given told : List ℕ) → Speaks given told → let q = kind.readied p in Says q.row q given told) → (program : ChildData) (p : Place)
      → own.due ≡ due_at program (row_now p own.ready) p → MayCome own.due own.came → GivesAll own → Says p.row p given told → Said (act kind (row_now p own.ready) own.came p)
  served kind unstarted ended readied program p due may well h =
      let row = row_now p own.ready in
      subst (λ (d : NeedData). SaidBy d (act kind row own.came p)) (sym due)
      (step kind unstarted ended readied program p given told wrote row own.came (comes p.row p own.ready given told h) (subst (λ (d : NeedData). MayCome d own.came) due may)
      (λ text e. well text (due ∙ e)))

  remote_readied : (p : Place) (given told : List ℕ) → Speaks given told → let q = remote.readied p in Says q.row q given told
  remote_readied p given told h = h

  pub remote_says : (p : Place) → own.due ≡ remote.due_by p own.ready → MayCome own.due own.came → GivesAll own → Says p.row p given told → Said (remote.moved p own)
  remote_says p due may well h = served remote.remote remote_speaks.unstarted.plain remote_speaks.plain remote_readied (remote.program_of p.request) p due may well h

  local_readied : (users : Option (List Assignment)) (p : Place) (given told : List ℕ) → Speaks given told → let q = local.readied users p in Says q.row q given told
  local_readied users p given told h = by (delivery_for users p.request)
    where
      by : (o : Option Delivery) → let q = local.readied_by o (refusal users) p in Says q.row q given told
      by None = (h, record { slot = p.request.slot; text = refusal users; is = refl; plain = (refusal_is users).plain })
      by (Some delivery) = h

  -- in its start the local one gives nothing
  starting : (it : CallData) (p q : Place) → own.due ≡ needs.File it → q ≡ p → Says p.row p given told → Said q
  starting it p q due same h = subst Said (sym same) (subst (λ (d : NeedData). SaidBy d p) (sym due) h)

  local_by : (row : LocalRow) (l : LocalPlace) → own.due ≡ local.due_at row own.ready l → MayCome own.due own.came → GivesAll own → Says l.work.row l.work given told
      → Said (local.act row own.ready own.came l).work
  local_by local_at.OpenUsers l due may well h = starting (call.Open local.users_name how.Read) l.work (local.users_opened own.came l).work due (opening_work own.came l) h
  local_by (local_at.ReadUsers fd) l due may well h = starting (call.ReadAt fd (length l.text) PIECE) l.work (local.users_read fd own.came l).work due (reading_work fd own.came l) h
  local_by (local_at.CloseUsers fd whole) l due may well h = starting (call.Close fd) l.work (local.users_closed whole l).work due (closing_work whole l) h
  local_by local_at.Serves l due may well h =
      served (local.local_kind l.users) (local_speaks l.users).unstarted.plain (local_speaks l.users).plain (local_readied l.users) (local.program_of l) l.work due may well h
  local_by local_at.OutOfMemory l due may well h = absurd (subst (λ (d : NeedData). MayCome d own.came) due may)

  pub local_says : (l : LocalPlace) → own.due ≡ local.due_by l own.ready → MayCome own.due own.came → GivesAll own → Says l.work.row l.work given told → Said (local.moved l own).work
  local_says l due may well h = local_by l.row l due may well h
