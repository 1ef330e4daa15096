-- The reports that a sender takes, and what it enters of them.
use Rattle.std.proofs.Common.{◌≡◌, ◌⊎◌, ℕ, List, [], ◌∷◌, ◌++◌, length, filter, cond, nat_lt, Bool, true, false, Option, Some, None, refl, sym, ap, ◌∙◌, subst, inl, inr, ⊎_elim, append-nil}
use Rattle.std.specs.Prelude.{◌&&◌, ◌==◌, if◌then◌else◌}
use Rattle.std.specs.Option.{option_map}
use Rattle.bounce_record.specs.declared.note_row.NoteRow.{NoteRow}
use Rattle.bounce_record.specs.declared.note_row.NoteRow.TheVariants as written
use Rattle.bounce_record.specs.declared.return_row.ReturnRow.{ReturnRow}
use Rattle.bounce_record.specs.declared.return_row.ReturnRow.TheVariants as back
use Rattle.bounce_record.specs.Returning.{Returning, due_at as return_due_at}
use Rattle.bounce_record.specs.Writing.{Writing, due_at as note_due_at}
use Rattle.call_fs.specs.Disk.{Among}
use Rattle.call_fs.specs.Past.{IsRunBy}
use Rattle.call_fs.specs.Program.{MayCome}
use Rattle.call_fs.specs.declared.calls.Answer.{Answer}
use Rattle.call_fs.specs.declared.calls.Answer.TheVariants as answer
use Rattle.call_fs.specs.declared.past.GotData.{GotData}
use Rattle.call_fs.specs.declared.past.GotData.TheVariants as came
use Rattle.call_fs.specs.declared.past.NeedData.{NeedData}
use Rattle.call_fs.specs.declared.past.NeedData.TheVariants as needs
use Rattle.call_fs.specs.declared.past.Own.{Own}
use Rattle.call_fs.specs.declared.calls.How.TheVariants as how
use Rattle.call_fs.specs.declared.program.Port.TheVariants as port
use Rattle.queue_paths.specs.declared.names.Name.TheVariants as name
use Rattle.send_core.proofs.Changes.{Heard}
use Rattle.send_core.proofs.Fits.{Fits, so_far}
use Rattle.send_core.proofs.Lists.{in_range, news_are, slots_put}
use Rattle.send_core.proofs.Runs.{Was, frees, keeps}
use Rattle.send_core.proofs.Standing.{FitAt, InStart, arrives}
use Rattle.send_core.specs.Agrees.{task_of}
use Rattle.send_core.specs.Booked.{booked_at, finished_at, if_done, if_ok, if_zero, marked_at, noted_at, reported_all, reported_by, reported_if, reported_in, returned_at, routed_at}
use Rattle.send_core.specs.Desk.{deferred, failure_in, is_final, retried_if, settle as settle_desk, told, told_by, waits, with_reader}
use Rattle.send_core.specs.Past.{Account, Work, account, news, settle, settle_all, settle_by, work, Task}
use Rattle.send_core.specs.Table.{Next, place_after as sender_after, due_at, row_now}
use Rattle.send_core.specs.declared.desk.Desk.{Desk}
use Rattle.send_parts.specs.declared.row.MarkRow.{MarkRow}
use Rattle.send_parts.specs.declared.row.MarkRow.TheVariants as mark
use Rattle.send_parts.specs.declared.row.Marked.{Marked}
use Rattle.send_parts.specs.declared.row.Row.{Row}
use Rattle.send_parts.specs.declared.row.Row.TheVariants as at
use Rattle.send_jobs.specs.declared.attempts.Attempt.{Attempt}
use Rattle.send_jobs.specs.declared.attempts.Mark.{Mark}
use Rattle.send_known.specs.declared.channel.Channel.{Channel}
use Rattle.send_known.specs.declared.channel.Channel.TheVariants.{Local, Remote}
use Rattle.send_jobs.specs.declared.jobs.Job.{Job}
use Rattle.send_jobs.specs.Bookings.{Booking}
use Rattle.send_jobs.specs.Bookings.Booking.{Dropped, Noted, Reported, Returned}
use Rattle.send_parts.specs.Channels.{file_of}
use Rattle.send_jobs.specs.Lanes.{job_over, left_unmarked, reported}
use Rattle.send_jobs.specs.Sending.{at_lane, lane}
use Rattle.send_jobs.specs.Slots.{attempt_in}
use Rattle.send_parts.specs.Readings.{reading_step}
use Rattle.send_parts.specs.Steps.{due_by}
use Rattle.send_parts.specs.declared.step.Step.{Step}
use Rattle.send_parts.specs.declared.step.Step.TheVariants as step
use Rattle.send_parts.specs.declared.reading.Reading.{Reading}
use Rattle.send_parts.specs.declared.reading.Reading.TheVariants.{Opening}
use Rattle.send_parts.specs.declared.rows.FinishRow.{FinishRow}
use Rattle.send_parts.specs.declared.rows.FinishRow.TheVariants as finish
use Rattle.send_parts.specs.declared.rows.StartRow.{StartRow}
use Rattle.send_parts.specs.declared.rows.StartRow.TheVariants as start
use Rattle.send_parts.specs.declared.rows.SweepRow.{SweepRow}
use Rattle.send_parts.specs.declared.rows.SweepRow.TheVariants as sweep
use Rattle.spawn_protocol.specs.declared.report.Report.{Report}
use Rattle.spawn_protocol.specs.Report.{Reader, counted, read_on}
use Rattle.spawn_protocol.specs.Report.Reader.{AtBegin}
use Rattle.todo_pass.specs.declared.row.Row.{Row as PassRow}
use Rattle.todo_pass.specs.declared.row.Row.TheVariants as todo
use Rattle.todo_pass.specs.Table.{Pass}
use Rattle.todo_pass.specs.Table as pass_table
use Rattle.send_runs.specs.Reports.{EntriesAreReports, EntriesWereReported, WasReported, ending_in, is_report, reports_at, said_at, said_by, said_if, said_of, taken_by, taken_when}

-- What is in flight, as reports are taken

abbrev pub Flies : Channel → Account → Desk → Type 0
Flies c a d = (slot : ℕ) → option_map task_of (attempt_in (lane c d.slots).slots slot) ≡ a.in_flight slot

flies_if : (c : Channel) (a : Account) (b : Bool) (x y : Desk) → Flies c a x → Flies c a y → Flies c a (if b then x else y)
flies_if c a true x y p q = p
flies_if c a false x y p q = q

flies_retried : (c : Channel) (a : Account) (o : Option Job) (n : ℕ) (d : Desk) → Flies c a d → Flies c a (retried_if o c n d)
flies_retried c a None n d h = h
flies_retried Local a (Some job) n d h = h
flies_retried Remote a (Some job) n d h = h

flies_deferred : (c : Channel) (a : Account) (n : ℕ) (d : Desk) → Flies c a d → Flies c a (deferred c n d)
flies_deferred Local a n d h = let after : Desk = record d { slots = at_lane Local (left_unmarked n) d.slots } in flies_retried Local a (job_over n (lane Local after.slots)) n after h
flies_deferred Remote a n d h = let after : Desk = record d { slots = at_lane Remote (left_unmarked n) d.slots } in flies_retried Remote a (job_over n (lane Remote after.slots)) n after h

flies_settled : (c : Channel) (a : Account) (r : Report) (x : Attempt) (d : Desk) → Flies c a d → Flies c a (settle_desk r c x d)
flies_settled Local a r x d h =
    flies_if Local a (is_final (counted r.letter) x.dying && nat_lt (length (lane Local d.slots).marks) 120) (waits Local x (failure_in r) d) (deferred Local x.n d) h (flies_deferred Local a x.n d h)
flies_settled Remote a r x d h =
    flies_if Remote a (is_final (counted r.letter) x.dying && nat_lt (length (lane Remote d.slots).marks) 120) (waits Remote x (failure_in r) d) (deferred Remote x.n d) h (flies_deferred Remote a x.n d h)

pub flies_told : (c : Channel) (a : Account) (r : Report) (o : Option Attempt) (d : Desk) → attempt_in (lane c d.slots).slots r.slot ≡ o → Flies c a d → Flies c (settle_by (option_map task_of o) r a) (told_by o c r d)
flies_told c a r None d there h = h
flies_told Local a r (Some x) d there h =
    let after : Desk = record d { slots = at_lane Local (reported r.slot) d.slots } in
    flies_settled Local (settle_by (Some (task_of x)) r a) r x after (slots_put task_of d.slots.local.slots a.in_flight r.slot None None (in_range d.slots.local.slots r.slot x there) refl h)
flies_told Remote a r (Some x) d there h =
    let after : Desk = record d { slots = at_lane Remote (reported r.slot) d.slots } in
    flies_settled Remote (settle_by (Some (task_of x)) r a) r x after (slots_put task_of d.slots.remote.slots a.in_flight r.slot None None (in_range d.slots.remote.slots r.slot x there) refl h)

-- What is entered of reports is what they say

entered_by : (o : Option Attempt) (c : Channel) (r : Report) (es fs : List Booking) → filter is_report es ≡ fs → filter is_report (reported_by o c r es) ≡ said_of (option_map task_of o) c r fs
entered_by None c r es fs e = e
entered_by (Some x) c r es fs e = by (is_final (counted r.letter) x.dying) where
  by : (b : Bool) → filter is_report (reported_if b (counted r.letter == 75) c x es) ≡ said_if b (counted r.letter == 75) c (task_of x) fs
  by true = ap (λ (w : List Booking). Reported (counted r.letter == 75) c x.n x.place ∷ w) e
  by false = e

entered_all : (c : Channel) (rs : List Report) (a : Account) (d : Desk) → Flies c a d → filter is_report (reported_all c rs d) ≡ said_by c rs a
entered_all c [] a d h = refl
entered_all c (r ∷ rs) a d h =
    let o : Option Attempt = attempt_in (lane c d.slots).slots r.slot in
    let later : Flies c (settle r a) (told c r d) = subst (λ (t : Option Task). Flies c (settle_by t r a) (told c r d)) (h r.slot) (flies_told c a r o d refl h) in
    entered_by o c r (reported_all c rs (told c r d)) (said_by c rs (settle r a)) (entered_all c rs (settle r a) (told c r d) later)
    ∙ ap (λ (t : Option Task). said_of t c r (said_by c rs (settle r a))) (h r.slot)

-- The reports that end in bytes

taken_local : (a : Account) (bytes : List ℕ) (d : Desk) (o : Option (List ℕ)) → a.heard ≡ o → Heard o → Fits false a d.slots.local d.local
    → filter is_report (reported_in Local bytes d) ≡ said_by Local (ending_in a.heard bytes) a
taken_local a bytes d None e some h = absurd some
taken_local a bytes d (Some before) e some h =
    let at : d.local.reader ≡ (read_on AtBegin before).1 = h.3 ∙ ap (λ (o : Option (List ℕ)). (read_on AtBegin (so_far o)).1) e in
    let given : (read_on d.local.reader bytes).0 ≡ news before bytes = ap (λ (x : Reader). (read_on x bytes).0) at ∙ sym (news_are before bytes) in
    let read : (read_on d.local.reader bytes).0 ≡ ending_in a.heard bytes = given ∙ ap (λ (o : Option (List ℕ)). ending_in o bytes) (sym e) in
    entered_all Local (read_on d.local.reader bytes).0 a (with_reader Local (read_on d.local.reader bytes).1 d) h.0 ∙ ap (λ (rs : List Report). said_by Local rs a) read

taken_remote : (a : Account) (bytes : List ℕ) (d : Desk) (o : Option (List ℕ)) → a.heard ≡ o → Heard o → Fits false a d.slots.remote d.remote
    → filter is_report (reported_in Remote bytes d) ≡ said_by Remote (ending_in a.heard bytes) a
taken_remote a bytes d None e some h = absurd some
taken_remote a bytes d (Some before) e some h =
    let at : d.remote.reader ≡ (read_on AtBegin before).1 = h.3 ∙ ap (λ (o : Option (List ℕ)). (read_on AtBegin (so_far o)).1) e in
    let given : (read_on d.remote.reader bytes).0 ≡ news before bytes = ap (λ (x : Reader). (read_on x bytes).0) at ∙ sym (news_are before bytes) in
    let read : (read_on d.remote.reader bytes).0 ≡ ending_in a.heard bytes = given ∙ ap (λ (o : Option (List ℕ)). ending_in o bytes) (sym e) in
    entered_all Remote (read_on d.remote.reader bytes).0 a (with_reader Remote (read_on d.remote.reader bytes).1 d) h.0 ∙ ap (λ (rs : List Report). said_by Remote rs a) read

-- Each row

module _ (al ar : Account) where
  abbrev Said : NeedData → GotData → List Booking
  Said due got = said_by Local (taken_when (taken_by due got Local) al.heard) al ++ said_by Remote (taken_when (taken_by due got Remote) ar.heard) ar

  ok_silent : (told : Answer) (e : Booking) → is_report e ≡ false → filter is_report (if_ok told e) ≡ []
  ok_silent answer.Done e is = ap (λ (b : Bool). cond b (e ∷ []) []) is
  ok_silent told e is = refl

  done_silent : (got : GotData) (e : Booking) → is_report e ≡ false → filter is_report (if_done got e) ≡ []
  done_silent (came.Answered told) e is = ok_silent told.answer e is
  done_silent got e is = refl

  zero_silent : (got : GotData) (n : ℕ) → filter is_report (if_zero got (Returned n)) ≡ []
  zero_silent (came.Ended status) n = by (status == 0) where
    by : (b : Bool) → filter is_report (if b then Returned n ∷ [] else []) ≡ []
    by true = refl
    by false = refl
  zero_silent got n = refl

  note_says : (row : NoteRow) (w : Writing) (m : Marked) (got : GotData) → filter is_report (noted_at row m got) ≡ Said (note_due_at row w) got
  note_says (written.Sync fd) w m got = done_silent got (Noted m.channel m.n m.place) refl
  note_says row w m got = refl

  mark_says : (row : MarkRow) (m : Marked) (got : GotData) (d : Desk) → filter is_report (marked_at row m d.note.row got) ≡ Said (due_at (at.Mark row m) d) got
  mark_says mark.Noting m got d = note_says d.note.row d.note m got
  mark_says row m got d = refl

  return_says : (row : ReturnRow) (r : Returning) (n : ℕ) (notes : List ℕ) (got : GotData) → filter is_report (returned_at row n notes got) ≡ Said (return_due_at row r) got
  return_says (back.Await pid) r n notes got = zero_silent got n
  return_says back.Discard r n notes got = done_silent got (Dropped n) refl
  return_says row r n notes got = refl

  finish_says : (row : FinishRow) (n : ℕ) (got : GotData) (d : Desk) → filter is_report (finished_at row n d.bounce.row d.bounce.notes got) ≡ Said (due_at (at.Finish row n) d) got
  finish_says finish.Return n got d = return_says d.bounce.row d.bounce n d.bounce.notes got
  finish_says row n got d = refl

  pass_says : (row : PassRow) (p : Pass) (got : GotData) → filter is_report (routed_at row p.n) ≡ Said (pass_table.due_at row p) got
  pass_says todo.Answer p got = refl
  pass_says row p got = refl

  greet_local : (got : GotData) → al.heard ≡ None → [] ≡ Said (needs.Take port.Lspawn) got
  greet_local (came.Took bytes) e = ap (λ (o : Option (List ℕ)). said_by Local (ending_in o bytes) al ++ []) (sym e)
  greet_local got e = refl

  greet_remote : (got : GotData) → ar.heard ≡ None → [] ≡ Said (needs.Take port.Rspawn) got
  greet_remote (came.Took bytes) e = ap (λ (o : Option (List ℕ)). said_by Remote (ending_in o bytes) ar) (sym e)
  greet_remote got e = refl

  reading_says : (reading : Reading) (file : List ℕ) (read : List ℕ) (words : List ℕ) (opening : Step) (got : GotData) → [] ≡ Said (due_by opening words) got
      → [] ≡ Said (due_by (reading_step reading opening (length read)) words) got
  reading_says Opening file read words opening got e = e
  reading_says reading file read words opening got e = refl

  start_says : (P : MarkRow → Option Mark → Marked → Writing → Type 0) (f : Option Work) (row : StartRow) (d : Desk) (got : GotData) → InStart P f al ar row d.slots d.local d.remote
      → [] ≡ Said (due_at (at.Start row) d) got
  start_says P f (start.Control file reading) d got h = reading_says reading [] d.book.read [] (step.OpenControl file) got refl
  start_says P f start.GreetLocal d got h = greet_local got h.1
  start_says P f (start.GreetRemote limit) d got h = greet_remote got h.0.3
  start_says P f (start.ReadInfo split n reading) d got h = reading_says reading [] d.book.read [] (step.Open (name.Info n) how.Read) got refl
  start_says P f row d got h = refl

  take_says : (c : Channel) (d : Desk) (got : GotData) → Fits false al d.slots.local d.local → Fits false ar d.slots.remote d.remote → Heard al.heard → Heard ar.heard → MayCome (due_at (at.TakeLink c) d) got
      → filter is_report (booked_at (at.TakeLink c) got d) ≡ Said (due_at (at.TakeLink c) d) got
  take_says Local d (came.Took bytes) h k some other may = taken_local al bytes d al.heard refl some h ∙ sym (append-nil (said_by Local (ending_in al.heard bytes) al))
  take_says Remote d (came.Took bytes) h k some other may = taken_remote ar bytes d ar.heard refl other k
  take_says Local d came.End h k some other may = refl
  take_says Remote d came.End h k some other may = refl
  take_says Local d came.Failed h k some other may = refl
  take_says Remote d came.Failed h k some other may = refl
  take_says Local d got h k some other may = absurd may
  take_says Remote d got h k some other may = absurd may

  sweep_says : (row : SweepRow) (d : Desk) (got : GotData) → [] ≡ Said (due_at (at.Sweep row) d) got
  sweep_says sweep.First d got = refl
  sweep_says row d got = refl

  row_says : (P : MarkRow → Option Mark → Marked → Writing → Type 0) (f : Option Work) (row : Row) (d : Desk) (got : GotData) → FitAt P f al ar row d → MayCome (due_at row d) got
      → filter is_report (booked_at row got d) ≡ Said (due_at row d) got
  row_says P f (at.Start row) d got h may = start_says P f row d got h
  row_says P f (at.Turn p) d got h may = refl
  row_says P f (at.TakeLink c) d got h may = take_says c d got h.0.0 h.0.1 h.0.2 h.0.3 may
  row_says P f (at.Mark row m) d got h may = mark_says row m got d
  row_says P f (at.UnlinkFile c n p) d got h may = refl
  row_says P f (at.ReadFile c n begun reading) d got h may = reading_says reading [] d.book.read [] (step.Open (file_of c n) how.Read) got refl
  row_says P f (at.Request Local) d got h may = refl
  row_says P f (at.Request Remote) d got h may = refl
  row_says P f (at.FindTodo search) d got h may = refl
  row_says P f at.InTodo d got h may = pass_says d.pass.row d.pass got
  row_says P f (at.Finish row n) d got h may = finish_says row n got d
  row_says P f (at.Sweep row) d got h may = sweep_says row d got
  row_says P f (at.Ended status) d got h may = refl

pub entries_are_reports : EntriesAreReports
entries_are_reports turns past event run =
    let d : Desk = sender_after turns past in
    let row : Row = row_now d event.read event.ready in
    let may : MayCome (due_at row d) event.came = subst (λ (x : NeedData). MayCome x event.came) (sym run.1.0) run.1.1 in
    row_says (account Local past) (account Remote past) (Was past) (work past) row d event.came
    (arrives (Was past) (work past) (account Local past) (account Remote past) (frees past) d.row d event.read event.ready (keeps turns past run.0).0) may
    ∙ ap (λ (x : NeedData). Said (account Local past) (account Remote past) x event.came) run.1.0

-- One entry

pub record Found (rs : List Report) (a : Account) (delivered : Bool) (n place : ℕ) : Type 0 where
  pub earlier : List Report
  pub report : Report
  pub later : List Report
  pub task : Task
  pub taken : rs ≡ earlier ++ report ∷ later
  pub flies : (settle_all earlier a).in_flight report.slot ≡ Some task
  pub n_is : task.n ≡ n
  pub place_is : task.place ≡ place
  pub final : is_final (counted report.letter) task.dying ≡ true
  pub letter : (counted report.letter == 75) ≡ delivered

found_later : (r : Report) (rs : List Report) (a : Account) (delivered : Bool) (n place : ℕ) → Found rs (settle r a) delivered n place → Found (r ∷ rs) a delivered n place
found_later r rs a delivered n place w = record {
  earlier = r ∷ w.earlier;
  report = w.report;
  later = w.later;
  task = w.task;
  taken = ap (λ (t : List Report). r ∷ t) w.taken;
  flies = w.flies;
  n_is = w.n_is;
  place_is = w.place_is;
  final = w.final;
  letter = w.letter;
}

same_entry : (c : Channel) (k delivered : Bool) (n place m at : ℕ) → Reported delivered c n place ≡ Reported k c m at → (k ≡ delivered) × (m ≡ n) × (at ≡ place)
same_entry c k delivered n place m at e = (cc, cc, cc)

found_if : (c : Channel) (r : Report) (rs : List Report) (a : Account) (t : Task) (b delivered : Bool) (n place : ℕ) → a.in_flight r.slot ≡ Some t → is_final (counted r.letter) t.dying ≡ b
    → (Among (Reported delivered c n place) (said_by c rs (settle r a)) → Found (r ∷ rs) a delivered n place)
    → Among (Reported delivered c n place) (said_if b (counted r.letter == 75) c t (said_by c rs (settle r a))) → Found (r ∷ rs) a delivered n place
found_if c r rs a t true delivered n place there is rest among = ⊎_elim
    (λ (e : Reported delivered c n place ≡ Reported (counted r.letter == 75) c t.n t.place).
    let w = same_entry c (counted r.letter == 75) delivered n place t.n t.place e in
    record { earlier = []; report = r; later = rs; task = t; taken = refl; flies = there; n_is = w.1; place_is = w.2; final = is; letter = w.0 })
    rest among
found_if c r rs a t false delivered n place there is rest among = rest among

found_by : (c : Channel) (r : Report) (rs : List Report) (a : Account) (o : Option Task) (delivered : Bool) (n place : ℕ) → a.in_flight r.slot ≡ o
    → (Among (Reported delivered c n place) (said_by c rs (settle r a)) → Found (r ∷ rs) a delivered n place)
    → Among (Reported delivered c n place) (said_of o c r (said_by c rs (settle r a))) → Found (r ∷ rs) a delivered n place
found_by c r rs a None delivered n place there rest among = rest among
found_by c r rs a (Some t) delivered n place there rest among = found_if c r rs a t (is_final (counted r.letter) t.dying) delivered n place there refl rest among

found : (c : Channel) (rs : List Report) (a : Account) (delivered : Bool) (n place : ℕ) → Among (Reported delivered c n place) (said_by c rs a) → Found rs a delivered n place
found c [] a delivered n place among = absurd among
found c (r ∷ rs) a delivered n place among = found_by c r rs a (a.in_flight r.slot) delivered n place refl
    (λ more. found_later r rs a delivered n place (found c rs (settle r a) delivered n place more)) among

-- it stays once it is entered
still : (e : Booking) (o : Option Task) (c : Channel) (r : Report) (later : List Booking) → Among e later → Among e (said_of o c r later)
still e None c r later h = h
still e (Some t) c r later h = by (is_final (counted r.letter) t.dying) where
  by : (b : Bool) → Among e (said_if b (counted r.letter == 75) c t later)
  by true = inr h
  by false = h

entered : (c : Channel) (earlier : List Report) (r : Report) (later : List Report) (a : Account) (t : Task) → (settle_all earlier a).in_flight r.slot ≡ Some t → is_final (counted r.letter) t.dying ≡ true
    → Among (Reported (counted r.letter == 75) c t.n t.place) (said_by c (earlier ++ r ∷ later) a)
entered c [] r later a t there is = subst (λ (o : Option Task). Among (Reported (counted r.letter == 75) c t.n t.place) (said_of o c r (said_by c later (settle r a)))) (sym there)
    (subst (λ (b : Bool). Among (Reported (counted r.letter == 75) c t.n t.place) (said_if b (counted r.letter == 75) c t (said_by c later (settle r a)))) (sym is) (inl refl))
entered c (x ∷ earlier) r later a t there is =
    still (Reported (counted r.letter == 75) c t.n t.place) (a.in_flight x.slot) c x (said_by c (earlier ++ r ∷ later) (settle x a)) (entered c earlier r later (settle x a) t there is)

was_reported : (past : List Own) (event : Own) (delivered : Bool) (c : Channel) (n place : ℕ) → Found (reports_at c past event) (account c past) delivered n place → WasReported past event delivered c n place
was_reported past event delivered c n place w = record {
  earlier = w.earlier;
  report = w.report;
  later = w.later;
  task = w.task;
  taken = w.taken;
  flies = w.flies;
  n_is = w.n_is;
  place_is = w.place_is;
  final = w.final;
  letter = w.letter;
}

is_entered : (c : Channel) (past : List Own) (event : Own) (delivered : Bool) (n place : ℕ) → WasReported past event delivered c n place → Among (Reported delivered c n place) (said_at c past event)
is_entered c past event delivered n place w =
    let e : Reported (counted w.report.letter == 75) c w.task.n w.task.place ≡ Reported delivered c n place =
    ap (λ (b : Bool). Reported b c w.task.n w.task.place) w.letter ∙ ap (λ (m : ℕ). Reported delivered c m w.task.place) w.n_is ∙ ap (λ (at : ℕ). Reported delivered c n at) w.place_is in
    subst (λ (x : Booking). Among x (said_at c past event)) e
    (subst (λ (rs : List Report). Among (Reported (counted w.report.letter == 75) c w.task.n w.task.place) (said_by c rs (account c past))) (sym w.taken)
    (entered c w.earlier w.report w.later (account c past) w.task w.flies w.final))

-- Of a channel are its own

by_channel : (c e : Channel) (k : Bool) (n place : ℕ) (o : Option Task) (r : Report) (later : List Booking) → (Among (Reported k c n place) later → c ≡ e)
    → Among (Reported k c n place) (said_of o e r later) → c ≡ e
by_channel c e k n place None r later rest h = rest h
by_channel c e k n place (Some t) r later rest h = by (is_final (counted r.letter) t.dying) (counted r.letter == 75) h where
  by : (b delivered : Bool) → Among (Reported k c n place) (said_if b delivered e t later) → c ≡ e
  by true delivered h = ⊎_elim (λ (same : Reported k c n place ≡ Reported delivered e t.n t.place). let v : c ≡ e = cc in v) rest h
  by false delivered h = rest h

of_channel : (c e : Channel) (k : Bool) (n place : ℕ) (rs : List Report) (a : Account) → Among (Reported k c n place) (said_by e rs a) → c ≡ e
of_channel c e k n place [] a h = absurd h
of_channel c e k n place (r ∷ rs) a h = by_channel c e k n place (a.in_flight r.slot) r (said_by e rs (settle r a)) (of_channel c e k n place rs (settle r a)) h

among_split : (x : Booking) (es fs : List Booking) → Among x (es ++ fs) → Among x es ⊎ Among x fs
among_split x [] fs h = inr h
among_split x (e ∷ es) fs h = ⊎_elim
    (λ (same : x ≡ e). inl (inl same))
    (λ (more : Among x (es ++ fs)). ⊎_elim (λ (w : Among x es). inl (inr w)) (λ (w : Among x fs). inr w) (among_split x es fs more))
    h

among_left : (x : Booking) (es fs : List Booking) → Among x es → Among x (es ++ fs)
among_left x [] fs h = absurd h
among_left x (e ∷ es) fs h = ⊎_elim (λ (same : x ≡ e). inl same) (λ (more : Among x es). inr (among_left x es fs more)) h

among_right : (x : Booking) (es fs : List Booking) → Among x fs → Among x (es ++ fs)
among_right x [] fs h = h
among_right x (e ∷ es) fs h = inr (among_right x es fs h)

kept_by : (b : Bool) (x e : Booking) (es fs : List Booking) → is_report x ≡ true → is_report e ≡ b → (Among x es → Among x fs) → Among x (e ∷ es) → Among x (cond b (e ∷ fs) fs)
kept_by true x e es fs is at rest h = ⊎_elim (λ (same : x ≡ e). inl same) (λ (more : Among x es). inr (rest more)) h
kept_by false x e es fs is at rest h = ⊎_elim (λ (same : x ≡ e). absurd (cc (sym is ∙ ap is_report same ∙ at))) rest h

among_kept : (x : Booking) (es : List Booking) → is_report x ≡ true → Among x es → Among x (filter is_report es)
among_kept x [] is h = absurd h
among_kept x (e ∷ es) is h = kept_by (is_report e) x e es (filter is_report es) is refl (among_kept x es is) h

all_by : (b : Bool) (x e : Booking) (es fs : List Booking) → (Among x fs → Among x es) → Among x (cond b (e ∷ fs) fs) → Among x (e ∷ es)
all_by true x e es fs rest h = ⊎_elim (λ (same : x ≡ e). inl same) (λ (more : Among x fs). inr (rest more)) h
all_by false x e es fs rest h = inr (rest h)

among_all : (x : Booking) (es : List Booking) → Among x (filter is_report es) → Among x es
among_all x [] h = absurd h
among_all x (e ∷ es) h = all_by (is_report e) x e es (filter is_report es) (among_all x es) h

module _ (turns : Option ℕ) (past : List Own) (event : Own) (run : IsRunBy (Next turns) (event ∷ past)) (delivered : Bool) (n place : ℕ) where
  abbrev Entry : List Booking
  Entry = let d = sender_after turns past in booked_at (row_now d event.read event.ready) event.came d

  of_said : (c e : Channel) → Among (Reported delivered c n place) (said_at e past event) → WasReported past event delivered c n place
  of_said c e h =
      let same : c ≡ e = of_channel c e delivered n place (reports_at e past event) (account e past) h in
      let here : Among (Reported delivered c n place) (said_at c past event) = subst (λ (x : Channel). Among (Reported delivered c n place) (said_at x past event)) (sym same) h in
      was_reported past event delivered c n place (found c (reports_at c past event) (account c past) delivered n place here)

  pub was_entered : (c : Channel) → Among (Reported delivered c n place) Entry → WasReported past event delivered c n place
  was_entered c h = ⊎_elim
      (λ (w : Among (Reported delivered c n place) (said_at Local past event)). of_said c Local w)
      (λ (w : Among (Reported delivered c n place) (said_at Remote past event)). of_said c Remote w)
      (among_split (Reported delivered c n place) (said_at Local past event) (said_at Remote past event)
      (subst (λ (es : List Booking). Among (Reported delivered c n place) es) (entries_are_reports turns past event run) (among_kept (Reported delivered c n place) Entry refl h)))

  in_both : (c : Channel) → Among (Reported delivered c n place) (said_at c past event) → Among (Reported delivered c n place) (said_at Local past event ++ said_at Remote past event)
  in_both Local h = among_left (Reported delivered Local n place) (said_at Local past event) (said_at Remote past event) h
  in_both Remote h = among_right (Reported delivered Remote n place) (said_at Local past event) (said_at Remote past event) h

  pub enters : (c : Channel) → WasReported past event delivered c n place → Among (Reported delivered c n place) Entry
  enters c w = among_all (Reported delivered c n place) Entry
      (subst (λ (es : List Booking). Among (Reported delivered c n place) es) (sym (entries_are_reports turns past event run)) (in_both c (is_entered c past event delivered n place w)))

pub entries_were_reported : EntriesWereReported
entries_were_reported = record {
  entered = λ turns past event run delivered c n place among. was_entered turns past event run delivered n place c among;
  reported = λ turns past event run delivered c n place was. enters turns past event run delivered n place c was;
}
