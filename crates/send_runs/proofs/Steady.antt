-- What each row does to the known messages, to when they are due, and to the jobs: takings and marks leave places unmarked, and end jobs that
-- are over; all other changes are told by their rows.
use Rattle.std.proofs.Common.{◌≡◌, ℕ, ◌-◌, List, [], ◌∷◌, set, drop, length, nat_lt, Bool, true, false, not, if◌then◌else◌, Option, Some, None, refl, sym, subst}
use Rattle.std.specs.Prelude.{◌||◌, ◌&&◌, is_some}
use Rattle.std.specs.List.{list_any}
use Rattle.address_rules.specs.declared.control_file.ControlFile.{ControlFile}
use Rattle.address_rules.specs.declared.control_file.ControlFile.TheVariants as file
use Rattle.address_rules.specs.Files.{Fault, first_fault, place}
use Rattle.bounce_record.specs.declared.note_row.NoteRow.{NoteRow}
use Rattle.bounce_record.specs.declared.note_row.NoteRow.TheVariants as written
use Rattle.bounce_record.specs.Writing.{moved as note_moved}
use Rattle.call_fs.specs.declared.calls.Fd.{Fd}
use Rattle.call_fs.specs.declared.past.GotData.{GotData}
use Rattle.mail_bytes.specs.Decimal.{digits}
use Rattle.send_core.specs.declared.desk.Desk.{Desk}
use Rattle.send_parts.specs.declared.row.MarkRow.{MarkRow}
use Rattle.send_parts.specs.declared.row.MarkRow.TheVariants as mark
use Rattle.send_parts.specs.declared.row.Marked.{Marked}
use Rattle.send_parts.specs.declared.row.Point.{Point}
use Rattle.send_parts.specs.declared.row.Point.TheVariants as point
use Rattle.send_parts.specs.declared.row.Row.TheVariants as at
use Rattle.send_core.specs.Desk.{closed_by, deferred, due_again, failure_in, goes, heard, is_final, later, link, next_idle, past_finish, past_todo, request_sent, retried, retried_if, retry_of, settle, stands_at, sweep_due, told, told_all, told_by, turn_counted, turn_over, waits, with_reader, with_requests}
use Rattle.send_core.specs.Finish.{finish_at, forgot, looked_up, put_off_to, sweep_at, sweep_begun}
use Rattle.send_core.specs.Turn.{act_mark, begin_note, is_done, known_of, mark_opened, mark_over, noted, noted_at, requested, todo_found, todo_named, todo_none, todo_on, todo_over, took}
use Rattle.send_jobs.specs.declared.attempts.Attempt.{Attempt}
use Rattle.send_known.specs.declared.channel.Channel.{Channel}
use Rattle.send_known.specs.declared.channel.Channel.TheVariants.{Local, Remote}
use Rattle.send_jobs.specs.declared.jobs.Job.{Job}
use Rattle.send_jobs.specs.declared.lane.Lane.{Lane}
use Rattle.send_jobs.specs.declared.slots.Slots.{Slots}
use Rattle.send_jobs.specs.Jobs.{job_of}
use Rattle.send_jobs.specs.Lanes.{finished, is_mark_on, job_over, left_unmarked, mark_settled, next, reported, sent_in}
use Rattle.send_jobs.specs.Sending.{at_lane, lane, next_delivery, sent_as, sent_on}
use Rattle.send_jobs.specs.Slots.{attempt_in, lowest}
use Rattle.send_known.specs.declared.messages.Messages.{Messages}
use Rattle.send_known.specs.Messages.{learned}
use Rattle.send_parts.specs.declared.reading.Progress.{Progress}
use Rattle.send_parts.specs.declared.reading.Progress.TheVariants.{Goes, Whole, Missing, Failed}
use Rattle.send_parts.specs.declared.reading.Reading.{Reading}
use Rattle.send_parts.specs.declared.reading.Reading.TheVariants.{Opening, Going, Closing, Shutting}
use Rattle.send_parts.specs.declared.reply.Way.{Way}
use Rattle.send_parts.specs.declared.reply.Way.TheVariants as way
use Rattle.send_parts.specs.declared.rows.FinishRow.{FinishRow}
use Rattle.send_parts.specs.declared.rows.FinishRow.TheVariants as finish
use Rattle.send_parts.specs.declared.rows.Search.{Search}
use Rattle.send_parts.specs.declared.rows.StartRow.{StartRow}
use Rattle.send_parts.specs.declared.rows.StartRow.TheVariants as start
use Rattle.send_parts.specs.declared.rows.SweepRow.{SweepRow}
use Rattle.send_parts.specs.declared.rows.SweepRow.TheVariants as sweep
use Rattle.send_parts.specs.Files.{message_number}
use Rattle.send_parts.specs.Readings.{read_on}
use Rattle.send_parts.specs.Replies.{Said, said}
use Rattle.send_parts.specs.Rows.{is_again}
use Rattle.send_parts.specs.Start.{act_start, control_read, filed, greeted_local, greeted_remote, info_read, judged_by, scanned}
use Rattle.send_parts.specs.Sweep.{named, searched}
use Rattle.spawn_protocol.specs.declared.report.Report.{Report}
use Rattle.spawn_protocol.specs.Report.{counted, read_on as reports_on}
use Rattle.todo_pass.specs.declared.row.Row.{Row as PassRow}
use Rattle.todo_pass.specs.declared.row.Row.TheVariants as todo
use Rattle.todo_pass.specs.Table.{Pass}
use Rattle.send_parts.specs.declared.book.Book.{Book}

-- what is so of the known messages and the jobs of each channel
abbrev pub Of : (Messages → List Job → List Job → Type 0) → Desk → Type 0
Of P d = P d.book.messages d.slots.local.jobs d.slots.remote.jobs

-- what reports and marks do keeps it
pub record Works (P : Messages → List Job → List Job → Type 0) : Type 0 where
  pub unmarks : (c : Channel) (n : ℕ) (d : Desk) → Of P d → Of P (record d { slots = at_lane c (left_unmarked n) d.slots })
  pub retries : (c : Channel) (n : ℕ) (job : Job) (d : Desk) → job_of n (lane c d.slots).jobs ≡ Some job → Of P d → Of P (due_again c n (retry_of c n job.begun d) d)

pub over_is : (n : ℕ) (l : Lane) (job : Job) → job_over n l ≡ Some job → job_of n l.jobs ≡ Some job
over_is n l job e = by (finished n l && not (list_any (is_mark_on n) l.marks)) e where
  by : (b : Bool) → (if b then job_of n l.jobs else None) ≡ Some job → job_of n l.jobs ≡ Some job
  by true e = e
  by false e = absurd (cc)

-- a request changes no job
pub sent_jobs : (o : Option ℕ) (a : Option Attempt) (delivery : ℕ) (l : Lane) → (sent_in o a delivery l).jobs ≡ l.jobs
sent_jobs None a delivery l = refl
sent_jobs (Some slot) None delivery l = refl
sent_jobs (Some slot) (Some a) delivery l = refl

module _ (P : Messages → List Job → List Job → Type 0) where
  pub of_if : (b : Bool) (x y : Desk) → Of P x → Of P y → Of P (if b then x else y)
  of_if true x y p q = p
  of_if false x y p q = q

  sent_local : (o : Option ℕ) (k : ℕ) (m : Messages) (s : Slots) → P m s.local.jobs s.remote.jobs → P m (sent_as o Local k s).local.jobs (sent_as o Local k s).remote.jobs
  sent_local None k m s h = h
  sent_local (Some slot) k m s h = subst (λ (js : List Job). P m js s.remote.jobs) (sym (sent_jobs (lowest s.local.slots) (next s.local) k s.local)) h

  sent_remote : (o : Option ℕ) (k : ℕ) (m : Messages) (s : Slots) → P m s.local.jobs s.remote.jobs → P m (sent_as o Remote k s).local.jobs (sent_as o Remote k s).remote.jobs
  sent_remote None k m s h = h
  sent_remote (Some slot) k m s h = subst (λ (js : List Job). P m s.local.jobs js) (sym (sent_jobs (lowest s.remote.slots) (next s.remote) k s.remote)) h

  of_sent : (c : Channel) (d : Desk) → Of P d → Of P (request_sent c (stands_at d (point.Pass c false)))
  of_sent Local d h =
      let before : Desk = stands_at d (point.Pass Local false) in
      of_if (is_some (next (lane Local d.slots))) (with_requests Local (drop 1 (link Local d).requests) (record before { slots = sent_on Local d.slots })) before
      (sent_local (lowest d.slots.local.slots) (next_delivery d.slots) d.book.messages d.slots h) h
  of_sent Remote d h =
      let before : Desk = stands_at d (point.Pass Remote false) in
      of_if (is_some (next (lane Remote d.slots))) (with_requests Remote (drop 1 (link Remote d).requests) (record before { slots = sent_on Remote d.slots })) before
      (sent_remote (lowest d.slots.remote.slots) (next_delivery d.slots) d.book.messages d.slots h) h

  pub of_requested : (w : Way) (c : Channel) (d : Desk) → Of P d → Of P (requested w c d)
  of_requested way.Fine c d h = of_sent c d h
  of_requested way.Over c d h = h
  of_requested way.Absent c d h = h
  of_requested way.NoMemory c d h = h
  of_requested way.Broken c d h = h

  -- the end of a turn

  of_counted : (turns : Option ℕ) (d : Desk) → Of P d → Of P (turn_counted turns d)
  of_counted None d h = h
  of_counted (Some k) d h = of_if (nat_lt 1 k) (record d { turns = Some (k - 1); row = at.Turn point.TakeLocal }) (record d { turns = Some 0; row = at.Ended 0 }) h h

  of_over : (d : Desk) → Of P d → Of P (turn_over d)
  of_over d h = of_counted d.turns (record d { busy = false }) h

  pub of_past_finish : (now : ℕ) (d : Desk) → Of P d → Of P (past_finish now d)
  of_past_finish now d h = of_if (sweep_due now d.swept) (stands_at d point.Sweep) (turn_over d) h (of_over d h)

  pub of_past_todo : (now : ℕ) (d : Desk) → Of P d → Of P (past_todo now d)
  of_past_todo now d h = of_if (is_some (next_idle now d) || sweep_due now d.swept) (stands_at d point.Finish) (turn_over d) h (of_over d h)

  -- preprocessing

  of_none : (again : Bool) (last : List ℕ) (now : ℕ) (d : Desk) → Of P d → Of P (todo_none again last now d)
  of_none false (b ∷ bs) now d h = h
  of_none false [] now d h = of_past_todo now d h
  of_none true last now d h = of_past_todo now d h

  of_found : (o : Option ℕ) (text : List ℕ) (search : Search) (d : Desk) → Of P d → Of P (todo_found o text search d)
  of_found None text search d h = h
  of_found (Some n) text search d h = h

  pub of_named : (w : Way) (text : List ℕ) (search : Search) (now : ℕ) (d : Desk) → Of P d → Of P (todo_named w text search now d)
  of_named way.Fine text search now d h = of_found (message_number text) text search d h
  of_named way.Over text search now d h = of_none (is_again search) d.last_left now d h
  of_named way.Absent text search now d h = of_none (is_again search) d.last_left now d h
  of_named way.NoMemory text search now d h = of_none (is_again search) d.last_left now d h
  of_named way.Broken text search now d h = of_none (is_again search) d.last_left now d h

  pub of_on : (row : PassRow) (p : Pass) (now : ℕ) (d : Desk) → Of P d → Of P (todo_on row p now d)
  of_on (todo.Left why) p now d h = of_past_todo now (record d { pass = p; last_left = digits p.n }) h
  of_on todo.Lost p now d h = h
  of_on row p now d h = h

  -- a pass that is done learns of its message
  pub of_over_pass : (row : PassRow) (p : Pass) (now : ℕ) (d : Desk) → (is_done row ≡ true → P (learned (known_of p) now d.book.messages) d.slots.local.jobs d.slots.remote.jobs)
      → (is_done row ≡ false → Of P d) → Of P (todo_over row p now d)
  of_over_pass row p now d learns stays = by (is_done row) refl where
    learnt : Desk
    learnt = record d { pass = p; book = record d.book { messages = learned (known_of p) now d.book.messages } }

    by : (b : Bool) → is_done row ≡ b → Of P (if b then past_todo now learnt else todo_on row p now d)
    by true e = of_past_todo now learnt (learns e)
    by false e = of_on row p now d (stays e)

  -- finish and sweep

  pub of_finish_at : (row : FinishRow) (n now : ℕ) (d : Desk) → (row ≡ finish.Over → Of P (forgot n d)) → (row ≡ finish.Later → Of P (put_off_to n (later now) d)) → Of P d → Of P (finish_at row n now d)
  of_finish_at finish.Later n now d forgets delays h = of_past_finish now (put_off_to n (later now) d) (delays refl)
  of_finish_at finish.Over n now d forgets delays h = of_past_finish now (forgot n d) (forgets refl)
  of_finish_at finish.Lost n now d forgets delays h = h
  of_finish_at finish.OpenBounce n now d forgets delays h = h
  of_finish_at finish.Return n now d forgets delays h = h
  of_finish_at finish.UnlinkInfo n now d forgets delays h = h
  of_finish_at finish.Give n now d forgets delays h = h
  of_finish_at finish.Take n now d forgets delays h = h

  pub of_swept : (row : SweepRow) (d : Desk) → Of P d → Of P (sweep_at row d)
  of_swept sweep.Over d h = of_over d h
  of_swept sweep.Lost d h = h
  of_swept row d h = h

  of_begun_sweep : (row : SweepRow) (now : ℕ) (d : Desk) → Of P d → Of P (sweep_begun row now d)
  of_begun_sweep sweep.First now d h = h
  of_begun_sweep row now d h = h

  of_book : (w : Way) (text : List ℕ) (b : Book) (jl jr : List Job) → P b.messages jl jr → P (named w text b).messages jl jr
  of_book way.Fine text b jl jr h = h
  of_book way.Over text b jl jr h = h
  of_book way.Absent text b jl jr h = h
  of_book way.NoMemory text b jl jr h = h
  of_book way.Broken text b jl jr h = h

  of_searched : (row : SweepRow) (s : Said) (b : Book) (jl jr : List Job) → P b.messages jl jr → P (searched row s b).messages jl jr
  of_searched sweep.First s b jl jr h = of_book s.way s.bytes b jl jr h
  of_searched (sweep.Next split) s b jl jr h = of_book s.way s.bytes b jl jr h
  of_searched row s b jl jr h = h

  pub of_looked : (row : SweepRow) (s : Said) (now : ℕ) (d : Desk) → Of P d → Of P (looked_up row s (sweep_begun row now d))
  of_looked row s now d h = let e : Desk = sweep_begun row now d in of_searched row s e.book e.slots.local.jobs e.slots.remote.jobs (of_begun_sweep row now d h)

  -- takings, marks, and what is then over

  module _ (works : Works P) where
    of_retried : (o : Option Job) (c : Channel) (n : ℕ) (d : Desk) → job_over n (lane c d.slots) ≡ o → Of P d → Of P (retried_if o c n d)
    of_retried None c n d e h = h
    of_retried (Some job) c n d e h = works.retries c n job d (over_is n (lane c d.slots) job e) h

    of_deferred : (c : Channel) (n : ℕ) (d : Desk) → Of P d → Of P (deferred c n d)
    of_deferred c n d h = let after : Desk = record d { slots = at_lane c (left_unmarked n) d.slots } in of_retried (job_over n (lane c after.slots)) c n after refl (works.unmarks c n d h)

    of_settle : (r : Report) (c : Channel) (a : Attempt) (d : Desk) → Of P d → Of P (settle r c a d)
    of_settle r Local a d h = of_if (is_final (counted r.letter) a.dying && nat_lt (length (lane Local d.slots).marks) 120) (waits Local a (failure_in r) d) (deferred Local a.n d) h (of_deferred Local a.n d h)
    of_settle r Remote a d h = of_if (is_final (counted r.letter) a.dying && nat_lt (length (lane Remote d.slots).marks) 120) (waits Remote a (failure_in r) d) (deferred Remote a.n d) h (of_deferred Remote a.n d h)

    of_told : (o : Option Attempt) (c : Channel) (r : Report) (d : Desk) → Of P d → Of P (told_by o c r d)
    of_told None c r d h = h
    of_told (Some a) Local r d h = of_settle r Local a (record d { slots = at_lane Local (reported r.slot) d.slots }) h
    of_told (Some a) Remote r d h = of_settle r Remote a (record d { slots = at_lane Remote (reported r.slot) d.slots }) h

    of_all : (c : Channel) (rs : List Report) (d : Desk) → Of P d → Of P (told_all c rs d)
    of_all c [] d h = h
    of_all c (r ∷ rs) d h = of_all c rs (told c r d) (of_told (attempt_in (lane c d.slots).slots r.slot) c r d h)

    of_heard : (c : Channel) (bytes : List ℕ) (d : Desk) → Of P d → Of P (heard c bytes d)
    of_heard Local bytes d h = of_all Local (reports_on d.local.reader bytes).0 (with_reader Local (reports_on d.local.reader bytes).1 d) h
    of_heard Remote bytes d h = of_all Remote (reports_on d.remote.reader bytes).0 (with_reader Remote (reports_on d.remote.reader bytes).1 d) h

    pub of_took : (w : Way) (bytes : List ℕ) (c : Channel) (d : Desk) → Of P d → Of P (took w bytes c d)
    of_took way.Fine bytes c d h = of_heard c bytes d h
    of_took way.Over bytes c d h = h
    of_took way.Absent bytes c d h = h
    of_took way.NoMemory bytes c d h = h
    of_took way.Broken bytes c d h = h

    pub of_closed : (o : Option Job) (c : Channel) (n : ℕ) (p : Point) (d : Desk) → job_over n (lane c d.slots) ≡ o → Of P d → Of P (closed_by o c n p d)
    of_closed None c n p d e h = h
    of_closed (Some job) c n p d e h = of_if job.unmarked (retried c n job.begun (stands_at d p)) (goes d (at.UnlinkFile c n p))
        (works.retries c n job (stands_at d p) (over_is n (lane c d.slots) job e) h) h

    of_marked : (b : Bool) (c : Channel) (n place : ℕ) (d : Desk) → Of P d → Of P (mark_over b (record { channel = c; n = n; place = place }) d)
    of_marked true Local n place d h = let after : Desk = record d { slots = at_lane Local mark_settled d.slots } in of_closed (job_over n (lane Local after.slots)) Local n point.Reports after refl h
    of_marked true Remote n place d h = let after : Desk = record d { slots = at_lane Remote mark_settled d.slots } in of_closed (job_over n (lane Remote after.slots)) Remote n point.Reports after refl h
    of_marked false Local n place d h =
        let after : Desk = record d { slots = at_lane Local (left_unmarked n) (at_lane Local mark_settled d.slots) } in
        of_closed (job_over n (lane Local after.slots)) Local n point.Reports after refl (works.unmarks Local n (record d { slots = at_lane Local mark_settled d.slots }) h)
    of_marked false Remote n place d h =
        let after : Desk = record d { slots = at_lane Remote (left_unmarked n) (at_lane Remote mark_settled d.slots) } in
        of_closed (job_over n (lane Remote after.slots)) Remote n point.Reports after refl (works.unmarks Remote n (record d { slots = at_lane Remote mark_settled d.slots }) h)

    of_opened : (w : Way) (m : Marked) (fd : Fd) (d : Desk) → Of P d → Of P (mark_opened w m fd d)
    of_opened way.Fine m fd d h = h
    of_opened way.Over m fd d h = of_marked false m.channel m.n m.place d h
    of_opened way.Absent m fd d h = of_marked false m.channel m.n m.place d h
    of_opened way.NoMemory m fd d h = of_marked false m.channel m.n m.place d h
    of_opened way.Broken m fd d h = of_marked false m.channel m.n m.place d h

    of_noted : (row : NoteRow) (m : Marked) (d : Desk) → Of P d → Of P (noted_at row m d)
    of_noted written.Written m d h = h
    of_noted written.Failed m d h = of_marked false m.channel m.n m.place d h
    of_noted row m d h = h

    of_note : (m : Marked) (got : GotData) (d : Desk) → Of P d → Of P (noted m got d)
    of_note m got d h = of_noted (note_moved d.note got).row m (record d { note = note_moved d.note got }) h

    pub of_mark : (row : MarkRow) (m : Marked) (got : GotData) (d : Desk) → Of P d → Of P (act_mark row m got d)
    of_mark mark.Note m got d h = of_note m got (begin_note m d) h
    of_mark mark.Noting m got d h = of_note m got d h
    of_mark mark.Open m got d h = of_opened (said got).way m (said got).fd d h
    of_mark (mark.Write fd) m got d h = h
    of_mark (mark.Close fd done) m got d h = of_marked done m.channel m.n m.place d h

-- The start, but for the end of its look at a message

abbrev pub IsLook : StartRow → Type 0
IsLook (start.StatRemote split n birth local) = Unit {0}
IsLook row = ⊥

module _ (P : Messages → Type 0) where
  judged_book : (o : Option Fault) (b : Book) → P b.messages → P (judged_by o b).messages
  judged_book None b h = h
  judged_book (Some fault) b h = h

  filed_book : (content : Option (List ℕ)) (f : ControlFile) (b : Book) → P b.messages → P (filed content f b).messages
  filed_book content file.QueueLifetime b h =
      let all : List (Option (List ℕ)) = set b.files (place file.QueueLifetime) content in judged_book (first_fault all) (record b { files = all }) h
  filed_book content file.Me b h = h
  filed_book content file.Locals b h = h
  filed_book content file.PercentHack b h = h
  filed_book content file.VirtualDomains b h = h
  filed_book content file.EnvNoAtHost b h = h
  filed_book content file.BounceFrom b h = h
  filed_book content file.BounceHost b h = h
  filed_book content file.DoubleBounceTo b h = h
  filed_book content file.DoubleBounceHost b h = h
  filed_book content file.ConcurrencyLocal b h = h
  filed_book content file.ConcurrencyRemote b h = h

  control_book : (x : Progress) (f : ControlFile) (g : Reading) (s : Said) (b : Book) → P b.messages → P (control_read x f g s b).messages
  control_book (Goes Opening) f g s b h = h
  control_book (Goes (Going fd)) f g s b h = h
  control_book (Goes (Closing fd)) f g s b h = h
  control_book (Goes (Shutting fd)) f g s b h = h
  control_book Whole f g s b h = filed_book (Some b.read) f b h
  control_book Missing f g s b h = filed_book None f b h
  control_book Failed f g s b h = h

  info_book : (x : Progress) (split n : ℕ) (g : Reading) (s : Said) (b : Book) → P b.messages → P (info_read x split n g s b).messages
  info_book (Goes Opening) split n g s b h = h
  info_book (Goes (Going fd)) split n g s b h = h
  info_book (Goes (Closing fd)) split n g s b h = h
  info_book (Goes (Shutting fd)) split n g s b h = h
  info_book Whole split n g s b h = h
  info_book Missing split n g s b h = h
  info_book Failed split n g s b h = h

  local_book : (w : Way) (bytes : List ℕ) (b : Book) → P b.messages → P (greeted_local w bytes b).messages
  local_book way.Fine [] b h = h
  local_book way.Fine (byte ∷ rest) b h = h
  local_book way.Over bytes b h = h
  local_book way.Absent bytes b h = h
  local_book way.NoMemory bytes b h = h
  local_book way.Broken bytes b h = h

  remote_book : (w : Way) (bytes : List ℕ) (b : Book) → P b.messages → P (greeted_remote w bytes b).messages
  remote_book way.Fine [] b h = h
  remote_book way.Fine (byte ∷ rest) b h = h
  remote_book way.Over bytes b h = h
  remote_book way.Absent bytes b h = h
  remote_book way.NoMemory bytes b h = h
  remote_book way.Broken bytes b h = h

  scan_book : (w : Way) (text : List ℕ) (split : ℕ) (b : Book) → P b.messages → P (scanned w text split b).messages
  scan_book way.Fine text split b h = h
  scan_book way.Over text split b h = h
  scan_book way.Absent text split b h = h
  scan_book way.NoMemory text split b h = h
  scan_book way.Broken text split b h = h

  pub start_book : (row : StartRow) (s : Said) (b : Book) → (IsLook row → ⊥) → P b.messages → P (act_start row s b).messages
  start_book (start.Control f g) s b other h = control_book (read_on g s) f g s b h
  start_book start.GreetLocal s b other h = local_book s.way s.bytes b h
  start_book (start.GreetRemote limit) s b other h = remote_book s.way s.bytes b h
  start_book (start.Scan split) s b other h = scan_book s.way s.bytes split b h
  start_book (start.StatTodo split n) s b other h = h
  start_book (start.ReadInfo split n g) s b other h = info_book (read_on g s) split n g s b h
  start_book (start.StatInfo split n) s b other h = h
  start_book (start.StatLocal split n birth) s b other h = h
  start_book (start.StatRemote split n birth local) s b other h = absurd (other tt)
  start_book start.Over s b other h = h
  start_book (start.Ended status) s b other h = h
