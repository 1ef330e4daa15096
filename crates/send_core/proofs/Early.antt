-- The steps of the start keep it so.
use Rattle.std.proofs.Common.{◌≡◌, ℕ, ◌+◌, ◌≤◌, List, [], ◌∷◌, length, Bool, true, false, if◌then◌else◌, nat_lt, Option, Some, None, refl, sym, ap, ◌∙◌, subst, inl, set, map, replicate, arith}
use Rattle.std.specs.Prelude.{min}
use Rattle.std.specs.Option.{option_map}
use Rattle.address_rules.specs.declared.control_file.ControlFile.{ControlFile}
use Rattle.address_rules.specs.Files.{Fault, first_fault, place}
use Rattle.bounce_record.specs.Writing.{Writing}
use Rattle.call_fs.specs.declared.calls.Answer.{Answer}
use Rattle.call_fs.specs.declared.calls.Answer.TheVariants as answer
use Rattle.call_fs.specs.declared.calls.CallData.TheVariants as call
use Rattle.call_fs.specs.declared.calls.Fd.{Fd}
use Rattle.call_fs.specs.declared.calls.FsError.TheVariants as why
use Rattle.call_fs.specs.declared.calls.How.TheVariants as how
use Rattle.call_fs.specs.declared.past.GotData.{GotData}
use Rattle.call_fs.specs.declared.past.GotData.TheVariants as came
use Rattle.call_fs.specs.Columns.{IsAnswerTo}
use Rattle.call_fs.specs.Program.{MayCome}
use Rattle.queue_paths.specs.Names.{Name, parse, path}
use Rattle.queue_paths.specs.Names.Name.{Of}
use Rattle.queue_paths.specs.Names.Part.{Info as InfoFile}
use Rattle.send_core.specs.declared.desk.Desk.{Desk}
use Rattle.send_parts.specs.declared.row.MarkRow.{MarkRow}
use Rattle.send_parts.specs.declared.row.Marked.{Marked}
use Rattle.send_parts.specs.declared.row.Row.{Row}
use Rattle.send_parts.specs.declared.row.Row.TheVariants as at
use Rattle.send_core.specs.Start.{start_at}
use Rattle.send_core.specs.Table.{act, due_at}
use Rattle.send_jobs.specs.declared.attempts.Attempt.{Attempt}
use Rattle.send_jobs.specs.declared.attempts.Mark.{Mark}
use Rattle.send_known.specs.declared.channel.Channel.TheVariants.{Local, Remote}
use Rattle.send_jobs.specs.declared.lane.Lane.{Lane}
use Rattle.send_jobs.specs.declared.slots.Slots.{Slots}
use Rattle.send_jobs.specs.Lanes.{empty}
use Rattle.send_jobs.specs.Sending.{lane}
use Rattle.send_parts.specs.declared.book.Book.{Book}
use Rattle.send_links.specs.declared.link.Link.{Link}
use Rattle.send_parts.specs.declared.reading.Progress.{Progress}
use Rattle.send_parts.specs.declared.reading.Progress.TheVariants.{Failed, Goes, Missing, Whole}
use Rattle.send_parts.specs.declared.reading.Reading.{Reading}
use Rattle.send_parts.specs.declared.reading.Reading.TheVariants.{Closing, Going, Opening, Shutting}
use Rattle.send_parts.specs.declared.reply.Way.{Way}
use Rattle.send_parts.specs.declared.reply.Way.TheVariants as way
use Rattle.send_parts.specs.declared.rows.StartRow.{StartRow}
use Rattle.send_parts.specs.declared.rows.StartRow.TheVariants as start
use Rattle.send_parts.specs.Files.{is_info, number_below}
use Rattle.send_parts.specs.Readings.{opened, read_more}
use Rattle.send_parts.specs.Replies.{Said, answered, said}
use Rattle.send_parts.specs.Start.{act_start, by_way, control_read, file_after, filed, info_read, info_row, judged_by, next_file, remote_limit, remote_stated, scan_row, scanned, start_failed}
use Rattle.send_parts.specs.Steps.{control_text}
use Rattle.spawn_protocol.specs.Report.{read_on as read_reports}
use Rattle.spawn_protocol.specs.Report.Reader.{AtBegin}
use Rattle.send_core.specs.Past.{Account, Owed, Work, account_by, took as took_in, happening, opened_as, source_of, work_by}
use Rattle.send_core.proofs.Lists.{free_of}
use Rattle.send_core.proofs.Lanes.{Holds, empty_holds, length_free, other_limit}
use Rattle.send_core.specs.Agrees.{owed_at, task_of}
use Rattle.send_core.proofs.Fits.{Fits, so_far}
use Rattle.send_core.proofs.Coming.{by_file, not_channel}
use Rattle.send_core.proofs.Changes.{DeskFits, Heard}
use Rattle.send_core.proofs.Standing.{Early, Fit, InStart, IsBare, IsFit, Rests}

-- Rows of the start at which the channels rest

abbrev IsLate : StartRow → Type 0
IsLate (start.Control file reading) = ⊥
IsLate start.GreetLocal = ⊥
IsLate (start.GreetRemote limit) = ⊥
IsLate row = Unit {0}

late_either : (b : Bool) (x y : StartRow) → IsLate x → IsLate y → IsLate (if b then x else y)
late_either true x y p q = p
late_either false x y p q = q

late_failed : (w : Way) → IsLate (start_failed w)
late_failed way.Fine = tt
late_failed way.Over = tt
late_failed way.Absent = tt
late_failed way.Broken = tt
late_failed way.NoMemory = tt

late_scan : (o : Option ℕ) (split : ℕ) → IsLate (scan_row o split)
late_scan None split = tt
late_scan (Some n) split = tt

late_scanned : (w : Way) (text : List ℕ) (split : ℕ) (b : Book) → IsLate (scanned w text split b).row
late_scanned way.Fine text split b = late_scan (number_below split text) split
late_scanned way.Over text split b = late_either (nat_lt split 22) (start.Scan (split + 1)) start.Over tt tt
late_scanned way.Absent text split b = tt
late_scanned way.Broken text split b = tt
late_scanned way.NoMemory text split b = tt

late_way : (w : Way) (there missing : StartRow) → IsLate there → IsLate missing → IsLate (by_way w there missing)
late_way way.Fine there missing p q = p
late_way way.Over there missing p q = tt
late_way way.Absent there missing p q = q
late_way way.Broken there missing p q = tt
late_way way.NoMemory there missing p q = tt

late_info_row : (b : Bool) (split n : ℕ) → IsLate (info_row b split n)
late_info_row true split n = tt
late_info_row false split n = tt

late_info : (p : Progress) (split n : ℕ) (reading : Reading) (s : Said) (b : Book) → IsLate (info_read p split n reading s b).row
late_info (Goes Opening) split n reading s b = tt
late_info (Goes (Going fd)) split n reading s b = tt
late_info (Goes (Closing fd)) split n reading s b = tt
late_info (Goes (Shutting fd)) split n reading s b = late_failed s.way
late_info Whole split n reading s b = late_info_row (is_info b.read) split n
late_info Missing split n reading s b = tt
late_info Failed split n reading s b = late_failed s.way

late_remote : (w : Way) (split n birth : ℕ) (local : Bool) (b : Book) → IsLate (remote_stated w split n birth local b).row
late_remote way.Fine split n birth local b = tt
late_remote way.Over split n birth local b = tt
late_remote way.Absent split n birth local b = tt
late_remote way.Broken split n birth local b = tt
late_remote way.NoMemory split n birth local b = tt

-- What fits at a row of the start

module _ (P : MarkRow → Option Mark → Marked → Writing → Type 0) (f : Option Work) (al ar : Account) (s : Slots) (l r : Link) (b : Book) (w : Writing) where
  abbrev To : StartRow → Type 0
  To row = Fit P f al ar s l r b w (start_at row)

  late_fits : (row : StartRow) → IsLate row → Rests P f al ar s l r → To row
  late_fits (start.Control file reading) late h = absurd late
  late_fits start.GreetLocal late h = absurd late
  late_fits (start.GreetRemote limit) late h = absurd late
  late_fits (start.Scan split) late h = h
  late_fits (start.StatTodo split n) late h = h
  late_fits (start.ReadInfo split n reading) late h = h
  late_fits (start.StatInfo split n) late h = h
  late_fits (start.StatLocal split n birth) late h = h
  late_fits (start.StatRemote split n birth local) late h = h
  late_fits start.Over late h = h
  late_fits (start.Ended status) late h = tt

  failed_to : (x : Way) → To (start_failed x)
  failed_to way.Fine = tt
  failed_to way.Over = tt
  failed_to way.Absent = tt
  failed_to way.Broken = tt
  failed_to way.NoMemory = tt

  judged_to : (o : Option Fault) (x : Book) → Early P f al ar s l r → al.heard ≡ None → f ≡ None → To (judged_by o x).row
  judged_to None x h e g = (h, e, g)
  judged_to (Some fault) x h e g = tt

  next_to : (o : Option ControlFile) (x : Book) → Early P f al ar s l r → al.heard ≡ None → f ≡ None → To (next_file o x).row
  next_to None x h e g = judged_to (first_fault x.files) x h e g
  next_to (Some file) x h e g = (h, e, g)

  filed_to : (content : Option (List ℕ)) (file : ControlFile) (x : Book) → Early P f al ar s l r → al.heard ≡ None → f ≡ None → To (filed content file x).row
  filed_to content file x h e g = next_to (file_after file) (record x { files = set x.files (place file) content }) h e g

  more_to : (last : Bool) (fd : Fd) (file : ControlFile) (reading : Reading) (said : Said) (x : Book) → Early P f al ar s l r → al.heard ≡ None → f ≡ None
      → To (control_read (if last then Goes (Closing fd) else Goes (Going fd)) file reading said x).row
  more_to true fd file reading said x h e g = (h, e, g)
  more_to false fd file reading said x h e g = (h, e, g)

-- The slots that a spawner's byte makes

least_left : (a b : ℕ) → min a b ≤ a
least_left a b = omega arith

no_slots : (k : ℕ) → length (replicate {A = Option Attempt} (min 0 120) None) ≤ k
no_slots k = let e = length_free (min 0 120) in omega arith

fits_limit : (a : Account) (lane : Lane) (k : ℕ) → lane ≡ empty 0 → Holds a.limit a.to_mark lane.slots lane.left → Holds k a.to_mark lane.slots lane.left
fits_limit a lane k e h = other_limit a.limit k a.to_mark lane.slots lane.left (subst (λ (x : Lane). length x.slots ≤ k) (sym e) (no_slots k)) h

bare_early : (a : Account) (lane : Lane) (link : Link) → lane ≡ empty 0 → Fits false a lane link → a.to_mark ≡ []
bare_early a lane link e h = sym h.4 ∙ ap (λ (x : Lane). map owed_at x.marks) e

empty_fits : (a : Account) (lane : Lane) (link : Link) (count : ℕ) → lane ≡ empty 0 → count ≤ a.limit → Fits false a lane link → Fits false a (empty count) link
empty_fits a lane link count e le h =
    let was : Fits false a (empty 0) link = subst (λ (x : Lane). Fits false a x link) e h in (
      λ k. ap (option_map task_of) (free_of (min count 120) k ∙ sym (free_of (min 0 120) k)) ∙ was.0 k,
      inl refl,
      was.2,
      was.3,
      was.4,
      subst (λ (t : List Owed). Holds a.limit t (replicate (min count 120) None) []) was.4 (empty_holds a.limit count le),
    )

-- The steps

-- a control file has no name of the queue
no_name : (file : ControlFile) → parse (control_text file) ≡ None
unfolding parse path
no_name file = refl

abbrev pub StepOf : (MarkRow → Option Mark → Marked → Writing → Type 0) → (ℕ → Bool) → ℕ → Desk → Option Work → Account → Account → Row → GotData → Type 0
StepOf P late now d f al ar row got =
    IsFit P (work_by late f (due_at row d) got) (account_by (happening (due_at row d) got f al.to_mark Local) al) (account_by (happening (due_at row d) got f al.to_mark Remote) ar) (act row now got d)

module _ (P : MarkRow → Option Mark → Marked → Writing → Type 0) (late : ℕ → Bool) (now : ℕ) (d : Desk) (al ar : Account) where
  abbrev ToStart : Option Work → StartRow → Said → Type 0
  ToStart f row s = let b : Book = act_start row s d.book in To P f al ar d.slots d.local d.remote b d.note b.row

  control_opens : (file : ControlFile) (told : Answer) (bytes : List ℕ) → IsAnswerTo (call.Open (control_text file) how.Read) told → Early P None al ar d.slots d.local d.remote → al.heard ≡ None
      → ToStart (opened_as late (parse (control_text file)) told) (start.Control file Opening) (answered told bytes)
  control_opens file (answer.Opened fd) bytes fit h e = (h, e, ap (λ (o : Option Name). source_of late o fd) (no_name file))
  control_opens file (answer.Refused why.NotThere) bytes fit h e = filed_to P None al ar d.slots d.local d.remote (filed None file d.book) d.note None file d.book h e refl
  control_opens file (answer.Refused why.Fault) bytes fit h e = tt
  control_opens file (answer.Refused why.Memory) bytes fit h e = tt
  control_opens file told bytes fit h e = absurd fit

  control_reads : (file : ControlFile) (fd : Fd) (told : Answer) (bytes : List ℕ) → IsAnswerTo (call.ReadAt fd (length d.book.read) 8192) told
      → Early P None al ar d.slots d.local d.remote → al.heard ≡ None → ToStart None (start.Control file (Going fd)) (answered told bytes)
  control_reads file fd (answer.Count count) bytes fit h e =
      more_to P None al ar d.slots d.local d.remote (act_start (start.Control file (Going fd)) (answered (answer.Count count) bytes) d.book) d.note (nat_lt (length bytes) 8192) fd file (Going fd) (answered (answer.Count count) bytes) d.book h e refl
  control_reads file fd (answer.Refused why.Fault) bytes fit h e = tt
  control_reads file fd told bytes fit h e = absurd fit

  -- a control file
  control_step : (file : ControlFile) (reading : Reading) (got : GotData) → Early P None al ar d.slots d.local d.remote → al.heard ≡ None
      → MayCome (due_at (at.Start (start.Control file reading)) d) got → StepOf P late now d None al ar (at.Start (start.Control file reading)) got
  control_step file Opening got h e may =
      by_file (due_at (at.Start (start.Control file Opening)) d) tt (StepOf P late now d None al ar (at.Start (start.Control file Opening))) got may
      (λ told fit. control_opens file told.answer told.bytes fit h e)
  control_step file (Going fd) got h e may =
      by_file (due_at (at.Start (start.Control file (Going fd))) d) tt (StepOf P late now d None al ar (at.Start (start.Control file (Going fd)))) got may
      (λ told fit. control_reads file fd told.answer told.bytes fit h e)
  control_step file (Closing fd) got h e may =
      by_file (due_at (at.Start (start.Control file (Closing fd))) d) tt (StepOf P late now d None al ar (at.Start (start.Control file (Closing fd)))) got may
      (λ told fit. filed_to P None al ar d.slots d.local d.remote (filed (Some d.book.read) file d.book) d.note (Some d.book.read) file d.book h e refl)
  control_step file (Shutting fd) got h e may =
      by_file (due_at (at.Start (start.Control file (Shutting fd))) d) tt (StepOf P late now d None al ar (at.Start (start.Control file (Shutting fd)))) got may
      (λ told fit. failed_to P None al ar d.slots d.local d.remote (act_start (start.Control file (Shutting fd)) (answered told.answer told.bytes) d.book) d.note (answered told.answer told.bytes).way)

  -- a spawner's first byte
  greet_local : (f : Option Work) (got : GotData) → Early P f al ar d.slots d.local d.remote → al.heard ≡ None → f ≡ None
      → MayCome (due_at (at.Start start.GreetLocal) d) got → StepOf P late now d f al ar (at.Start start.GreetLocal) got
  greet_local f (came.Took []) h e g may = tt
  greet_local f (came.Took (byte ∷ rest)) h e g may = subst
      (λ (o : Option (List ℕ)). IsFit P f (took_in o (byte ∷ rest) al) ar (act (at.Start start.GreetLocal) now (came.Took (byte ∷ rest)) d))
      (sym e) (
        (
          h.0,
          (h.1.0, h.1.1, h.1.2, h.1.3 ∙ ap (λ (o : Option (List ℕ)). (read_reports AtBegin (so_far o)).1) e, h.1.4, fits_limit al d.slots.local byte (ap (λ (s : Slots). s.local) h.0) h.1.5),
          h.2,
          h.3,
        ),
        tt,
        g,
        least_left byte d.book.controls.concurrency_local,
      )
  greet_local f came.End h e g may = tt
  greet_local f came.Failed h e g may = tt
  greet_local f (came.Answered told) h e g may = absurd may
  greet_local f (came.Ended status) h e g may = absurd may
  greet_local f came.Crashed h e g may = absurd may
  greet_local f came.Gave h e g may = absurd may
  greet_local f (came.Started pid) h e g may = absurd may
  greet_local f came.Memory h e g may = absurd may

  greet_remote : (f : Option Work) (limit : ℕ) (got : GotData) → Early P f al ar d.slots d.local d.remote → Heard al.heard → f ≡ None → limit ≤ al.limit
      → MayCome (due_at (at.Start (start.GreetRemote limit)) d) got → StepOf P late now d f al ar (at.Start (start.GreetRemote limit)) got
  greet_remote f limit (came.Took []) h e g le may = tt
  greet_remote f limit (came.Took (byte ∷ rest)) h e g le may =
      let none : d.slots.remote ≡ empty 0 = ap (λ (s : Slots). s.remote) h.0 in
      let a : Account = record ar { limit = byte; heard = Some [] } in
      let was : Fits false a d.slots.remote d.remote =
      (h.2.0, h.2.1, h.2.2, h.2.3 ∙ ap (λ (o : Option (List ℕ)). (read_reports AtBegin (so_far o)).1) h.3, h.2.4, fits_limit ar d.slots.remote byte none h.2.5) in
      subst
      (λ (o : Option (List ℕ)). IsFit P f al (took_in o (byte ∷ rest) ar) (act (at.Start (start.GreetRemote limit)) now (came.Took (byte ∷ rest)) d))
      (sym h.3) (
        (
          empty_fits al d.slots.local d.local limit (ap (λ (s : Slots). s.local) h.0) le h.1,
          empty_fits a d.slots.remote d.remote (remote_limit (byte ∷ rest) d.book.controls) none (least_left byte d.book.controls.concurrency_remote) was,
          e,
          tt,
        ),
        g,
        (bare_early al d.slots.local d.local (ap (λ (s : Slots). s.local) h.0) h.1, bare_early a d.slots.remote d.remote none was),
      )
  greet_remote f limit came.End h e g le may = tt
  greet_remote f limit came.Failed h e g le may = tt
  greet_remote f limit (came.Answered told) h e g le may = absurd may
  greet_remote f limit (came.Ended status) h e g le may = absurd may
  greet_remote f limit came.Crashed h e g le may = absurd may
  greet_remote f limit came.Gave h e g le may = absurd may
  greet_remote f limit (came.Started pid) h e g le may = absurd may
  greet_remote f limit came.Memory h e g le may = absurd may

  -- the scan
  scan_step : (row : StartRow) (got : GotData) → IsLate row → DeskFits al ar d → IsBare al ar → MayCome (due_at (at.Start row) d) got → StepOf P late now d None al ar (at.Start row) got
  scan_step (start.Scan split) got is h b may =
      by_file (due_at (at.Start (start.Scan split)) d) tt (StepOf P late now d None al ar (at.Start (start.Scan split))) got may
      (λ told fit. late_fits P None al ar d.slots d.local d.remote (act_start (start.Scan split) (answered told.answer told.bytes) d.book) d.note (act_start (start.Scan split) (answered told.answer told.bytes) d.book).row (late_scanned (answered told.answer told.bytes).way (answered told.answer told.bytes).bytes split d.book) (h, refl, b))
  scan_step (start.StatTodo split n) got is h b may =
      by_file (due_at (at.Start (start.StatTodo split n)) d) tt (StepOf P late now d None al ar (at.Start (start.StatTodo split n))) got may
      (λ told fit. late_fits P None al ar d.slots d.local d.remote (act_start (start.StatTodo split n) (answered told.answer told.bytes) d.book) d.note (act_start (start.StatTodo split n) (answered told.answer told.bytes) d.book).row (late_way (answered told.answer told.bytes).way (start.Scan split) (start.ReadInfo split n Opening) tt tt) (h, refl, b))
  scan_step (start.StatInfo split n) got is h b may =
      by_file (due_at (at.Start (start.StatInfo split n)) d) tt (StepOf P late now d None al ar (at.Start (start.StatInfo split n))) got may
      (λ told fit. late_fits P None al ar d.slots d.local d.remote (act_start (start.StatInfo split n) (answered told.answer told.bytes) d.book) d.note (act_start (start.StatInfo split n) (answered told.answer told.bytes) d.book).row (late_way (answered told.answer told.bytes).way (start.StatLocal split n (answered told.answer told.bytes).stat.moment) (start.Scan split) tt tt) (h, refl, b))
  scan_step (start.StatLocal split n birth) got is h b may =
      by_file (due_at (at.Start (start.StatLocal split n birth)) d) tt (StepOf P late now d None al ar (at.Start (start.StatLocal split n birth))) got may
      (λ told fit. late_fits P None al ar d.slots d.local d.remote (act_start (start.StatLocal split n birth) (answered told.answer told.bytes) d.book) d.note (act_start (start.StatLocal split n birth) (answered told.answer told.bytes) d.book).row (late_way (answered told.answer told.bytes).way (start.StatRemote split n birth true) (start.StatRemote split n birth false) tt tt) (h, refl, b))
  scan_step (start.StatRemote split n birth local) got is h b may =
      by_file (due_at (at.Start (start.StatRemote split n birth local)) d) tt (StepOf P late now d None al ar (at.Start (start.StatRemote split n birth local))) got may
      (λ told fit. late_fits P None al ar d.slots d.local d.remote (act_start (start.StatRemote split n birth local) (answered told.answer told.bytes) d.book) d.note (act_start (start.StatRemote split n birth local) (answered told.answer told.bytes) d.book).row (late_remote (answered told.answer told.bytes).way split n birth local d.book) (h, refl, b))
  scan_step (start.ReadInfo split n Opening) got is h b may =
      by_file (due_at (at.Start (start.ReadInfo split n Opening)) d) tt (StepOf P late now d None al ar (at.Start (start.ReadInfo split n Opening))) got may
      (λ told fit. late_fits P (opened_as late (parse (path (Of InfoFile n))) told.answer) al ar d.slots d.local d.remote (act_start (start.ReadInfo split n Opening) (answered told.answer told.bytes) d.book) d.note (act_start (start.ReadInfo split n Opening) (answered told.answer told.bytes) d.book).row (late_info (opened (answered told.answer told.bytes).way (answered told.answer told.bytes).fd) split n Opening (answered told.answer told.bytes) d.book) (h, not_channel late (Of InfoFile n) (λ fd. refl) told.answer, b))
  scan_step (start.ReadInfo split n (Going fd)) got is h b may =
      by_file (due_at (at.Start (start.ReadInfo split n (Going fd))) d) tt (StepOf P late now d None al ar (at.Start (start.ReadInfo split n (Going fd)))) got may
      (λ told fit. late_fits P None al ar d.slots d.local d.remote (act_start (start.ReadInfo split n (Going fd)) (answered told.answer told.bytes) d.book) d.note (act_start (start.ReadInfo split n (Going fd)) (answered told.answer told.bytes) d.book).row (late_info (read_more (answered told.answer told.bytes).way fd (answered told.answer told.bytes).bytes) split n (Going fd) (answered told.answer told.bytes) d.book) (h, refl, b))
  scan_step (start.ReadInfo split n (Closing fd)) got is h b may =
      by_file (due_at (at.Start (start.ReadInfo split n (Closing fd))) d) tt (StepOf P late now d None al ar (at.Start (start.ReadInfo split n (Closing fd)))) got may
      (λ told fit. late_fits P None al ar d.slots d.local d.remote (act_start (start.ReadInfo split n (Closing fd)) (answered told.answer told.bytes) d.book) d.note (act_start (start.ReadInfo split n (Closing fd)) (answered told.answer told.bytes) d.book).row (late_info (Whole) split n (Closing fd) (answered told.answer told.bytes) d.book) (h, refl, b))
  scan_step (start.ReadInfo split n (Shutting fd)) got is h b may =
      by_file (due_at (at.Start (start.ReadInfo split n (Shutting fd))) d) tt (StepOf P late now d None al ar (at.Start (start.ReadInfo split n (Shutting fd)))) got may
      (λ told fit. late_fits P None al ar d.slots d.local d.remote (act_start (start.ReadInfo split n (Shutting fd)) (answered told.answer told.bytes) d.book) d.note (act_start (start.ReadInfo split n (Shutting fd)) (answered told.answer told.bytes) d.book).row (late_info (Failed) split n (Shutting fd) (answered told.answer told.bytes) d.book) (h, refl, b))
  scan_step start.Over got is h b may = absurd may
  scan_step (start.Ended status) got is h b may = absurd may
  scan_step (start.Control file reading) got is h b may = absurd is
  scan_step start.GreetLocal got is h b may = absurd is
  scan_step (start.GreetRemote limit) got is h b may = absurd is

  rests_step : (f : Option Work) (row : StartRow) (got : GotData) → IsLate row → Rests P f al ar d.slots d.local d.remote → MayCome (due_at (at.Start row) d) got → StepOf P late now d f al ar (at.Start row) got
  rests_step f row got is h may = subst (λ (o : Option Work). StepOf P late now d o al ar (at.Start row) got) (sym h.1) (scan_step row got is h.0 h.2 may)

  pub start_step : (f : Option Work) (row : StartRow) (got : GotData) → InStart P f al ar row d.slots d.local d.remote → MayCome (due_at (at.Start row) d) got → StepOf P late now d f al ar (at.Start row) got
  start_step f (start.Control file reading) got h may =
      subst (λ (o : Option Work). StepOf P late now d o al ar (at.Start (start.Control file reading)) got) (sym h.2) (control_step file reading got (h.0.0, h.0.1, h.0.2, h.0.3) h.1 may)
  start_step f start.GreetLocal got h may = greet_local f got h.0 h.1 h.2 may
  start_step f (start.GreetRemote limit) got h may = greet_remote f limit got h.0 h.1 h.2 h.3 may
  start_step f (start.Scan split) got h may = rests_step f (start.Scan split) got tt h may
  start_step f (start.StatTodo split n) got h may = rests_step f (start.StatTodo split n) got tt h may
  start_step f (start.ReadInfo split n reading) got h may = rests_step f (start.ReadInfo split n reading) got tt h may
  start_step f (start.StatInfo split n) got h may = rests_step f (start.StatInfo split n) got tt h may
  start_step f (start.StatLocal split n birth) got h may = rests_step f (start.StatLocal split n birth) got tt h may
  start_step f (start.StatRemote split n birth local) got h may = rests_step f (start.StatRemote split n birth local) got tt h may
  start_step f start.Over got h may = absurd may
  start_step f (start.Ended status) got h may = absurd may
