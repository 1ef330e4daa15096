-- Each step of a sender keeps that its requests, and the messages that it knows, have senders that were said of them.
use Rattle.std.proofs.Common.{◌≡◌, ℕ, ◌+◌, List, [], ◌∷◌, ◌++◌, length, Bool, true, false, if◌then◌else◌, nat_lt, bytes_eq, Option, Some, None, refl, sym, ap, ◌∙◌, subst, eq-eqb}
use Rattle.std.specs.Prelude.{is_some, slice_get}
use Rattle.std.proofs.lemmas.Slice.Eq.{bytes_eq-Decides}
use Rattle.address_rules.specs.declared.control_file.ControlFile.{ControlFile}
use Rattle.address_rules.specs.declared.control_file.ControlFile.TheVariants as files
use Rattle.call_fs.specs.declared.calls.Answer.{Answer}
use Rattle.call_fs.specs.declared.calls.Answer.TheVariants as answer
use Rattle.call_fs.specs.declared.calls.CallData.TheVariants as call
use Rattle.call_fs.specs.declared.calls.Fd.{Fd}
use Rattle.call_fs.specs.declared.calls.FsError.TheVariants as why
use Rattle.call_fs.specs.declared.calls.How.TheVariants as how
use Rattle.call_fs.specs.declared.past.GotData.{GotData}
use Rattle.call_fs.specs.declared.past.GotData.TheVariants as came
use Rattle.call_fs.specs.declared.past.NeedData.{NeedData}
use Rattle.call_fs.specs.declared.past.NeedData.TheVariants as needs
use Rattle.call_fs.specs.declared.program.Port.TheVariants as port
use Rattle.call_fs.specs.declared.program.Ready.{Ready}
use Rattle.call_fs.specs.Columns.{IsAnswerTo}
use Rattle.call_fs.specs.Maps.{put}
use Rattle.call_fs.specs.Program.{MayCome}
use Rattle.queue_paths.specs.Names.{Name, parse, path}
use Rattle.queue_paths.specs.Names.Name.{Of}
use Rattle.queue_limits.specs.declared.times.TheConstants.{PID_NAME_AGE}
use Rattle.queue_paths.specs.Names.Part.{Info as InfoFile, Local as LocalFile, Remote as RemoteFile, Todo as TodoFile}
use Rattle.queue_paths.proofs.Paths.{parse-path}
use Rattle.retry_schedule.specs.Due.{first_due}
use Rattle.send_core.specs.declared.desk.Desk.{Desk}
use Rattle.send_parts.specs.declared.row.Point.{Point}
use Rattle.send_parts.specs.declared.row.Point.TheVariants as point
use Rattle.send_parts.specs.declared.row.Row.{Row}
use Rattle.send_parts.specs.declared.row.Row.TheVariants as at
use Rattle.send_core.specs.Desk.{due_on, next_idle, ready as made_ready, sweep_due}
use Rattle.send_core.specs.Finish.{looked_up, sweep_begun}
use Rattle.send_core.specs.Table.{act, arrive, beginning, due_at, finishing, finishing_by, from_begin, from_local, from_point, from_remote, from_reports, from_sweep, from_take, going_on, holds, link_of, marking, marking_by, or_else, passing, sweeping, taking}
use Rattle.send_core.specs.Start.{start_at}
use Rattle.send_core.specs.Turn.{begun_at, known_of, todo_on, todo_over, todo_went}
use Rattle.send_jobs.specs.declared.attempts.Attempt.{Attempt}
use Rattle.send_jobs.specs.declared.attempts.Mark.{Mark}
use Rattle.send_known.specs.declared.channel.Channel.{Channel}
use Rattle.send_known.specs.declared.channel.Channel.TheVariants.{Local, Remote}
use Rattle.send_jobs.specs.declared.slots.Slots.{Slots}
use Rattle.send_jobs.specs.Lanes.{next}
use Rattle.send_jobs.specs.Sending.{lane}
use Rattle.send_jobs.specs.Slots.{lowest}
use Rattle.send_known.specs.Known.{is_known}
use Rattle.send_known.specs.Messages.{learned}
use Rattle.send_parts.specs.declared.reading.Reading.{Reading}
use Rattle.send_parts.specs.declared.reading.Reading.TheVariants.{Closing, Going, Opening, Shutting}
use Rattle.send_parts.specs.declared.reply.Way.{Way}
use Rattle.send_parts.specs.declared.reply.Way.TheVariants as way
use Rattle.send_parts.specs.declared.rows.FinishRow.{FinishRow}
use Rattle.send_parts.specs.declared.rows.FinishRow.TheVariants as finish
use Rattle.send_parts.specs.declared.rows.Search.TheVariants as searches
use Rattle.send_parts.specs.declared.rows.StartRow.{StartRow}
use Rattle.send_parts.specs.declared.rows.StartRow.TheVariants as start
use Rattle.send_parts.specs.declared.rows.SweepRow.{SweepRow}
use Rattle.send_parts.specs.declared.rows.SweepRow.TheVariants as sweep
use Rattle.send_parts.specs.Files.{is_info, message_number, sender_in}
use Rattle.send_parts.specs.Finish.{finish_to}
use Rattle.send_parts.specs.Readings.{read_on}
use Rattle.send_parts.specs.Replies.{answered, said}
use Rattle.send_links.specs.Requests.{addressed, first_text, request_of, to_slot}
use Rattle.send_parts.specs.declared.book.Book.{Book}
use Rattle.send_parts.specs.declared.reading.Progress.TheVariants.{Goes}
use Rattle.send_parts.specs.Start.{act_start, control_read, info_read}
use Rattle.send_parts.specs.Steps.{control_text, remove_text}
use Rattle.send_parts.specs.Sweep.{info_stated as info_stated_in, mess_stated, sweep_row, sweep_taken, sweep_to, swept, todo_stated}
use Rattle.todo_pass.specs.declared.row.Row.{Row as PassRow}
use Rattle.todo_pass.specs.declared.row.Row.TheVariants as todo
use Rattle.todo_pass.specs.declared.part.Target.TheVariants as target
use Rattle.todo_pass.specs.declared.row.Why.TheVariants as left
use Rattle.todo_pass.specs.Table.{Pass, command_text, moved_at}
use Rattle.todo_pass.specs.Table as pass_table
use Rattle.send_core.specs.Births.{Birth, Births, cleaned, found, passed, stated}
use Rattle.send_core.specs.Papers.{Paper, Papers, control_named, filed as filed_paper, filed_if, longer_paper, opened_file, opened_paper, papers_by}
use Rattle.send_core.specs.Papers.Papers.{Reads, Told}
use Rattle.send_core.specs.Senders.{Letter, letter_of, longer, opened_as, read_more, said_at, said_if, saying_by, sender_if}
use Rattle.send_core.proofs.Coming.{by_file}
use Rattle.send_core.proofs.Known.{Sound, each_more, first_is_due, sound_learned}
use Rattle.send_core.proofs.Asked.{Asked, Base, ControlSays, Facts, FinishSays, Knows, KnowsAt, PassSays, StartSays, SweepSays, asked_addressed, asked_more, base_more, base_ready, facts_by}
use Rattle.send_core.proofs.Leads.{base_looked, ok_file, ok_finish, ok_mark, ok_named, ok_on, ok_over_pass, ok_requested, ok_swept, ok_took, ok_unlinked}
use Rattle.send_core.proofs.PassSays.{pass_next}
use Rattle.send_core.proofs.StartSays.{Lands, lands_failed, lands_filed, lands_info_row, lands_learned, lands_local, lands_remote, lands_scanned, lands_way, to_knows}
use Rattle.send_core.proofs.Still.{IsAnswered, IsBefore, IsPlain, IsStill, finish_still, info_still, pass_still, row_still, sweep_still, unstated}
use Rattle.send_core.proofs.Turns.{same_end, same_place}
use Rattle.send_core.proofs.RowFits.{Where, Where}

-- A step

module _ (S : ℕ → List ℕ → Type 0) (now : ℕ) (t : Facts) (d : Desk) where
  abbrev Heard : NeedData → Type 0
  Heard due = (n : ℕ) (sender : List ℕ) → said_at due t.letter ≡ Some (record { n = n; sender = sender }) → S n sender

  abbrev told_then : NeedData → GotData → Facts
  told_then due got = facts_by now t due got

  abbrev To : Row → GotData → Type 0
  To row got = Knows S (told_then (due_at row d) got) (act row now got d)

  abbrev ToStart : StartRow → GotData → Type 0
  ToStart row got = Lands S (told_then (due_at (at.Start row) d) got) d.pass (act_start row (said got) d.book)

  -- what is known of the messages is so too, if no birth was told
  sound_still : (due : NeedData) (got : GotData) → IsStill t.births now due got → Sound S t.births.of d.book.messages → Sound S (told_then due got).births.of d.book.messages
  sound_still due got same h = subst (λ (of : ℕ → ℕ). Sound S of d.book.messages) (sym same) h

  papers_still : (due : NeedData) (got : GotData) → t.papers ≡ Told d.book.controls → (told_then due got).papers ≡ Told d.book.controls
  papers_still due got e = ap (λ (p : Papers). papers_by p due got) e

  still : (due : NeedData) (got : GotData) → IsStill t.births now due got → Base S t d → Base S (told_then due got) d
  still due got same h = (sound_still due got same h.0, h.1, h.2, papers_still due got h.3)

  -- the control files

  abbrev with_papers : Papers → Facts → Facts
  with_papers p u = record u { papers = p }

  named_so : (file : ControlFile) → control_named (control_text file) ≡ Some file
  named_so files.Me = refl
  named_so files.Locals = refl
  named_so files.PercentHack = refl
  named_so files.VirtualDomains = refl
  named_so files.EnvNoAtHost = refl
  named_so files.BounceFrom = refl
  named_so files.BounceHost = refl
  named_so files.DoubleBounceTo = refl
  named_so files.DoubleBounceHost = refl
  named_so files.ConcurrencyLocal = refl
  named_so files.ConcurrencyRemote = refl
  named_so files.QueueLifetime = refl

  control_opens : (file : ControlFile) (told : Answer) (bytes : List ℕ) (u : Facts) → IsAnswerTo (call.Open (control_text file) how.Read) told → Sound S u.births.of d.book.messages
      → Lands S (with_papers (opened_file file told d.book.files) u) d.pass (act_start (start.Control file Opening) (answered told bytes) d.book)
  control_opens file (answer.Opened fd) bytes u fit h = (h, refl)
  control_opens file (answer.Refused why.NotThere) bytes u fit h = lands_filed S (with_papers (filed_paper file None d.book.files) u) d.pass None file d.book h refl
  control_opens file (answer.Refused why.Fault) bytes u fit h = tt
  control_opens file (answer.Refused why.Memory) bytes u fit h = tt
  control_opens file told bytes u fit h = absurd fit

  abbrev at_paper : ControlFile → Fd → List ℕ → Bool → Paper
  at_paper file fd bytes over = record { file = file; fd = fd; bytes = bytes; over = over }

  control_goes : (file : ControlFile) (fd : Fd) (told : Answer) (bytes : List ℕ) (u : Facts) → IsAnswerTo (call.ReadAt fd (length d.book.read) 8192) told → Sound S u.births.of d.book.messages
      → Lands S (with_papers (Reads d.book.files (longer_paper (at_paper file fd d.book.read false) 8192 told bytes)) u) d.pass (act_start (start.Control file (Going fd)) (answered told bytes) d.book)
  control_goes file fd (answer.Count count) bytes u fit h = by (nat_lt (length bytes) 8192) where
    by : (last : Bool) → Lands S (with_papers (Reads d.book.files (Some (at_paper file fd (d.book.read ++ bytes) last))) u) d.pass
        (control_read (if last then Goes (Closing fd) else Goes (Going fd)) file (Going fd) (answered (answer.Count count) bytes) d.book)
    by true = (h, refl)
    by false = (h, refl)
  control_goes file fd (answer.Refused why.Fault) bytes u fit h = tt
  control_goes file fd told bytes u fit h = absurd fit

  control_lands : (file : ControlFile) (reading : Reading) (got : GotData) → MayCome (due_at (at.Start (start.Control file reading)) d) got → ControlSays S t file reading d.book
      → Sound S t.births.of d.book.messages → ToStart (start.Control file reading) got
  control_lands file Opening got may says h =
      by_file (due_at (at.Start (start.Control file Opening)) d) tt (ToStart (start.Control file Opening)) got may (λ told fit.
      let due : NeedData = due_at (at.Start (start.Control file Opening)) d in
      let u : Facts = told_then due (came.Answered told) in
      let b : Book = act_start (start.Control file Opening) (answered told.answer told.bytes) d.book in
      subst (λ (p : Papers). Lands S (with_papers (papers_by p due (came.Answered told)) u) d.pass b) (sym says.1)
      (subst (λ (o : Option ControlFile). Lands S (with_papers (opened_paper o told.answer d.book.files) u) d.pass b) (sym (named_so file))
      (control_opens file told.answer told.bytes u fit h)))
  control_lands file (Going fd) got may says h =
      by_file (due_at (at.Start (start.Control file (Going fd))) d) tt (ToStart (start.Control file (Going fd))) got may (λ told fit.
      let due : NeedData = due_at (at.Start (start.Control file (Going fd))) d in
      let u : Facts = told_then due (came.Answered told) in
      let b : Book = act_start (start.Control file (Going fd)) (answered told.answer told.bytes) d.book in
      let s : Paper = at_paper file fd d.book.read false in
      subst (λ (p : Papers). Lands S (with_papers (papers_by p due (came.Answered told)) u) d.pass b) (sym says)
      (subst (λ (x : Bool). Lands S (with_papers (Reads d.book.files (if x then longer_paper s 8192 told.answer told.bytes else Some s)) u) d.pass b) (sym (same_place fd.0 (length d.book.read)))
      (control_goes file fd told.answer told.bytes u fit h)))
  control_lands file (Closing fd) got may says h =
      by_file (due_at (at.Start (start.Control file (Closing fd))) d) tt (ToStart (start.Control file (Closing fd))) got may (λ told fit.
      let due : NeedData = due_at (at.Start (start.Control file (Closing fd))) d in
      let u : Facts = told_then due (came.Answered told) in
      let b : Book = act_start (start.Control file (Closing fd)) (answered told.answer told.bytes) d.book in
      let s : Paper = at_paper file fd d.book.read true in
      subst (λ (p : Papers). Lands S (with_papers (papers_by p due (came.Answered told)) u) d.pass b) (sym says)
      (subst (λ (x : Bool). Lands S (with_papers (filed_if x s d.book.files) u) d.pass b) (sym (same_end fd.0))
      (lands_filed S (with_papers (filed_paper file (Some d.book.read) d.book.files) u) d.pass (Some d.book.read) file d.book h refl)))
  control_lands file (Shutting fd) got may says h =
      by_file (due_at (at.Start (start.Control file (Shutting fd))) d) tt (ToStart (start.Control file (Shutting fd))) got may (λ told fit.
      lands_failed S (told_then (due_at (at.Start (start.Control file (Shutting fd))) d) (came.Answered told)) d.pass (answered told.answer told.bytes).way d.book)

  -- the info files

  abbrev at_info : ℕ → Fd → Bool → Letter
  at_info n fd over = record { todo = false; n = n; fd = fd; bytes = d.book.read; over = over }

  abbrev with_letter : Option Letter → Facts → Facts
  with_letter l u = record u { letter = l }

  abbrev IsSo : Facts → Type 0
  IsSo u = Sound S u.births.of d.book.messages × (u.papers ≡ Told d.book.controls)

  info_opens : (split n : ℕ) (told : Answer) (bytes : List ℕ) (u : Facts) → IsAnswerTo (call.Open (path (Of InfoFile n)) how.Read) told → IsSo u
      → Lands S (with_letter (opened_as (parse (path (Of InfoFile n))) told) u) d.pass (act_start (start.ReadInfo split n Opening) (answered told bytes) d.book)
  info_opens split n (answer.Opened fd) bytes u fit h = (h.0, h.1, ap (λ (o : Option Name). letter_of o fd) (parse-path (Of InfoFile n)))
  info_opens split n (answer.Refused why.NotThere) bytes u fit h = (h.0, h.1, tt)
  info_opens split n (answer.Refused why.Fault) bytes u fit h = tt
  info_opens split n (answer.Refused why.Memory) bytes u fit h = tt
  info_opens split n told bytes u fit h = absurd fit

  info_goes : (split n : ℕ) (fd : Fd) (told : Answer) (bytes : List ℕ) (u : Facts) → IsAnswerTo (call.ReadAt fd (length d.book.read) 8192) told → IsSo u
      → Lands S (with_letter (longer (at_info n fd false) 8192 told bytes) u) d.pass (act_start (start.ReadInfo split n (Going fd)) (answered told bytes) d.book)
  info_goes split n fd (answer.Count count) bytes u fit h = by (nat_lt (length bytes) 8192) where
    by : (last : Bool) → Lands S (with_letter (Some (record { todo = false; n = n; fd = fd; bytes = d.book.read ++ bytes; over = last })) u) d.pass
        (info_read (if last then Goes (Closing fd) else Goes (Going fd)) split n (Going fd) (answered (answer.Count count) bytes) d.book)
    by true = (h.0, h.1, refl)
    by false = (h.0, h.1, refl)
  info_goes split n fd (answer.Refused why.Fault) bytes u fit h = tt
  info_goes split n fd told bytes u fit h = absurd fit

  info_said : (n : ℕ) (fd : Fd) → t.letter ≡ Some (at_info n fd true) → is_info d.book.read ≡ true → said_at (needs.File (call.Close fd)) t.letter ≡ Some (record { n = n; sender = sender_in d.book.read })
  info_said n fd e is =
      ap (λ (o : Option Letter). said_at (needs.File (call.Close fd)) o) e
      ∙ ap (λ (x : Bool). said_if x (at_info n fd true)) (same_end fd.0)
      ∙ ap (λ (x : Bool). saying_by n (sender_if x d.book.read)) is

  -- the stats of the scan

  info_stated : (split n : ℕ) (told : Answer) (bytes : List ℕ) (u : Facts) → IsAnswerTo (call.Stat (path (Of InfoFile n))) told → S n (sender_in d.book.read) → IsSo (record u { births = stated (parse (path (Of InfoFile n))) told t.births })
      → Lands S (record u { births = stated (parse (path (Of InfoFile n))) told t.births }) d.pass (act_start (start.StatInfo split n) (answered told bytes) d.book)
  info_stated split n (answer.Stat stat) bytes u fit said h = (h.0, h.1, (said, ap (λ (o : Option Name). (stated o (answer.Stat stat) t.births).last) (parse-path (Of InfoFile n))))
  info_stated split n (answer.Refused why.NotThere) bytes u fit said h = (h.0, h.1, tt)
  info_stated split n (answer.Refused why.Fault) bytes u fit said h = tt
  info_stated split n told bytes u fit said h = absurd fit

  found_so : (n birth : ℕ) → t.births.last ≡ Some (record { n = n; moment = birth }) → found t.births.last n t.births.of ≡ put t.births.of n birth
  found_so n birth last = ap (λ (o : Option Birth). found o n t.births.of) last ∙ ap (λ (b : Bool). if b then put t.births.of n birth else t.births.of) (eq-eqb n n refl)

  remote_stated : (split n birth : ℕ) (local : Bool) (told : Answer) (bytes : List ℕ) (u : Facts) → IsAnswerTo (call.Stat (path (Of RemoteFile n))) told
      → S n (sender_in d.book.read) → t.births.last ≡ Some (record { n = n; moment = birth }) → Sound S t.births.of d.book.messages → u.papers ≡ Told d.book.controls
      → Lands S (record u { births = stated (Some (Of RemoteFile n)) told t.births }) d.pass (act_start (start.StatRemote split n birth local) (answered told bytes) d.book)
  remote_stated split n birth local (answer.Stat stat) bytes u fit said last h e =
      lands_learned S (record u { births = stated (Some (Of RemoteFile n)) (answer.Stat stat) t.births }) d.pass way.Fine split n birth local d.book
      (λ remote. subst (λ (of : ℕ → ℕ). Sound S of (learned (record { n = n; birth = birth; finish_at = 0; local = local; remote = remote; sender = sender_in d.book.read }) 0 d.book.messages)) (sym (found_so n birth last))
      (sound_learned S t.births.of (record { n = n; birth = birth; finish_at = 0; local = local; remote = remote; sender = sender_in d.book.read }) 0 d.book.messages said h)) e
  remote_stated split n birth local (answer.Refused why.NotThere) bytes u fit said last h e =
      lands_learned S (record u { births = stated (Some (Of RemoteFile n)) (answer.Refused why.NotThere) t.births }) d.pass way.Absent split n birth local d.book
      (λ remote. subst (λ (of : ℕ → ℕ). Sound S of (learned (record { n = n; birth = birth; finish_at = 0; local = local; remote = remote; sender = sender_in d.book.read }) 0 d.book.messages)) (sym (found_so n birth last))
      (sound_learned S t.births.of (record { n = n; birth = birth; finish_at = 0; local = local; remote = remote; sender = sender_in d.book.read }) 0 d.book.messages said h)) e
  remote_stated split n birth local (answer.Refused why.Fault) bytes u fit said last h e = tt
  remote_stated split n birth local told bytes u fit said last h e = absurd fit

  start_lands : (row : StartRow) (got : GotData) → MayCome (due_at (at.Start row) d) got → Heard (due_at (at.Start row) d) → KnowsAt S t (at.Start row) d → ToStart row got
  start_lands (start.Control file reading) got may heard k = control_lands file reading got may k.3 k.0
  start_lands start.GreetLocal got may heard k =
      let due : NeedData = due_at (at.Start start.GreetLocal) d in lands_local S (told_then due got) d.pass (said got).way (said got).bytes d.book k.0.0 (papers_still due got k.0.3)
  start_lands (start.GreetRemote limit) got may heard k =
      let due : NeedData = due_at (at.Start (start.GreetRemote limit)) d in lands_remote S (told_then due got) d.pass (said got).way (said got).bytes d.book k.0.0 (papers_still due got k.0.3)
  start_lands (start.Scan split) got may heard k =
      by_file (due_at (at.Start (start.Scan split)) d) tt (ToStart (start.Scan split)) got may (λ told fit.
      let due : NeedData = due_at (at.Start (start.Scan split)) d in
      lands_scanned S (told_then due (came.Answered told)) d.pass (answered told.answer told.bytes).way (answered told.answer told.bytes).bytes split d.book k.0.0 (papers_still due (came.Answered told) k.0.3))
  start_lands (start.StatTodo split n) got may heard k =
      by_file (due_at (at.Start (start.StatTodo split n)) d) tt (ToStart (start.StatTodo split n)) got may (λ told fit.
      let due : NeedData = due_at (at.Start (start.StatTodo split n)) d in
      let same : Sound S (told_then due (came.Answered told)).births.of d.book.messages =
      sound_still due (came.Answered told) (ap (λ (b : Births). b.of) (unstated (Of TodoFile n) (λ a c. refl) told.answer t.births)) k.0.0 in
      lands_way S (told_then due (came.Answered told)) d.pass (answered told.answer told.bytes).way (start.Scan split) (start.ReadInfo split n Opening) d.book
      (same, papers_still due (came.Answered told) k.0.3, tt) (same, papers_still due (came.Answered told) k.0.3, tt))
  start_lands (start.ReadInfo split n Opening) got may heard k =
      by_file (due_at (at.Start (start.ReadInfo split n Opening)) d) tt (ToStart (start.ReadInfo split n Opening)) got may (λ told fit.
      let due : NeedData = due_at (at.Start (start.ReadInfo split n Opening)) d in
      info_opens split n told.answer told.bytes (told_then due (came.Answered told)) fit (k.0.0, papers_still due (came.Answered told) k.0.3))
  start_lands (start.ReadInfo split n (Going fd)) got may heard k =
      by_file (due_at (at.Start (start.ReadInfo split n (Going fd))) d) tt (ToStart (start.ReadInfo split n (Going fd))) got may (λ told fit.
      let due : NeedData = due_at (at.Start (start.ReadInfo split n (Going fd))) d in
      let u : Facts = told_then due (came.Answered told) in
      let b : Book = act_start (start.ReadInfo split n (Going fd)) (answered told.answer told.bytes) d.book in
      subst (λ (o : Option Letter). Lands S (with_letter (read_more o fd (length d.book.read) 8192 told) u) d.pass b) (sym k.1)
      (subst (λ (x : Bool). Lands S (with_letter (if x then longer (at_info n fd false) 8192 told.answer told.bytes else Some (at_info n fd false)) u) d.pass b) (sym (same_place fd.0 (length d.book.read)))
      (info_goes split n fd told.answer told.bytes u fit (k.0.0, papers_still due (came.Answered told) k.0.3))))
  start_lands (start.ReadInfo split n (Closing fd)) got may heard k =
      by_file (due_at (at.Start (start.ReadInfo split n (Closing fd))) d) tt (ToStart (start.ReadInfo split n (Closing fd))) got may (λ told fit.
      let due : NeedData = due_at (at.Start (start.ReadInfo split n (Closing fd))) d in
      lands_info_row S (told_then due (came.Answered told)) d.pass (is_info d.book.read) split n d.book (λ is. heard n (sender_in d.book.read) (info_said n fd k.1 is)) k.0.0 (papers_still due (came.Answered told) k.0.3))
  start_lands (start.ReadInfo split n (Shutting fd)) got may heard k =
      lands_failed S (told_then (due_at (at.Start (start.ReadInfo split n (Shutting fd))) d) got) d.pass (said got).way d.book
  start_lands (start.StatInfo split n) got may heard k =
      by_file (due_at (at.Start (start.StatInfo split n)) d) tt (ToStart (start.StatInfo split n)) got may (λ told fit.
      let due : NeedData = due_at (at.Start (start.StatInfo split n)) d in
      info_stated split n told.answer told.bytes (told_then due (came.Answered told)) fit k.1
      (sound_still due (came.Answered told) (info_still t.births now n told.answer) k.0.0, papers_still due (came.Answered told) k.0.3))
  start_lands (start.StatLocal split n birth) got may heard k =
      by_file (due_at (at.Start (start.StatLocal split n birth)) d) tt (ToStart (start.StatLocal split n birth)) got may (λ told fit.
      let due : NeedData = due_at (at.Start (start.StatLocal split n birth)) d in
      let none : stated (parse (path (Of LocalFile n))) told.answer t.births ≡ t.births = unstated (Of LocalFile n) (λ a c. refl) told.answer t.births in
      let same : Sound S (told_then due (came.Answered told)).births.of d.book.messages = sound_still due (came.Answered told) (ap (λ (b : Births). b.of) none) k.0.0 in
      let last : (told_then due (came.Answered told)).births.last ≡ Some (record { n = n; moment = birth }) = ap (λ (b : Births). b.last) none ∙ k.1.1 in
      lands_way S (told_then due (came.Answered told)) d.pass (answered told.answer told.bytes).way (start.StatRemote split n birth true) (start.StatRemote split n birth false) d.book
      (same, papers_still due (came.Answered told) k.0.3, (k.1.0, last)) (same, papers_still due (came.Answered told) k.0.3, (k.1.0, last)))
  start_lands (start.StatRemote split n birth local) got may heard k =
      by_file (due_at (at.Start (start.StatRemote split n birth local)) d) tt (ToStart (start.StatRemote split n birth local)) got may (λ told fit.
      let due : NeedData = due_at (at.Start (start.StatRemote split n birth local)) d in
      subst (λ (o : Option Name). Lands S (record (told_then due (came.Answered told)) { births = stated o told.answer t.births }) d.pass (act_start (start.StatRemote split n birth local) (answered told.answer told.bytes) d.book))
      (sym (parse-path (Of RemoteFile n)))
      (remote_stated split n birth local told.answer told.bytes (told_then due (came.Answered told)) fit k.1.0 k.1.1 k.0.0 (papers_still due (came.Answered told) k.0.3)))
  start_lands start.Over got may heard k = absurd may
  start_lands (start.Ended status) got may heard k = absurd may

  asks : (row : StartRow) → KnowsAt S t (at.Start row) d → Asked S d.local.requests d.slots.local.left × Asked S d.remote.requests d.slots.remote.left
  asks (start.Control file reading) k = (k.1, k.2)
  asks start.GreetLocal k = (k.0.1, k.0.2)
  asks (start.GreetRemote limit) k = (k.0.1, k.0.2)
  asks (start.Scan split) k = (k.0.1, k.0.2)
  asks (start.StatTodo split n) k = (k.0.1, k.0.2)
  asks (start.ReadInfo split n reading) k = (k.0.1, k.0.2)
  asks (start.StatInfo split n) k = (k.0.1, k.0.2)
  asks (start.StatLocal split n birth) k = (k.0.1, k.0.2)
  asks (start.StatRemote split n birth local) k = (k.0.1, k.0.2)
  asks start.Over k = (k.0.1, k.0.2)
  asks (start.Ended status) k = (k.0.1, k.0.2)

  -- what it asks for doesn't change in the start
  asks_on : (row : StartRow) (got : GotData) → Where (at.Start row) d → Asked S d.local.requests d.slots.local.left × Asked S d.remote.requests d.slots.remote.left
      → let e : Desk = act (at.Start row) now got d in Asked S e.local.requests e.slots.local.left × Asked S e.remote.requests e.slots.remote.left
  asks_on (start.GreetRemote limit) got w a = (
    subst (λ (left : List Attempt). Asked S d.local.requests left) (ap (λ (s : Slots). s.local.left) w) a.0,
    subst (λ (left : List Attempt). Asked S d.remote.requests left) (ap (λ (s : Slots). s.remote.left) w) a.1,
  )
  asks_on (start.Control file reading) got w a = a
  asks_on start.GreetLocal got w a = a
  asks_on (start.Scan split) got w a = a
  asks_on (start.StatTodo split n) got w a = a
  asks_on (start.ReadInfo split n reading) got w a = a
  asks_on (start.StatInfo split n) got w a = a
  asks_on (start.StatLocal split n birth) got w a = a
  asks_on (start.StatRemote split n birth local) got w a = a
  asks_on start.Over got w a = a
  asks_on (start.Ended status) got w a = a

  start_knows : (row : StartRow) (got : GotData) → Where (at.Start row) d → ToStart row got → KnowsAt S t (at.Start row) d → To (at.Start row) got
  start_knows row got w x k =
      let a : (let e : Desk = act (at.Start row) now got d in Asked S e.local.requests e.slots.local.left × Asked S e.remote.requests e.slots.remote.left) = asks_on row got w (asks row k) in
      to_knows S (told_then (due_at (at.Start row) d) got) (start_at (act_start row (said got) d.book).row) (act (at.Start row) now got d) x a.0 a.1

  -- a todo pass

  abbrev ToPass : PassRow → Pass → GotData → Type 0
  ToPass row p got = Knows S (told_then (pass_table.due_at row p) got) (todo_went row got (moved_at d.book.controls row p now got) now d)

  stays_on : (row : PassRow) (p : Pass) (got : GotData) → IsBefore t.births now row → MayCome (pass_table.due_at row p) got → Heard (pass_table.due_at row p) → PassSays S t row p → Base S t d
      → Knows S (told_then (pass_table.due_at row p) got) (todo_on (moved_at d.book.controls row p now got).row (moved_at d.book.controls row p now got) now d)
  stays_on row p got is may heard says h =
      let q : Pass = moved_at d.book.controls row p now got in
      ok_on S (told_then (pass_table.due_at row p) got) q.row q now d (pass_next S d.book.controls now t row p got may heard says)
      (still (pass_table.due_at row p) got (pass_still t.births now row p got is may) h)

  same_bytes : (x : List ℕ) → bytes_eq x x ≡ true
  same_bytes x = (bytes_eq-Decides x x).1 refl

  passed_so : (p : Pass) → PassSays S t todo.Answer p → passed t.births.last t.births.command t.births.of ≡ put t.births.of p.n p.birth
  passed_so p says =
      ap (λ (o : Option Birth). passed o t.births.command t.births.of) says.1
      ∙ ap (λ (text : List ℕ). if bytes_eq text (command_text p.n) then put t.births.of p.n p.birth else t.births.of) says.2
      ∙ ap (λ (b : Bool). if b then put t.births.of p.n p.birth else t.births.of) (same_bytes (command_text p.n))

  abbrev cleaned_facts : Bool → GotData → Facts
  cleaned_facts good got = record (told_then (needs.Take port.Clean) got) { births = cleaned good t.births }

  answered_so : (good : Bool) (got : GotData) (p : Pass) → PassSays S t todo.Answer p → Base S t d
      → Knows S (cleaned_facts good got) (todo_over (if good then todo.Done else todo.Left left.Unclean) (pass_table.goes p (if good then todo.Done else todo.Left left.Unclean)) now d)
  answered_so true got p says h = ok_over_pass S (cleaned_facts true got) todo.Done (pass_table.goes p todo.Done) now d
      (λ e. (
        subst (λ (of : ℕ → ℕ). Sound S of (learned (known_of (pass_table.goes p todo.Done)) now d.book.messages)) (sym (passed_so p says))
            (sound_learned S t.births.of (known_of (pass_table.goes p todo.Done)) now d.book.messages says.0 h.0),
        h.1,
        h.2,
        papers_still (needs.Take port.Clean) got h.3,
      ))
      (λ e. absurd (cc))
  answered_so false got p says h = ok_over_pass S (cleaned_facts false got) (todo.Left left.Unclean) (pass_table.goes p (todo.Left left.Unclean)) now d
      (λ e. absurd (cc))
      (λ e. (tt, (h.0, h.1, h.2, papers_still (needs.Take port.Clean) got h.3)))

  answer_knows : (p : Pass) (got : GotData) → MayCome (pass_table.due_at todo.Answer p) got → PassSays S t todo.Answer p → Base S t d → ToPass todo.Answer p got
  answer_knows p (came.Took bytes) may says h = answered_so (bytes_eq bytes (43 ∷ [])) (came.Took bytes) p says h
  answer_knows p came.End may says h = tt
  answer_knows p came.Failed may says h = tt
  answer_knows p (came.Answered told) may says h = absurd may
  answer_knows p (came.Ended status) may says h = absurd may
  answer_knows p came.Crashed may says h = absurd may
  answer_knows p came.Gave may says h = absurd may
  answer_knows p (came.Started pid) may says h = absurd may
  answer_knows p came.Memory may says h = absurd may

  pass_knows : (row : PassRow) (p : Pass) (got : GotData) → MayCome (pass_table.due_at row p) got → Heard (pass_table.due_at row p) → PassSays S t row p → Base S t d → ToPass row p got
  pass_knows todo.Answer p got may heard says h = answer_knows p got may says h
  pass_knows (todo.Clear part) p got may heard says h = stays_on (todo.Clear part) p got tt may heard says h
  pass_knows todo.StatMess p got may heard says h = stays_on todo.StatMess p got tt may heard says h
  pass_knows todo.OpenTodo p got may heard says h = stays_on todo.OpenTodo p got tt may heard says h
  pass_knows (todo.ReadTodo fd) p got may heard says h = stays_on (todo.ReadTodo fd) p got tt may heard says h
  pass_knows (todo.CloseTodo fd) p got may heard says h = stays_on (todo.CloseTodo fd) p got tt may heard says h
  pass_knows (todo.Create part) p got may heard says h = stays_on (todo.Create part) p got tt may heard says h
  pass_knows (todo.Append part fd done) p got may heard says h = stays_on (todo.Append part fd done) p got tt may heard says h
  pass_knows (todo.Sync part fd) p got may heard says h = stays_on (todo.Sync part fd) p got tt may heard says h
  pass_knows (todo.Close part fd) p got may heard says h = stays_on (todo.Close part fd) p got tt may heard says h
  pass_knows (todo.Shut fd why) p got may heard says h = stays_on (todo.Shut fd why) p got tt may heard says h
  pass_knows todo.Give p got may heard says h = stays_on todo.Give p got tt may heard says h
  pass_knows todo.Done p got may heard says h = absurd may
  pass_knows (todo.Left why) p got may heard says h = absurd may
  pass_knows todo.Lost p got may heard says h = absurd may

  -- a finish and the sweep

  finish_says : (row : FinishRow) (n : ℕ) (got : GotData) → MayCome (due_at (at.Finish row n) d) got → FinishSays S (told_then (due_at (at.Finish row n) d) got) (finish_to row (said got).way) n
  finish_says finish.OpenBounce n got may = tt
  finish_says finish.Return n got may = tt
  finish_says finish.UnlinkInfo n got may = by (said got).way where
    by : (w : Way) → FinishSays S (told_then (due_at (at.Finish finish.UnlinkInfo n) d) got) (finish_to finish.UnlinkInfo w) n
    by way.Fine = tt
    by way.Over = tt
    by way.Absent = tt
    by way.Broken = tt
    by way.NoMemory = tt
  finish_says finish.Give n came.Gave may = refl
  finish_says finish.Give n came.Failed may = tt
  finish_says finish.Give n (came.Answered told) may = absurd may
  finish_says finish.Give n (came.Took bytes) may = absurd may
  finish_says finish.Give n came.End may = absurd may
  finish_says finish.Give n (came.Ended status) may = absurd may
  finish_says finish.Give n came.Crashed may = absurd may
  finish_says finish.Give n (came.Started pid) may = absurd may
  finish_says finish.Give n came.Memory may = absurd may
  finish_says finish.Take n got may = by (said got).way where
    by : (w : Way) → FinishSays S (told_then (due_at (at.Finish finish.Take n) d) got) (finish_to finish.Take w) n
    by way.Fine = tt
    by way.Over = tt
    by way.Absent = tt
    by way.Broken = tt
    by way.NoMemory = tt
  finish_says finish.Later n got may = absurd may
  finish_says finish.Over n got may = absurd may
  finish_says finish.Lost n got may = absurd may

  taken_so : (row : FinishRow) (n : ℕ) → FinishSays S t row n → row ≡ finish.Take → t.births.command ≡ remove_text n
  taken_so row n says e = subst (λ (x : FinishRow). FinishSays S t x n) e says

  module _ (u : Facts) where
    swept_on : (more : Bool) (split : ℕ) → SweepSays S u (if more then sweep.Next (split + 1) else sweep.Over)
    swept_on true split = tt
    swept_on false split = tt

    swept_says : (w : Way) (text : List ℕ) (split : ℕ) → SweepSays S u (swept w text split d.book)
    swept_says way.Fine text split = by (message_number text) where
      known : (b : Bool) (n : ℕ) → SweepSays S u (if b then sweep.Next split else sweep.StatMess split n)
      known true n = tt
      known false n = tt

      by : (o : Option ℕ) → SweepSays S u (sweep_row o split d.book.messages.known)
      by None = tt
      by (Some n) = known (is_known n d.book.messages.known) n
    swept_says way.Over text split = swept_on (nat_lt split 22) split
    swept_says way.Absent text split = swept_on (nat_lt split 22) split
    swept_says way.Broken text split = swept_on (nat_lt split 22) split
    swept_says way.NoMemory text split = swept_on (nat_lt split 22) split

    mess_says : (w : Way) (split n moment : ℕ) → SweepSays S u (mess_stated w split n moment now)
    mess_says way.Fine split n moment = by (nat_lt (moment + PID_NAME_AGE) now) where
      by : (b : Bool) → SweepSays S u (if b then sweep.StatTodo split n else sweep.Next split)
      by true = tt
      by false = tt
    mess_says way.Over split n moment = tt
    mess_says way.Absent split n moment = tt
    mess_says way.Broken split n moment = tt
    mess_says way.NoMemory split n moment = tt

    todo_says : (w : Way) (split n : ℕ) → SweepSays S u (todo_stated w split n)
    todo_says way.Fine split n = tt
    todo_says way.Over split n = tt
    todo_says way.Absent split n = tt
    todo_says way.Broken split n = tt
    todo_says way.NoMemory split n = tt

    info_says : (w : Way) (split n : ℕ) (todo : Bool) → SweepSays S u (info_stated_in w split n todo)
    info_says way.Fine split n todo = tt
    info_says way.Over split n todo = tt
    info_says way.Absent split n true = tt
    info_says way.Absent split n false = tt
    info_says way.Broken split n todo = tt
    info_says way.NoMemory split n todo = tt

    taken_says : (w : Way) (split : ℕ) → SweepSays S u (sweep_taken w split)
    taken_says way.Fine split = tt
    taken_says way.Over split = tt
    taken_says way.Absent split = tt
    taken_says way.Broken split = tt
    taken_says way.NoMemory split = tt

  sweep_leads : (row : SweepRow) (got : GotData) → MayCome (due_at (at.Sweep row) d) got → SweepSays S (told_then (due_at (at.Sweep row) d) got) (sweep_to row now (said got) d.book)
  sweep_leads sweep.First got may = swept_says (told_then (due_at (at.Sweep sweep.First) d) got) (said got).way (said got).bytes 0
  sweep_leads (sweep.Next split) got may = swept_says (told_then (due_at (at.Sweep (sweep.Next split)) d) got) (said got).way (said got).bytes split
  sweep_leads (sweep.StatMess split n) got may = mess_says (told_then (due_at (at.Sweep (sweep.StatMess split n)) d) got) (said got).way split n (said got).stat.moment
  sweep_leads (sweep.StatTodo split n) got may = todo_says (told_then (due_at (at.Sweep (sweep.StatTodo split n)) d) got) (said got).way split n
  sweep_leads (sweep.StatInfo split n todo) got may = info_says (told_then (due_at (at.Sweep (sweep.StatInfo split n todo)) d) got) (said got).way split n todo
  sweep_leads (sweep.Give split n) came.Gave may = refl
  sweep_leads (sweep.Give split n) came.Failed may = tt
  sweep_leads (sweep.Give split n) (came.Answered told) may = absurd may
  sweep_leads (sweep.Give split n) (came.Took bytes) may = absurd may
  sweep_leads (sweep.Give split n) came.End may = absurd may
  sweep_leads (sweep.Give split n) (came.Ended status) may = absurd may
  sweep_leads (sweep.Give split n) came.Crashed may = absurd may
  sweep_leads (sweep.Give split n) (came.Started pid) may = absurd may
  sweep_leads (sweep.Give split n) came.Memory may = absurd may
  sweep_leads (sweep.Take split n) got may = taken_says (told_then (due_at (at.Sweep (sweep.Take split n)) d) got) (said got).way split
  sweep_leads sweep.Over got may = absurd may
  sweep_leads sweep.Lost got may = absurd may

  sweep_answered : (row : SweepRow) → SweepSays S t row → IsAnswered t.births now row
  sweep_answered sweep.First says = tt
  sweep_answered (sweep.Next split) says = tt
  sweep_answered (sweep.StatMess split n) says = tt
  sweep_answered (sweep.StatTodo split n) says = tt
  sweep_answered (sweep.StatInfo split n todo) says = tt
  sweep_answered (sweep.Give split n) says = tt
  sweep_answered (sweep.Take split n) says = says
  sweep_answered sweep.Over says = tt
  sweep_answered sweep.Lost says = tt

  -- each row

  plain : (row : Row) (got : GotData) → IsPlain t.births now row → MayCome (due_at row d) got → Base S t d → Base S (told_then (due_at row d) got) d
  plain row got is may h = still (due_at row d) got (row_still t.births now row d got is may) h

  pub row_knows : (row : Row) (got : GotData) → Where row d → MayCome (due_at row d) got → Heard (due_at row d) → KnowsAt S t row d → To row got
  row_knows (at.Start row) got w may heard k = start_knows row got w (start_lands row got may heard k) k
  row_knows (at.Turn p) got w may heard k = absurd may
  row_knows (at.TakeLink c) got w may heard k = ok_took S (told_then (due_at (at.TakeLink c) d) got) (said got).way (said got).bytes c d (plain (at.TakeLink c) got tt may k.0)
  row_knows (at.Mark row m) got w may heard k = ok_mark S (told_then (due_at (at.Mark row m) d) got) row m got d (plain (at.Mark row m) got tt may k.0)
  row_knows (at.UnlinkFile c n p) got w may heard k = ok_unlinked S (told_then (due_at (at.UnlinkFile c n p) d) got) (said got).way c n p now d (plain (at.UnlinkFile c n p) got tt may k.0)
  row_knows (at.ReadFile c n begun reading) got w may heard k =
      ok_file S (told_then (due_at (at.ReadFile c n begun reading) d) got) (read_on reading (said got)) c n (begun_at reading begun now) reading now (said got) d k.1 (plain (at.ReadFile c n begun reading) got tt may k.0)
  row_knows (at.Request c) got w may heard k = ok_requested S (told_then (due_at (at.Request c) d) got) (said got).way c w.0 w.1 d w.2 w.3 (plain (at.Request c) got tt may k.0)
  row_knows (at.FindTodo search) got w may heard k =
      ok_named S (told_then (due_at (at.FindTodo search) d) got) (said got).way (said got).bytes search now d (plain (at.FindTodo search) got tt may k.0)
  row_knows at.InTodo got w may heard k = pass_knows d.pass.row d.pass got may heard k.1 k.0
  row_knows (at.Finish row n) got w may heard k =
      ok_finish S (told_then (due_at (at.Finish row n) d) got) row n now got d (finish_says row n got may) (still (due_at (at.Finish row n) d) got (finish_still t.births now row n d got (taken_so row n k.1) may) k.0)
  row_knows (at.Sweep row) got w may heard k =
      let due : NeedData = due_at (at.Sweep row) d in
      ok_swept S (told_then due got) (sweep_to row now (said got) d.book) (looked_up row (said got) (sweep_begun row now d)) (sweep_leads row got may)
      (base_looked S (told_then due got) row (said got) now d (still due got (sweep_still t.births now row d got (sweep_answered row k.1) may) k.0))
  row_knows (at.Ended status) got w may heard k = absurd may

-- Between two steps

module _ (S : ℕ → List ℕ → Type 0) (t : Facts) (d : Desk) (now : ℕ) (ready : Ready) where
  abbrev At : Row → Type 0
  At row = KnowsAt S t row d

  abbrev AtIf : Option Row → Type 0
  AtIf None = Unit {0}
  AtIf (Some row) = At row

  module _ (h : Base S t d) where
    or_says : (o : Option Row) (row : Row) → AtIf o → At row → At (or_else o row)
    or_says None row p q = q
    or_says (Some first) row p q = p

    taking_says : (c : Channel) → AtIf (taking c ready)
    taking_says c = by (holds (slice_get ready.links (link_of c))) where
      by : (b : Bool) → AtIf (if b then Some (at.TakeLink c) else None)
      by true = (h, tt)
      by false = tt

    marking_says : (c : Channel) (o : Option Mark) → AtIf (marking_by c o)
    marking_says c None = tt
    marking_says c (Some it) = (h, tt)

    going_says : (c : Channel) (o : Option ℕ) → AtIf (going_on c o)
    going_says c None = tt
    going_says c (Some slot) = (h, tt)

    beginning_says : (c : Channel) (may : Bool) (o : Option (ℕ × ℕ)) → first_due now (due_on c d.book.messages) ≡ o → AtIf (beginning c may o)
    beginning_says c false o e = tt
    beginning_says c true None e = tt
    beginning_says Local true (Some x) e = (h, h.0.1 x.1 (first_is_due now d.book.messages.local x e))
    beginning_says Remote true (Some x) e = (h, h.0.2 x.1 (first_is_due now d.book.messages.remote x e))

    passing_says : (c : Channel) (may : Bool) → AtIf (passing c may d now)
    passing_says c may = by (is_some (next (lane c d.slots))) where
      by : (b : Bool) → AtIf (if b then going_on c (lowest (lane c d.slots).slots) else beginning c may (first_due now (due_on c d.book.messages)))
      by true = going_says c (lowest (lane c d.slots).slots)
      by false = beginning_says c may (first_due now (due_on c d.book.messages)) refl

    finishing_says : (o : Option ℕ) → AtIf (finishing_by o)
    finishing_says None = tt
    finishing_says (Some n) = (h, tt)

    sweeping_says : AtIf (sweeping d now)
    sweeping_says = by (sweep_due now d.swept) where
      by : (b : Bool) → AtIf (if b then Some (at.Sweep sweep.First) else None)
      by true = (h, tt)
      by false = tt

    remote_says : (may : Bool) → At (from_remote may d now)
    remote_says may = or_says (passing Remote may d now) (at.FindTodo searches.AfterLeft) (passing_says Remote may) (h, tt)

    local_says : (may : Bool) → At (from_local may d now)
    local_says may = or_says (passing Local may d now) (from_remote true d now) (passing_says Local may) (remote_says true)

    reports_says : At (from_reports d now)
    reports_says = or_says (marking Local d) (or_else (marking Remote d) (from_local true d now)) (marking_says Local (slice_get (lane Local d.slots).marks 0))
        (or_says (marking Remote d) (from_local true d now) (marking_says Remote (slice_get (lane Remote d.slots).marks 0)) (local_says true))

    take_says : At (from_take d now ready)
    take_says = or_says (taking Remote ready) (from_reports d now) (taking_says Remote) reports_says

    begin_says : At (from_begin d now ready)
    begin_says = or_says (taking Local ready) (from_take d now ready) (taking_says Local) take_says

    sweep_says : At (from_sweep d now ready)
    sweep_says = or_says (sweeping d now) (from_begin d now ready) sweeping_says begin_says

    point_says : (p : Point) → At (from_point p d now ready)
    point_says point.TakeLocal = begin_says
    point_says point.TakeRemote = take_says
    point_says point.Reports = reports_says
    point_says (point.Pass Local may) = local_says may
    point_says (point.Pass Remote may) = remote_says may
    point_says point.Finish = or_says (finishing d now) (from_sweep d now ready) (finishing_says (next_idle now d)) sweep_says
    point_says point.Sweep = sweep_says

  pub arrive_says : (row : Row) → At row → At (arrive row d now ready)
  arrive_says (at.Turn p) k = point_says k.0 p
  arrive_says (at.Sweep row) k = k
  arrive_says (at.Start row) k = k
  arrive_says (at.TakeLink c) k = k
  arrive_says (at.Mark row m) k = k
  arrive_says (at.UnlinkFile c n p) k = k
  arrive_says (at.ReadFile c n begun reading) k = k
  arrive_says (at.Request c) k = k
  arrive_says (at.FindTodo search) k = k
  arrive_says at.InTodo k = k
  arrive_says (at.Finish row n) k = k
  arrive_says (at.Ended status) k = k

-- A request

some_same : (x y : Attempt) → ◌≡◌ {A = Option Attempt} (Some x) (Some y) → x ≡ y
some_same x y e = cc

pub asked_first : (S : ℕ → List ℕ → Type 0) (slot : ℕ) (a : Attempt) (texts : List (List ℕ)) (left : List Attempt) → Asked S texts left → slice_get left 0 ≡ Some a → addressed (Some slot) texts ≡ texts
    → (sender : List ℕ) × S a.n sender × (first_text texts ≡ to_slot slot (request_of a.n sender a.address))
asked_first S slot a [] [] h e w = absurd (cc)
asked_first S slot a (text ∷ texts) [] h e w = absurd h
asked_first S slot a [] (b ∷ left) h e w = absurd h
asked_first S slot a (text ∷ texts) (b ∷ left) h e w = (
  h.0.1,
  subst (λ (x : Attempt). S x.n h.0.1) (some_same b a e) h.0.2,
  sym (ap first_text w) ∙ ap (to_slot slot) h.0.3 ∙ ap (λ (x : Attempt). to_slot slot (request_of x.n h.0.1 x.address)) (some_same b a e),
)

-- what was said before was said later

module _ (S T : ℕ → List ℕ → Type 0) (f : (n : ℕ) (sender : List ℕ) → S n sender → T n sender) (t : Facts) where
  start_more : (row : StartRow) (read : List ℕ) → StartSays S t row read → StartSays T t row read
  start_more (start.StatInfo split n) read h = f n (sender_in read) h
  start_more (start.StatLocal split n birth) read h = (f n (sender_in read) h.0, h.1)
  start_more (start.StatRemote split n birth local) read h = (f n (sender_in read) h.0, h.1)
  start_more (start.ReadInfo split n Opening) read h = h
  start_more (start.ReadInfo split n (Going fd)) read h = h
  start_more (start.ReadInfo split n (Closing fd)) read h = h
  start_more (start.ReadInfo split n (Shutting fd)) read h = h
  start_more (start.Control file reading) read h = h
  start_more start.GreetLocal read h = h
  start_more (start.GreetRemote limit) read h = h
  start_more (start.Scan split) read h = h
  start_more (start.StatTodo split n) read h = h
  start_more start.Over read h = h
  start_more (start.Ended status) read h = h

  pass_more : (row : PassRow) (p : Pass) → PassSays S t row p → PassSays T t row p
  pass_more (todo.Clear part) p h = h
  pass_more todo.StatMess p h = h
  pass_more todo.OpenTodo p h = h
  pass_more (todo.ReadTodo fd) p h = h
  pass_more (todo.CloseTodo fd) p h = h
  pass_more (todo.Create target.Info) p h = f p.n p.sorted.sender h
  pass_more (todo.Create target.Local) p h = (f p.n p.sorted.sender h.0, h.1)
  pass_more (todo.Create target.Remote) p h = (f p.n p.sorted.sender h.0, h.1)
  pass_more (todo.Append target.Info fd done) p h = (f p.n p.sorted.sender h.0, h.1)
  pass_more (todo.Append target.Local fd done) p h = (f p.n p.sorted.sender h.0, h.1, h.2)
  pass_more (todo.Append target.Remote fd done) p h = (f p.n p.sorted.sender h.0, h.1, h.2)
  pass_more (todo.Sync part fd) p h = (f p.n p.sorted.sender h.0, h.1)
  pass_more (todo.Close part fd) p h = (f p.n p.sorted.sender h.0, h.1)
  pass_more (todo.Shut fd why) p h = h
  pass_more todo.Give p h = (f p.n p.sorted.sender h.0, h.1)
  pass_more todo.Answer p h = (f p.n p.sorted.sender h.0, h.1, h.2)
  pass_more todo.Done p h = h
  pass_more (todo.Left why) p h = h
  pass_more todo.Lost p h = h

  control_more : (file : ControlFile) (reading : Reading) (b : Book) → ControlSays S t file reading b → ControlSays T t file reading b
  control_more file Opening b h = h
  control_more file (Going fd) b h = h
  control_more file (Closing fd) b h = h
  control_more file (Shutting fd) b h = h

  first_more : (row : StartRow) (d : Desk) → KnowsAt S t (at.Start row) d → KnowsAt T t (at.Start row) d
  first_more (start.Control file reading) d k = (
    (each_more S T f d.book.messages.known k.0.0, k.0.1, k.0.2, k.0.3),
    asked_more S T f d.local.requests d.slots.local.left k.1,
    asked_more S T f d.remote.requests d.slots.remote.left k.2,
    control_more file reading d.book k.3,
  )
  first_more (start.StatInfo split n) d k = (base_more S T f t d k.0, start_more (start.StatInfo split n) d.book.read k.1)
  first_more (start.StatLocal split n birth) d k = (base_more S T f t d k.0, start_more (start.StatLocal split n birth) d.book.read k.1)
  first_more (start.StatRemote split n birth local) d k = (base_more S T f t d k.0, start_more (start.StatRemote split n birth local) d.book.read k.1)
  first_more (start.ReadInfo split n reading) d k = (base_more S T f t d k.0, start_more (start.ReadInfo split n reading) d.book.read k.1)
  first_more start.GreetLocal d k = (base_more S T f t d k.0, tt)
  first_more (start.GreetRemote limit) d k = (base_more S T f t d k.0, tt)
  first_more (start.Scan split) d k = (base_more S T f t d k.0, tt)
  first_more (start.StatTodo split n) d k = (base_more S T f t d k.0, tt)
  first_more start.Over d k = (base_more S T f t d k.0, tt)
  first_more (start.Ended status) d k = (base_more S T f t d k.0, tt)

  finish_more : (row : FinishRow) (n : ℕ) → FinishSays S t row n → FinishSays T t row n
  finish_more finish.Take n h = h
  finish_more finish.OpenBounce n h = tt
  finish_more finish.Return n h = tt
  finish_more finish.UnlinkInfo n h = tt
  finish_more finish.Give n h = tt
  finish_more finish.Later n h = tt
  finish_more finish.Over n h = tt
  finish_more finish.Lost n h = tt

  sweep_more : (row : SweepRow) → SweepSays S t row → SweepSays T t row
  sweep_more (sweep.Take split n) h = h
  sweep_more sweep.First h = tt
  sweep_more (sweep.Next split) h = tt
  sweep_more (sweep.StatMess split n) h = tt
  sweep_more (sweep.StatTodo split n) h = tt
  sweep_more (sweep.StatInfo split n todo) h = tt
  sweep_more (sweep.Give split n) h = tt
  sweep_more sweep.Over h = tt
  sweep_more sweep.Lost h = tt

  pub knows_more : (row : Row) (d : Desk) → KnowsAt S t row d → KnowsAt T t row d
  knows_more (at.Start row) d k = first_more row d k
  knows_more at.InTodo d k = (base_more S T f t d k.0, pass_more d.pass.row d.pass k.1)
  knows_more (at.Turn p) d k = (base_more S T f t d k.0, tt)
  knows_more (at.TakeLink c) d k = (base_more S T f t d k.0, tt)
  knows_more (at.Mark row m) d k = (base_more S T f t d k.0, tt)
  knows_more (at.UnlinkFile c n p) d k = (base_more S T f t d k.0, tt)
  knows_more (at.ReadFile c n begun reading) d k = (base_more S T f t d k.0, k.1)
  knows_more (at.Request c) d k = (base_more S T f t d k.0, tt)
  knows_more (at.FindTodo search) d k = (base_more S T f t d k.0, tt)
  knows_more (at.Finish row n) d k = (base_more S T f t d k.0, finish_more row n k.1)
  knows_more (at.Sweep row) d k = (base_more S T f t d k.0, sweep_more row k.1)
  knows_more (at.Ended status) d k = tt

-- the next request's slot doesn't matter
pub knows_ready : (S : ℕ → List ℕ → Type 0) (t : Facts) (row : Row) (d : Desk) → KnowsAt S t row d → KnowsAt S t row (made_ready d)
knows_ready S t (at.Start row) d k = by row k where
  by : (row : StartRow) → KnowsAt S t (at.Start row) d → KnowsAt S t (at.Start row) (made_ready d)
  by (start.Control file reading) k = (
    k.0,
    asked_addressed S (lowest d.slots.local.slots) d.local.requests d.slots.local.left k.1,
    asked_addressed S (lowest d.slots.remote.slots) d.remote.requests d.slots.remote.left k.2,
    by_reading reading k.3,
  )
    where
      by_reading : (reading : Reading) → ControlSays S t file reading d.book → ControlSays S t file reading (made_ready d).book
      by_reading Opening h = h
      by_reading (Going fd) h = h
      by_reading (Closing fd) h = h
      by_reading (Shutting fd) h = h
  by start.GreetLocal k = (base_ready S t d k.0, k.1)
  by (start.GreetRemote limit) k = (base_ready S t d k.0, k.1)
  by (start.Scan split) k = (base_ready S t d k.0, k.1)
  by (start.StatTodo split n) k = (base_ready S t d k.0, k.1)
  by (start.ReadInfo split n reading) k = (base_ready S t d k.0, k.1)
  by (start.StatInfo split n) k = (base_ready S t d k.0, k.1)
  by (start.StatLocal split n birth) k = (base_ready S t d k.0, k.1)
  by (start.StatRemote split n birth local) k = (base_ready S t d k.0, k.1)
  by start.Over k = (base_ready S t d k.0, k.1)
  by (start.Ended status) k = (base_ready S t d k.0, k.1)
knows_ready S t at.InTodo d k = (base_ready S t d k.0, k.1)
knows_ready S t (at.Turn p) d k = (base_ready S t d k.0, k.1)
knows_ready S t (at.TakeLink c) d k = (base_ready S t d k.0, k.1)
knows_ready S t (at.Mark row m) d k = (base_ready S t d k.0, k.1)
knows_ready S t (at.UnlinkFile c n p) d k = (base_ready S t d k.0, k.1)
knows_ready S t (at.ReadFile c n begun reading) d k = (base_ready S t d k.0, k.1)
knows_ready S t (at.Request c) d k = (base_ready S t d k.0, k.1)
knows_ready S t (at.FindTodo search) d k = (base_ready S t d k.0, k.1)
knows_ready S t (at.Finish row n) d k = (base_ready S t d k.0, k.1)
knows_ready S t (at.Sweep row) d k = (base_ready S t d k.0, k.1)
knows_ready S t (at.Ended status) d k = tt
