-- Exactly when messages are due.
use Rattle.bounce_record.specs.Returning.{return_begun}
use Rattle.bounce_record.specs.Writing.{Writing}
use Rattle.call_fs.specs.Columns.{IsAnswerTo}
use Rattle.call_fs.specs.Disk.{Among}
use Rattle.call_fs.specs.Past.{IsRunBy}
use Rattle.call_fs.specs.Program.{MayCome}
use Rattle.call_fs.specs.declared.calls.Answer.TheVariants as answer
use Rattle.call_fs.specs.declared.calls.Answer.{Answer}
use Rattle.call_fs.specs.declared.calls.CallData.TheVariants as call
use Rattle.call_fs.specs.declared.calls.FsError.TheVariants as why
use Rattle.call_fs.specs.declared.calls.Told.{Told}
use Rattle.call_fs.specs.declared.file_system.TheConstants.{PIECE}
use Rattle.call_fs.specs.declared.past.GotData.{GotData}
use Rattle.call_fs.specs.declared.past.NeedData.TheVariants as needs
use Rattle.call_fs.specs.declared.past.NeedData.{NeedData}
use Rattle.call_fs.specs.declared.past.Own.{Own}
use Rattle.call_fs.specs.declared.program.Port.TheVariants as port
use Rattle.call_fs.specs.declared.program.Ready.{Ready}
use Rattle.queue_paths.proofs.Paths.{parse-path}
use Rattle.queue_paths.specs.Names.Name.{Of as NameOf}
use Rattle.queue_paths.specs.Names.Part.{Remote as RemoteFile}
use Rattle.queue_paths.specs.Names.{Name, parse, path}
use Rattle.send_core.proofs.Agreed.{lanes_agree}
use Rattle.send_core.proofs.Asked.{Facts, FinishSays, KnowsAt, PassSays, SweepSays}
use Rattle.send_core.proofs.Coming.{by_file}
use Rattle.send_core.proofs.Runs.{Was, all_kept, facts, frees, gives_requests, keeps}
use Rattle.send_core.proofs.Says.{arrive_says}
use Rattle.send_core.proofs.Standing.{FitAt, arrives}
use Rattle.send_core.proofs.Turns.{same_end}
use Rattle.send_core.specs.Agrees.{Agrees, has_ended, is_opened, task_of}
use Rattle.send_core.specs.Births.{births, births_by}
use Rattle.send_core.specs.Desk.{is_dying, later, link, stands_at, with_requests}
use Rattle.send_core.specs.Finish.{bounce_on, forgot, looked_up, put_off_to, returned_to, sweep_begun}
use Rattle.send_core.specs.Laws.{IsRequest}
use Rattle.send_core.specs.Past.{Account, Source, Task, Work, account, account_by, closed as close_of, closed_if, given, happening, tasks_in, whole_of, work}
use Rattle.send_core.specs.Senders.{IsSaid}
use Rattle.send_core.specs.Start.{start_at, started}
use Rattle.send_core.specs.Table.{Next, act, arrive, busy, place_after, due_at, from_point, port_of, row_now}
use Rattle.send_core.specs.Turn.{file_read, known_of, todo_on, todo_over, todo_went}
use Rattle.send_core.specs.declared.desk.Desk.{Desk}
use Rattle.send_parts.specs.declared.row.MarkRow.{MarkRow}
use Rattle.send_parts.specs.declared.row.Marked.{Marked}
use Rattle.send_parts.specs.declared.row.Point.TheVariants as point
use Rattle.send_parts.specs.declared.row.Row.TheVariants as at
use Rattle.send_parts.specs.declared.row.Row.{Row}
use Rattle.send_jobs.specs.Jobs.{job_of}
use Rattle.send_jobs.specs.Lanes.{is_in_flight, next, sent, sent_in}
use Rattle.send_jobs.specs.Sending.{at_lane, lane, next_delivery, none_out, sent_as, sent_on}
use Rattle.send_jobs.specs.Slots.{lowest}
use Rattle.send_jobs.specs.Tries.{due_on}
use Rattle.send_jobs.specs.declared.attempts.Attempt.{Attempt}
use Rattle.send_known.specs.declared.channel.Channel.TheVariants.{Local, Remote}
use Rattle.send_known.specs.declared.channel.Channel.{Channel}
use Rattle.send_jobs.specs.declared.jobs.Job.{Job}
use Rattle.send_jobs.specs.declared.lane.Lane.{Lane}
use Rattle.send_jobs.specs.declared.slots.Slots.{Slots}
use Rattle.send_known.specs.Messages.{learned}
use Rattle.send_known.specs.declared.known.Known.{Known}
use Rattle.send_known.specs.declared.messages.Messages.{Messages}
use Rattle.send_runs.proofs.BeforeAnswer.{IsBefore}
use Rattle.send_runs.proofs.Bridges.{few_row, flies_is}
use Rattle.send_runs.proofs.Calm.{IsFresh, point_fresh}
use Rattle.send_runs.proofs.Clearing.{ClearedAt, PassCleared, cleared_here}
use Rattle.send_runs.proofs.DueLists.{Dues, dues_forgotten, dues_learned}
use Rattle.send_runs.proofs.DueRows.{Born, DueBy, Ended, Moments, Out, OverAt, PassBy, Shifts, To, base, closing_out, due_of, ended_is, ended_quiet, failed_out, free_opened, going_on, kept_out, lost_ended, mark_out, opens_out, out_of, same_due, same_out, steady_if, take_out, unlink_out}
use Rattle.send_runs.proofs.Fates.{is_unlinking, over}
use Rattle.send_runs.proofs.Giving.{AreOfOne, gives_same, one_to_give, own_row}
use Rattle.send_runs.proofs.Kept.{IsStill, Kept, fresh_free, kept_row}
use Rattle.send_runs.proofs.Knowing.{give_not_over, info_not_over, not_over, one_passed, same_texts}
use Rattle.send_runs.proofs.Passing.{Gone, IsSteady, Lands, States, begun_at, first_begun, free_unlinking, kept_state, quiet_steady, steady_none, steady_same}
use Rattle.send_runs.proofs.Quiet.{IsGoing, IsQuiet, differs, either_goes, quiet_finish, quiet_give, quiet_pass, quiet_start, quiet_sweep}
use Rattle.send_runs.proofs.Steady.{Of, of_finish_at, of_looked, of_named, of_on, of_over_pass, of_swept, sent_jobs, start_book}
use Rattle.send_runs.proofs.Trials.{IsIdle, TrialAt, arrives_trial, row_idle, trial_kept}
use Rattle.send_runs.proofs.Unlinks.{sent_busy, unlinks_row}
use Rattle.send_runs.specs.DueMoments.Shift.{Learns, Same}
use Rattle.send_runs.specs.DueMoments.{Shift, Trial, closed, found, has_unlinked, is_unlink, is_whole, shift, shift_by, shift_if, trial}
use Rattle.send_runs.specs.Dues.{DueExactly, due_by, due_in, flies, is_marking, is_over, is_task, over_at, pass_in, retry_at, unlinks}
use Rattle.send_links.specs.Records.{records_of}
use Rattle.send_parts.specs.Files.{sender_in}
use Rattle.send_parts.specs.Finish.{finish_to}
use Rattle.send_parts.specs.Readings.{read_more, read_on}
use Rattle.send_parts.specs.Replies.{answered as replied, said}
use Rattle.send_links.specs.Requests.{first_text, request_of, to_slot}
use Rattle.send_parts.specs.Start.{remote_limit, remote_stated}
use Rattle.send_parts.specs.Steps.{remove_text}
use Rattle.send_parts.specs.Sweep.{sweep_to}
use Rattle.send_parts.specs.declared.reading.Progress.TheVariants.{Failed, Goes, Missing, Whole}
use Rattle.send_parts.specs.declared.reading.Progress.{Progress}
use Rattle.send_parts.specs.declared.reading.Reading.TheVariants.{Closing, Going, Opening, Shutting}
use Rattle.send_parts.specs.declared.reading.Reading.{Reading as FileReading}
use Rattle.send_parts.specs.declared.reply.Way.TheVariants as way
use Rattle.send_parts.specs.declared.reply.Way.{Way}
use Rattle.send_parts.specs.declared.rows.FinishRow.TheVariants as finish
use Rattle.send_parts.specs.declared.rows.FinishRow.{FinishRow}
use Rattle.send_parts.specs.declared.rows.StartRow.TheVariants as start
use Rattle.send_parts.specs.declared.rows.StartRow.{StartRow}
use Rattle.send_parts.specs.declared.rows.SweepRow.{SweepRow}
use Rattle.std.proofs.Common.{Bool, List, None, Option, Some, [], ap, bytes_eq, drop, eq-eqb, false, if◌then◌else◌, inl, inr, length, map, nat_lt, not, refl, subst, sym, true, ℕ, ⊎_elim, ◌∙◌, ◌∷◌, ◌≡◌, ◌≤◌, ◌⊎◌}
use Rattle.std.specs.List.{list_any}
use Rattle.std.specs.Prelude.{is_some, slice_get, ◌&&◌, ◌==◌}
use Rattle.todo_pass.specs.Table as pass_table
use Rattle.todo_pass.specs.Table.{Pass, command_text, moved_at}
use Rattle.todo_pass.specs.declared.row.Row.TheVariants as todo
use Rattle.todo_pass.specs.declared.row.Row.{Row as PassRow}
use Rattle.todo_pass.specs.declared.row.Why.TheVariants as left
use Rattle.call_fs.specs.declared.past.GotData.TheVariants as came
use Rattle.send_jobs.specs.declared.attempts.Mark.{Mark}
use Rattle.send_runs.proofs.FirstMarks.{FirstAt, arrives_first, first_in, first_kept}

-- What is read and given

whole_own : (c : Channel) (s : Source) (a : Account) → s.channel ≡ c → (account_by (whole_of s.channel c s) a).to_give ≡ tasks_in s.n s.dying s.bytes
whole_own c s a e = subst (λ (x : Channel). (account_by (whole_of x c s) a).to_give ≡ tasks_in s.n s.dying s.bytes) (sym e) (by c) where
  by : (c : Channel) → (account_by (whole_of c c s) a).to_give ≡ tasks_in s.n s.dying s.bytes
  by Local = refl
  by Remote = refl

whole_other : (of c : Channel) (s : Source) (a : Account) → (c ≡ of → ⊥) → (account_by (whole_of of c s) a).to_give ≡ a.to_give
whole_other Local Local s a apart = absurd (apart refl)
whole_other Remote Remote s a apart = absurd (apart refl)
whole_other Local Remote s a apart = refl
whole_other Remote Local s a apart = refl

given_own : (c : Channel) (slot : ℕ) (rest : List ℕ) (a : Account) → (account_by (given (port_of c) c (slot ∷ rest) came.Gave) a).to_give ≡ drop 1 a.to_give
given_own Local slot rest a = refl
given_own Remote slot rest a = refl

given_other : (of c : Channel) (text : List ℕ) (got : GotData) (a : Account) → (c ≡ of → ⊥) → (account_by (given (port_of of) c text got) a).to_give ≡ a.to_give
given_other Local Local text got a apart = absurd (apart refl)
given_other Remote Remote text got a apart = absurd (apart refl)
given_other Local Remote text got a apart = refl
given_other Remote Local text got a apart = refl

rest_none : (left : List Attempt) (ts : List Task) (x : Attempt) → slice_get left 0 ≡ Some x → (left ≡ []) ⊎ (map task_of left ≡ ts) → drop 1 left ≡ [] → drop 1 ts ≡ []
rest_none [] ts x first are bare = absurd (cc)
rest_none (y ∷ left) ts x first are bare = ⊎_elim
    (λ (none : y ∷ left ≡ []). absurd (cc none))
    (λ (e : map task_of (y ∷ left) ≡ ts). sym (ap (λ (us : List Task). drop 1 us) e) ∙ ap (map task_of) bare)
    are

sent_left : (o : Option ℕ) (y : Option Attempt) (k slot : ℕ) (x : Attempt) (l : Lane) → o ≡ Some slot → y ≡ Some x → (sent_in o y k l).left ≡ drop 1 l.left
sent_left o y k slot x l low first = ap (λ (q : Option ℕ). (sent_in q y k l).left) low ∙ ap (λ (z : Option Attempt). (sent_in (Some slot) z k l).left) first

-- A step

module _ (S : ℕ → List ℕ → Type 0) (t : Facts) (d : Desk) (now : ℕ) (clears : Bool) (f : Option Work) (a b : Channel → Account) (was : Channel → ℕ → ℕ) (pass : Channel → ℕ → Option ℕ)
    (hd : Dues (λ c n due. due ≡ was c n) d.book.messages) (hg : Gone a d.slots) (one : (c : Channel) → AreOfOne (b c).to_give) where
  abbrev Shifted : Option Trial → Row → GotData → Channel → ℕ → Shift
  Shifted tr row got = Shifts S t d now clears f a b was pass tr row got

  abbrev Ov : Row → GotData → Channel → ℕ → Bool
  Ov row got = OverAt S t d now clears f a b was pass row got

  abbrev Borns : Row → GotData → ℕ → ℕ
  Borns row got = Born S t d now clears f a b was pass row got

  abbrev At : Option Trial → Row → GotData → Type 0
  At tr row got = To S t d now clears f a b was pass tr row got

  abbrev Says : Row → Desk → (Channel → ℕ → Shift) → (Channel → ℕ → Bool) → (ℕ → ℕ) → Messages → Type 0
  Says row e s ov born m = Moments S t d now clears f a b was pass s ov born e.row m

  abbrev GivesOn : Type 0
  GivesOn = (c : Channel) → (b c).to_give ≡ (a c).to_give

  abbrev GoesOn : (Channel → ℕ → Bool) → Type 0
  GoesOn ov = (c : Channel) (n : ℕ) → over n (lane c d.slots) ≡ false → ov c n ≡ false

  -- of a row that leaves the channels
  still_out : (row : Row) (got : GotData) → IsStill d.slots row → States row d.slots pass → ((c : Channel) (n : ℕ) → is_unlinking c n row ≡ false) → Lands b (act row now got d) → GivesOn → ((c : Channel) (n : ℕ) → IsSteady (Shifted None row got c n))
      → (GoesOn (Ov row got) → Says row (act row now got d) (Shifted None row got) (Ov row got) (Borns row got) (act row now got d).book.messages) → At None row got
  still_out row got still hs none lands gives steady moments =
      let e : Desk = act row now got d in
      let k : Kept d.slots e = kept_row d.slots row now got d still refl in
      let goes : GoesOn (Ov row got) =
      (λ c n o. going_on S t d now clears f a b was pass row got e lands (λ x. free_opened e.row x k.1) c n (ap (λ (y : Slots). over n (lane c y)) k.0 ∙ o)) in
      kept_out S t d now clears f a b was pass row hs hd hg (Shifted None row got) (Ov row got) (Borns row got) e k.0 none (λ c n. free_unlinking c n e.row k.1) steady goes gives (moments goes)

  module _ (row : Row) (e : Desk) (hs : States row d.slots pass) (s : Channel → ℕ → Shift) (ov : Channel → ℕ → Bool) (born : ℕ → ℕ) (goes : GoesOn ov) where
    abbrev P : Messages → List Job → List Job → Type 0
    P m jl jr = Says row e s ov born m

    quiet_moments : ((c : Channel) (n : ℕ) → IsQuiet (s c n)) → Of P d
    quiet_moments q = base S t d now clears f a b was pass row hs hd hg s ov born e.row q goes

    off_moments : (n moment : ℕ) → Of P d → Of P (put_off_to n moment d)
    off_moments n moment x Local = x Local
    off_moments n moment x Remote = x Remote

    forgot_moments : (n : ℕ) → Of P d → Of P (forgot n d)
    forgot_moments n x = dues_forgotten (λ c n due. due ≡ DueBy S t d now clears f a b was pass s ov born e.row c n) n d.book.messages x

    -- of a message that is learnt
    learnt_moments : (k : Known) (due : ℕ) → ((c : Channel) (n : ℕ) → s c n ≡ shift_if (k.n == n) (Learns due)) → Says row e s ov born (learned k due d.book.messages)
    learnt_moments k due is = dues_learned (λ c n x. x ≡ DueBy S t d now clears f a b was pass s ov born e.row c n) k due d.book.messages new old where
      new : (c : Channel) → due ≡ DueBy S t d now clears f a b was pass s ov born e.row c k.n
      new c = sym (due_of S t d now clears f a b was pass s ov born e.row c k.n (Learns due) (is c k.n ∙ ap (λ (x : Bool). shift_if x (Learns due)) (eq-eqb k.n k.n refl)))

      old : (c : Channel) (n x : ℕ) → Among (x, n) (due_on c d.book.messages) → (n ≡ k.n → ⊥) → x ≡ DueBy S t d now clears f a b was pass s ov born e.row c n
      old c n x among other = hd c n x among
          ∙ sym (same_due S t d now clears f a b was pass row hs hd hg s ov born e.row c n (is c n ∙ ap (λ (y : Bool). shift_if y (Learns due)) (differs n k.n other)) (goes c n))

  -- the start

  found_steady : (x : Option Name) (told : Answer) (n : ℕ) → IsSteady (found x told n)
  found_steady (Some (NameOf RemoteFile m)) (answer.Stat stat) n = steady_if (m == n) 0
  found_steady (Some (NameOf RemoteFile m)) (answer.Refused why.NotThere) n = steady_if (m == n) 0
  found_steady x told n = tt

  start_steady : (row : StartRow) (got : GotData) (c : Channel) (n : ℕ) → IsSteady (Shifted None (at.Start row) got c n)
  start_steady (start.StatRemote split k birth local) (came.Answered told) c n = found_steady (parse (path (NameOf RemoteFile k))) told.answer n
  start_steady (start.StatRemote split k birth local) got c n = tt
  start_steady row got c n = quiet_steady (Shifted None (at.Start row) got c n) (quiet_start c n now t.births.command clears f row d (λ look. absurd look) got)

  stated_moments : (e : Desk) (split k birth : ℕ) (local : Bool) (told : Answer) (bytes : List ℕ) (born : ℕ → ℕ) (ov : Channel → ℕ → Bool) → States (at.Start (start.StatRemote split k birth local)) d.slots pass → GoesOn ov
      → IsAnswerTo (call.Stat (path (NameOf RemoteFile k))) told
      → Says (at.Start (start.StatRemote split k birth local)) e (λ c n. found (Some (NameOf RemoteFile k)) told n) ov born (remote_stated (replied told bytes).way split k birth local d.book).messages
  stated_moments e split k birth local (answer.Stat stat) bytes born ov hs goes fit =
      learnt_moments (at.Start (start.StatRemote split k birth local)) e hs (λ c n. shift_if (k == n) (Learns 0)) ov born goes (record { n = k; birth = birth; finish_at = 0; local = local; remote = true; sender = sender_in d.book.read }) 0 (λ c n. refl)
  stated_moments e split k birth local (answer.Refused why.NotThere) bytes born ov hs goes fit =
      learnt_moments (at.Start (start.StatRemote split k birth local)) e hs (λ c n. shift_if (k == n) (Learns 0)) ov born goes (record { n = k; birth = birth; finish_at = 0; local = local; remote = false; sender = sender_in d.book.read }) 0 (λ c n. refl)
  stated_moments e split k birth local (answer.Refused why.Fault) bytes born ov hs goes fit = quiet_moments (at.Start (start.StatRemote split k birth local)) e hs (λ c n. Same) ov born goes (λ c n. tt)
  stated_moments e split k birth local told bytes born ov hs goes fit = absurd fit

  start_moments : (row : StartRow) (got : GotData) → MayCome (due_at (at.Start row) d) got → States (at.Start row) d.slots pass → GoesOn (Ov (at.Start row) got)
      → Says (at.Start row) (act (at.Start row) now got d) (Shifted None (at.Start row) got) (Ov (at.Start row) got) (Borns (at.Start row) got) (act (at.Start row) now got d).book.messages
  start_moments (start.StatRemote split k birth local) got may hs goes =
      let row : Row = at.Start (start.StatRemote split k birth local) in
      by_file (due_at row d) tt (λ g. GoesOn (Ov row g) → Says row (act row now g d) (Shifted None row g) (Ov row g) (Borns row g) (act row now g d).book.messages) got may
      (λ told fit goes.
      let g : GotData = came.Answered told in
      subst (λ (o : Option Name). Says row (act row now g d) (λ c n. found o told.answer n) (Ov row g) (Borns row g) (remote_stated (replied told.answer told.bytes).way split k birth local d.book).messages) (sym (parse-path (NameOf RemoteFile k)))
      (stated_moments (act row now g d) split k birth local told.answer told.bytes (Borns row g) (Ov row g) hs goes fit))
      goes
  start_moments row got may hs goes =
      let e : Desk = act (at.Start row) now got d in
      let s : Channel → ℕ → Shift = Shifted None (at.Start row) got in
      start_book (λ (m : Messages). Says (at.Start row) e s (Ov (at.Start row) got) (Borns (at.Start row) got) m) row (said got) d.book (λ look. absurd look)
      (quiet_moments (at.Start row) e hs s (Ov (at.Start row) got) (Borns (at.Start row) got) goes (λ c n. quiet_start c n now t.births.command clears f row d (λ look. absurd look) got))

  -- a todo pass

  taken_steady : (got : GotData) (c : Channel) (n : ℕ) → IsSteady (shift_by c n now t.births.command clears f None (needs.Take port.Clean) got)
  taken_steady (came.Took bytes) c n = steady_if (bytes_eq t.births.command (command_text n) && bytes_eq bytes (43 ∷ [])) now
  taken_steady got c n = tt

  pass_steady : (row : PassRow) (p : Pass) (got : GotData) → PassCleared row clears → (c : Channel) (n : ℕ) → IsSteady (shift_by c n now t.births.command clears f None (pass_table.due_at row p) got)
  pass_steady row p got cleared c n = by row cleared where
    quiet : (row : PassRow) → IsBefore row → PassCleared row clears → IsSteady (shift_by c n now t.births.command clears f None (pass_table.due_at row p) got)
    quiet row is cleared = quiet_steady (shift_by c n now t.births.command clears f None (pass_table.due_at row p) got) (quiet_pass c n now t.births.command clears f row p is cleared got)

    by : (row : PassRow) → PassCleared row clears → IsSteady (shift_by c n now t.births.command clears f None (pass_table.due_at row p) got)
    by todo.Answer cleared = taken_steady got c n
    by (todo.Clear part) cleared = quiet (todo.Clear part) tt cleared
    by todo.StatMess cleared = quiet todo.StatMess tt cleared
    by todo.OpenTodo cleared = quiet todo.OpenTodo tt cleared
    by (todo.ReadTodo fd) cleared = quiet (todo.ReadTodo fd) tt cleared
    by (todo.CloseTodo fd) cleared = quiet (todo.CloseTodo fd) tt cleared
    by (todo.Create part) cleared = quiet (todo.Create part) tt cleared
    by (todo.Append part fd done) cleared = quiet (todo.Append part fd done) tt cleared
    by (todo.Sync part fd) cleared = quiet (todo.Sync part fd) tt cleared
    by (todo.Close part fd) cleared = quiet (todo.Close part fd) tt cleared
    by (todo.Shut fd y) cleared = quiet (todo.Shut fd y) tt cleared
    by todo.Give cleared = quiet todo.Give tt cleared
    by todo.Done cleared = tt
    by (todo.Left y) cleared = tt
    by todo.Lost cleared = tt

  module _ (to : Desk) (hs : States at.InTodo d.slots pass) (ov : Channel → ℕ → Bool) (goes : GoesOn ov) where
    abbrev ToPass : PassRow → Pass → GotData → Type 0
    ToPass row p got = Of (P at.InTodo to hs (λ c n. shift_by c n now t.births.command clears f None (pass_table.due_at row p) got) ov ((births_by t.births now (pass_table.due_at row p) got).of) goes)
        (todo_went row got (moved_at d.book.controls row p now got) now d)

    pass_before : (row : PassRow) (p : Pass) (got : GotData) (born : ℕ → ℕ) → IsBefore row → PassCleared row clears → let q : Pass = moved_at d.book.controls row p now got in
        Of (P at.InTodo to hs (λ c n. shift_by c n now t.births.command clears f None (pass_table.due_at row p) got) ov born goes) (todo_on q.row q now d)
    pass_before row p got born is cleared =
        let q : Pass = moved_at d.book.controls row p now got in
        let s : Channel → ℕ → Shift = (λ c n. shift_by c n now t.births.command clears f None (pass_table.due_at row p) got) in
        of_on (P at.InTodo to hs s ov born goes) q.row q now d (quiet_moments at.InTodo to hs s ov born goes (λ c n. quiet_pass c n now t.births.command clears f row p is cleared got))

    not_good : (x : Bool) (moment : ℕ) → IsQuiet (shift_if (x && false) (Learns moment))
    not_good true moment = tt
    not_good false moment = tt

    good_is : (x : Bool) (moment : ℕ) → shift_if (x && true) (Learns moment) ≡ shift_if x (Learns moment)
    good_is true moment = refl
    good_is false moment = refl

    answered_so : (good : Bool) (p : Pass) (born : ℕ → ℕ) → t.births.command ≡ command_text p.n
        → Of (P at.InTodo to hs (λ c n. shift_if (bytes_eq t.births.command (command_text n) && good) (Learns now)) ov born goes)
        (todo_over (if good then todo.Done else todo.Left left.Unclean) (pass_table.goes p (if good then todo.Done else todo.Left left.Unclean)) now d)
    answered_so true p born gave =
        let s : Channel → ℕ → Shift = (λ c n. shift_if (bytes_eq t.births.command (command_text n) && true) (Learns now)) in
        of_over_pass (P at.InTodo to hs s ov born goes) todo.Done (pass_table.goes p todo.Done) now d
        (λ e. learnt_moments at.InTodo to hs s ov born goes (known_of (pass_table.goes p todo.Done)) now (λ c n.
        good_is (bytes_eq t.births.command (command_text n)) now
        ∙ ap (λ (text : List ℕ). shift_if (bytes_eq text (command_text n)) (Learns now)) gave
        ∙ ap (λ (x : Bool). shift_if x (Learns now)) (same_texts command_text one_passed p.n n)))
        (λ e. absurd (cc))
    answered_so false p born gave =
        let s : Channel → ℕ → Shift = (λ c n. shift_if (bytes_eq t.births.command (command_text n) && false) (Learns now)) in
        of_over_pass (P at.InTodo to hs s ov born goes) (todo.Left left.Unclean) (pass_table.goes p (todo.Left left.Unclean)) now d (λ e. absurd (cc))
        (λ e. quiet_moments at.InTodo to hs s ov born goes (λ c n. not_good (bytes_eq t.births.command (command_text n)) now))

    answer_moments : (p : Pass) (got : GotData) → MayCome (pass_table.due_at todo.Answer p) got → t.births.command ≡ command_text p.n → ToPass todo.Answer p got
    answer_moments p (came.Took bytes) may gave = answered_so (bytes_eq bytes (43 ∷ [])) p ((births_by t.births now (needs.Take port.Clean) (came.Took bytes)).of) gave
    answer_moments p came.End may gave = quiet_moments at.InTodo to hs (λ c n. Same) ov t.births.of goes (λ c n. tt)
    answer_moments p came.Failed may gave = quiet_moments at.InTodo to hs (λ c n. Same) ov t.births.of goes (λ c n. tt)
    answer_moments p (came.Answered told) may gave = absurd may
    answer_moments p (came.Ended status) may gave = absurd may
    answer_moments p came.Crashed may gave = absurd may
    answer_moments p came.Gave may gave = absurd may
    answer_moments p (came.Started pid) may gave = absurd may
    answer_moments p came.Memory may gave = absurd may

    pass_moments : (row : PassRow) (p : Pass) (got : GotData) → MayCome (pass_table.due_at row p) got → PassSays S t row p → PassCleared row clears → ToPass row p got
    pass_moments todo.Answer p got may says cleared = answer_moments p got may says.2
    pass_moments (todo.Clear part) p got may says cleared = pass_before (todo.Clear part) p got ((births_by t.births now (pass_table.due_at (todo.Clear part) p) got).of) tt cleared
    pass_moments todo.StatMess p got may says cleared = pass_before todo.StatMess p got ((births_by t.births now (pass_table.due_at todo.StatMess p) got).of) tt cleared
    pass_moments todo.OpenTodo p got may says cleared = pass_before todo.OpenTodo p got ((births_by t.births now (pass_table.due_at todo.OpenTodo p) got).of) tt cleared
    pass_moments (todo.ReadTodo fd) p got may says cleared = pass_before (todo.ReadTodo fd) p got ((births_by t.births now (pass_table.due_at (todo.ReadTodo fd) p) got).of) tt cleared
    pass_moments (todo.CloseTodo fd) p got may says cleared = pass_before (todo.CloseTodo fd) p got ((births_by t.births now (pass_table.due_at (todo.CloseTodo fd) p) got).of) tt cleared
    pass_moments (todo.Create part) p got may says cleared = pass_before (todo.Create part) p got ((births_by t.births now (pass_table.due_at (todo.Create part) p) got).of) tt cleared
    pass_moments (todo.Append part fd done) p got may says cleared = pass_before (todo.Append part fd done) p got ((births_by t.births now (pass_table.due_at (todo.Append part fd done) p) got).of) tt cleared
    pass_moments (todo.Sync part fd) p got may says cleared = pass_before (todo.Sync part fd) p got ((births_by t.births now (pass_table.due_at (todo.Sync part fd) p) got).of) tt cleared
    pass_moments (todo.Close part fd) p got may says cleared = pass_before (todo.Close part fd) p got ((births_by t.births now (pass_table.due_at (todo.Close part fd) p) got).of) tt cleared
    pass_moments (todo.Shut fd y) p got may says cleared = pass_before (todo.Shut fd y) p got ((births_by t.births now (pass_table.due_at (todo.Shut fd y) p) got).of) tt cleared
    pass_moments todo.Give p got may says cleared = pass_before todo.Give p got ((births_by t.births now (pass_table.due_at todo.Give p) got).of) tt cleared
    pass_moments todo.Done p got may says cleared = absurd may
    pass_moments (todo.Left y) p got may says cleared = absurd may
    pass_moments todo.Lost p got may says cleared = absurd may

  -- finish and sweep

  finish_moments : (row : FinishRow) (n : ℕ) (got : GotData) → MayCome (due_at (at.Finish row n) d) got → FinishSays S t row n → (hs : States (at.Finish row n) d.slots pass) → (goes : GoesOn (Ov (at.Finish row n) got))
      → Of (P (at.Finish row n) (act (at.Finish row n) now got d) hs (Shifted None (at.Finish row n) got) (Ov (at.Finish row n) got) (Borns (at.Finish row n) got) goes) (act (at.Finish row n) now got d)
  finish_moments r n g may says hs goes = by r g may (quiet_moments (at.Finish r n) to hs s ov born goes (λ c i. quiet_finish c i now t.births.command clears f r n d gave g)) where
    to : Desk
    to = act (at.Finish r n) now g d

    s : Channel → ℕ → Shift
    s = Shifted None (at.Finish r n) g

    ov : Channel → ℕ → Bool
    ov = Ov (at.Finish r n) g

    born : ℕ → ℕ
    born = Borns (at.Finish r n) g

    gave : r ≡ finish.Take → t.births.command ≡ remove_text n
    gave e = subst (λ (x : FinishRow). FinishSays S t x n) e says

    off : Of (P (at.Finish r n) to hs s ov born goes) d → Of (P (at.Finish r n) to hs s ov born goes) (put_off_to n (later now) d)
    off k = off_moments (at.Finish r n) to hs s ov born goes n (later now) k

    gone : Of (P (at.Finish r n) to hs s ov born goes) d → Of (P (at.Finish r n) to hs s ov born goes) (forgot n d)
    gone k = forgot_moments (at.Finish r n) to hs s ov born goes n k

    by : (row : FinishRow) (got : GotData) → MayCome (due_at (at.Finish row n) d) got → Of (P (at.Finish r n) to hs s ov born goes) d → Of (P (at.Finish r n) to hs s ov born goes) (act (at.Finish row n) now got d)
    by finish.OpenBounce got may k =
        let it = bounce_on n now got (return_begun n) d.book in
        of_finish_at (P (at.Finish r n) to hs s ov born goes) (returned_to it.row) n now (record d { bounce = it; busy = true }) (λ e. absurd (not_over it.row e)) (λ e. off k) k
    by finish.Return got may k =
        let it = bounce_on n now got d.bounce d.book in
        of_finish_at (P (at.Finish r n) to hs s ov born goes) (returned_to it.row) n now (record d { bounce = it }) (λ e. absurd (not_over it.row e)) (λ e. off k) k
    by finish.UnlinkInfo got may k = of_finish_at (P (at.Finish r n) to hs s ov born goes) (finish_to finish.UnlinkInfo (said got).way) n now d (λ e. absurd (info_not_over (said got).way e)) (λ e. off k) k
    by finish.Give got may k = of_finish_at (P (at.Finish r n) to hs s ov born goes) (finish_to finish.Give (said got).way) n now d (λ e. absurd (give_not_over (said got).way e)) (λ e. off k) k
    by finish.Take got may k = of_finish_at (P (at.Finish r n) to hs s ov born goes) (finish_to finish.Take (said got).way) n now d (λ e. gone k) (λ e. off k) k
    by finish.Later got may k = absurd may
    by finish.Over got may k = absurd may
    by finish.Lost got may k = absurd may

  sweep_moments : (row : SweepRow) (got : GotData) → SweepSays S t row → (hs : States (at.Sweep row) d.slots pass) → (goes : GoesOn (Ov (at.Sweep row) got))
      → Of (P (at.Sweep row) (act (at.Sweep row) now got d) hs (Shifted None (at.Sweep row) got) (Ov (at.Sweep row) got) (Borns (at.Sweep row) got) goes) (act (at.Sweep row) now got d)
  sweep_moments row got says hs goes =
      let to : Desk = act (at.Sweep row) now got d in
      let s : Channel → ℕ → Shift = Shifted None (at.Sweep row) got in
      let ov : Channel → ℕ → Bool = Ov (at.Sweep row) got in
      let born : ℕ → ℕ = Borns (at.Sweep row) got in
      of_swept (P (at.Sweep row) to hs s ov born goes) (sweep_to row now (said got) d.book) (looked_up row (said got) (sweep_begun row now d))
      (of_looked (P (at.Sweep row) to hs s ov born goes) row (said got) now d
      (quiet_moments (at.Sweep row) to hs s ov born goes (λ c i. quiet_sweep c i now t.births.command clears f row d (λ split k e. subst (λ (x : SweepRow). SweepSays S t x) e says) got)))

  sweep_steady : (row : SweepRow) (got : GotData) → SweepSays S t row → (c : Channel) (n : ℕ) → IsSteady (Shifted None (at.Sweep row) got c n)
  sweep_steady row got says c n = quiet_steady (Shifted None (at.Sweep row) got c n) (quiet_sweep c n now t.births.command clears f row d (λ split k e. subst (λ (x : SweepRow). SweepSays S t x) e says) got)

  finish_steady : (row : FinishRow) (k : ℕ) (got : GotData) → FinishSays S t row k → (c : Channel) (n : ℕ) → IsSteady (Shifted None (at.Finish row k) got c n)
  finish_steady row k got says c n = quiet_steady (Shifted None (at.Finish row k) got c n) (quiet_finish c n now t.births.command clears f row k d (λ e. subst (λ (x : FinishRow). FinishSays S t x k) e says) got)

  -- what is to be given

  abbrev Comes : Row → GotData → Type 0
  Comes row got = (c : Channel) → b c ≡ account_by (happening (due_at row d) got f (a Local).to_mark c) (a c)

  row_gives : (row : Row) (got : GotData) → Comes row got → ((c : Channel) → row ≡ at.Request c → ⊥) → IsIdle f → GivesOn
  row_gives row got comes other idle = λ c. ap (λ (x : Account). x.to_give) (comes c) ∙ gives_same (due_at row d) got f (a Local).to_mark c (a c) (own_row row d other) idle

  -- a reading

  file_out : (Q : MarkRow → Option Mark → Marked → Writing → Type 0) (tr : Option Trial) (c : Channel) (k m : ℕ) (reading : FileReading) (got : GotData) → MayCome (due_at (at.ReadFile c k m reading) d) got → TrialAt (at.ReadFile c k m reading) tr
      → FitAt Q f (a Local) (a Remote) (at.ReadFile c k m reading) d → States (at.ReadFile c k m reading) d.slots pass → Lands b (act (at.ReadFile c k m reading) now got d) → Comes (at.ReadFile c k m reading) got
      → flies k (a c) ≡ is_in_flight k (lane c d.slots) → At tr (at.ReadFile c k m reading) got
  file_out Q tr c k m Opening got may tried fit hs lands comes flying =
      let row : Row = at.ReadFile c k m Opening in
      by_file (due_at row d) tt (λ g. Lands b (act row now g d) → Comes row g → At tr row g) got may
      (λ told answers lands comes.
      opens_out S t d now clears f a b was pass hd hg row c k now told.answer told.bytes (Borns row (came.Answered told)) (Ov row (came.Answered told)) answers hs (λ x n. refl)
      (row_gives row (came.Answered told) comes (λ e w. cc) (subst IsIdle (sym fit.2) tt)) (going_on S t d now clears f a b was pass row (came.Answered told)) lands)
      lands comes
  file_out Q tr c k m (Going fd) got may tried fit hs lands comes flying =
      let row : Row = at.ReadFile c k m (Going fd) in
      by_file (due_at row d) tt (λ g. Lands b (act row now g d) → Comes row g → At tr row g) got may
      (λ told answers lands comes. going told (read_on (Going fd) (said (came.Answered told))) (read_goes told (said (came.Answered told)).way) lands comes)
      lands comes
    where
      going : (told : Told) (x : Progress) → IsGoing x → Lands b (busy (file_read x c k m (Going fd) now (said (came.Answered told)) d)) → Comes (at.ReadFile c k m (Going fd)) (came.Answered told)
          → Out S t d now clears f a b was pass (λ e n. Same) (Ov (at.ReadFile c k m (Going fd)) (came.Answered told)) (Borns (at.ReadFile c k m (Going fd)) (came.Answered told)) (busy (file_read x c k m (Going fd) now (said (came.Answered told)) d))
      going told (Goes more) is lands comes =
          let row : Row = at.ReadFile c k m (Going fd) in
          let e : Desk = busy (file_read (Goes more) c k m (Going fd) now (said (came.Answered told)) d) in
          same_out S t d now clears f a b was pass hd hg row (λ e n. Same) (Ov row (came.Answered told)) (Borns row (came.Answered told)) e hs refl refl (λ x n. refl) (λ x n. refl) (λ x n. tt)
          (going_on S t d now clears f a b was pass row (came.Answered told) e lands (λ x. refl)) (λ x. ap (λ (y : Account). y.to_give) (comes x))
      going told Whole is lands comes = absurd is
      going told Missing is lands comes = absurd is
      going told Failed is lands comes = absurd is

      read_goes : (told : Told) (w : Way) → IsGoing (read_more w fd (said (came.Answered told)).bytes)
      read_goes told way.Fine = either_goes (nat_lt (length (said (came.Answered told)).bytes) PIECE) fd
      read_goes told way.Over = tt
      read_goes told way.Absent = tt
      read_goes told way.Broken = tt
      read_goes told way.NoMemory = tt
  file_out Q tr c k m (Closing fd) got may tried fit hs lands comes flying =
      let row : Row = at.ReadFile c k m (Closing fd) in
      let src : Source = record { channel = c; n = k; fd = fd; bytes = d.book.read; over = true; dying = is_dying k m d } in
      by_file (due_at row d) tt (λ g. Lands b (act row now g d) → Comes row g → At tr row g) got may
      (λ told answers lands comes.
      let whole : is_whole f fd ≡ is_some (records_of d.book.read) = ap (λ (w : Option Work). is_whole w fd) fit.2 ∙ ap (λ (x : Bool). x && is_some (records_of d.book.read)) (same_end fd.0) in
      let born : ℕ → ℕ = Borns row (came.Answered told) in
      let e : Desk = act row now (came.Answered told) d in
      let is = (λ (x : Channel). ap (λ (y : Account). y.to_give) (comes x)
      ∙ ap (λ (w : Option Work). (account_by (close_of w fd (a Local).to_mark x) (a x)).to_give) fit.2
      ∙ ap (λ (z : Bool). (account_by (closed_if z src x) (a x)).to_give) (same_end fd.0)) in
      subst (λ (o : Option Trial). Out S t d now clears f a b was pass (λ x n. closed o (is_whole f fd) x n) (Ov row (came.Answered told)) born e) (sym tried)
      (subst (λ (x : Bool). Out S t d now clears f a b was pass (Ended S t d now clears f a b was pass hd hg c k m x) (Ov row (came.Answered told)) born e) (sym whole)
      (closing_out S t d now clears f a b was pass hd hg c k m fd told hs fit.1 flying (λ x apart. is x ∙ whole_other c x src (a x) apart) one born (records_of d.book.read) (is c ∙ whole_own c src (a c) refl) lands)))
      lands comes
  file_out Q tr c k m (Shutting fd) got may tried fit hs lands comes flying =
      let row : Row = at.ReadFile c k m (Shutting fd) in
      by_file (due_at row d) tt (λ g. Lands b (act row now g d) → Comes row g → At tr row g) got may
      (λ told answers lands comes.
      let born : ℕ → ℕ = Borns row (came.Answered told) in
      let ov : Channel → ℕ → Bool = Ov row (came.Answered told) in
      let e : Desk = act row now (came.Answered told) d in
      subst (λ (o : Option Trial). Out S t d now clears f a b was pass (λ x n. closed o (is_whole f fd) x n) ov born e) (sym tried)
      (subst (λ (w : Option Work). Out S t d now clears f a b was pass (Ended S t d now clears f a b was pass hd hg c k m (is_whole w fd)) ov born e) (sym fit.2)
      (failed_out S t d now clears f a b was pass hd hg row (Ended S t d now clears f a b was pass hd hg c k m false) ov born c k hs (λ x n. refl) (ended_quiet S t d now clears f a b was pass hd hg c k m false)
      (going_on S t d now clears f a b was pass row (came.Answered told)) lands (ended_is S t d now clears f a b was pass hd hg c k m false) (row_gives row (came.Answered told) comes (λ e w. cc) (subst IsIdle (sym fit.2) tt)))))
      lands comes

  -- a request

  module _ (hl : (lane Local d.slots).left ≡ [] ⊎ (map task_of (lane Local d.slots).left ≡ (a Local).to_give)) (hr : (lane Remote d.slots).left ≡ [] ⊎ (map task_of (lane Remote d.slots).left ≡ (a Remote).to_give)) where
    abbrev s_of : Channel → GotData → Channel → ℕ → Shift
    s_of c got = Shifted None (at.Request c) got

    sent_out : (c : Channel) (k slot of : ℕ) (x : Attempt) (rest : List ℕ) (e : Desk) → lowest (lane c d.slots).slots ≡ Some slot → next (lane c d.slots) ≡ Some x → first_text (link c d).requests ≡ of ∷ rest → States (at.Request c) d.slots pass
        → e.row ≡ at.Turn (point.Pass c false) → e.slots ≡ record (at_lane c (sent k) d.slots) { given = k } → e.book.messages ≡ d.book.messages → Lands b e → Comes (at.Request c) came.Gave
        → Out S t d now clears f a b was pass (s_of c came.Gave) (Ov (at.Request c) came.Gave) (Borns (at.Request c) came.Gave) e
    sent_out c k slot of x rest e low first text hs row slots messages lands comes =
        out_of S t d now clears f a b was pass hd hg s ov born e (at.Turn (point.Pass c false)) after d.book.messages row slots messages states moments gone
      where
        s : Channel → ℕ → Shift
        s = s_of c came.Gave

        ov : Channel → ℕ → Bool
        ov = Ov (at.Request c) came.Gave

        born : ℕ → ℕ
        born = Borns (at.Request c) came.Gave

        after : Slots
        after = record (at_lane c (sent k) d.slots) { given = k }

        jobs_same : (c e : Channel) (n : ℕ) → job_of n (lane e (record (at_lane c (sent k) d.slots) { given = k })).jobs ≡ job_of n (lane e d.slots).jobs
        jobs_same Local Local n = ap (job_of n) (sent_jobs (lowest d.slots.local.slots) (next d.slots.local) k d.slots.local)
        jobs_same Local Remote n = refl
        jobs_same Remote Local n = refl
        jobs_same Remote Remote n = ap (job_of n) (sent_jobs (lowest d.slots.remote.slots) (next d.slots.remote) k d.slots.remote)

        goes_same : (c e : Channel) (n : ℕ) → over n (lane e d.slots) ≡ false → over n (lane e (record (at_lane c (sent k) d.slots) { given = k })) ≡ false
        goes_same Local Local n o = sent_busy n (lowest d.slots.local.slots) (next d.slots.local) k d.slots.local refl refl o
        goes_same Local Remote n o = o
        goes_same Remote Local n o = o
        goes_same Remote Remote n o = sent_busy n (lowest d.slots.remote.slots) (next d.slots.remote) k d.slots.remote refl refl o

        goes : (y : Channel) (n : ℕ) → over n (lane y after) ≡ false → ov y n ≡ false
        goes y n o = going_on S t d now clears f a b was pass (at.Request c) came.Gave e lands (λ z. ap (λ (r : Row). is_opened r z) row) y n (ap (λ (z : Slots). over n (lane y z)) slots ∙ o)

        q : (y : Channel) (n : ℕ) → IsQuiet (s y n)
        q y n = quiet_give y c n now t.births.command clears f d came.Gave

        states : States (at.Turn (point.Pass c false)) after (PassBy S t d now clears f a b was pass s ov)
        states y n = kept_state y n (lane y d.slots) (lane y after) (at.Request c) (at.Turn (point.Pass c false)) (pass y n) (PassBy S t d now clears f a b was pass s ov y n) (hs y n) refl refl (jobs_same c y n) (goes_same c y n)
            (λ p. steady_none (s y n) (flies n (a y)) (ov y n) (pass y n) (quiet_steady (s y n) (q y n)) p) (λ o. steady_same (s y n) (flies n (a y)) (ov y n) (pass y n) (quiet_steady (s y n) (q y n)) (goes y n o))

        moments : Moments S t d now clears f a b was pass s ov born (at.Turn (point.Pass c false)) d.book.messages
        moments = base S t d now clears f a b was pass (at.Request c) hs hd hg s ov born (at.Turn (point.Pass c false)) q (λ y n o. goes y n (goes_same c y n o))

        gives : (y : Channel) → (b y).to_give ≡ (account_by (given (port_of c) y (of ∷ rest) came.Gave) (a y)).to_give
        gives y = ap (λ (z : Account). z.to_give) (comes y) ∙ ap (λ (u : List ℕ). (account_by (given (port_of c) y u came.Gave) (a y)).to_give) text

        none_left : (y : Channel) (ts : List Task) → ts ≡ [] → (n : ℕ) → (b y).to_give ≡ ts → list_any (is_task n) (b y).to_give ≡ false
        none_left y ts none n e = ap (list_any (is_task n)) (e ∙ none)

        gone : Gone b after
        gone y = by c y low first (λ z. gives z) where
          by : (c y : Channel) → lowest (lane c d.slots).slots ≡ Some slot → next (lane c d.slots) ≡ Some x → ((z : Channel) → (b z).to_give ≡ (account_by (given (port_of c) z (of ∷ rest) came.Gave) (a z)).to_give)
              → (lane y (record (at_lane c (sent k) d.slots) { given = k })).left ≡ [] → (n : ℕ) (j : Job) → job_of n (lane y (record (at_lane c (sent k) d.slots) { given = k })).jobs ≡ Some j → list_any (is_task n) (b y).to_give ≡ false
          by Local Local low first gives bare n j there = none_left Local (drop 1 (a Local).to_give)
              (rest_none d.slots.local.left (a Local).to_give x first hl (sym (sent_left (lowest d.slots.local.slots) (next d.slots.local) k slot x d.slots.local low first) ∙ bare)) n (gives Local ∙ given_own Local of rest (a Local))
          by Remote Remote low first gives bare n j there = none_left Remote (drop 1 (a Remote).to_give)
              (rest_none d.slots.remote.left (a Remote).to_give x first hr (sym (sent_left (lowest d.slots.remote.slots) (next d.slots.remote) k slot x d.slots.remote low first) ∙ bare)) n (gives Remote ∙ given_own Remote of rest (a Remote))
          by Local Remote low first gives bare n j there = subst (λ (ts : List Task). list_any (is_task n) ts ≡ false) (sym (gives Remote ∙ given_other Local Remote (of ∷ rest) came.Gave (a Remote) (λ e. cc))) (hg Remote bare n j there)
          by Remote Local low first gives bare n j there = subst (λ (ts : List Task). list_any (is_task n) ts ≡ false) (sym (gives Local ∙ given_other Remote Local (of ∷ rest) came.Gave (a Local) (λ e. cc))) (hg Local bare n j there)

    gave_out : (c : Channel) (slot of : ℕ) (x : Attempt) (rest : List ℕ) → lowest (lane c d.slots).slots ≡ Some slot → next (lane c d.slots) ≡ Some x → first_text (link c d).requests ≡ of ∷ rest → States (at.Request c) d.slots pass
        → Lands b (act (at.Request c) now came.Gave d) → Comes (at.Request c) came.Gave → At None (at.Request c) came.Gave
    gave_out Local slot of x rest low first text hs lands comes = by (is_some (next d.slots.local)) (ap is_some first) lands where
      y : Desk
      y = stands_at d (point.Pass Local false)

      sends : Desk
      sends = with_requests Local (drop 1 (link Local d).requests) (record y { slots = sent_on Local d.slots })

      by : (z : Bool) → z ≡ true → Lands b (busy (if z then sends else y)) → Out S t d now clears f a b was pass (s_of Local came.Gave) (Ov (at.Request Local) came.Gave) (Borns (at.Request Local) came.Gave) (busy (if z then sends else y))
      by true is lands = sent_out Local (next_delivery d.slots) slot of x rest (busy sends) low first text hs refl (ap (λ (o : Option ℕ). sent_as o Local (next_delivery d.slots) d.slots) low) refl lands comes
      by false is lands = absurd (cc)
    gave_out Remote slot of x rest low first text hs lands comes = by (is_some (next d.slots.remote)) (ap is_some first) lands where
      y : Desk
      y = stands_at d (point.Pass Remote false)

      sends : Desk
      sends = with_requests Remote (drop 1 (link Remote d).requests) (record y { slots = sent_on Remote d.slots })

      by : (z : Bool) → z ≡ true → Lands b (busy (if z then sends else y)) → Out S t d now clears f a b was pass (s_of Remote came.Gave) (Ov (at.Request Remote) came.Gave) (Borns (at.Request Remote) came.Gave) (busy (if z then sends else y))
      by true is lands = sent_out Remote (next_delivery d.slots) slot of x rest (busy sends) low first text hs refl (ap (λ (o : Option ℕ). sent_as o Remote (next_delivery d.slots) d.slots) low) refl lands comes
      by false is lands = absurd (cc)

  -- the first byte of the remote spawner

  none_over : (c : Channel) (n : ℕ) → over n (lane c (none_out 0 0)) ≡ true
  none_over Local n = refl
  none_over Remote n = refl

  no_job : (c : Channel) (n i j : ℕ) → job_of n (lane c (none_out i j)).jobs ≡ None
  no_job Local n i j = refl
  no_job Remote n i j = refl

  start_links : (row : StartRow) (c : Channel) (n : ℕ) → is_unlinking c n (start_at row) ≡ false
  start_links start.Over c n = refl
  start_links (start.Ended status) c n = refl
  start_links row c n = refl

  greet_out : (limit : ℕ) (got : GotData) → d.slots ≡ none_out 0 0 → States (at.Start (start.GreetRemote limit)) d.slots pass → At None (at.Start (start.GreetRemote limit)) got
  greet_out limit got bare hs = (states, moments, gone) where
    row : Row
    row = at.Start (start.GreetRemote limit)

    e : Desk
    e = act row now got d

    s : Channel → ℕ → Shift
    s = Shifted None row got

    q : (c : Channel) (n : ℕ) → IsQuiet (s c n)
    q c n = quiet_start c n now t.births.command clears f (start.GreetRemote limit) d (λ look. absurd look) got

    none_going : (c : Channel) (n : ℕ) → pass c n ≡ None
    none_going c n = sym (first_begun c n (λ y i. job_of i (lane y d.slots).jobs) was t.births.of (lane c d.slots) row (pass c n) refl (hs c n) refl) ∙ ap begun_at (ap (λ (x : Slots). job_of n (lane c x).jobs) bare ∙ no_job c n 0 0)

    states : States e.row e.slots (PassBy S t d now clears f a b was pass s (Ov row got))
    states c n = inr (inl (
      start_links (started (start.GreetRemote limit) (said got) d).book.row c n,
      no_job c n limit (remote_limit (said got).bytes d.book.controls),
      steady_none (s c n) (flies n (a c)) (Ov row got c n) (pass c n) (quiet_steady (s c n) (q c n)) (none_going c n),
    ))

    goes : GoesOn (Ov row got)
    goes c n o = absurd (cc (sym o ∙ ap (λ (x : Slots). over n (lane c x)) bare ∙ none_over c n))

    moments : Says row e s (Ov row got) (Borns row got) e.book.messages
    moments = start_book (λ (m : Messages). Says row e s (Ov row got) (Borns row got) m) (start.GreetRemote limit) (said got) d.book (λ look. absurd look) (quiet_moments row e hs s (Ov row got) (Borns row got) goes q)

    gone : Gone b e.slots
    gone c bare n j there = absurd (cc (sym (no_job c n limit (remote_limit (said got).bytes d.book.controls)) ∙ there))

  -- each row

  with_none : (tr : Option Trial) (row : Row) (got : GotData) → tr ≡ None → At None row got → At tr row got
  with_none tr row got e x = subst (λ (o : Option Trial). At o row got) (sym e) x

  abbrev First : Row → Type 0
  First row = FirstAt row d.slots

  start_out : (Q : MarkRow → Option Mark → Marked → Writing → Type 0) (row : StartRow) (got : GotData) → MayCome (due_at (at.Start row) d) got → FitAt Q f (a Local) (a Remote) (at.Start row) d → States (at.Start row) d.slots pass
      → Lands b (act (at.Start row) now got d) → Comes (at.Start row) got → IsIdle f → At None (at.Start row) got
  start_out Q (start.GreetRemote limit) got may fit hs lands comes idle = greet_out limit got fit.0.0 hs
  start_out Q row got may fit hs lands comes idle = still_out (at.Start row) got tt hs (λ c n. refl) lands (row_gives (at.Start row) got comes (λ e w. cc) idle) (start_steady row got) (start_moments row got may hs)

  row_out : (Q : MarkRow → Option Mark → Marked → Writing → Type 0) (tr : Option Trial) (row : Row) (got : GotData) → MayCome (due_at row d) got → FitAt Q f (a Local) (a Remote) row d → KnowsAt S t row d → TrialAt row tr → ClearedAt row d.pass clears
      → First row → ((c : Channel) → has_ended row ≡ false → Agrees (a c) (is_opened row c) (lane c d.slots) × (length (lane c d.slots).slots ≤ 120))
      → ((c : Channel) → row ≡ at.Request c → (of : ℕ) × (rest : List ℕ) × (first_text (link c d).requests ≡ of ∷ rest))
      → States row d.slots pass → has_ended (act row now got d).row ≡ false → Lands b (act row now got d) → Comes row got → At tr row got
  row_out Q tr (at.Start row) got may fit says tried cleared is known asks hs alive lands comes = with_none tr (at.Start row) got tried (start_out Q row got may fit hs lands comes (row_idle Q f (a Local) (a Remote) (at.Start row) d tt fit))
  row_out Q tr (at.Turn p) got may fit says tried cleared is known asks hs alive lands comes = absurd may
  row_out Q tr (at.TakeLink c) got may fit says tried cleared is known asks hs alive lands comes =
      with_none tr (at.TakeLink c) got tried (take_out S t d now clears f a b was pass hd hg c got may says.0.0 hs alive lands (row_gives (at.TakeLink c) got comes (λ e w. cc) (row_idle Q f (a Local) (a Remote) (at.TakeLink c) d tt fit)) one)
  row_out Q tr (at.Mark row m) got may fit says tried cleared is known asks hs alive lands comes =
      with_none tr (at.Mark row m) got tried
      (mark_out S t d now clears f a b was pass hd hg m says.0.0 (first_in Q f (a Local) (a Remote) row m d fit is) (row_gives (at.Mark row m) got comes (λ e w. cc) (row_idle Q f (a Local) (a Remote) (at.Mark row m) d tt fit)) one row got may hs lands)
  row_out Q tr (at.UnlinkFile c n p) got may fit says tried cleared is known asks hs alive lands comes =
      with_none tr (at.UnlinkFile c n p) got tried
      (unlink_out S t d now clears f a b was pass hd hg c n p got may cleared hs lands (row_gives (at.UnlinkFile c n p) got comes (λ e w. cc) (row_idle Q f (a Local) (a Remote) (at.UnlinkFile c n p) d tt fit)))
  row_out Q tr (at.ReadFile c n m reading) got may fit says tried cleared is known asks hs alive lands comes =
      let w = known c refl in file_out Q tr c n m reading got may tried fit hs lands comes (flies_is n (lane c d.slots) (a c) w.0 w.1)
  row_out Q tr (at.Request c) got may fit says tried cleared is known asks hs alive lands comes = with_none tr (at.Request c) got tried (by got may alive lands comes) where
    w : (of : ℕ) × (rest : List ℕ) × (first_text (link c d).requests ≡ of ∷ rest)
    w = asks c refl

    by : (got : GotData) → MayCome (due_at (at.Request c) d) got → has_ended (act (at.Request c) now got d).row ≡ false → Lands b (act (at.Request c) now got d) → Comes (at.Request c) got → At None (at.Request c) got
    by came.Gave may alive lands comes = gave_out (known Local refl).0.to_give (known Remote refl).0.to_give c fit.1.0 w.0 fit.1.1 w.1 fit.1.2 fit.1.3 w.2 hs lands comes
    by came.Failed may alive lands comes = absurd (cc (sym alive ∙ lost_ended S t d now clears f a b was pass hd hg c))
    by got may alive lands comes = absurd may
  row_out Q tr (at.FindTodo search) got may fit says tried cleared is known asks hs alive lands comes =
      let row : Row = at.FindTodo search in
      with_none tr row got tried (still_out row got tt hs (λ c n. refl) lands (row_gives row got comes (λ e w. cc) (row_idle Q f (a Local) (a Remote) row d tt fit)) (λ c n. tt)
      (λ goes. of_named (P row (act row now got d) hs (λ c n. Same) (Ov row got) (Borns row got) goes) (said got).way (said got).bytes search now d (quiet_moments row (act row now got d) hs (λ c n. Same) (Ov row got) (Borns row got) goes (λ c n. tt))))
  row_out Q tr at.InTodo got may fit says tried cleared is known asks hs alive lands comes =
      with_none tr at.InTodo got tried (still_out at.InTodo got tt hs (λ c n. refl) lands (row_gives at.InTodo got comes (λ e w. cc) (row_idle Q f (a Local) (a Remote) at.InTodo d tt fit)) (pass_steady d.pass.row d.pass got cleared)
      (λ goes. pass_moments (act at.InTodo now got d) hs (Ov at.InTodo got) goes d.pass.row d.pass got may says.1 cleared))
  row_out Q tr (at.Finish row n) got may fit says tried cleared is known asks hs alive lands comes =
      with_none tr (at.Finish row n) got tried (still_out (at.Finish row n) got tt hs (λ c i. refl) lands (row_gives (at.Finish row n) got comes (λ e w. cc) (row_idle Q f (a Local) (a Remote) (at.Finish row n) d tt fit)) (finish_steady row n got says.1)
      (finish_moments row n got may says.1 hs))
  row_out Q tr (at.Sweep row) got may fit says tried cleared is known asks hs alive lands comes =
      with_none tr (at.Sweep row) got tried (still_out (at.Sweep row) got tt hs (λ c i. refl) lands (row_gives (at.Sweep row) got comes (λ e w. cc) (row_idle Q f (a Local) (a Remote) (at.Sweep row) d tt fit)) (sweep_steady row got says.1)
      (sweep_moments row got says.1 hs))
  row_out Q tr (at.Ended status) got may fit says tried cleared is known asks hs alive lands comes = absurd may

-- At each event

-- what stands at a row: the passes that go on by the past, what is due by it, and what is to be given by it
abbrev pub Stands : List Own → Own → Desk → Row → Type 0
Stands past event d row = States row d.slots (λ c n. pass_in c n past) × Dues (λ c n due. due ≡ due_in c n event.due past) d.book.messages × Gone (λ c. account c past) d.slots

fresh_links : (c : Channel) (n : ℕ) (row : Row) → IsFresh row → is_unlinking c n row ≡ false
fresh_links c n row is = free_unlinking c n row (fresh_free row is)

pub arrives_links : (c : Channel) (n : ℕ) (row : Row) (d : Desk) (now : ℕ) (ready : Ready) → is_unlinking c n (arrive row d now ready) ≡ is_unlinking c n row
arrives_links c n (at.Turn p) d now ready = fresh_links c n (from_point p d now ready) (point_fresh d now ready p)
arrives_links c n row d now ready = refl

went_on : (row : Row) (got : NeedData) (now : ℕ) (d : Desk) (came : GotData) → MayCome (due_at row d) came → has_ended row ≡ false
went_on (at.Ended status) got now d came may = absurd may
went_on (at.Start row) got now d came may = refl
went_on (at.Turn p) got now d came may = refl
went_on (at.TakeLink c) got now d came may = refl
went_on (at.Mark row m) got now d came may = refl
went_on (at.UnlinkFile c n p) got now d came may = refl
went_on (at.ReadFile c n m reading) got now d came may = refl
went_on (at.Request c) got now d came may = refl
went_on (at.FindTodo search) got now d came may = refl
went_on at.InTodo got now d came may = refl
went_on (at.Finish row n) got now d came may = refl
went_on (at.Sweep row) got now d came may = refl

arrives_alive : (row : Row) (d : Desk) (now : ℕ) (ready : Ready) → has_ended (arrive row d now ready) ≡ false → has_ended row ≡ false
arrives_alive (at.Turn p) d now ready e = refl
arrives_alive row d now ready e = e

asked_by : (c : Channel) (past : List Own) (text : List ℕ) → IsRequest past (account c past) text → (of : ℕ) × (rest : List ℕ) × (text ≡ of ∷ rest)
asked_by c past text it = (it.slot, drop 1 (to_slot it.slot (request_of it.task.n it.sender it.task.address)), it.is)

-- at a desk, and at the row where the next event begins
moves : (past : List Own) (event : Own) (d : Desk) (row : Row) (p q : Channel → ℕ → Option ℕ) → ((c : Channel) (n : ℕ) → is_unlinking c n row ≡ is_unlinking c n d.row) → States d.row d.slots p → States row d.slots p
moves past event d row p q same hs c n = ⊎_elim
    (λ u. inl (same c n ∙ u.0, u.1))
    (λ w. inr (⊎_elim (λ o. inl (same c n ∙ o.0, o.1, o.2)) (λ i. inr (i.0, same c n ∙ i.1, i.2, i.3, i.4)) w))
    (hs c n)

module _ (turns : Option ℕ) where
  pub alive_at : (past : List Own) (event : Own) → IsRunBy (Next turns) (event ∷ past) → has_ended (place_after turns past).row ≡ false
  alive_at past event run =
      let d : Desk = place_after turns past in
      let row : Row = row_now d event.read event.ready in
      let may : MayCome (due_at row d) event.came = subst (λ (x : NeedData). MayCome x event.came) (sym run.1.0) run.1.1 in
      arrives_alive d.row d event.read event.ready (went_on row event.due event.read d event.came may)

  abbrev pub Agreeing : (Channel → Account) → Row → Slots → Type 0
  Agreeing a row s = (c : Channel) → Agrees (a c) (is_opened row c) (lane c s) × (length (lane c s).slots ≤ 120)

  pub agreeing : (past : List Own) → IsRunBy (Next turns) past → has_ended (place_after turns past).row ≡ false → Agreeing (λ c. account c past) (place_after turns past).row (place_after turns past).slots
  agreeing past run alive c =
      let d : Desk = place_after turns past in
      (lanes_agree turns past run c alive, few_row (Was past) (work past) (account Local past) (account Remote past) d.row d alive (keeps turns past run).0 c)

  lands_at : (past : List Own) → IsRunBy (Next turns) past → has_ended (place_after turns past).row ≡ false → Lands (λ c. account c past) (place_after turns past)
  lands_at past run alive c shut =
      let d : Desk = place_after turns past in
      let w = agreeing past run alive c in (subst (λ (x : Bool). Agrees (account c past) x (lane c d.slots)) shut w.0, w.1)

  fresh_shut : (row : Row) (c : Channel) → IsFresh row → is_opened row c ≡ false
  fresh_shut row c is = free_opened row c (fresh_free row is)

  pub arrives_opened : (row : Row) (d : Desk) (now : ℕ) (ready : Ready) (c : Channel) → is_opened (arrive row d now ready) c ≡ is_opened row c
  arrives_opened (at.Turn p) d now ready c = fresh_shut (from_point p d now ready) c (point_fresh d now ready p)
  arrives_opened row d now ready c = refl

  stands_on : (last : Own) (before : List Own) (event : Own) → IsRunBy (Next turns) (event ∷ (last ∷ before)) → (let d : Desk = place_after turns before in Stands before last d (row_now d last.read last.ready))
      → let e : Desk = place_after turns (last ∷ before) in Stands (last ∷ before) event e (row_now e event.read event.ready)
  stands_on last before event run h = (moves past event e row (λ c n. pass_in c n past) (λ c n. pass_in c n past) (λ c n. arrives_links c n e.row e event.read event.ready) out.0, dues, out.2) where
    past : List Own
    past = last ∷ before

    d : Desk
    d = place_after turns before

    e : Desk
    e = place_after turns past

    row : Row
    row = row_now e event.read event.ready

    at_row : Row
    at_row = row_now d last.read last.ready

    may : MayCome (due_at at_row d) last.came
    may = subst (λ (x : NeedData). MayCome x last.came) (sym run.0.1.0) run.0.1.1

    was_alive : has_ended d.row ≡ false
    was_alive = alive_at before last run.0

    alive : has_ended e.row ≡ false
    alive = alive_at past event run

    asks : (c : Channel) → at_row ≡ at.Request c → (of : ℕ) × (rest : List ℕ) × (first_text (link c d).requests ≡ of ∷ rest)
    asks c is = asked_by c before (first_text (link c d).requests) (gives_requests turns before last.read last.ready run.0.0 c (first_text (link c d).requests) (ap (λ (r : Row). due_at r d) is))

    known : (c : Channel) → has_ended at_row ≡ false → Agrees (account c before) (is_opened at_row c) (lane c d.slots) × (length (lane c d.slots).slots ≤ 120)
    known c going = let w = agreeing before run.0.0 was_alive c in (subst (λ (x : Bool). Agrees (account c before) x (lane c d.slots)) (sym (arrives_opened d.row d last.read last.ready c)) w.0, w.1)

    cleared : ClearedAt at_row d.pass (has_unlinked before)
    cleared = cleared_here turns before last.read last.ready run.0.0

    out : Out (IsSaid before) (facts before) d last.read (has_unlinked before) (work before) (λ c. account c before) (λ c. account c past) (λ c n. due_in c n last.due before) (λ c n. pass_in c n before)
        (λ c n. shift c n before last) (λ c n. over_at c n before last) ((births past).of) e
    out = subst (λ (due : NeedData). Out (IsSaid before) (facts before) d last.read (has_unlinked before) (work before) (λ c. account c before) (λ c. account c past) (λ c n. due_in c n last.due before) (λ c n. pass_in c n before)
        (λ c n. shift_by c n last.read (births before).command (has_unlinked before) (work before) (trial before) due last.came) (λ c n. is_over n (account c past) && not (is_marking due last.came)) ((births_by (births before) last.read due last.came).of) e) run.0.1.0
        (row_out (IsSaid before) (facts before) d last.read (has_unlinked before) (work before) (λ c. account c before) (λ c. account c past) (λ c n. due_in c n last.due before) (λ c n. pass_in c n before) h.1 h.2 (λ c. one_to_give c past)
        (Was before) (trial before) at_row last.came may
        (arrives (Was before) (work before) (account Local before) (account Remote before) (frees before) d.row d last.read last.ready (keeps turns before run.0.0).0)
        (arrive_says (IsSaid before) (facts before) d last.read last.ready d.row (all_kept turns before run.0.0).1)
        (arrives_trial d.row (trial before) d last.read last.ready (trial_kept turns before run.0.0)) cleared
        (arrives_first d.row d last.read last.ready (first_kept turns before run.0.0)) known asks h.0 alive (lands_at past run.0 alive)
        (λ c. ap (λ (due : NeedData). account_by (happening due last.came (work before) (account Local before).to_mark c) (account c before)) (sym run.0.1.0)))

    unlinks_so : (c : Channel) (n : ℕ) → is_unlinking c n e.row ≡ unlinks c n (is_unlink last.due) event.due
    unlinks_so c n = sym (arrives_links c n e.row e event.read event.ready)
        ∙ sym (unlinks_row c n (has_unlinked past) row e (cleared_here turns past event.read event.ready run.0))
        ∙ ap (λ (due : NeedData). unlinks c n (has_unlinked past) due) run.1.0

    dues : Dues (λ c n due. due ≡ due_in c n event.due past) e.book.messages
    dues c n due among = out.1 c n due among
        ∙ ap (λ (x : Bool). due_by (shift c n before last) last.read (flies n (account c before)) (over_at c n before last && not x) (pass_in c n before) (retry_at past c n) (due_in c n last.due before)) (unlinks_so c n)

  pub stands : (past : List Own) (event : Own) → IsRunBy (Next turns) (event ∷ past) → let d : Desk = place_after turns past in Stands past event d (row_now d event.read event.ready)
  stands [] event run = (states, none, gone) where
    d : Desk
    d = place_after turns []

    states : States (row_now d event.read event.ready) d.slots (λ c n. pass_in c n [])
    states Local n = inr (inl (refl, refl, refl))
    states Remote n = inr (inl (refl, refl, refl))

    none : Dues (λ c n due. due ≡ due_in c n event.due []) d.book.messages
    none Local n due among = absurd among
    none Remote n due among = absurd among

    gone : Gone (λ c. account c []) d.slots
    gone Local bare n j there = absurd (cc)
    gone Remote bare n j there = absurd (cc)
  stands (last ∷ before) event run = stands_on last before event run (stands before last run.0)

pub due_exactly : DueExactly
due_exactly turns past event run c n due among = (stands turns past event run).1 c n due among
