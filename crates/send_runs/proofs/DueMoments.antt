-- When messages are due.
use Rattle.std.proofs.Common.{◌≡◌, ◌⊎◌, ℕ, List, [], ◌∷◌, length, nat_lt, bytes_eq, Bool, true, false, if◌then◌else◌, Option, Some, None, refl, sym, ap, ◌∙◌, subst, inl, inr, ⊎_elim, eq-eqb}
use Rattle.std.specs.Prelude.{not, ◌&&◌, ◌==◌, is_some}
use Rattle.std.specs.Option.{option_map}
use Rattle.bounce_record.specs.Returning.{return_begun}
use Rattle.bounce_record.specs.Writing.{Writing}
use Rattle.call_fs.specs.Columns.{IsAnswerTo}
use Rattle.call_fs.specs.Disk.{Among}
use Rattle.call_fs.specs.Past.{IsRunBy}
use Rattle.call_fs.specs.Program.{MayCome}
use Rattle.call_fs.specs.declared.calls.Answer.{Answer}
use Rattle.call_fs.specs.declared.calls.Answer.TheVariants as answer
use Rattle.call_fs.specs.declared.calls.CallData.TheVariants as call
use Rattle.call_fs.specs.declared.calls.FsError.TheVariants as why
use Rattle.call_fs.specs.declared.calls.How.TheVariants as how
use Rattle.call_fs.specs.declared.file_system.TheConstants.{PIECE}
use Rattle.call_fs.specs.declared.past.GotData.{GotData}
use Rattle.call_fs.specs.declared.past.GotData.TheVariants as came
use Rattle.call_fs.specs.declared.past.NeedData.{NeedData}
use Rattle.call_fs.specs.declared.past.NeedData.TheVariants as needs
use Rattle.call_fs.specs.declared.past.Own.{Own}
use Rattle.call_fs.specs.declared.program.Port.TheVariants as port
use Rattle.envelope_records.specs.declared.channel.Record.{Record}
use Rattle.queue_paths.specs.Names.{Name, name_of, parse, path}
use Rattle.queue_paths.specs.Names.Name.{Of as NameOf}
use Rattle.queue_paths.specs.Names.Part.{Remote as RemoteFile}
use Rattle.queue_paths.proofs.Paths.{parse-path}
use Rattle.retry_schedule.specs.Retry.{next_retry}
use Rattle.send_core.proofs.Agreed.{lanes_agree}
use Rattle.send_core.proofs.Asked.{Facts, FinishSays, KnowsAt, PassSays, SweepSays}
use Rattle.send_core.proofs.Born.{birth_told}
use Rattle.send_core.proofs.Changes.{Both}
use Rattle.send_core.proofs.Coming.{by_file}
use Rattle.send_core.proofs.Known.{Sound, sound_moved_local, sound_moved_remote}
use Rattle.send_core.proofs.Runs.{Was, all_kept, facts, frees, keeps}
use Rattle.send_core.proofs.Says.{arrive_says}
use Rattle.send_core.proofs.Standing.{FitAt, arrives}
use Rattle.send_core.proofs.Turns.{same_end}
use Rattle.send_core.proofs.Still.{row_still}
use Rattle.send_runs.proofs.BeforeAnswer.{IsBefore}
use Rattle.send_core.specs.Agrees.{has_ended, is_opened, task_of}
use Rattle.send_core.specs.Births.{births, births_by}
use Rattle.send_core.specs.Desk.{closed_by, done_with, due_again, due_on, due_then, goes, has_begun, is_free_for, later, never, retried, retry_of, stands_at, waits}
use Rattle.send_core.specs.Finish.{bounce_on, forgot, looked_up, put_off_to, returned_to, sweep_begun}
use Rattle.send_core.specs.Past.{Account, Work, account, work}
use Rattle.send_core.specs.Senders.{IsSaid}
use Rattle.send_core.specs.Table.{Next, act, busy, place_after, due_at, row_now}
use Rattle.send_core.specs.Turn.{file_read, known_of, pass_opened, put_later, todo_on, todo_over, todo_went, took, unlinked}
use Rattle.send_core.specs.declared.desk.Desk.{Desk}
use Rattle.send_parts.specs.declared.row.MarkRow.{MarkRow}
use Rattle.send_parts.specs.declared.row.Marked.{Marked}
use Rattle.send_parts.specs.declared.row.Point.{Point}
use Rattle.send_parts.specs.declared.row.Point.TheVariants as point
use Rattle.send_parts.specs.declared.row.Row.{Row}
use Rattle.send_parts.specs.declared.row.Row.TheVariants as at
use Rattle.send_jobs.specs.declared.attempts.Attempt.{Attempt}
use Rattle.send_jobs.specs.declared.attempts.Failure.{Failure}
use Rattle.send_jobs.specs.declared.attempts.Mark.{Mark}
use Rattle.send_known.specs.declared.channel.Channel.{Channel}
use Rattle.send_known.specs.declared.channel.Channel.TheVariants.{Local, Remote}
use Rattle.send_jobs.specs.declared.jobs.Job.{Job}
use Rattle.send_jobs.specs.Channels.{skip_of}
use Rattle.send_parts.specs.Channels.{file_of}
use Rattle.send_jobs.specs.declared.lane.Lane.{Lane}
use Rattle.send_jobs.specs.Jobs.{job_of, new_job}
use Rattle.send_jobs.proofs.JobLemmas.{job_put}
use Rattle.send_jobs.specs.Lanes.{ended, job_over, left_unmarked, mark_settled, owes, reported}
use Rattle.send_jobs.specs.Sending.{at_lane, lane}
use Rattle.send_jobs.specs.Slots.{attempt_in}
use Rattle.send_jobs.specs.Tries.{moment_of, retry_of as next_try}
use Rattle.send_known.specs.declared.known.Known.{Known}
use Rattle.send_known.specs.declared.messages.Messages.{Messages}
use Rattle.send_known.specs.Known.{is_known}
use Rattle.send_known.specs.Messages.{learned}
use Rattle.send_parts.specs.declared.reading.Progress.{Progress}
use Rattle.send_parts.specs.declared.reading.Progress.TheVariants.{Failed, Goes, Missing, Whole}
use Rattle.send_parts.specs.declared.reading.Reading.{Reading}
use Rattle.send_parts.specs.declared.reading.Reading.TheVariants.{Closing, Going, Opening, Shutting}
use Rattle.send_parts.specs.declared.reply.Way.{Way}
use Rattle.send_parts.specs.declared.reply.Way.TheVariants as way
use Rattle.send_parts.specs.declared.rows.FinishRow.{FinishRow}
use Rattle.send_parts.specs.declared.rows.FinishRow.TheVariants as finish
use Rattle.send_parts.specs.declared.rows.Search.{Search}
use Rattle.send_parts.specs.declared.rows.StartRow.{StartRow}
use Rattle.send_parts.specs.declared.rows.StartRow.TheVariants as start
use Rattle.send_parts.specs.declared.rows.SweepRow.{SweepRow}
use Rattle.send_links.specs.Records.{records_of}
use Rattle.send_parts.specs.Files.{sender_in}
use Rattle.send_parts.specs.Finish.{finish_to}
use Rattle.send_parts.specs.Readings.{read_more, read_on}
use Rattle.send_parts.specs.Replies.{answered as replied, said}
use Rattle.send_parts.specs.Start.{remote_stated}
use Rattle.send_parts.specs.Steps.{remove_text}
use Rattle.send_parts.specs.Sweep.{sweep_to}
use Rattle.todo_pass.specs.declared.row.Row.{Row as PassRow}
use Rattle.todo_pass.specs.declared.row.Row.TheVariants as todo
use Rattle.todo_pass.specs.declared.row.Why.TheVariants as left
use Rattle.todo_pass.specs.Table.{Pass, command_text, moved_at}
use Rattle.todo_pass.specs.Table as pass_table
use Rattle.send_runs.specs.DueMoments.{DuesAreOfPast, Flies, IsDue, IsDueBy, IsOver, IsRetryOf, Shift, Trial, began, begun_by, begun_in, closed, found, has_unlinked, is_file, is_trial_of, is_whole, shift_by, shift_if, trial, unless_done, unless_opened}
use Rattle.send_runs.specs.DueMoments.Shift.{Begins, Fails, Learns, Same}
use Rattle.send_runs.proofs.Clearing.{ClearedAt, PassCleared, cleared_here}
use Rattle.send_runs.proofs.DueLists.{Dues, DuesBut, EachJob, but_one, dues_forgotten, dues_gone, dues_learned, dues_moved, job_began, jobs_begun, jobs_same, jobs_unmarked, jobs_without}
use Rattle.send_runs.proofs.Knowing.{give_not_over, info_not_over, not_over, one_passed, same_texts}
use Rattle.send_runs.proofs.Overs.{HasNone, busy_flies, free_flies, marks_drop, marks_more, none_freed, none_when_over, over_of}
use Rattle.send_runs.proofs.Settling.{OfBoth, Settles, mark_goes, settled_heard, settled_mark}
use Rattle.send_runs.proofs.Steady.{Of, of_finish_at, of_looked, of_named, of_on, of_over_pass, of_requested, of_swept, over_is, start_book}
use Rattle.send_runs.proofs.Trials.{TrialAt, arrives_trial, trial_kept}
use Rattle.send_runs.proofs.Quiet.{IsGoing, IsQuiet, differs, either_goes, file_false, file_true, quiet_finish, quiet_give, quiet_if, quiet_mark, quiet_pass, quiet_start, quiet_sweep, quiet_take, trial_false, trial_true}

-- A step

module _ (S : ℕ → List ℕ → Type 0) (t : Facts) (d : Desk) (now : ℕ) (was : Channel → ℕ → ℕ → Type 0) (begun : Channel → ℕ → Option ℕ) (a b : Channel → Account) (clears : Bool) where
  abbrev Right : (Channel → ℕ → Shift) → (ℕ → ℕ) → Channel → ℕ → ℕ → Type 0
  Right s born c n due = IsDueBy (s c n) now (was c n due) (Flies n (a c)) (IsOver n (b c)) (IsRetryOf (begun_by (s c n) (begun c n)) (born n) c due) due

  abbrev Began : (Channel → ℕ → Shift) → Channel → ℕ → Option ℕ
  Began s c n = begun_by (s c n) (begun c n)

  abbrev Keeps : (Channel → ℕ → Shift) → (ℕ → ℕ) → Messages → List Job → List Job → Type 0
  Keeps s born m jl jr = Dues (Right s born) m × EachJob (Began s Local) jl × EachJob (Began s Remote) jr

  stays : (s : Shift) (due : ℕ) (w flies over retry : Type 0) → IsQuiet s → w → IsDueBy s now w flies over retry due
  stays Same due w flies over retry is h = inl h
  stays (Learns moment) due w flies over retry is h = absurd is
  stays (Begins b) due w flies over retry is h = absurd is
  stays Fails due w flies over retry is h = absurd is

  -- once its pass is over it may be due at the next retry
  tries : (s : Shift) (due : ℕ) (w flies over retry : Type 0) → IsQuiet s → over → retry → IsDueBy s now w flies over retry due
  tries Same due w flies over retry is o h = inr (o, h)
  tries (Learns moment) due w flies over retry is o h = absurd is
  tries (Begins b) due w flies over retry is o h = absurd is
  tries Fails due w flies over retry is o h = absurd is

  same_began : (s : Shift) (o : Option ℕ) → IsQuiet s → begun_by s o ≡ o
  same_began Same o is = refl
  same_began (Learns moment) o is = absurd is
  same_began (Begins b) o is = absurd is
  same_began Fails o is = absurd is

  abbrev AllQuiet : (Channel → ℕ → Shift) → Type 0
  AllQuiet s = (c : Channel) (n : ℕ) → IsQuiet (s c n)

  -- of all but this message on this channel
  abbrev ButQuiet : (Channel → ℕ → Shift) → Channel → ℕ → Type 0
  ButQuiet s c n = (e : Channel) (k : ℕ) → ((e ≡ c) → (k ≡ n) → ⊥) → IsQuiet (s e k)

  -- Reports and marks

  -- it was so, or nothing is in flight of it or to be marked, and it is due at the next retry
  abbrev Held : Lane → Channel → ℕ → ℕ → Type 0
  Held l c n due = was c n due ⊎ (HasNone n l × IsRetryOf (begun c n) (t.births.of n) c due)

  abbrev On : Lane → Lane → Channel → ℕ → ℕ → Type 0
  On l r Local n due = Held l Local n due
  On l r Remote n due = Held r Remote n due

  abbrev AllHeld : Messages → Lane → Lane → Type 0
  AllHeld m l r = Sound S t.births.of m × Dues (On l r) m × EachJob (begun Local) l.jobs × EachJob (begun Remote) r.jobs

  held_more : (m : Messages) (l r x y : Lane) → ((n : ℕ) → HasNone n l → HasNone n x) → ((n : ℕ) → HasNone n r → HasNone n y) → Dues (On l r) m → Dues (On x y) m
  held_more m l r x y f g h Local n due among = ⊎_elim (λ w. inl w) (λ w. inr (f n w.0, w.1)) (h Local n due among)
  held_more m l r x y f g h Remote n due among = ⊎_elim (λ w. inl w) (λ w. inr (g n w.0, w.1)) (h Remote n due among)

  retry_is : (c : Channel) (n : ℕ) (job : Job) (m : Messages) → is_known n m.known ≡ true → Sound S t.births.of m → begun c n ≡ Some job.begun
      → IsRetryOf (begun c n) (t.births.of n) c (next_try c n job.begun m)
  retry_is c n job m is sound e = subst (λ (o : Option ℕ). IsRetryOf o (t.births.of n) c (next_try c n job.begun m)) (sym e)
      (ap (λ (birth : ℕ). next_retry (moment_of birth) (moment_of job.begun) (skip_of c)) (birth_told t.births.of n m.known is sound.3))

  settles : Settles AllHeld
  settles = record { unmarks = unmarks; settles = settled; reports = reports; owes = owing; retries = retries } where
    unmarks : (c : Channel) (n : ℕ) (e : Desk) → OfBoth AllHeld e → OfBoth AllHeld (record e { slots = at_lane c (left_unmarked n) e.slots })
    unmarks Local n e h = let l : Lane = e.slots.local in let r : Lane = e.slots.remote in
        (h.0, held_more e.book.messages l r (left_unmarked n l) r (λ k x. x) (λ k x. x) h.1, jobs_unmarked (begun Local) n l.jobs h.2, h.3)
    unmarks Remote n e h = let l : Lane = e.slots.local in let r : Lane = e.slots.remote in
        (h.0, held_more e.book.messages l r l (left_unmarked n r) (λ k x. x) (λ k x. x) h.1, h.2, jobs_unmarked (begun Remote) n r.jobs h.3)

    settled : (c : Channel) (e : Desk) → OfBoth AllHeld e → OfBoth AllHeld (record e { slots = at_lane c mark_settled e.slots })
    settled Local e h = let l : Lane = e.slots.local in let r : Lane = e.slots.remote in
        (h.0, held_more e.book.messages l r (mark_settled l) r (λ k x. (x.0, marks_drop k l.marks x.1)) (λ k x. x) h.1, h.2, h.3)
    settled Remote e h = let l : Lane = e.slots.local in let r : Lane = e.slots.remote in
        (h.0, held_more e.book.messages l r l (mark_settled r) (λ k x. x) (λ k x. (x.0, marks_drop k r.marks x.1)) h.1, h.2, h.3)

    reports : (c : Channel) (slot : ℕ) (e : Desk) → OfBoth AllHeld e → OfBoth AllHeld (record e { slots = at_lane c (reported slot) e.slots })
    reports Local slot e h = let l : Lane = e.slots.local in let r : Lane = e.slots.remote in
        (h.0, held_more e.book.messages l r (reported slot l) r (λ k x. (none_freed k slot l.slots x.0, x.1)) (λ k x. x) h.1, h.2, h.3)
    reports Remote slot e h = let l : Lane = e.slots.local in let r : Lane = e.slots.remote in
        (h.0, held_more e.book.messages l r l (reported slot r) (λ k x. x) (λ k x. (none_freed k slot r.slots x.0, x.1)) h.1, h.2, h.3)

    owing : (c : Channel) (slot : ℕ) (x : Attempt) (note : Option Failure) (e : Desk) → attempt_in (lane c e.slots).slots slot ≡ Some x → OfBoth AllHeld e
        → OfBoth AllHeld (waits c x note (record e { slots = at_lane c (reported slot) e.slots }))
    owing Local slot x note e there h = let l : Lane = e.slots.local in let r : Lane = e.slots.remote in let m : Mark = record { attempt = x; note = note } in
        (h.0, held_more e.book.messages l r (owes m (reported slot l)) r (λ k w. (none_freed k slot l.slots w.0, marks_more k slot l m there w)) (λ k w. w) h.1, h.2, h.3)
    owing Remote slot x note e there h = let l : Lane = e.slots.local in let r : Lane = e.slots.remote in let m : Mark = record { attempt = x; note = note } in
        (h.0, held_more e.book.messages l r l (owes m (reported slot r)) (λ k w. w) (λ k w. (none_freed k slot r.slots w.0, marks_more k slot r m there w)) h.1, h.2, h.3)

    retries : (c : Channel) (n : ℕ) (job : Job) (e : Desk) → job_over n (lane c e.slots) ≡ Some job → OfBoth AllHeld e → OfBoth AllHeld (due_again c n (retry_of c n job.begun e) e)
    retries Local n job e is h =
        let m : Messages = e.book.messages in
        let l : Lane = e.slots.local in
        let r : Lane = e.slots.remote in
        let x : ℕ = next_try Local n job.begun m in (
          sound_moved_local S t.births.of (x, n) m h.0,
          held_more (due_then Local n x m) l r (ended n l) r (λ k w. w) (λ k w. w)
              (dues_moved (On l r) Local n x m (λ due. inr (none_when_over n l job is, retry_is Local n job m (h.0.1 n due) h.0 (job_began (begun Local) n job l.jobs (over_is n l job is) h.2)))
              (but_one (On l r) Local n m h.1)),
          jobs_without (begun Local) (begun Local) n l.jobs (λ k other. refl) h.2,
          h.3,
        )
    retries Remote n job e is h =
        let m : Messages = e.book.messages in
        let l : Lane = e.slots.local in
        let r : Lane = e.slots.remote in
        let x : ℕ = next_try Remote n job.begun m in (
          sound_moved_remote S t.births.of (x, n) m h.0,
          held_more (due_then Remote n x m) l r l (ended n r) (λ k w. w) (λ k w. w)
              (dues_moved (On l r) Remote n x m (λ due. inr (none_when_over n r job is, retry_is Remote n job m (h.0.2 n due) h.0 (job_began (begun Remote) n job r.jobs (over_is n r job is) h.3)))
              (but_one (On l r) Remote n m h.1)),
          h.2,
          jobs_without (begun Remote) (begun Remote) n r.jobs (λ k other. refl) h.3,
        )

  -- a channel that has nothing of a message has nothing of it by its account
  abbrev Lands : Desk → Type 0
  Lands e = has_ended e.row ≡ false → (c : Channel) (n : ℕ) → HasNone n (lane c e.slots) → IsOver n (b c)

  landed : (s : Channel → ℕ → Shift) (born : ℕ → ℕ) (e : Desk) → AllQuiet s → born ≡ t.births.of → has_ended e.row ≡ false → Lands e → OfBoth AllHeld e → Of (Keeps s born) e
  landed s born e q same goes lands h = (
    by,
    jobs_same (begun Local) (Began s Local) e.slots.local.jobs (λ n. same_began (s Local n) (begun Local n) (q Local n)) h.2,
    jobs_same (begun Remote) (Began s Remote) e.slots.remote.jobs (λ n. same_began (s Remote n) (begun Remote n) (q Remote n)) h.3,
  )
    where
      again : (c : Channel) (n due : ℕ) → IsRetryOf (begun c n) (t.births.of n) c due → IsRetryOf (Began s c n) (born n) c due
      again c n due x = subst (λ (o : Option ℕ). IsRetryOf o (born n) c due) (sym (same_began (s c n) (begun c n) (q c n))) (subst (λ (of : ℕ → ℕ). IsRetryOf (begun c n) (of n) c due) (sym same) x)

      one : (c : Channel) (n due : ℕ) → Held (lane c e.slots) c n due → Right s born c n due
      one c n due x = ⊎_elim
          (λ w. stays (s c n) due (was c n due) (Flies n (a c)) (IsOver n (b c)) (IsRetryOf (Began s c n) (born n) c due) (q c n) w)
          (λ w. tries (s c n) due (was c n due) (Flies n (a c)) (IsOver n (b c)) (IsRetryOf (Began s c n) (born n) c due) (q c n) (lands goes c n w.0) (again c n due w.1))
          x

      by : Dues (Right s born) e.book.messages
      by Local n due among = one Local n due (h.1 Local n due among)
      by Remote n due among = one Remote n due (h.1 Remote n due among)

  abbrev Shifts : Option Work → Option Trial → Row → GotData → Channel → ℕ → Shift
  Shifts f tr row got c n = shift_by c n now t.births.command clears f tr (due_at row d) got

  abbrev Born : Row → GotData → ℕ → ℕ
  Born row got = (births_by t.births now (due_at row d) got).of

  abbrev To : Option Work → Option Trial → Row → GotData → Type 0
  To f tr row got = Of (Keeps (Shifts f tr row got) (Born row got)) (act row now got d)

  module _ (h : Dues was d.book.messages) (jl : EachJob (begun Local) d.slots.local.jobs) (jr : EachJob (begun Remote) d.slots.remote.jobs) where
    kept : (s : Channel → ℕ → Shift) (born : ℕ → ℕ) → AllQuiet s → Of (Keeps s born) d
    kept s born q = (
      (λ c n due among. stays (s c n) due (was c n due) (Flies n (a c)) (IsOver n (b c)) (IsRetryOf (Began s c n) (born n) c due) (q c n) (h c n due among)),
      jobs_same (begun Local) (Began s Local) d.slots.local.jobs (λ n. same_began (s Local n) (begun Local n) (q Local n)) jl,
      jobs_same (begun Remote) (Began s Remote) d.slots.remote.jobs (λ n. same_began (s Remote n) (begun Remote n) (q Remote n)) jr,
    )

    -- of all others what was so
    but : (s : Channel → ℕ → Shift) (born : ℕ → ℕ) (c : Channel) (n : ℕ) → ButQuiet s c n → DuesBut (Right s born) c n d.book.messages
    but s born c n q = λ e k due among other. stays (s e k) due (was e k due) (Flies k (a e)) (IsOver k (b e)) (IsRetryOf (Began s e k) (born k) e due) (q e k other) (h e k due among)

    rest_local : (s : Channel → ℕ → Shift) (n : ℕ) → ButQuiet s Remote n → EachJob (Began s Local) d.slots.local.jobs
    rest_local s n q = jobs_same (begun Local) (Began s Local) d.slots.local.jobs (λ k. same_began (s Local k) (begun Local k) (q Local k (λ same at. cc))) jl

    rest_remote : (s : Channel → ℕ → Shift) (n : ℕ) → ButQuiet s Local n → EachJob (Began s Remote) d.slots.remote.jobs
    rest_remote s n q = jobs_same (begun Remote) (Began s Remote) d.slots.remote.jobs (λ k. same_began (s Remote k) (begun Remote k) (q Remote k (λ same at. cc))) jr

    -- no job is on it any more
    again : (s : Channel → ℕ → Shift) (born : ℕ → ℕ) (c : Channel) (n due : ℕ) → Right s born c n due → ButQuiet s c n → Of (Keeps s born) (due_again c n due d)
    again s born Local n due right q = (
      dues_moved (Right s born) Local n due d.book.messages (λ is. right) (but s born Local n q),
      jobs_without (begun Local) (Began s Local) n d.slots.local.jobs (λ k other. same_began (s Local k) (begun Local k) (q Local k (λ same at. other at))) jl,
      rest_remote s n q,
    )
    again s born Remote n due right q = (
      dues_moved (Right s born) Remote n due d.book.messages (λ is. right) (but s born Remote n q),
      rest_local s n q,
      jobs_without (begun Remote) (Began s Remote) n d.slots.remote.jobs (λ k other. same_began (s Remote k) (begun Remote k) (q Remote k (λ same at. other at))) jr,
    )

    gone : (s : Channel → ℕ → Shift) (born : ℕ → ℕ) (c : Channel) (n : ℕ) → ButQuiet s c n → Of (Keeps s born) (done_with c n d)
    gone s born Local n q = (
      dues_gone (Right s born) Local n d.book.messages (but s born Local n q),
      jobs_without (begun Local) (Began s Local) n d.slots.local.jobs (λ k other. same_began (s Local k) (begun Local k) (q Local k (λ same at. other at))) jl,
      rest_remote s n q,
    )
    gone s born Remote n q = (
      dues_gone (Right s born) Remote n d.book.messages (but s born Remote n q),
      rest_local s n q,
      jobs_without (begun Remote) (Began s Remote) n d.slots.remote.jobs (λ k other. same_began (s Remote k) (begun Remote k) (q Remote k (λ same at. other at))) jr,
    )

    -- with nothing tried, at the rows that are quiet

    held : Sound S t.births.of d.book.messages → OfBoth AllHeld d
    held sound = (sound, by, jl, jr) where
      by : Dues (On d.slots.local d.slots.remote) d.book.messages
      by Local n due among = inl (h Local n due among)
      by Remote n due among = inl (h Remote n due among)

    take_to : (f : Option Work) (c : Channel) (got : GotData) → MayCome (due_at (at.TakeLink c) d) got → Sound S t.births.of d.book.messages → Lands (act (at.TakeLink c) now got d) → To f None (at.TakeLink c) got
    take_to f c got may sound lands = by (said got).way refl where
      s : Channel → ℕ → Shift
      s = Shifts f None (at.TakeLink c) got

      born : ℕ → ℕ
      born = Born (at.TakeLink c) got

      q : AllQuiet s
      q e n = quiet_take e c n now t.births.command clears f d got

      k : Of (Keeps s born) d
      k = kept s born q

      by : (w : Way) → (said got).way ≡ w → Of (Keeps s born) (act (at.TakeLink c) now got d)
      by way.Fine e = subst (λ (w : Way). Lands (busy (took w (said got).bytes c d)) → Of (Keeps s born) (busy (took w (said got).bytes c d))) (sym e)
          (λ lands. landed s born (busy (took way.Fine (said got).bytes c d)) q (row_still t.births now (at.TakeLink c) d got tt may) refl lands (settled_heard AllHeld settles c (said got).bytes d (held sound))) lands
      by way.Over e = subst (λ (w : Way). Of (Keeps s born) (busy (took w (said got).bytes c d))) (sym e) k
      by way.Absent e = subst (λ (w : Way). Of (Keeps s born) (busy (took w (said got).bytes c d))) (sym e) k
      by way.NoMemory e = subst (λ (w : Way). Of (Keeps s born) (busy (took w (said got).bytes c d))) (sym e) k
      by way.Broken e = subst (λ (w : Way). Of (Keeps s born) (busy (took w (said got).bytes c d))) (sym e) k

    mark_to : (f : Option Work) (row : MarkRow) (m : Marked) (got : GotData) → MayCome (due_at (at.Mark row m) d) got → Sound S t.births.of d.book.messages → Lands (act (at.Mark row m) now got d) → To f None (at.Mark row m) got
    mark_to f row m got may sound lands =
        let s : Channel → ℕ → Shift = Shifts f None (at.Mark row m) got in
        let born : ℕ → ℕ = Born (at.Mark row m) got in
        landed s born (act (at.Mark row m) now got d) (λ e n. quiet_mark e n now t.births.command clears f row m d got) (row_still t.births now (at.Mark row m) d got tt may) (mark_goes row m got d) lands
        (settled_mark AllHeld settles row m got d (held sound))

    -- an unlink

    unlinks : (c : Channel) (n : ℕ) (p : Point) (told : Answer) (bytes : List ℕ) (born : ℕ → ℕ)
        → Of (Keeps (λ e k. shift_if (is_file e k (parse (path (name_of (file_of c n))))) (unless_done told)) born) (unlinked (replied told bytes).way c n p now d)
    unlinks c n p told bytes born = by told where
      s : Answer → Channel → ℕ → Shift
      s told e k = shift_if (is_file e k (parse (path (name_of (file_of c n))))) (unless_done told)

      q : (told : Answer) → ButQuiet (s told) c n
      q told e k other = subst (λ (x : Bool). IsQuiet (shift_if x (unless_done told))) (sym (file_false e c k n other)) tt

      fails : (told : Answer) → unless_done told ≡ Fails → Of (Keeps (s told) born) (due_again c n (later now) d)
      fails told e = again (s told) born c n (later now)
          (subst (λ (x : Shift). IsDueBy x now (was c n (later now)) (Flies n (a c)) (IsOver n (b c)) (IsRetryOf (begun_by x (begun c n)) (born n) c (later now)) (later now))
          (sym (ap (λ (b : Bool). shift_if b (unless_done told)) (file_true c n) ∙ e)) refl) (q told)

      by : (told : Answer) → Of (Keeps (s told) born) (unlinked (replied told bytes).way c n p now d)
      by answer.Done = gone (s answer.Done) born c n (q answer.Done)
      by (answer.Created fd k) = gone (s (answer.Created fd k)) born c n (q (answer.Created fd k))
      by (answer.Opened fd) = gone (s (answer.Opened fd)) born c n (q (answer.Opened fd))
      by (answer.Count count) = gone (s (answer.Count count)) born c n (q (answer.Count count))
      by (answer.Stat stat) = gone (s (answer.Stat stat)) born c n (q (answer.Stat stat))
      by (answer.Name text) = gone (s (answer.Name text)) born c n (q (answer.Name text))
      by answer.NoName = fails answer.NoName refl
      by (answer.Refused why.NotThere) = fails (answer.Refused why.NotThere) refl
      by (answer.Refused why.Memory) = fails (answer.Refused why.Memory) refl
      by (answer.Refused why.Exists) = fails (answer.Refused why.Exists) refl
      by (answer.Refused why.Fault) = fails (answer.Refused why.Fault) refl

    unlink_to : (f : Option Work) (c : Channel) (n : ℕ) (p : Point) (got : GotData) → MayCome (due_at (at.UnlinkFile c n p) d) got → clears ≡ false → To f None (at.UnlinkFile c n p) got
    unlink_to f c n p got may e = by_file (due_at (at.UnlinkFile c n p) d) tt (To f None (at.UnlinkFile c n p)) got may
        (λ told fit.
        let born : ℕ → ℕ = Born (at.UnlinkFile c n p) (came.Answered told) in
        subst (λ (x : Bool). Of (Keeps (λ i k. shift_if (not x && is_file i k (parse (path (name_of (file_of c n))))) (unless_done told.answer)) born) (unlinked (replied told.answer told.bytes).way c n p now d)) (sym e)
        (unlinks c n p told.answer told.bytes born))

    -- a reading

    put_off : (s : Channel → ℕ → Shift) (born : ℕ → ℕ) (c : Channel) (n : ℕ) → s c n ≡ Fails → ButQuiet s c n → Of (Keeps s born) (put_later c n now d)
    put_off s born c n e q = again s born c n (later now)
        (subst (λ (x : Shift). IsDueBy x now (was c n (later now)) (Flies n (a c)) (IsOver n (b c)) (IsRetryOf (begun_by x (begun c n)) (born n) c (later now)) (later now)) (sym e) refl) q

    opens : (c : Channel) (n b : ℕ) (told : Answer) (bytes : List ℕ) (born : ℕ → ℕ) → IsAnswerTo (call.Open (path (name_of (file_of c n))) how.Read) told
        → Of (Keeps (λ e k. shift_if (is_file e k (parse (path (name_of (file_of c n))))) (unless_opened told)) born)
        (file_read (read_on Opening (replied told bytes)) c n b Opening now (replied told bytes) d)
    opens c n b told bytes born fit = by told fit where
      s : Answer → Channel → ℕ → Shift
      s told e k = shift_if (is_file e k (parse (path (name_of (file_of c n))))) (unless_opened told)

      q : (told : Answer) → ButQuiet (s told) c n
      q told e k other = subst (λ (x : Bool). IsQuiet (shift_if x (unless_opened told))) (sym (file_false e c k n other)) tt

      fails : (told : Answer) → unless_opened told ≡ Fails → Of (Keeps (s told) born) (put_later c n now d)
      fails told e = put_off (s told) born c n (ap (λ (x : Bool). shift_if x (unless_opened told)) (file_true c n) ∙ e) (q told)

      by : (told : Answer) → IsAnswerTo (call.Open (path (name_of (file_of c n))) how.Read) told → Of (Keeps (s told) born) (file_read (read_on Opening (replied told bytes)) c n b Opening now (replied told bytes) d)
      by (answer.Opened fd) fit = kept (s (answer.Opened fd)) born (λ e k. quiet_if (is_file e k (parse (path (name_of (file_of c n))))) Same tt)
      by (answer.Refused why.NotThere) fit = fails (answer.Refused why.NotThere) refl
      by (answer.Refused why.Fault) fit = fails (answer.Refused why.Fault) refl
      by (answer.Refused why.Memory) fit = fails (answer.Refused why.Memory) refl
      by told fit = absurd fit

    -- its close, by whether it was read whole

    abbrev Ended : Channel → ℕ → ℕ → Bool → Channel → ℕ → Shift
    Ended c n b whole e k = shift_if (is_trial_of e k (record { channel = c; n = n; begun = b })) (began whole b)

    ended_quiet : (c : Channel) (n b : ℕ) (whole : Bool) → ButQuiet (Ended c n b whole) c n
    ended_quiet c n b whole e k other = subst (λ (x : Bool). IsQuiet (shift_if x (began whole b))) (sym (trial_false e c k n b other)) tt

    ended_is : (c : Channel) (n b : ℕ) (whole : Bool) → Ended c n b whole c n ≡ began whole b
    ended_is c n b whole = ap (λ (x : Bool). shift_if x (began whole b)) (trial_true c n b)

    closes_badly : (c : Channel) (n b : ℕ) (born : ℕ → ℕ) → Of (Keeps (Ended c n b false) born) (put_later c n now d)
    closes_badly c n b born = put_off (Ended c n b false) born c n (ended_is c n b false) (ended_quiet c n b false)

    right_begun : (c : Channel) (n m due : ℕ) (born : ℕ → ℕ) → (((Flies n (a c) → ⊥) × (due ≡ never)) ⊎ (Flies n (a c) × (due ≡ later now))) → Right (Ended c n m true) born c n due
    right_begun c n m due born x = subst (λ (y : Shift). IsDueBy y now (was c n due) (Flies n (a c)) (IsOver n (b c)) (IsRetryOf (begun_by y (begun c n)) (born n) c due) due) (sym (ended_is c n m true)) x

    begins : (c : Channel) (n m : ℕ) (records : List Record) (born : ℕ → ℕ) → (Flies n (a c) → ⊥) → Of (Keeps (Ended c n m true) born) (has_begun c n m records d)
    begins Local n m records born free =
        let s : Channel → ℕ → Shift = Ended Local n m true in (
          dues_moved (Right s born) Local n never d.book.messages (λ is. right_begun Local n m never born (inl (free, refl))) (but s born Local n (ended_quiet Local n m true)),
          jobs_begun (begun Local) (Began s Local) n m d.slots.local.jobs (ap (λ (x : Shift). begun_by x (begun Local n)) (ended_is Local n m true))
              (λ k other. same_began (s Local k) (begun Local k) (ended_quiet Local n m true Local k (λ same at. other at))) jl,
          rest_remote s n (ended_quiet Local n m true),
        )
    begins Remote n m records born free =
        let s : Channel → ℕ → Shift = Ended Remote n m true in (
          dues_moved (Right s born) Remote n never d.book.messages (λ is. right_begun Remote n m never born (inl (free, refl))) (but s born Remote n (ended_quiet Remote n m true)),
          rest_local s n (ended_quiet Remote n m true),
          jobs_begun (begun Remote) (Began s Remote) n m d.slots.remote.jobs (ap (λ (x : Shift). begun_by x (begun Remote n)) (ended_is Remote n m true))
              (λ k other. same_began (s Remote k) (begun Remote k) (ended_quiet Remote n m true Remote k (λ same at. other at))) jr,
        )

    -- a pass without a record to do leaves no place
    begun_job : (c : Channel) (n m : ℕ) (records : List Record) → job_of n (lane c (has_begun c n m records d).slots).jobs ≡ Some (new_job n m)
    begun_job Local n m records = job_put (new_job n m) n d.slots.local.jobs ∙ ap (λ (x : Bool). if x then Some (new_job n m) else job_of n d.slots.local.jobs) (eq-eqb n n refl)
    begun_job Remote n m records = job_put (new_job n m) n d.slots.remote.jobs ∙ ap (λ (x : Bool). if x then Some (new_job n m) else job_of n d.slots.remote.jobs) (eq-eqb n n refl)

    goes_through : (s : Channel → ℕ → Shift) (born : ℕ → ℕ) (c : Channel) (n m : ℕ) (p : Point) (e : Desk) (o : Option Job) → ((job : Job) → o ≡ Some job → job.unmarked ≡ false)
        → Of (Keeps s born) e → Of (Keeps s born) (closed_by o c n p e)
    goes_through s born c n m p e None whole k = k
    goes_through s born c n m p e (Some job) whole k = subst (λ (x : Bool). Of (Keeps s born) (if x then retried c n job.begun (stands_at e p) else goes e (at.UnlinkFile c n p))) (sym (whole job refl)) k

    abbrev unmarked_in : Option Job → Bool
    unmarked_in None = false
    unmarked_in (Some job) = job.unmarked

    closes : (o : Option (List Record)) (c : Channel) (n m : ℕ) (born : ℕ → ℕ) → ((slot : ℕ) → option_map task_of (attempt_in (lane c d.slots).slots slot) ≡ (a c).in_flight slot) → (lane c d.slots).left ≡ []
        → Of (Keeps (Ended c n m (is_some o)) born) (pass_opened o c n m now d)
    closes None c n m born agrees none = closes_badly c n m born
    closes (Some records) c n m born agrees none = by (is_free_for n (lane c d.slots)) refl where
      s : Channel → ℕ → Shift
      s = Ended c n m true

      after : Desk
      after = has_begun c n m records d

      whole : (job : Job) → job_over n (lane c after.slots) ≡ Some job → job.unmarked ≡ false
      whole job e = ap unmarked_in (sym (over_is n (lane c after.slots) job e) ∙ begun_job c n m records)

      by : (x : Bool) → is_free_for n (lane c d.slots) ≡ x → Of (Keeps s born) (if x then closed_by (job_over n (lane c after.slots)) c n (point.Pass c false) after else put_later c n now d)
      by true e = goes_through s born c n m (point.Pass c false) after (job_over n (lane c after.slots)) whole (begins c n m records born (free_flies n (lane c d.slots) (a c) agrees e))
      by false e = again s born c n (later now) (right_begun c n m (later now) born (inr (busy_flies n (lane c d.slots) (a c) agrees none e, refl))) (ended_quiet c n m true)

    in_lane : (c : Channel) → Both false false (a Local) (a Remote) d.slots d.local d.remote → (slot : ℕ) → option_map task_of (attempt_in (lane c d.slots).slots slot) ≡ (a c).in_flight slot
    in_lane Local fit = fit.0.0
    in_lane Remote fit = fit.1.0

    file_to : (P : MarkRow → Option Mark → Marked → Writing → Type 0) (f : Option Work) (tr : Option Trial) (c : Channel) (n b : ℕ) (reading : Reading) (got : GotData)
        → MayCome (due_at (at.ReadFile c n b reading) d) got → TrialAt (at.ReadFile c n b reading) tr → FitAt P f (a Local) (a Remote) (at.ReadFile c n b reading) d → To f tr (at.ReadFile c n b reading) got
    file_to P f tr c n b Opening got may tried fit = by_file (due_at (at.ReadFile c n b Opening) d) tt (To f tr (at.ReadFile c n b Opening)) got may
        (λ told answers. opens c n now told.answer told.bytes (Born (at.ReadFile c n b Opening) (came.Answered told)) answers)
    file_to P f tr c n b (Going fd) got may tried fit =
        going (read_on (Going fd) (said got)) (read_goes (said got).way)
      where
        going : (x : Progress) → IsGoing x → Of (Keeps (λ e k. Same) (Born (at.ReadFile c n b (Going fd)) got)) (file_read x c n b (Going fd) now (said got) d)
        going (Goes more) is = kept (λ e k. Same) (Born (at.ReadFile c n b (Going fd)) got) (λ e k. tt)
        going Whole is = absurd is
        going Missing is = absurd is
        going Failed is = absurd is

        read_goes : (w : Way) → IsGoing (read_more w fd (said got).bytes)
        read_goes way.Fine = either_goes (nat_lt (length (said got).bytes) PIECE) fd
        read_goes way.Over = tt
        read_goes way.Absent = tt
        read_goes way.Broken = tt
        read_goes way.NoMemory = tt
    file_to P f tr c n b (Closing fd) got may tried fits = by_file (due_at (at.ReadFile c n b (Closing fd)) d) tt (To f tr (at.ReadFile c n b (Closing fd))) got may
        (λ told fit.
        let whole : is_whole f fd ≡ is_some (records_of d.book.read) =
        ap (λ (w : Option Work). is_whole w fd) fits.2 ∙ ap (λ (x : Bool). x && is_some (records_of d.book.read)) (same_end fd.0) in
        let born : ℕ → ℕ = Born (at.ReadFile c n b (Closing fd)) (came.Answered told) in
        let e : Desk = act (at.ReadFile c n b (Closing fd)) now (came.Answered told) d in
        subst (λ (o : Option Trial). Of (Keeps (λ x k. closed o (is_whole f fd) x k) born) e) (sym tried)
        (subst (λ (x : Bool). Of (Keeps (Ended c n b x) born) e) (sym whole)
        (closes (records_of d.book.read) c n b born (in_lane c fits.0) fits.1)))
    file_to P f tr c n b (Shutting fd) got may tried fits = by_file (due_at (at.ReadFile c n b (Shutting fd)) d) tt (To f tr (at.ReadFile c n b (Shutting fd))) got may
        (λ told fit.
        let born : ℕ → ℕ = Born (at.ReadFile c n b (Shutting fd)) (came.Answered told) in
        let e : Desk = act (at.ReadFile c n b (Shutting fd)) now (came.Answered told) d in
        subst (λ (o : Option Trial). Of (Keeps (λ x k. closed o (is_whole f fd) x k) born) e) (sym tried)
        (subst (λ (w : Option Work). Of (Keeps (Ended c n b (is_whole w fd)) born) e) (sym fits.2) (closes_badly c n b born)))

    -- a todo pass

    began_if : (b : Bool) (moment : ℕ) (o : Option ℕ) → begun_by (shift_if b (Learns moment)) o ≡ o
    began_if true moment o = refl
    began_if false moment o = refl

    -- of a message that is learnt
    learns : (s : Channel → ℕ → Shift) (born : ℕ → ℕ) (k : Known) (due : ℕ) → ((c : Channel) (n : ℕ) → s c n ≡ shift_if (k.n == n) (Learns due))
        → Keeps s born (learned k due d.book.messages) d.slots.local.jobs d.slots.remote.jobs
    learns s born k due is = (
      dues_learned (Right s born) k due d.book.messages new old,
      jobs_same (begun Local) (Began s Local) d.slots.local.jobs (λ n. ap (λ (x : Shift). begun_by x (begun Local n)) (is Local n) ∙ began_if (k.n == n) due (begun Local n)) jl,
      jobs_same (begun Remote) (Began s Remote) d.slots.remote.jobs (λ n. ap (λ (x : Shift). begun_by x (begun Remote n)) (is Remote n) ∙ began_if (k.n == n) due (begun Remote n)) jr,
    )
      where
        new : (c : Channel) → Right s born c k.n due
        new c = subst (λ (x : Shift). IsDueBy x now (was c k.n due) (Flies k.n (a c)) (IsOver k.n (b c)) (IsRetryOf (begun_by x (begun c k.n)) (born k.n) c due) due)
            (sym (is c k.n ∙ ap (λ (b : Bool). shift_if b (Learns due)) (eq-eqb k.n k.n refl))) refl

        old : (c : Channel) (n x : ℕ) → Among (x, n) (due_on c d.book.messages) → (n ≡ k.n → ⊥) → Right s born c n x
        old c n x among other = subst (λ (y : Shift). IsDueBy y now (was c n x) (Flies n (a c)) (IsOver n (b c)) (IsRetryOf (begun_by y (begun c n)) (born n) c x) x)
            (sym (is c n ∙ ap (λ (b : Bool). shift_if b (Learns due)) (differs n k.n other))) (inl (h c n x among))

    pass_on : (f : Option Work) (row : PassRow) (p : Pass) (got : GotData) (born : ℕ → ℕ) → IsBefore row → PassCleared row clears
        → let q : Pass = moved_at d.book.controls row p now got in Of (Keeps (λ c n. shift_by c n now t.births.command clears f None (pass_table.due_at row p) got) born) (todo_on q.row q now d)
    pass_on f row p got born is cleared =
        let q : Pass = moved_at d.book.controls row p now got in
        let s : Channel → ℕ → Shift = (λ c n. shift_by c n now t.births.command clears f None (pass_table.due_at row p) got) in
        of_on (Keeps s born) q.row q now d (kept s born (λ c n. quiet_pass c n now t.births.command clears f row p is cleared got))

    not_good : (b : Bool) (moment : ℕ) → IsQuiet (shift_if (b && false) (Learns moment))
    not_good true moment = tt
    not_good false moment = tt

    good_is : (b : Bool) (moment : ℕ) → shift_if (b && true) (Learns moment) ≡ shift_if b (Learns moment)
    good_is true moment = refl
    good_is false moment = refl

    answered_so : (good : Bool) (p : Pass) (born : ℕ → ℕ) → t.births.command ≡ command_text p.n
        → Of (Keeps (λ c n. shift_if (bytes_eq t.births.command (command_text n) && good) (Learns now)) born)
        (todo_over (if good then todo.Done else todo.Left left.Unclean) (pass_table.goes p (if good then todo.Done else todo.Left left.Unclean)) now d)
    answered_so true p born gave =
        let s : Channel → ℕ → Shift = (λ c n. shift_if (bytes_eq t.births.command (command_text n) && true) (Learns now)) in
        of_over_pass (Keeps s born) todo.Done (pass_table.goes p todo.Done) now d
        (λ e. learns s born (known_of (pass_table.goes p todo.Done)) now (λ c n.
        good_is (bytes_eq t.births.command (command_text n)) now
        ∙ ap (λ (text : List ℕ). shift_if (bytes_eq text (command_text n)) (Learns now)) gave
        ∙ ap (λ (b : Bool). shift_if b (Learns now)) (same_texts command_text one_passed p.n n)))
        (λ e. absurd (cc))
    answered_so false p born gave =
        let s : Channel → ℕ → Shift = (λ c n. shift_if (bytes_eq t.births.command (command_text n) && false) (Learns now)) in
        of_over_pass (Keeps s born) (todo.Left left.Unclean) (pass_table.goes p (todo.Left left.Unclean)) now d (λ e. absurd (cc))
        (λ e. kept s born (λ c n. not_good (bytes_eq t.births.command (command_text n)) now))

    abbrev ToPass : Option Work → PassRow → Pass → GotData → Type 0
    ToPass f row p got = Of (Keeps (λ c n. shift_by c n now t.births.command clears f None (pass_table.due_at row p) got) ((births_by t.births now (pass_table.due_at row p) got).of))
        (todo_went row got (moved_at d.book.controls row p now got) now d)

    answer_to : (f : Option Work) (p : Pass) (got : GotData) → MayCome (pass_table.due_at todo.Answer p) got → t.births.command ≡ command_text p.n → ToPass f todo.Answer p got
    answer_to f p (came.Took bytes) may gave = answered_so (bytes_eq bytes (43 ∷ [])) p ((births_by t.births now (needs.Take port.Clean) (came.Took bytes)).of) gave
    answer_to f p came.End may gave = kept (λ c n. Same) t.births.of (λ c n. tt)
    answer_to f p came.Failed may gave = kept (λ c n. Same) t.births.of (λ c n. tt)
    answer_to f p (came.Answered told) may gave = absurd may
    answer_to f p (came.Ended status) may gave = absurd may
    answer_to f p came.Crashed may gave = absurd may
    answer_to f p came.Gave may gave = absurd may
    answer_to f p (came.Started pid) may gave = absurd may
    answer_to f p came.Memory may gave = absurd may

    pass_to : (f : Option Work) (row : PassRow) (p : Pass) (got : GotData) → MayCome (pass_table.due_at row p) got → PassSays S t row p → PassCleared row clears → ToPass f row p got
    pass_to f todo.Answer p got may says cleared = answer_to f p got may says.2
    pass_to f (todo.Clear part) p got may says cleared = pass_on f (todo.Clear part) p got ((births_by t.births now (pass_table.due_at (todo.Clear part) p) got).of) tt cleared
    pass_to f todo.StatMess p got may says cleared = pass_on f todo.StatMess p got ((births_by t.births now (pass_table.due_at todo.StatMess p) got).of) tt cleared
    pass_to f todo.OpenTodo p got may says cleared = pass_on f todo.OpenTodo p got ((births_by t.births now (pass_table.due_at todo.OpenTodo p) got).of) tt cleared
    pass_to f (todo.ReadTodo fd) p got may says cleared = pass_on f (todo.ReadTodo fd) p got ((births_by t.births now (pass_table.due_at (todo.ReadTodo fd) p) got).of) tt cleared
    pass_to f (todo.CloseTodo fd) p got may says cleared = pass_on f (todo.CloseTodo fd) p got ((births_by t.births now (pass_table.due_at (todo.CloseTodo fd) p) got).of) tt cleared
    pass_to f (todo.Create part) p got may says cleared = pass_on f (todo.Create part) p got ((births_by t.births now (pass_table.due_at (todo.Create part) p) got).of) tt cleared
    pass_to f (todo.Append part fd done) p got may says cleared = pass_on f (todo.Append part fd done) p got ((births_by t.births now (pass_table.due_at (todo.Append part fd done) p) got).of) tt cleared
    pass_to f (todo.Sync part fd) p got may says cleared = pass_on f (todo.Sync part fd) p got ((births_by t.births now (pass_table.due_at (todo.Sync part fd) p) got).of) tt cleared
    pass_to f (todo.Close part fd) p got may says cleared = pass_on f (todo.Close part fd) p got ((births_by t.births now (pass_table.due_at (todo.Close part fd) p) got).of) tt cleared
    pass_to f (todo.Shut fd why) p got may says cleared = pass_on f (todo.Shut fd why) p got ((births_by t.births now (pass_table.due_at (todo.Shut fd why) p) got).of) tt cleared
    pass_to f todo.Give p got may says cleared = pass_on f todo.Give p got ((births_by t.births now (pass_table.due_at todo.Give p) got).of) tt cleared
    pass_to f todo.Done p got may says cleared = absurd may
    pass_to f (todo.Left why) p got may says cleared = absurd may
    pass_to f todo.Lost p got may says cleared = absurd may

    -- a finish, the sweep and the start

    -- the same is due, whatever else is known
    dues_same : (D : Channel → ℕ → ℕ → Type 0) (n moment : ℕ) → Dues D d.book.messages → Dues D (put_off_to n moment d).book.messages
    dues_same D n moment x Local = x Local
    dues_same D n moment x Remote = x Remote

    delays : (s : Channel → ℕ → Shift) (born : ℕ → ℕ) (n : ℕ) → Of (Keeps s born) d → Of (Keeps s born) (put_off_to n (later now) d)
    delays s born n x = (dues_same (Right s born) n (later now) x.0, x.1, x.2)

    forgets : (s : Channel → ℕ → Shift) (born : ℕ → ℕ) (n : ℕ) → Of (Keeps s born) d → Of (Keeps s born) (forgot n d)
    forgets s born n x = (dues_forgotten (Right s born) n d.book.messages x.0, x.1, x.2)

    finish_on : (f : Option Work) (row : FinishRow) (n : ℕ) (got : GotData) → MayCome (due_at (at.Finish row n) d) got → FinishSays S t row n → To f None (at.Finish row n) got
    finish_on f row n got may says = by row got may k where
      s : Channel → ℕ → Shift
      s = Shifts f None (at.Finish row n) got

      born : ℕ → ℕ
      born = Born (at.Finish row n) got

      gave : row ≡ finish.Take → t.births.command ≡ remove_text n
      gave e = subst (λ (x : FinishRow). FinishSays S t x n) e says

      k : Of (Keeps s born) d
      k = kept s born (λ c i. quiet_finish c i now t.births.command clears f row n d gave got)

      by : (row : FinishRow) (got : GotData) → MayCome (due_at (at.Finish row n) d) got → Of (Keeps s born) d → Of (Keeps s born) (act (at.Finish row n) now got d)
      by finish.OpenBounce got may k =
          let it = bounce_on n now got (return_begun n) d.book in
          of_finish_at (Keeps s born) (returned_to it.row) n now (record d { bounce = it; busy = true }) (λ e. absurd (not_over it.row e)) (λ e. delays s born n k) k
      by finish.Return got may k =
          let it = bounce_on n now got d.bounce d.book in
          of_finish_at (Keeps s born) (returned_to it.row) n now (record d { bounce = it }) (λ e. absurd (not_over it.row e)) (λ e. delays s born n k) k
      by finish.UnlinkInfo got may k =
          of_finish_at (Keeps s born) (finish_to finish.UnlinkInfo (said got).way) n now d (λ e. absurd (info_not_over (said got).way e)) (λ e. delays s born n k) k
      by finish.Give got may k = of_finish_at (Keeps s born) (finish_to finish.Give (said got).way) n now d (λ e. absurd (give_not_over (said got).way e)) (λ e. delays s born n k) k
      by finish.Take got may k = of_finish_at (Keeps s born) (finish_to finish.Take (said got).way) n now d (λ e. forgets s born n k) (λ e. delays s born n k) k
      by finish.Later got may k = absurd may
      by finish.Over got may k = absurd may
      by finish.Lost got may k = absurd may

    sweep_on : (f : Option Work) (row : SweepRow) (got : GotData) → SweepSays S t row → To f None (at.Sweep row) got
    sweep_on f row got says =
        let s : Channel → ℕ → Shift = Shifts f None (at.Sweep row) got in
        let born : ℕ → ℕ = Born (at.Sweep row) got in
        of_swept (Keeps s born) (sweep_to row now (said got) d.book) (looked_up row (said got) (sweep_begun row now d))
        (of_looked (Keeps s born) row (said got) now d (kept s born (λ c i. quiet_sweep c i now t.births.command clears f row d (λ split k e. subst (λ (x : SweepRow). SweepSays S t x) e says) got)))

    stated_so : (split k birth : ℕ) (local : Bool) (told : Answer) (bytes : List ℕ) (born : ℕ → ℕ) → IsAnswerTo (call.Stat (path (NameOf RemoteFile k))) told
        → Keeps (λ c n. found (Some (NameOf RemoteFile k)) told n) born (remote_stated (replied told bytes).way split k birth local d.book).messages d.slots.local.jobs d.slots.remote.jobs
    stated_so split k birth local (answer.Stat stat) bytes born fit =
        learns (λ c n. shift_if (k == n) (Learns 0)) born (record { n = k; birth = birth; finish_at = 0; local = local; remote = true; sender = sender_in d.book.read }) 0 (λ c n. refl)
    stated_so split k birth local (answer.Refused why.NotThere) bytes born fit =
        learns (λ c n. shift_if (k == n) (Learns 0)) born (record { n = k; birth = birth; finish_at = 0; local = local; remote = false; sender = sender_in d.book.read }) 0 (λ c n. refl)
    stated_so split k birth local (answer.Refused why.Fault) bytes born fit = kept (λ c n. Same) born (λ c n. tt)
    stated_so split k birth local told bytes born fit = absurd fit

    start_on : (f : Option Work) (row : StartRow) (got : GotData) → MayCome (due_at (at.Start row) d) got → To f None (at.Start row) got
    start_on f (start.StatRemote split k birth local) got may =
        by_file (due_at (at.Start (start.StatRemote split k birth local)) d) tt (To f None (at.Start (start.StatRemote split k birth local))) got may (λ told fit.
        let born : ℕ → ℕ = Born (at.Start (start.StatRemote split k birth local)) (came.Answered told) in
        subst (λ (o : Option Name). Keeps (λ c n. found o told.answer n) born (remote_stated (replied told.answer told.bytes).way split k birth local d.book).messages d.slots.local.jobs d.slots.remote.jobs)
        (sym (parse-path (NameOf RemoteFile k))) (stated_so split k birth local told.answer told.bytes born fit))
    start_on f (start.GreetRemote limit) got may =
        let s : Channel → ℕ → Shift = Shifts f None (at.Start (start.GreetRemote limit)) got in
        let born : ℕ → ℕ = Born (at.Start (start.GreetRemote limit)) got in
        let k : Of (Keeps s born) d = kept s born (λ c n. quiet_start c n now t.births.command clears f (start.GreetRemote limit) d (λ look. absurd look) got) in
        (start_book (λ (m : Messages). Dues (Right s born) m) (start.GreetRemote limit) (said got) d.book (λ look. absurd look) k.0, tt, tt)
    start_on f row got may =
        let s : Channel → ℕ → Shift = Shifts f None (at.Start row) got in
        let born : ℕ → ℕ = Born (at.Start row) got in
        let k : Of (Keeps s born) d = kept s born (λ c n. quiet_start c n now t.births.command clears f row d (λ look. absurd look) got) in
        start_book (λ (m : Messages). Keeps s born m d.slots.local.jobs d.slots.remote.jobs) row (said got) d.book (λ look. absurd look) k

    give_on : (f : Option Work) (c : Channel) (got : GotData) → To f None (at.Request c) got
    give_on f c got =
        let s : Channel → ℕ → Shift = Shifts f None (at.Request c) got in
        let born : ℕ → ℕ = Born (at.Request c) got in
        of_requested (Keeps s born) (said got).way c d (kept s born (λ e n. quiet_give e c n now t.births.command clears f d got))

    find_on : (f : Option Work) (search : Search) (got : GotData) → To f None (at.FindTodo search) got
    find_on f search got = of_named (Keeps (λ c n. Same) (Born (at.FindTodo search) got)) (said got).way (said got).bytes search now d (kept (λ c n. Same) (Born (at.FindTodo search) got) (λ c n. tt))

    -- nothing is tried at a row of no reading
    with_none : (f : Option Work) (tr : Option Trial) (row : Row) (got : GotData) → tr ≡ None → To f None row got → To f tr row got
    with_none f tr row got e x = subst (λ (o : Option Trial). To f o row got) (sym e) x

    row_on : (P : MarkRow → Option Mark → Marked → Writing → Type 0) (f : Option Work) (tr : Option Trial) (row : Row) (got : GotData) → MayCome (due_at row d) got
        → FitAt P f (a Local) (a Remote) row d → KnowsAt S t row d → TrialAt row tr → ClearedAt row d.pass clears → Lands (act row now got d) → To f tr row got
    row_on P f tr (at.Start row) got may fit says e cleared lands = with_none f tr (at.Start row) got e (start_on f row got may)
    row_on P f tr (at.Turn p) got may fit says e cleared lands = absurd may
    row_on P f tr (at.TakeLink c) got may fit says e cleared lands = with_none f tr (at.TakeLink c) got e (take_to f c got may says.0.0 lands)
    row_on P f tr (at.Mark row m) got may fit says e cleared lands = with_none f tr (at.Mark row m) got e (mark_to f row m got may says.0.0 lands)
    row_on P f tr (at.UnlinkFile c n p) got may fit says e cleared lands = with_none f tr (at.UnlinkFile c n p) got e (unlink_to f c n p got may cleared)
    row_on P f tr (at.ReadFile c n b reading) got may fit says e cleared lands = file_to P f tr c n b reading got may e fit
    row_on P f tr (at.Request c) got may fit says e cleared lands = with_none f tr (at.Request c) got e (give_on f c got)
    row_on P f tr (at.FindTodo search) got may fit says e cleared lands = with_none f tr (at.FindTodo search) got e (find_on f search got)
    row_on P f tr at.InTodo got may fit says e cleared lands = with_none f tr at.InTodo got e (pass_to f d.pass.row d.pass got may says.1 cleared)
    row_on P f tr (at.Finish row n) got may fit says e cleared lands = with_none f tr (at.Finish row n) got e (finish_on f row n got may says.1)
    row_on P f tr (at.Sweep row) got may fit says e cleared lands = with_none f tr (at.Sweep row) got e (sweep_on f row got says.1)
    row_on P f tr (at.Ended status) got may fit says e cleared lands = absurd may

-- After each run

abbrev Stands : List Own → Desk → Type 0
Stands past d = Dues (λ c n due. IsDue c n past due) d.book.messages × EachJob (λ n. begun_in Local n past) d.slots.local.jobs × EachJob (λ n. begun_in Remote n past) d.slots.remote.jobs

dues_kept : (turns : Option ℕ) (past : List Own) → IsRunBy (Next turns) past → Stands past (place_after turns past)
dues_kept turns [] run = (none, tt, tt) where
  none : (c : Channel) (n due : ℕ) → Among (due, n) (due_on c (place_after turns []).book.messages) → ⊥
  none Local n due among = among
  none Remote n due among = among
dues_kept turns (event ∷ before) run =
    let past : List Own = event ∷ before in
    let d : Desk = place_after turns before in
    let row : Row = row_now d event.read event.ready in
    let h : Stands before d = dues_kept turns before run.0 in
    let may : MayCome (due_at row d) event.came = subst (λ (x : NeedData). MayCome x event.came) (sym run.1.0) run.1.1 in
    let fit = arrives (Was before) (work before) (account Local before) (account Remote before) (frees before) d.row d event.read event.ready (keeps turns before run.0).0 in
    let says : KnowsAt (IsSaid before) (facts before) row d = arrive_says (IsSaid before) (facts before) d event.read event.ready d.row (all_kept turns before run.0).1 in
    let at_trial : TrialAt row (trial before) = arrives_trial d.row (trial before) d event.read event.ready (trial_kept turns before run.0) in
    let e : Desk = place_after turns past in
    subst (λ (due : NeedData).
    Of (Keeps (IsSaid before) (facts before) d event.read (λ c n x. IsDue c n before x) (λ c n. begun_in c n before) (λ c. account c before) (λ c. account c past) (has_unlinked before)
    (λ c n. shift_by c n event.read (births before).command (has_unlinked before) (work before) (trial before) due event.came) ((births_by (births before) event.read due event.came).of)) (act row event.read event.came d)) run.1.0
    (row_on (IsSaid before) (facts before) d event.read (λ c n x. IsDue c n before x) (λ c n. begun_in c n before) (λ c. account c before) (λ c. account c past) (has_unlinked before) h.0 h.1 h.2
    (Was before) (work before) (trial before) row event.came may fit says at_trial (cleared_here turns before event.read event.ready run.0)
    (λ goes c n none. over_of n (account c past) (is_opened e.row c) (lane c e.slots) (lanes_agree turns past run c goes) none))

pub dues_are_of_past : DuesAreOfPast
dues_are_of_past turns past run c n due among = (dues_kept turns past run).0 c n due among
