-- What each row makes due, exactly.
use Rattle.bounce_record.specs.Writing.{Writing, due_at as note_due_at, moved as note_moved}
use Rattle.bounce_record.specs.declared.note_row.NoteRow.TheVariants as written
use Rattle.bounce_record.specs.declared.note_row.NoteRow.{NoteRow}
use Rattle.call_fs.specs.Columns.{IsAnswerTo}
use Rattle.call_fs.specs.Program.{MayCome}
use Rattle.call_fs.specs.declared.calls.Answer.TheVariants as answer
use Rattle.call_fs.specs.declared.calls.Answer.{Answer}
use Rattle.call_fs.specs.declared.calls.CallData.TheVariants as call
use Rattle.call_fs.specs.declared.calls.Fd.{Fd}
use Rattle.call_fs.specs.declared.calls.FsError.TheVariants as why
use Rattle.call_fs.specs.declared.calls.How.TheVariants as how
use Rattle.call_fs.specs.declared.calls.Told.{Told}
use Rattle.call_fs.specs.declared.past.GotData.TheVariants as came
use Rattle.call_fs.specs.declared.past.GotData.{GotData}
use Rattle.envelope_records.specs.declared.channel.Record.{Record}
use Rattle.queue_paths.specs.Names.{name_of, parse, path}
use Rattle.send_core.proofs.Asked.{Facts}
use Rattle.send_core.proofs.Coming.{by_file}
use Rattle.send_core.proofs.Fits.{tasks_are}
use Rattle.send_core.proofs.Known.{Sound}
use Rattle.send_core.proofs.Still.{row_still}
use Rattle.send_core.specs.Agrees.{has_ended, is_opened, task_of}
use Rattle.send_core.specs.Births.{births_by}
use Rattle.send_core.specs.Desk.{closed_by, done_with, goes, due_again, due_then, has_begun, is_dying, is_free_for, later, never, retried, stands_at}
use Rattle.send_core.specs.Past.{Account, Task, Work, tasks_by}
use Rattle.send_core.specs.Table.{act, busy, due_at}
use Rattle.send_core.specs.Turn.{begin_note, file_read, lost, mark_over, noted_at, pass_opened, put_later, took, unlinked}
use Rattle.send_core.specs.declared.desk.Desk.{Desk}
use Rattle.send_parts.specs.declared.row.MarkRow.TheVariants as mark
use Rattle.send_parts.specs.declared.row.MarkRow.{MarkRow}
use Rattle.send_parts.specs.declared.row.Marked.{Marked}
use Rattle.send_parts.specs.declared.row.Point.TheVariants as point
use Rattle.send_parts.specs.declared.row.Point.{Point}
use Rattle.send_parts.specs.declared.row.Row.{Row}
use Rattle.send_jobs.proofs.JobLemmas.{job_put}
use Rattle.send_parts.specs.Channels.{file_of}
use Rattle.send_jobs.specs.Jobs.{job_of, new_job, put, without}
use Rattle.send_jobs.specs.Lanes.{begun_by, ended, is_in_flight, is_mark_on, job_over, left_unmarked, mark_settled}
use Rattle.send_jobs.specs.Passes.{attempts_of}
use Rattle.send_jobs.specs.Sending.{at_lane, lane}
use Rattle.send_jobs.specs.Slots.{is_on}
use Rattle.send_jobs.specs.declared.attempts.Attempt.{Attempt}
use Rattle.send_known.specs.declared.channel.Channel.TheVariants.{Local, Remote}
use Rattle.send_known.specs.declared.channel.Channel.{Channel}
use Rattle.send_jobs.specs.declared.jobs.Job.{Job}
use Rattle.send_jobs.specs.declared.lane.Lane.{Lane}
use Rattle.send_jobs.specs.declared.slots.Slots.{Slots}
use Rattle.send_known.specs.declared.messages.Messages.{Messages}
use Rattle.send_runs.proofs.Bridges.{account_ends, account_goes, none_given}
use Rattle.send_runs.proofs.DueLists.{Dues, DuesBut, dues_gone, dues_moved}
use Rattle.send_runs.proofs.Fates.{Fates, Final, Finals, IsFirst, finals, heard_fates, is_unlinking, job_gone, job_other, mark_fates, not_over, over, over_some, retry_in, same_channel}
use Rattle.send_runs.proofs.Giving.{AllOn, AreOfOne, none_on, tasks_on}
use Rattle.send_runs.proofs.Kept.{IsFree}
use Rattle.send_runs.proofs.Passing.{Gone, IsSteady, Lands, State, States, begun_at, final_back, final_due, final_state, first_begun, first_fate, gone_kept, kept_due, kept_state, quiet_is, quiet_steady, steady_none, steady_same, unless_none}
use Rattle.send_runs.proofs.Quiet.{IsQuiet, differs, file_false, file_true, quiet_if, quiet_mark, quiet_take, trial_false, trial_true}
use Rattle.send_runs.proofs.Settling.{OfBoth}
use Rattle.send_runs.specs.DueMoments.Shift.{Begins, Fails, Learns, Same}
use Rattle.send_runs.specs.DueMoments.{Shift, Trial, began, is_file, is_trial_of, shift_by, shift_if, unless_done, unless_opened}
use Rattle.send_runs.specs.Dues.{again, due_by, flies, is_marking, is_over, is_task, pass_by, unless}
use Rattle.send_parts.specs.Readings.{read_on}
use Rattle.send_parts.specs.Replies.{answered as replied, said}
use Rattle.send_parts.specs.declared.reading.Reading.TheVariants.{Closing, Opening}
use Rattle.send_parts.specs.declared.reply.Way.TheVariants as way
use Rattle.send_parts.specs.declared.reply.Way.{Way}
use Rattle.std.proofs.Common.{Bool, List, None, Option, Some, [], ap, eq-eqb, eqb, false, if◌then◌else◌, inl, inr, map, not, refl, subst, sym, true, ℕ, ⊎_elim, ◌∙◌, ◌∷◌, ◌≡◌}
use Rattle.std.proofs.lemmas.Bool.{cases_eq, cond-false, cond-true, ne_eqb}
use Rattle.std.specs.List.{list_any}
use Rattle.std.specs.Prelude.{is_none, is_some, slice_get, ◌&&◌, ◌==◌}
use Rattle.send_parts.specs.declared.row.Row.TheVariants as at
use Rattle.std.proofs.Math.Bool.{and-false}

-- no mark is at work
pub free_opened : (row : Row) (c : Channel) → IsFree row → is_opened row c ≡ false
free_opened (at.Mark mark.Note m) c is = refl
free_opened (at.Mark mark.Noting m) c is = refl
free_opened (at.Mark mark.Open m) c is = refl
free_opened (at.Mark row m) c is = absurd is
free_opened row c is = refl

pub shut_closed : (o : Option Job) (c : Channel) (n : ℕ) (p : Point) (e : Desk) (x : Channel) → is_opened (closed_by o c n p e).row x ≡ false
shut_closed None c n p e x = refl
shut_closed (Some job) c n p e x = by job.unmarked where
  by : (u : Bool) → is_opened (if u then retried c n job.begun (stands_at e p) else goes e (at.UnlinkFile c n p)).row x ≡ false
  by true = refl
  by false = refl

pub shut_marked : (u : Bool) (m : Marked) (e : Desk) (x : Channel) → is_opened (mark_over u m e).row x ≡ false
shut_marked true m e x = let after : Desk = record e { slots = at_lane m.channel mark_settled e.slots } in shut_closed (job_over m.n (lane m.channel after.slots)) m.channel m.n point.Reports after x
shut_marked false m e x =
    let after : Desk = record e { slots = at_lane m.channel (left_unmarked m.n) (at_lane m.channel mark_settled e.slots) } in shut_closed (job_over m.n (lane m.channel after.slots)) m.channel m.n point.Reports after x

pub shut_noted : (row : NoteRow) (m : Marked) (e : Desk) (x : Channel) → is_opened (noted_at row m e).row x ≡ false
shut_noted written.Written m e x = refl
shut_noted written.Failed m e x = shut_marked false m e x
shut_noted row m e x = refl

pub steady_if : (b : Bool) (moment : ℕ) → IsSteady (shift_if b (Learns moment))
steady_if true moment = tt
steady_if false moment = tt

module _ (S : ℕ → List ℕ → Type 0) (t : Facts) (d : Desk) (now : ℕ) (clears : Bool) (f : Option Work) (a b : Channel → Account) (was : Channel → ℕ → ℕ) (pass : Channel → ℕ → Option ℕ) where
  abbrev pub Moving : Type 0
  Moving = Channel → ℕ → Shift

  abbrev pub Overs : Type 0
  Overs = Channel → ℕ → Bool

  abbrev pub Shifts : Option Trial → Row → GotData → Moving
  Shifts tr row got c n = shift_by c n now t.births.command clears f tr (due_at row d) got

  abbrev pub Born : Row → GotData → ℕ → ℕ
  Born row got = (births_by t.births now (due_at row d) got).of

  abbrev pub OverAt : Row → GotData → Overs
  OverAt row got c n = is_over n (b c) && not (is_marking (due_at row d) got)

  abbrev pub PassBy : Moving → Overs → Channel → ℕ → Option ℕ
  PassBy s ov c n = pass_by (s c n) (flies n (a c)) (ov c n) (pass c n)

  abbrev pub DueBy : Moving → Overs → (ℕ → ℕ) → Row → Channel → ℕ → ℕ
  DueBy s ov born to c n = due_by (s c n) now (flies n (a c)) (ov c n && not (is_unlinking c n to)) (pass c n) (retry_in born c n) (was c n)

  abbrev pub Moments : Moving → Overs → (ℕ → ℕ) → Row → Messages → Type 0
  Moments s ov born to m = Dues (λ c n due. due ≡ DueBy s ov born to c n) m

  abbrev pub Out : Moving → Overs → (ℕ → ℕ) → Desk → Type 0
  Out s ov born e = States e.row e.slots (PassBy s ov) × Moments s ov born e.row e.book.messages × Gone b e.slots

  abbrev pub To : Option Trial → Row → GotData → Type 0
  To tr row got = Out (Shifts tr row got) (OverAt row got) (Born row got) (act row now got d)

  -- none of the sender's files is unlinked there
  abbrev pub Links : Row → Type 0
  Links row = (c : Channel) (n : ℕ) → is_unlinking c n row ≡ false

  -- what isn't over by what it keeps isn't over by the account
  abbrev pub GoingOn : Overs → Slots → Type 0
  GoingOn ov s = (c : Channel) (n : ℕ) → over n (lane c s) ≡ false → ov c n ≡ false

  pub going_on : (row : Row) (got : GotData) (e : Desk) → Lands b e → ((c : Channel) → is_opened e.row c ≡ false) → GoingOn (OverAt row got) e.slots
  going_on row got e lands shut = λ c n o.
      let w = lands c (shut c) in ap (λ (x : Bool). x && not (is_marking (due_at row d) got)) (account_goes n (lane c e.slots) (b c) w.0 w.1 o)

  abbrev pub Gives : Type 0
  Gives = (c : Channel) → (b c).to_give ≡ (a c).to_give

  module _ (row : Row) (hs : States row d.slots pass) (hd : Dues (λ c n due. due ≡ was c n) d.book.messages) (hg : Gone a d.slots) where
    pub same_due : (s : Moving) (ov : Overs) (born : ℕ → ℕ) (to : Row) (c : Channel) (n : ℕ) → s c n ≡ Same → (over n (lane c d.slots) ≡ false → ov c n ≡ false) → DueBy s ov born to c n ≡ was c n
    same_due s ov born to c n e goes =
        ap (λ (x : Shift). due_by x now (flies n (a c)) (ov c n && not (is_unlinking c n to)) (pass c n) (retry_in born c n) (was c n)) e
        ∙ kept_due c n (lane c d.slots) row (pass c n) (ov c n) (is_unlinking c n to) (retry_in born c n) (was c n) (hs c n) goes

    pub base : (s : Moving) (ov : Overs) (born : ℕ → ℕ) (to : Row) → ((c : Channel) (n : ℕ) → IsQuiet (s c n)) → GoingOn ov d.slots → Moments s ov born to d.book.messages
    base s ov born to q goes = λ c n due among. hd c n due among ∙ sym (same_due s ov born to c n (quiet_is (s c n) (q c n)) (goes c n))

    one_kept : (s : Moving) (ov : Overs) (x : Slots) (to : Row) (c : Channel) (n : ℕ) → x ≡ d.slots → is_unlinking c n row ≡ false → is_unlinking c n to ≡ false → IsSteady (s c n) → (over n (lane c d.slots) ≡ false → ov c n ≡ false)
        → State c n (lane c x) to (PassBy s ov c n)
    one_kept s ov x to c n same none next steady goes = kept_state c n (lane c d.slots) (lane c x) row to (pass c n) (PassBy s ov c n) (hs c n) none next
        (ap (λ (y : Slots). job_of n (lane c y).jobs) same) (λ o. ap (λ (y : Slots). over n (lane c y)) same ∙ o)
        (λ p. steady_none (s c n) (flies n (a c)) (ov c n) (pass c n) steady p)
        (λ o. steady_same (s c n) (flies n (a c)) (ov c n) (pass c n) steady (goes (sym (ap (λ (y : Slots). over n (lane c y)) same) ∙ o)))

    gone_same : (x : Slots) → x ≡ d.slots → Gives → Gone b x
    gone_same x same gives = subst (Gone b) (sym same) (gone_kept a b d.slots d.slots gives (λ c. refl) (λ c n i there. (i, there)) hg)

    -- where the channels are kept
    pub kept_out : (s : Moving) (ov : Overs) (born : ℕ → ℕ) (e : Desk) → e.slots ≡ d.slots → Links row → Links e.row → ((c : Channel) (n : ℕ) → IsSteady (s c n)) → GoingOn ov d.slots → Gives → Moments s ov born e.row e.book.messages
        → Out s ov born e
    kept_out s ov born e same none next steady goes gives moments = ((λ c n. one_kept s ov e.slots e.row c n same (none c n) (next c n) (steady c n) (goes c n)), moments, gone_same e.slots same gives)

    -- Takings and marks

    abbrev first : Channel → ℕ → Option Job
    first c n = job_of n (lane c d.slots).jobs

    first_fates : Links row → Sound S t.births.of d.book.messages → OfBoth (Fates first was t.births.of S d.slots.local.left d.slots.remote.left) d
    first_fates none sound = (
      sound,
      (λ n. first_fate Local n first was t.births.of d.slots.local d.book.messages row (pass Local n) refl (hs Local n) (none Local n) (hd Local n)),
      (λ n. first_fate Remote n first was t.births.of d.slots.remote d.book.messages row (pass Remote n) refl (hs Remote n) (none Remote n) (hd Remote n)),
      refl,
      refl,
    )

    settled_out : (s : Moving) (got : GotData) (born : ℕ → ℕ) (e : Desk) → Links row → ((c : Channel) (n : ℕ) → IsQuiet (s c n)) → born ≡ t.births.of → is_marking (due_at row d) got ≡ false
        → ((c : Channel) → is_opened e.row c ≡ false) → Lands b e → Gives → ((c : Channel) → AreOfOne (b c).to_give) → Finals first was t.births.of S d.slots.local.left d.slots.remote.left e → Out s (OverAt row got) born e
    settled_out s got born e none q same still shut lands gives one fin = (states, moments, gone_kept a b d.slots e.slots gives left (λ c n i there. final_back c n first was t.births.of (lane c e.slots) e.book.messages e.row i (final c n) there) hg) where
      ov : Overs
      ov = OverAt row got

      final : (c : Channel) (n : ℕ) → Final first was t.births.of c n (lane c e.slots) e.book.messages e.row
      final Local n = fin.0 n
      final Remote n = fin.1 n

      left : (c : Channel) → (lane c e.slots).left ≡ (lane c d.slots).left
      left Local = fin.2
      left Remote = fin.3

      goes : GoingOn ov e.slots
      goes = going_on row got e lands shut

      over_so : (c : Channel) (n : ℕ) (j : Job) → first c n ≡ Some j → over n (lane c e.slots) ≡ true → ov c n ≡ true
      over_so c n j there o =
          let w = lands c (shut c) in
          let bare : (lane c e.slots).left ≡ [] → list_any (is_task n) (b c).to_give ≡ false =
          (λ e0. subst (λ (ts : List Task). list_any (is_task n) ts ≡ false) (sym (gives c)) (hg c (sym (left c) ∙ e0) n j there)) in
          ap (λ (x : Bool). x && not (is_marking (due_at row d) got))
          (account_ends n (lane c e.slots) (b c) w.0 w.1 o (none_given n (lane c e.slots) (b c) w.0 w.1 o (one c) bare))
          ∙ ap not still

      begun : (c : Channel) (n : ℕ) → begun_at (first c n) ≡ pass c n
      begun c n = first_begun c n first was t.births.of (lane c d.slots) row (pass c n) refl (hs c n) (none c n)

      states : States e.row e.slots (PassBy s ov)
      states c n = subst (λ (p : Option ℕ). State c n (lane c e.slots) e.row p)
          (sym (ap (λ (x : Shift). pass_by x (flies n (a c)) (ov c n) (pass c n)) (quiet_is (s c n) (q c n))))
          (final_state c n first was t.births.of (lane c e.slots) e.book.messages e.row (ov c n) (pass c n) (begun c n) (goes c n) (over_so c n) (final c n))

      moments : Moments s ov born e.row e.book.messages
      moments c n due among =
          final_due c n first was t.births.of (lane c e.slots) e.book.messages e.row (ov c n) (pass c n) (begun c n) (goes c n) (over_so c n) (final c n) due among
          ∙ sym (ap (λ (x : Shift). due_by x now (flies n (a c)) (ov c n && not (is_unlinking c n e.row)) (pass c n) (retry_in born c n) (was c n)) (quiet_is (s c n) (q c n))
          ∙ ap (λ (of : ℕ → ℕ). again (ov c n && not (is_unlinking c n e.row)) (pass c n) (retry_in of c n) (was c n)) same)

    -- A pass is put off, or over as the channel file was unlinked

    abbrev ButQuiet : Moving → Channel → ℕ → Type 0
    ButQuiet s c k = (e : Channel) (n : ℕ) → ((e ≡ c) → (n ≡ k) → ⊥) → IsQuiet (s e n)

    abbrev ButLinks : Channel → ℕ → Type 0
    ButLinks c k = (e : Channel) (n : ℕ) → ((e ≡ c) → (n ≡ k) → ⊥) → is_unlinking e n row ≡ false

    abbrev GoingBut : Overs → Channel → ℕ → Type 0
    GoingBut ov c k = (e : Channel) (n : ℕ) → ((e ≡ c) → (n ≡ k) → ⊥) → over n (lane e d.slots) ≡ false → ov e n ≡ false

    but : (s : Moving) (ov : Overs) (born : ℕ → ℕ) (to : Row) (c : Channel) (k : ℕ) → ButQuiet s c k → GoingBut ov c k → DuesBut (λ e n due. due ≡ DueBy s ov born to e n) c k d.book.messages
    but s ov born to c k q goes = λ e n due among other. hd e n due among ∙ sym (same_due s ov born to e n (quiet_is (s e n) (q e n other)) (goes e n other))

    one_other : (s : Moving) (ov : Overs) (to : Row) (c : Channel) (k : ℕ) → ButQuiet s c k → ButLinks c k → Links to → GoingBut ov c k → (e : Channel) (n : ℕ) → ((e ≡ c) → (n ≡ k) → ⊥) → State e n (lane e d.slots) to (PassBy s ov e n)
    one_other s ov to c k q none next goes e n other = one_kept s ov d.slots to e n refl (none e n other) (next e n) (quiet_steady (s e n) (q e n other)) (goes e n other)

    ended_at : (c : Channel) (n k : ℕ) (l : Lane) (to : Row) (p : ℕ → Option ℕ) → is_unlinking c k to ≡ false → is_unlinking c n to ≡ false → p k ≡ None → ((n ≡ k → ⊥) → State c n l to (p n)) → State c n (ended k l) to (p n)
    ended_at c n k l to p here next none others = ⊎_elim
        (λ (same : k ≡ n). subst (λ (i : ℕ). State c i (ended k l) to (p i)) same (inr (inl (here, job_gone k l.jobs, none))))
        (λ (apart : k ≡ n → ⊥). kept_state c n l (ended k l) to to (p n) (p n) (others (λ at. apart (sym at))) next next (job_other k n l.jobs apart) (λ o. o) (λ x. x) (λ o. refl))
        (cases_eq k n)

    ended_states : (c : Channel) (k : ℕ) (to : Row) (p : Channel → ℕ → Option ℕ) → Links to → p c k ≡ None → ((e : Channel) (n : ℕ) → ((e ≡ c) → (n ≡ k) → ⊥) → State e n (lane e d.slots) to (p e n)) → States to (at_lane c (ended k) d.slots) p
    ended_states Local k to p next none others Local n = ended_at Local n k d.slots.local to (p Local) (next Local k) (next Local n) none (λ apart. others Local n (λ e at. apart at))
    ended_states Local k to p next none others Remote n = others Remote n (λ e at. cc)
    ended_states Remote k to p next none others Local n = others Local n (λ e at. cc)
    ended_states Remote k to p next none others Remote n = ended_at Remote n k d.slots.remote to (p Remote) (next Remote k) (next Remote n) none (λ apart. others Remote n (λ e at. apart at))

    left_ended : (c : Channel) (k : ℕ) (e : Channel) → (lane e (at_lane c (ended k) d.slots)).left ≡ (lane e d.slots).left
    left_ended Local k Local = refl
    left_ended Local k Remote = refl
    left_ended Remote k Local = refl
    left_ended Remote k Remote = refl

    back_at : (k n : ℕ) (jobs : List Job) (i : Job) → job_of n (without k jobs) ≡ Some i → (j : Job) × (job_of n jobs ≡ Some j)
    back_at k n jobs i there = ⊎_elim
        (λ (same : k ≡ n). absurd (cc (sym (job_gone k jobs) ∙ ap (λ (m : ℕ). job_of m (without k jobs)) same ∙ there)))
        (λ (apart : k ≡ n → ⊥). (i, sym (job_other k n jobs apart) ∙ there))
        (cases_eq k n)

    back_ended : (c : Channel) (k : ℕ) (e : Channel) (n : ℕ) (i : Job) → job_of n (lane e (at_lane c (ended k) d.slots)).jobs ≡ Some i → (j : Job) × (job_of n (lane e d.slots).jobs ≡ Some j)
    back_ended Local k Local n i there = back_at k n d.slots.local.jobs i there
    back_ended Local k Remote n i there = (i, there)
    back_ended Remote k Local n i there = (i, there)
    back_ended Remote k Remote n i there = back_at k n d.slots.remote.jobs i there

    gone_ended : (c : Channel) (k : ℕ) → Gives → Gone b (at_lane c (ended k) d.slots)
    gone_ended c k gives = gone_kept a b d.slots (at_lane c (ended k) d.slots) gives (left_ended c k) (back_ended c k) hg

    pub put_off : (s : Moving) (ov : Overs) (born : ℕ → ℕ) (c : Channel) (k : ℕ) (p : Point) → ButQuiet s c k → ButLinks c k → GoingOn ov d.slots → PassBy s ov c k ≡ None → DueBy s ov born (at.Turn p) c k ≡ later now
        → Gone b (at_lane c (ended k) d.slots) → Out s ov born (due_again c k (later now) (stands_at d p))
    put_off s ov born c k p q none goes ended_is due_is gone = (
      ended_states c k (at.Turn p) (PassBy s ov) (λ e n. refl) ended_is (one_other s ov (at.Turn p) c k q none (λ e n. refl) (λ e n other. goes e n)),
      dues_moved (λ e n due. due ≡ DueBy s ov born (at.Turn p) e n) c k (later now) d.book.messages (λ is. sym due_is) (but s ov born (at.Turn p) c k q (λ e n other. goes e n)),
      gone,
    )

    file_gone_out : (s : Moving) (ov : Overs) (born : ℕ → ℕ) (c : Channel) (k : ℕ) (p : Point) → ButQuiet s c k → ButLinks c k → GoingOn ov d.slots → PassBy s ov c k ≡ None
        → Gone b (at_lane c (ended k) d.slots) → Out s ov born (done_with c k (stands_at d p))
    file_gone_out s ov born c k p q none goes ended_is gone = (
      ended_states c k (at.Turn p) (PassBy s ov) (λ e n. refl) ended_is (one_other s ov (at.Turn p) c k q none (λ e n. refl) (λ e n other. goes e n)),
      dues_gone (λ e n due. due ≡ DueBy s ov born (at.Turn p) e n) c k d.book.messages (but s ov born (at.Turn p) c k q (λ e n other. goes e n)),
      gone,
    )

  -- Each row

  over_ended : (c : Channel) (k : ℕ) (e : Channel) (n : ℕ) → over n (lane e (at_lane c (ended k) d.slots)) ≡ over n (lane e d.slots)
  over_ended Local k Local n = refl
  over_ended Local k Remote n = refl
  over_ended Remote k Local n = refl
  over_ended Remote k Remote n = refl

  passed_by : (s : Moving) (ov : Overs) (c : Channel) (k : ℕ) (x : Shift) → s c k ≡ x → PassBy s ov c k ≡ pass_by x (flies k (a c)) (ov c k) (pass c k)
  passed_by s ov c k x e = ap (λ (y : Shift). pass_by y (flies k (a c)) (ov c k) (pass c k)) e

  pub due_of : (s : Moving) (ov : Overs) (born : ℕ → ℕ) (to : Row) (c : Channel) (k : ℕ) (x : Shift) → s c k ≡ x
      → DueBy s ov born to c k ≡ due_by x now (flies k (a c)) (ov c k && not (is_unlinking c k to)) (pass c k) (retry_in born c k) (was c k)
  due_of s ov born to c k x e = ap (λ (y : Shift). due_by y now (flies k (a c)) (ov c k && not (is_unlinking c k to)) (pass c k) (retry_in born c k) (was c k)) e

  module _ (hd : Dues (λ c n due. due ≡ was c n) d.book.messages) (hg : Gone a d.slots) where
    -- a mark that is at work, or a row that leaves all
    pub same_out : (row : Row) (s : Moving) (ov : Overs) (born : ℕ → ℕ) (e : Desk) → States row d.slots pass → e.slots ≡ d.slots → e.book.messages ≡ d.book.messages → Links row → Links e.row → ((c : Channel) (n : ℕ) → IsQuiet (s c n))
        → GoingOn ov d.slots → Gives → Out s ov born e
    same_out row s ov born e hs same messages none next q goes gives =
        kept_out row hs hd hg s ov born e same none next (λ c n. quiet_steady (s c n) (q c n)) goes gives
        (subst (λ (m : Messages). Moments s ov born e.row m) (sym messages) (base row hs hd hg s ov born e.row q goes))

    -- takings

    pub lost_ended : (c : Channel) → has_ended (lost c) ≡ true
    lost_ended Local = refl
    lost_ended Remote = refl

    pub take_out : (c : Channel) (got : GotData) → MayCome (due_at (at.TakeLink c) d) got → Sound S t.births.of d.book.messages → States (at.TakeLink c) d.slots pass → let e : Desk = act (at.TakeLink c) now got d in
        has_ended e.row ≡ false → Lands b e → Gives → ((x : Channel) → AreOfOne (b x).to_give) → To None (at.TakeLink c) got
    take_out c got may sound hs alive lands gives one = by (said got).way alive lands where
      s : Moving
      s = Shifts None (at.TakeLink c) got

      by : (w : Way) → has_ended (busy (took w (said got).bytes c d)).row ≡ false → Lands b (busy (took w (said got).bytes c d)) → Out s (OverAt (at.TakeLink c) got) (Born (at.TakeLink c) got) (busy (took w (said got).bytes c d))
      by way.Fine alive lands =
          let e : Desk = busy (took way.Fine (said got).bytes c d) in
          settled_out (at.TakeLink c) hs hd hg s got (Born (at.TakeLink c) got) e (λ x n. refl) (λ x n. quiet_take x c n now t.births.command clears f d got) (row_still t.births now (at.TakeLink c) d got tt may) refl (λ x. refl) lands gives one
          (finals (λ x n. job_of n (lane x d.slots).jobs) was t.births.of S d.slots.local.left d.slots.remote.left e (λ x n. refl)
          (heard_fates (λ x n. job_of n (lane x d.slots).jobs) was t.births.of S d.slots.local.left d.slots.remote.left c (said got).bytes d (first_fates (at.TakeLink c) hs hd hg (λ x n. refl) sound)))
      by way.Over alive lands = absurd (cc (sym alive ∙ lost_ended c))
      by way.Absent alive lands = absurd (cc (sym alive ∙ lost_ended c))
      by way.NoMemory alive lands = absurd (cc (sym alive ∙ lost_ended c))
      by way.Broken alive lands = absurd (cc (sym alive ∙ lost_ended c))

    -- marks

    unmarking : (row : NoteRow) (w : Writing) (got : GotData) → is_marking (note_due_at row w) got ≡ false
    unmarking written.Written w got = refl
    unmarking row w got = refl

    abbrev first_jobs : Channel → ℕ → Option Job
    first_jobs c n = job_of n (lane c d.slots).jobs

    module _ (row : MarkRow) (m : Marked) (got : GotData) (hs : States (at.Mark row m) d.slots pass) (gives : Gives) where
      mark_quiet : (x : Channel) (n : ℕ) → IsQuiet (Shifts None (at.Mark row m) got x n)
      mark_quiet x n = quiet_mark x n now t.births.command clears f row m d got

      -- the mark goes on
      works : (e : Desk) → is_marking (due_at (at.Mark row m) d) got ≡ true → e.slots ≡ d.slots → e.book.messages ≡ d.book.messages → Links e.row
          → Out (Shifts None (at.Mark row m) got) (OverAt (at.Mark row m) got) (Born (at.Mark row m) got) e
      works e marking same messages next = same_out (at.Mark row m) (Shifts None (at.Mark row m) got) (OverAt (at.Mark row m) got) (Born (at.Mark row m) got) e hs same messages (λ x n. refl) next mark_quiet
          (λ x n o. ap (λ (y : Bool). is_over n (b x) && not y) marking ∙ and-false (is_over n (b x))) gives

      settles : MayCome (due_at (at.Mark row m) d) got → Sound S t.births.of d.book.messages → IsFirst first_jobs was t.births.of S d.slots.local.left d.slots.remote.left m d → ((x : Channel) → AreOfOne (b x).to_give)
          → is_marking (due_at (at.Mark row m) d) got ≡ false → ((x : Channel) → is_opened (act (at.Mark row m) now got d).row x ≡ false) → Lands b (act (at.Mark row m) now got d) → To None (at.Mark row m) got
      settles may sound is one still shut lands =
          settled_out (at.Mark row m) hs hd hg (Shifts None (at.Mark row m) got) got (Born (at.Mark row m) got) (act (at.Mark row m) now got d) (λ x n. refl) mark_quiet (row_still t.births now (at.Mark row m) d got tt may) still shut lands gives one
          (mark_fates first_jobs was t.births.of S d.slots.local.left d.slots.remote.left row m got d is (first_fates (at.Mark row m) hs hd hg (λ x n. refl) sound))

    module _ (m : Marked) (sound : Sound S t.births.of d.book.messages) (is : IsFirst first_jobs was t.births.of S d.slots.local.left d.slots.remote.left m d) (gives : Gives) (one : (x : Channel) → AreOfOne (b x).to_give) where
      opened_out : States (at.Mark mark.Open m) d.slots pass → (told : Answer) (bytes : List ℕ) → IsAnswerTo (call.Open (path (name_of (file_of m.channel m.n))) how.Write) told
          → MayCome (due_at (at.Mark mark.Open m) d) (came.Answered (record { answer = told; bytes = bytes })) → Lands b (act (at.Mark mark.Open m) now (came.Answered (record { answer = told; bytes = bytes })) d)
          → To None (at.Mark mark.Open m) (came.Answered (record { answer = told; bytes = bytes }))
      opened_out hs (answer.Opened fd) bytes fit may lands =
          works mark.Open m (came.Answered (record { answer = answer.Opened fd; bytes = bytes })) hs gives (act (at.Mark mark.Open m) now (came.Answered (record { answer = answer.Opened fd; bytes = bytes })) d) refl refl refl (λ x n. refl)
      opened_out hs (answer.Refused why.NotThere) bytes fit may lands =
          settles mark.Open m (came.Answered (record { answer = answer.Refused why.NotThere; bytes = bytes })) hs gives may sound is one refl (shut_marked false m d) lands
      opened_out hs (answer.Refused why.Fault) bytes fit may lands =
          settles mark.Open m (came.Answered (record { answer = answer.Refused why.Fault; bytes = bytes })) hs gives may sound is one refl (shut_marked false m d) lands
      opened_out hs (answer.Refused why.Memory) bytes fit may lands =
          settles mark.Open m (came.Answered (record { answer = answer.Refused why.Memory; bytes = bytes })) hs gives may sound is one refl (shut_marked false m d) lands
      opened_out hs told bytes fit may lands = absurd fit

      pub mark_out : (row : MarkRow) (got : GotData) → MayCome (due_at (at.Mark row m) d) got → States (at.Mark row m) d.slots pass → Lands b (act (at.Mark row m) now got d) → To None (at.Mark row m) got
      mark_out mark.Note got may hs lands =
          let e : Desk = begin_note m d in settles mark.Note m got hs gives may sound is one refl (shut_noted (note_moved e.note got).row m (record e { note = note_moved e.note got })) lands
      mark_out mark.Noting got may hs lands =
          settles mark.Noting m got hs gives may sound is one (unmarking d.note.row d.note got) (shut_noted (note_moved d.note got).row m (record d { note = note_moved d.note got })) lands
      mark_out mark.Open got may hs lands = by_file (due_at (at.Mark mark.Open m) d) tt (λ g. MayCome (due_at (at.Mark mark.Open m) d) g → Lands b (act (at.Mark mark.Open m) now g d) → To None (at.Mark mark.Open m) g) got may
          (λ told fit. opened_out hs told.answer told.bytes fit) may lands
      mark_out (mark.Write fd) got may hs lands = works (mark.Write fd) m got hs gives (act (at.Mark (mark.Write fd) m) now got d) refl refl refl (λ x n. refl)
      mark_out (mark.Close fd done) got may hs lands = settles (mark.Close fd done) m got hs gives may sound is one refl (shut_marked done m d) lands

    -- an unlink

    unlink_other : (c e : Channel) (k n : ℕ) (p : Point) → ((e ≡ c) → (n ≡ k) → ⊥) → is_unlinking e n (at.UnlinkFile c k p) ≡ false
    unlink_other Local Local k n p other = differs n k (λ at. other refl at)
    unlink_other Remote Remote k n p other = differs n k (λ at. other refl at)
    unlink_other Local Remote k n p other = refl
    unlink_other Remote Local k n p other = refl

    none_going : (c : Channel) (k : ℕ) (p : Point) → States (at.UnlinkFile c k p) d.slots pass → pass c k ≡ None
    none_going c k p hs = ⊎_elim
        (λ u. u.1)
        (λ w. ⊎_elim (λ o. absurd (cc (sym o.0 ∙ here))) (λ i. absurd (cc (sym i.1 ∙ here))) w)
        (hs c k)
      where
        here : is_unlinking c k (at.UnlinkFile c k p) ≡ true
        here = ap (λ (x : Bool). x && (k == k)) (same_channel c) ∙ eq-eqb k k refl

    ended_goes : (row : Row) (got : GotData) (c : Channel) (k : ℕ) (e : Desk) → e.slots ≡ at_lane c (ended k) d.slots → ((x : Channel) → is_opened e.row x ≡ false) → Lands b e → GoingOn (OverAt row got) d.slots
    ended_goes row got c k e same shut lands = λ x n o. going_on row got e lands shut x n (ap (λ (y : Slots). over n (lane x y)) same ∙ over_ended c k x n ∙ o)

    unlinks_out : (c : Channel) (k : ℕ) (p : Point) (told : Answer) (bytes : List ℕ) (born : ℕ → ℕ) (ov : Overs) → IsAnswerTo (call.Unlink (path (name_of (file_of c k)))) told → States (at.UnlinkFile c k p) d.slots pass → Gives
        → GoingOn ov d.slots → Out (λ e n. shift_if (is_file e n (parse (path (name_of (file_of c k))))) (unless_done told)) ov born (unlinked (replied told bytes).way c k p now d)
    unlinks_out c k p told bytes born ov fit hs gives goes = by told fit where
      s : Answer → Moving
      s told e n = shift_if (is_file e n (parse (path (name_of (file_of c k))))) (unless_done told)

      q : (told : Answer) → (e : Channel) (n : ℕ) → ((e ≡ c) → (n ≡ k) → ⊥) → IsQuiet (s told e n)
      q told e n other = subst (λ (x : Bool). IsQuiet (shift_if x (unless_done told))) (sym (file_false e c n k other)) tt

      fails : (told : Answer) → unless_done told ≡ Fails → Out (s told) ov born (due_again c k (later now) (stands_at d p))
      fails told e =
          let x : s told c k ≡ Fails = ap (λ (b : Bool). shift_if b (unless_done told)) (file_true c k) ∙ e in
          put_off (at.UnlinkFile c k p) hs hd hg (s told) ov born c k p (q told) (λ y n other. unlink_other c y k n p other) goes (passed_by (s told) ov c k Fails x) (due_of (s told) ov born (at.Turn p) c k Fails x)
          (gone_ended (at.UnlinkFile c k p) hs hd hg c k gives)

      by : (told : Answer) → IsAnswerTo (call.Unlink (path (name_of (file_of c k)))) told → Out (s told) ov born (unlinked (replied told bytes).way c k p now d)
      by answer.Done fit =
          let x : s answer.Done c k ≡ Same = ap (λ (b : Bool). shift_if b Same) (file_true c k) in
          file_gone_out (at.UnlinkFile c k p) hs hd hg (s answer.Done) ov born c k p (q answer.Done) (λ y n other. unlink_other c y k n p other) goes
          (passed_by (s answer.Done) ov c k Same x ∙ ap (unless (ov c k)) (none_going c k p hs) ∙ unless_none (ov c k)) (gone_ended (at.UnlinkFile c k p) hs hd hg c k gives)
      by (answer.Refused why.NotThere) fit = fails (answer.Refused why.NotThere) refl
      by (answer.Refused why.Memory) fit = fails (answer.Refused why.Memory) refl
      by (answer.Refused why.Exists) fit = fails (answer.Refused why.Exists) refl
      by (answer.Refused why.Fault) fit = fails (answer.Refused why.Fault) refl
      by told fit = absurd fit

    unlinked_row : (w : Way) (c : Channel) (k : ℕ) (p : Point) → (unlinked w c k p now d).row ≡ at.Turn p
    unlinked_row way.Fine c k p = refl
    unlinked_row way.Over c k p = refl
    unlinked_row way.Absent c k p = refl
    unlinked_row way.NoMemory c k p = refl
    unlinked_row way.Broken c k p = refl

    unlinked_slots : (w : Way) (c : Channel) (k : ℕ) (p : Point) → (unlinked w c k p now d).slots ≡ at_lane c (ended k) d.slots
    unlinked_slots way.Fine c k p = refl
    unlinked_slots way.Over c k p = refl
    unlinked_slots way.Absent c k p = refl
    unlinked_slots way.NoMemory c k p = refl
    unlinked_slots way.Broken c k p = refl

    pub unlink_out : (c : Channel) (k : ℕ) (p : Point) (got : GotData) → MayCome (due_at (at.UnlinkFile c k p) d) got → clears ≡ false → States (at.UnlinkFile c k p) d.slots pass → Lands b (act (at.UnlinkFile c k p) now got d) → Gives
        → To None (at.UnlinkFile c k p) got
    unlink_out c k p got may own hs lands gives = by_file (due_at (at.UnlinkFile c k p) d) tt (λ g. Lands b (act (at.UnlinkFile c k p) now g d) → To None (at.UnlinkFile c k p) g) got may
        (λ told fit lands.
        let w : Way = (replied told.answer told.bytes).way in
        let e : Desk = unlinked w c k p now d in
        let ov : Overs = OverAt (at.UnlinkFile c k p) (came.Answered told) in
        let born : ℕ → ℕ = Born (at.UnlinkFile c k p) (came.Answered told) in
        let shut : (x : Channel) → is_opened e.row x ≡ false = (λ x. ap (λ (r : Row). is_opened r x) (unlinked_row w c k p)) in
        subst (λ (x : Bool). Out (λ i n. shift_if (not x && is_file i n (parse (path (name_of (file_of c k))))) (unless_done told.answer)) ov born e) (sym own)
        (unlinks_out c k p told.answer told.bytes born ov fit hs gives (ended_goes (at.UnlinkFile c k p) (came.Answered told) c k e (unlinked_slots w c k p) shut lands)))
        lands

    -- a reading

    abbrev pub But : Moving → Channel → ℕ → Type 0
    But s c k = (e : Channel) (n : ℕ) → ((e ≡ c) → (n ≡ k) → ⊥) → IsQuiet (s e n)

    -- as is told of a desk that it leads to
    abbrev pub ToldBy : Overs → Type 0
    ToldBy ov = (e : Desk) → Lands b e → ((x : Channel) → is_opened e.row x ≡ false) → GoingOn ov e.slots

    later_out : (row : Row) (s : Moving) (ov : Overs) (born : ℕ → ℕ) (c : Channel) (k : ℕ) → States row d.slots pass → Links row → But s c k → ToldBy ov → Lands b (put_later c k now d) → PassBy s ov c k ≡ None
        → DueBy s ov born (at.Turn (point.Pass c false)) c k ≡ later now → Gone b (at_lane c (ended k) d.slots) → Out s ov born (put_later c k now d)
    later_out row s ov born c k hs none q told lands passes dues gone =
        put_off row hs hd hg s ov born c k (point.Pass c false) q (λ x n other. none x n) (λ x n o. told (put_later c k now d) lands (λ y. refl) x n (over_ended c k x n ∙ o)) passes dues gone

    pub failed_out : (row : Row) (s : Moving) (ov : Overs) (born : ℕ → ℕ) (c : Channel) (k : ℕ) → States row d.slots pass → Links row → But s c k → ToldBy ov → Lands b (put_later c k now d) → s c k ≡ Fails → Gives → Out s ov born (put_later c k now d)
    failed_out row s ov born c k hs none q told lands e gives = later_out row s ov born c k hs none q told lands (passed_by s ov c k Fails e) (due_of s ov born (at.Turn (point.Pass c false)) c k Fails e) (gone_ended row hs hd hg c k gives)

    pub opens_out : (row : Row) (c : Channel) (k m : ℕ) (told : Answer) (bytes : List ℕ) (born : ℕ → ℕ) (ov : Overs) → IsAnswerTo (call.Open (path (name_of (file_of c k))) how.Read) told → States row d.slots pass → Links row → Gives → ToldBy ov
        → let e : Desk = busy (file_read (read_on Opening (replied told bytes)) c k m Opening now (replied told bytes) d) in Lands b e
        → Out (λ e n. shift_if (is_file e n (parse (path (name_of (file_of c k))))) (unless_opened told)) ov born e
    opens_out row c k m told bytes born ov fit hs none gives says lands = by told fit lands where
      s : Answer → Moving
      s told e n = shift_if (is_file e n (parse (path (name_of (file_of c k))))) (unless_opened told)

      q : (told : Answer) → But (s told) c k
      q told e n other = subst (λ (x : Bool). IsQuiet (shift_if x (unless_opened told))) (sym (file_false e c n k other)) tt

      to : Answer → Desk
      to told = busy (file_read (read_on Opening (replied told bytes)) c k m Opening now (replied told bytes) d)

      fails : (told : Answer) → unless_opened told ≡ Fails → Lands b (put_later c k now d) → Out (s told) ov born (put_later c k now d)
      fails told e lands = failed_out row (s told) ov born c k hs none (q told) says lands (ap (λ (x : Bool). shift_if x (unless_opened told)) (file_true c k) ∙ e) gives

      by : (told : Answer) → IsAnswerTo (call.Open (path (name_of (file_of c k))) how.Read) told → Lands b (to told) → Out (s told) ov born (to told)
      by (answer.Opened fd) fit lands =
          same_out row (s (answer.Opened fd)) ov born (to (answer.Opened fd)) hs refl refl none (λ x n. refl) (λ x n. quiet_if (is_file x n (parse (path (name_of (file_of c k))))) Same tt) (says (to (answer.Opened fd)) lands (λ x. refl)) gives
      by (answer.Refused why.NotThere) fit lands = fails (answer.Refused why.NotThere) refl lands
      by (answer.Refused why.Fault) fit lands = fails (answer.Refused why.Fault) refl lands
      by (answer.Refused why.Memory) fit lands = fails (answer.Refused why.Memory) refl lands
      by told fit lands = absurd fit

    abbrev pub Ended : Channel → ℕ → ℕ → Bool → Moving
    Ended c k m whole e n = shift_if (is_trial_of e n (record { channel = c; n = k; begun = m })) (began whole m)

    pub ended_quiet : (c : Channel) (k m : ℕ) (whole : Bool) → But (Ended c k m whole) c k
    ended_quiet c k m whole e n other = subst (λ (x : Bool). IsQuiet (shift_if x (began whole m))) (sym (trial_false e c n k m other)) tt

    pub ended_is : (c : Channel) (k m : ℕ) (whole : Bool) → Ended c k m whole c k ≡ began whole m
    ended_is c k m whole = ap (λ (x : Bool). shift_if x (began whole m)) (trial_true c k m)

    -- what was read whole, of one channel
    module _ (c : Channel) (k m : ℕ) (o : Option (List Record)) (reads : (b c).to_give ≡ tasks_by k (is_dying k m d) o) (others : (x : Channel) → (x ≡ c → ⊥) → (b x).to_give ≡ (a x).to_give) where
      reads_none : (n : ℕ) → (n ≡ k → ⊥) → list_any (is_task n) (b c).to_give ≡ false
      reads_none n apart = none_on k n (b c).to_give (λ e. apart (sym e)) (subst (AllOn k) (sym reads) (tasks_on k (is_dying k m d) o))

      gone_other : (x : Channel) → (x ≡ c → ⊥) → (lane x d.slots).left ≡ [] → (n : ℕ) (i : Job) → job_of n (lane x d.slots).jobs ≡ Some i → list_any (is_task n) (b x).to_give ≡ false
      gone_other x apart bare n i there = subst (λ (ts : List Task). list_any (is_task n) ts ≡ false) (sym (others x apart)) (hg x bare n i there)

      job_apart : (n : ℕ) (jobs : List Job) (i : Job) → job_of n (without k jobs) ≡ Some i → n ≡ k → ⊥
      job_apart n jobs i there same = absurd (cc (sym (job_gone k jobs) ∙ ap (λ (j : ℕ). job_of j (without k jobs)) (sym same) ∙ there))

      gone_read : Gone b (at_lane c (ended k) d.slots)
      gone_read x bare n i there = by c x (λ y apart. gone_other y apart) reads_none bare there where
        by : (c x : Channel) → ((y : Channel) → (y ≡ c → ⊥) → (lane y d.slots).left ≡ [] → (n : ℕ) (i : Job) → job_of n (lane y d.slots).jobs ≡ Some i → list_any (is_task n) (b y).to_give ≡ false)
            → ((n : ℕ) → (n ≡ k → ⊥) → list_any (is_task n) (b c).to_give ≡ false) → (lane x (at_lane c (ended k) d.slots)).left ≡ [] → job_of n (lane x (at_lane c (ended k) d.slots)).jobs ≡ Some i → list_any (is_task n) (b x).to_give ≡ false
        by Local Local other mine bare there = mine n (job_apart n d.slots.local.jobs i there)
        by Remote Remote other mine bare there = mine n (job_apart n d.slots.remote.jobs i there)
        by Local Remote other mine bare there = other Remote (λ e. cc) bare n i there
        by Remote Local other mine bare there = other Local (λ e. cc) bare n i there

    first_other : (n k : ℕ) (dying : Bool) (rs : List Record) → (k ≡ n → ⊥) → is_on n (slice_get (attempts_of k dying rs) 0) ≡ false
    first_other n k dying [] apart = refl
    first_other n k dying (r ∷ rs) apart = by r.done r.place r.address (first_other n k dying rs apart) where
      by : (done : Bool) (place : ℕ) (address : List ℕ) → is_on n (slice_get (attempts_of k dying rs) 0) ≡ false → is_on n (slice_get (attempts_of k dying (record { done = done; place = place; address = address } ∷ rs)) 0) ≡ false
      by true place address h = h
      by false place address h = differs n k (λ e. apart (sym e))

    over_begun : (n k m : ℕ) (dying : Bool) (rs : List Record) (l : Lane) → l.left ≡ [] → (k ≡ n → ⊥) → over n (begun_by k rs m dying l) ≡ over n l
    over_begun n k m dying rs l bare apart =
        ap (λ (x : Bool). (not x && not (is_in_flight n l)) && not (list_any (is_mark_on n) l.marks)) (first_other n k dying rs apart)
        ∙ sym (ap (λ (left : List Attempt). (not (is_on n (slice_get left 0)) && not (is_in_flight n l)) && not (list_any (is_mark_on n) l.marks)) bare)

    job_begun : (k m : ℕ) (jobs : List Job) → job_of k (put (new_job k m) jobs) ≡ Some (new_job k m)
    job_begun k m jobs = job_put (new_job k m) k jobs ∙ cond-true (eqb k k) (Some (new_job k m)) (job_of k jobs) (eq-eqb k k refl)

    job_beside : (n k m : ℕ) (jobs : List Job) → (k ≡ n → ⊥) → job_of n (put (new_job k m) jobs) ≡ job_of n jobs
    job_beside n k m jobs apart = job_put (new_job k m) n jobs ∙ cond-false (eqb k n) (Some (new_job k m)) (job_of n jobs) (ne_eqb k n apart)

    -- a pass begins
    module _ (row to : Row) (s : Moving) (ov : Overs) (born : ℕ → ℕ) (c : Channel) (k m : ℕ) (rs : List Record) (hs : States row d.slots pass) (none : Links row) (q : But s c k) (bare : (lane c d.slots).left ≡ [])
        (goes : (x : Channel) (n : ℕ) → ((x ≡ c) → (n ≡ k) → ⊥) → over n (lane x d.slots) ≡ false → ov x n ≡ false) (next : (x : Channel) (n : ℕ) → ((x ≡ c) → (n ≡ k) → ⊥) → is_unlinking x n to ≡ false) where
      abbrev begins_lane : Lane → Lane
      begins_lane l = begun_by k rs m (is_dying k m d) l

      beside : (x : Channel) (n : ℕ) → ((x ≡ c) → (n ≡ k) → ⊥) → State x n (lane x d.slots) to (PassBy s ov x n)
      beside x n other = one_kept row hs hd hg s ov d.slots to x n refl (none x n) (next x n other) (quiet_steady (s x n) (q x n other)) (goes x n other)

      one_begun : (x : Channel) (n : ℕ) (l : Lane) → l.left ≡ [] → State x k (begins_lane l) to (PassBy s ov x k) → ((n ≡ k → ⊥) → State x n l to (PassBy s ov x n)) → ((n ≡ k → ⊥) → is_unlinking x n to ≡ false) → State x n (begins_lane l) to (PassBy s ov x n)
      one_begun x n l bare new old free = ⊎_elim
          (λ (same : k ≡ n). subst (λ (i : ℕ). State x i (begins_lane l) to (PassBy s ov x i)) same new)
          (λ (apart : k ≡ n → ⊥).
          let other : n ≡ k → ⊥ = (λ e. apart (sym e)) in
          kept_state x n l (begins_lane l) to to (PassBy s ov x n) (PassBy s ov x n) (old other) (free other) (free other) (job_beside n k m l.jobs apart) (λ o. over_begun n k m (is_dying k m d) rs l bare apart ∙ o) (λ p. p) (λ o. refl))
          (cases_eq k n)

      begun_states : State c k (begins_lane (lane c d.slots)) to (PassBy s ov c k) → States to (at_lane c begins_lane d.slots) (PassBy s ov)
      begun_states new x n = by c bare new (λ y i other. beside y i other) (λ y i other. next y i other) x where
        by : (c : Channel) → (lane c d.slots).left ≡ [] → State c k (begins_lane (lane c d.slots)) to (PassBy s ov c k) → ((x : Channel) (n : ℕ) → ((x ≡ c) → (n ≡ k) → ⊥) → State x n (lane x d.slots) to (PassBy s ov x n))
            → ((x : Channel) (n : ℕ) → ((x ≡ c) → (n ≡ k) → ⊥) → is_unlinking x n to ≡ false) → (x : Channel) → State x n (lane x (at_lane c begins_lane d.slots)) to (PassBy s ov x n)
        by Local bare new old free Local = one_begun Local n d.slots.local bare new (λ other. old Local n (λ e at. other at)) (λ other. free Local n (λ e at. other at))
        by Local bare new old free Remote = old Remote n (λ e at. cc)
        by Remote bare new old free Local = old Local n (λ e at. cc)
        by Remote bare new old free Remote = one_begun Remote n d.slots.remote bare new (λ other. old Remote n (λ e at. other at)) (λ other. free Remote n (λ e at. other at))

      begun_moments : never ≡ DueBy s ov born to c k → Moments s ov born to (due_then c k never d.book.messages)
      begun_moments new = dues_moved (λ x n due. due ≡ DueBy s ov born to x n) c k never d.book.messages (λ is. new) (but row hs hd hg s ov born to c k q goes)

      gone_begun : (reads : (b c).to_give ≡ tasks_by k (is_dying k m d) (Some rs)) → ((x : Channel) → (x ≡ c → ⊥) → (b x).to_give ≡ (a x).to_give) → Gone b (at_lane c begins_lane d.slots)
      gone_begun reads others x bare n i there = by c x reads (λ y apart. gone_other c k m (Some rs) reads others y apart) bare there where
        none_left : (e : Channel) → (b e).to_give ≡ tasks_by k (is_dying k m d) (Some rs) → attempts_of k (is_dying k m d) rs ≡ [] → list_any (is_task n) (b e).to_give ≡ false
        none_left e reads bare = ap (list_any (is_task n)) (reads ∙ sym (tasks_are k (is_dying k m d) rs) ∙ ap (map task_of) bare)

        by : (c x : Channel) → (b c).to_give ≡ tasks_by k (is_dying k m d) (Some rs) → ((y : Channel) → (y ≡ c → ⊥) → (lane y d.slots).left ≡ [] → (n : ℕ) (i : Job) → job_of n (lane y d.slots).jobs ≡ Some i → list_any (is_task n) (b y).to_give ≡ false)
            → (lane x (at_lane c begins_lane d.slots)).left ≡ [] → job_of n (lane x (at_lane c begins_lane d.slots)).jobs ≡ Some i → list_any (is_task n) (b x).to_give ≡ false
        by Local Local reads other bare there = none_left Local reads bare
        by Remote Remote reads other bare there = none_left Remote reads bare
        by Local Remote reads other bare there = other Remote (λ e. cc) bare n i there
        by Remote Local reads other bare there = other Local (λ e. cc) bare n i there

    -- what it says of a desk, by its row, its channels and its messages
    pub out_of : (s : Moving) (ov : Overs) (born : ℕ → ℕ) (e : Desk) (to : Row) (x : Slots) (m : Messages) → e.row ≡ to → e.slots ≡ x → e.book.messages ≡ m → States to x (PassBy s ov) → Moments s ov born to m → Gone b x → Out s ov born e
    out_of s ov born e to x m row slots messages states moments gone = (
      subst (λ (r : Row). States r e.slots (PassBy s ov)) (sym row) (subst (λ (y : Slots). States to y (PassBy s ov)) (sym slots) states),
      subst (λ (r : Row). Moments s ov born r e.book.messages) (sym row) (subst (λ (y : Messages). Moments s ov born to y) (sym messages) moments),
      subst (Gone b) (sym slots) gone,
    )

    begun_slots : (c : Channel) (k m : ℕ) (rs : List Record) → (has_begun c k m rs d).slots ≡ at_lane c (λ l. begun_by k rs m (is_dying k m d) l) d.slots
    begun_slots Local k m rs = refl
    begun_slots Remote k m rs = refl

    begun_messages : (c : Channel) (k m : ℕ) (rs : List Record) → (has_begun c k m rs d).book.messages ≡ due_then c k never d.book.messages
    begun_messages Local k m rs = refl
    begun_messages Remote k m rs = refl

    at_own : (c : Channel) (to : Lane → Lane) → lane c (at_lane c to d.slots) ≡ to (lane c d.slots)
    at_own Local to = refl
    at_own Remote to = refl

    not_false : (x : Bool) → not x ≡ false → x ≡ true
    not_false true e = refl
    not_false false e = absurd (cc)

    not_true : (x : Bool) → not x ≡ true → x ≡ false
    not_true true e = absurd (cc)
    not_true false e = refl

    module _ (c : Channel) (k m : ℕ) (fd : Fd) (told : Told) (hs : States (at.ReadFile c k m (Closing fd)) d.slots pass) (bare : (lane c d.slots).left ≡ []) (flying : flies k (a c) ≡ is_in_flight k (lane c d.slots))
        (others : (x : Channel) → (x ≡ c → ⊥) → (b x).to_give ≡ (a x).to_give) (one : (x : Channel) → AreOfOne (b x).to_give) (born : ℕ → ℕ) where
      abbrev ov : Overs
      ov = OverAt (at.ReadFile c k m (Closing fd)) (came.Answered told)

      says : ToldBy ov
      says = going_on (at.ReadFile c k m (Closing fd)) (came.Answered told)

      free_is : is_free_for k (lane c d.slots) ≡ not (is_in_flight k (lane c d.slots))
      free_is = ap (λ (left : List Attempt). is_none (slice_get left 0) && (not (is_on k (slice_get left 0)) && not (is_in_flight k (lane c d.slots)))) bare

      module _ (rs : List Record) (reads : (b c).to_give ≡ tasks_by k (is_dying k m d) (Some rs)) where
        abbrev s : Moving
        s = Ended c k m true

        abbrev begins : Lane → Lane
        begins l = begun_by k rs m (is_dying k m d) l

        abbrev after : Desk
        after = has_begun c k m rs d

        abbrev mine : Lane
        mine = begins (lane c d.slots)

        over_beside : (x : Channel) (n : ℕ) → ((x ≡ c) → (n ≡ k) → ⊥) → over n (lane x (at_lane c begins d.slots)) ≡ over n (lane x d.slots)
        over_beside x n other = by c x bare other where
          by : (c x : Channel) → (lane c d.slots).left ≡ [] → ((x ≡ c) → (n ≡ k) → ⊥) → over n (lane x (at_lane c begins d.slots)) ≡ over n (lane x d.slots)
          by Local Local bare other = over_begun n k m (is_dying k m d) rs d.slots.local bare (λ e. other refl (sym e))
          by Remote Remote bare other = over_begun n k m (is_dying k m d) rs d.slots.remote bare (λ e. other refl (sym e))
          by Local Remote bare other = refl
          by Remote Local bare other = refl

        -- it has begun, and the desk that follows stands there
        began_out : (free : flies k (a c) ≡ false) (e : Desk) (to : Row) → e.row ≡ to → e.slots ≡ after.slots → e.book.messages ≡ after.book.messages → Lands b e → ((x : Channel) → is_opened e.row x ≡ false)
            → ((x : Channel) (n : ℕ) → ((x ≡ c) → (n ≡ k) → ⊥) → is_unlinking x n to ≡ false) → State c k mine to (PassBy s ov c k) → Out s ov born e
        began_out free e to row slots messages lands shut next new =
            let row0 : Row = at.ReadFile c k m (Closing fd) in
            let goes = (λ (x : Channel) (n : ℕ) (other : (x ≡ c) → (n ≡ k) → ⊥) (o : over n (lane x d.slots) ≡ false).
            says e lands shut x n (ap (λ (y : Slots). over n (lane x y)) (slots ∙ begun_slots c k m rs) ∙ over_beside x n other ∙ o)) in
            out_of s ov born e to (at_lane c begins d.slots) (due_then c k never d.book.messages) row (slots ∙ begun_slots c k m rs) (messages ∙ begun_messages c k m rs)
            (begun_states row0 to s ov born c k m rs hs (λ x n. refl) (ended_quiet c k m true) bare goes next new)
            (begun_moments row0 to s ov born c k m rs hs (λ x n. refl) (ended_quiet c k m true) bare goes next
            (sym (due_of s ov born to c k (Begins m) (ended_is c k m true) ∙ ap (λ (x : Bool). due_by (Begins m) now x (ov c k && not (is_unlinking c k to)) (pass c k) (retry_in born c k) (was c k)) free)))
            (gone_begun row0 to s ov born c k m rs hs (λ x n. refl) (ended_quiet c k m true) bare goes next reads others)

        passes : flies k (a c) ≡ false → PassBy s ov c k ≡ unless (ov c k) (Some m)
        passes free = passed_by s ov c k (Begins m) (ended_is c k m true) ∙ ap (λ (x : Bool). pass_by (Begins m) x (ov c k) (pass c k)) free

        abbrev p : Point
        p = point.Pass c false

        own_lane : (e : Desk) → e.slots ≡ after.slots → lane c e.slots ≡ mine
        own_lane e slots = ap (λ (y : Slots). lane c y) (slots ∙ begun_slots c k m rs) ∙ at_own c begins

        stands : flies k (a c) ≡ false → job_over k mine ≡ None → Lands b (stands_at after p) → Out s ov born (stands_at after p)
        stands free e lands =
            let busy_now : over k mine ≡ false = not_over k mine (new_job k m) e (job_begun k m (lane c d.slots).jobs) in
            let still : ov c k ≡ false = says (stands_at after p) lands (λ x. refl) c k (ap (over k) (own_lane (stands_at after p) refl) ∙ busy_now) in
            began_out free (stands_at after p) (at.Turn p) refl refl refl lands (λ x. refl) (λ x n other. refl)
            (inr (inr (new_job k m, refl, job_begun k m (lane c d.slots).jobs, passes free ∙ ap (λ (x : Bool). unless x (Some m)) still, busy_now)))

        unlinks_next : flies k (a c) ≡ false → over k mine ≡ true → Lands b (goes after (at.UnlinkFile c k p)) → Out s ov born (goes after (at.UnlinkFile c k p))
        unlinks_next free is lands =
            let e : Desk = goes after (at.UnlinkFile c k p) in
            let w = lands c refl in
            let own : lane c e.slots ≡ mine = own_lane e refl in
            let o : over k (lane c e.slots) ≡ true = ap (over k) own ∙ is in
            let left_is : (lane c e.slots).left ≡ attempts_of k (is_dying k m d) rs = ap (λ (l : Lane). l.left) own in
            let none : list_any (is_task k) (b c).to_give ≡ false = none_given k (lane c e.slots) (b c) w.0 w.1 o (one c)
            (λ e0. ap (list_any (is_task k)) (reads ∙ sym (tasks_are k (is_dying k m d) rs) ∙ ap (map task_of) (sym left_is ∙ e0))) in
            let over_now : ov c k ≡ true = ap (λ (x : Bool). x && true) (account_ends k (lane c e.slots) (b c) w.0 w.1 o none) in
            began_out free e (at.UnlinkFile c k p) refl refl refl lands (λ x. refl) (λ x n other. unlink_other c x k n p other)
            (inl (ap (λ (x : Bool). x && (k == k)) (same_channel c) ∙ eq-eqb k k refl, passes free ∙ ap (λ (x : Bool). unless x (Some m)) over_now))

        abbrev unmarked_of : Option Job → Bool
        unmarked_of None = false
        unmarked_of (Some job) = job.unmarked

        closed_out : flies k (a c) ≡ false → (o : Option Job) → job_over k mine ≡ o → Lands b (closed_by o c k p after) → Out s ov born (closed_by o c k p after)
        closed_out free None e lands = stands free e lands
        closed_out free (Some job) e lands =
            let w = over_some k mine job e in
            let whole : job.unmarked ≡ false = ap unmarked_of (sym w.1 ∙ job_begun k m (lane c d.slots).jobs) in
            subst (λ (u : Bool). let e : Desk = if u then retried c k job.begun (stands_at after p) else goes after (at.UnlinkFile c k p) in Lands b e → Out s ov born e) (sym whole) (unlinks_next free w.0) lands

        read_whole : Lands b (pass_opened (Some rs) c k m now d) → Out s ov born (pass_opened (Some rs) c k m now d)
        read_whole lands = by (is_free_for k (lane c d.slots)) refl lands where
          by : (x : Bool) → is_free_for k (lane c d.slots) ≡ x → let e : Desk = if x then closed_by (job_over k (lane c after.slots)) c k p after else put_later c k now d in Lands b e → Out s ov born e
          by true e lands =
              let free : flies k (a c) ≡ false = flying ∙ not_true (is_in_flight k (lane c d.slots)) (sym free_is ∙ e) in
              closed_out free (job_over k (lane c after.slots)) (ap (job_over k) (sym (own_lane after refl))) lands
          by false e lands =
              let flies_now : flies k (a c) ≡ true = flying ∙ not_false (is_in_flight k (lane c d.slots)) (sym free_is ∙ e) in
              later_out (at.ReadFile c k m (Closing fd)) s ov born c k hs (λ x n. refl) (ended_quiet c k m true) says lands
              (passed_by s ov c k (Begins m) (ended_is c k m true) ∙ ap (λ (x : Bool). pass_by (Begins m) x (ov c k) (pass c k)) flies_now)
              (due_of s ov born (at.Turn p) c k (Begins m) (ended_is c k m true) ∙ ap (λ (x : Bool). due_by (Begins m) now x (ov c k && not (is_unlinking c k (at.Turn p))) (pass c k) (retry_in born c k) (was c k)) flies_now)
              (gone_read c k m (Some rs) reads others)

      pub closing_out : (o : Option (List Record)) → (b c).to_give ≡ tasks_by k (is_dying k m d) o → Lands b (pass_opened o c k m now d) → Out (Ended c k m (is_some o)) ov born (pass_opened o c k m now d)
      closing_out None reads lands = later_out (at.ReadFile c k m (Closing fd)) (Ended c k m false) ov born c k hs (λ x n. refl) (ended_quiet c k m false) says lands
          (passed_by (Ended c k m false) ov c k Fails (ended_is c k m false)) (due_of (Ended c k m false) ov born (at.Turn (point.Pass c false)) c k Fails (ended_is c k m false)) (gone_read c k m None reads others)
      closing_out (Some rs) reads lands = read_whole rs reads lands
