-- What becomes of passes: each goes on, or ends with nothing left of its message, which is then due at the next retry.
use Rattle.std.proofs.Common.{◌≡◌, ◌⊎◌, ℕ, zero, suc, List, [], ◌∷◌, ◌++◌, set, drop, length, nat_lt, eqb, Bool, true, false, not, if◌then◌else◌, Option, Some, None, refl, sym, ap, ◌∙◌, subst, inl, inr, ⊎_elim, eq-eqb}
use Rattle.std.specs.Prelude.{◌&&◌, ◌||◌, ◌==◌, slice_get}
use Rattle.std.specs.List.{list_any}
use Rattle.std.specs.Option.{option_map}
use Rattle.std.proofs.lemmas.Bool.{cases_eq, cond-false, cond-true, ne_eqb, or_left, or_right}
use Rattle.call_fs.specs.Disk.{Among}
use Rattle.retry_schedule.specs.Due.{is_due}
use Rattle.retry_schedule.specs.Retry.{next_retry}
use Rattle.send_core.proofs.Born.{birth_told}
use Rattle.send_core.proofs.Known.{Sound, sound_moved_local, sound_moved_remote}
use Rattle.send_core.specs.Desk.{closed_by, deferred, due_on, due_then, failure_in, goes, heard, is_final, retried, retried_if, stands_at, told, told_all, told_by, waits, with_reader}
use Rattle.send_core.specs.declared.desk.Desk.{Desk}
use Rattle.bounce_record.specs.declared.note_row.NoteRow.{NoteRow}
use Rattle.bounce_record.specs.declared.note_row.NoteRow.TheVariants as written
use Rattle.bounce_record.specs.Writing.{moved as note_moved}
use Rattle.call_fs.specs.declared.calls.Fd.{Fd}
use Rattle.call_fs.specs.declared.past.GotData.{GotData}
use Rattle.send_core.specs.Agrees.{is_same}
use Rattle.send_core.specs.Turn.{act_mark, begin_note, mark_opened, mark_over, noted_at}
use Rattle.send_parts.specs.declared.row.MarkRow.{MarkRow}
use Rattle.send_parts.specs.declared.row.MarkRow.TheVariants as mark
use Rattle.send_parts.specs.declared.row.Marked.{Marked}
use Rattle.send_parts.specs.declared.row.Point.{Point}
use Rattle.send_parts.specs.declared.row.Point.TheVariants as point
use Rattle.send_parts.specs.declared.row.Row.{Row}
use Rattle.send_parts.specs.declared.row.Row.TheVariants as at
use Rattle.send_jobs.specs.declared.attempts.Attempt.{Attempt}
use Rattle.send_jobs.specs.declared.attempts.Failure.{Failure}
use Rattle.send_jobs.specs.declared.attempts.Mark.{Mark}
use Rattle.send_known.specs.declared.channel.Channel.{Channel}
use Rattle.send_known.specs.declared.channel.Channel.TheVariants.{Local, Remote}
use Rattle.send_jobs.specs.declared.jobs.Job.{Job}
use Rattle.send_jobs.specs.declared.lane.Lane.{Lane}
use Rattle.send_jobs.proofs.JobLemmas.{job_unmarked, job_without}
use Rattle.send_jobs.specs.Channels.{skip_of}
use Rattle.send_jobs.specs.Jobs.{is_job_of, job_of, unmark, unmarked_if, without}
use Rattle.send_jobs.specs.Lanes.{ended, finished, is_in_flight, is_mark_on, is_open_on, job_over, left_unmarked, mark_settled, owes, reported}
use Rattle.send_jobs.specs.Sending.{at_lane, lane}
use Rattle.send_jobs.specs.Slots.{attempt_in, is_on}
use Rattle.send_jobs.specs.Tries.{moment_of, retry_of as next_try}
use Rattle.send_known.specs.declared.messages.Messages.{Messages}
use Rattle.send_parts.specs.declared.reply.Way.{Way}
use Rattle.send_parts.specs.declared.reply.Way.TheVariants as way
use Rattle.send_parts.specs.Replies.{said}
use Rattle.spawn_protocol.specs.declared.report.Report.{Report}
use Rattle.spawn_protocol.specs.Report.{counted, read_on as reports_on}
use Rattle.send_runs.proofs.DueLists.{among_moved}
use Rattle.send_runs.proofs.Overs.{none_on}
use Rattle.send_runs.proofs.Quiet.{differs}
use Rattle.send_runs.proofs.Settling.{OfBoth}

-- Lanes

-- of a message nothing is to be given, in flight or to be marked
abbrev pub over : ℕ → Lane → Bool
over n l = finished n l && not (list_any (is_mark_on n) l.marks)

pub over_some : (n : ℕ) (l : Lane) (job : Job) → job_over n l ≡ Some job → (over n l ≡ true) × (job_of n l.jobs ≡ Some job)
over_some n l job e = by (over n l) refl e where
  by : (b : Bool) → over n l ≡ b → (if b then job_of n l.jobs else None) ≡ Some job → (over n l ≡ true) × (job_of n l.jobs ≡ Some job)
  by true is e = (is, e)
  by false is e = absurd (cc)

pub not_over : (n : ℕ) (l : Lane) (job : Job) → job_over n l ≡ None → job_of n l.jobs ≡ Some job → over n l ≡ false
not_over n l job e there = by (over n l) refl e where
  by : (b : Bool) → over n l ≡ b → (if b then job_of n l.jobs else None) ≡ None → over n l ≡ false
  by true is e = absurd (cc (sym e ∙ there))
  by false is e = is

pub busy : (begun flies marks : Bool) → flies ≡ true → ((not begun && not flies) && not marks) ≡ false
busy true flies marks e = refl
busy false true marks e = refl
busy false false marks e = absurd (cc)

pub owing : (begun flies marks : Bool) → marks ≡ true → ((not begun && not flies) && not marks) ≡ false
owing true flies marks e = refl
owing false true marks e = refl
owing false false true e = refl
owing false false false e = absurd (cc)

flying : (n : ℕ) (slots : List (Option Attempt)) (slot : ℕ) (x : Attempt) → attempt_in slots slot ≡ Some x → x.n ≡ n → list_any (is_on n) slots ≡ true
flying n slots slot x there same = by (list_any (is_on n) slots) refl where
  by : (b : Bool) → list_any (is_on n) slots ≡ b → list_any (is_on n) slots ≡ true
  by true e = e
  by false e = absurd (none_on n slots slot x e there same)

pub flies_not_over : (n : ℕ) (l : Lane) (slot : ℕ) (x : Attempt) → attempt_in l.slots slot ≡ Some x → x.n ≡ n → over n l ≡ false
flies_not_over n l slot x there same = busy (is_open_on n l) (is_in_flight n l) (list_any (is_mark_on n) l.marks) (flying n l.slots slot x there same)

abbrev is_first_on : ℕ → Option Mark → Bool
is_first_on n None = false
is_first_on n (Some m) = is_mark_on n m

first_any : (n : ℕ) (marks : List Mark) (it : Mark) → slice_get marks 0 ≡ Some it → it.attempt.n ≡ n → list_any (is_mark_on n) marks ≡ true
first_any n [] it there same = absurd (cc)
first_any n (y ∷ marks) it there same = or_left (is_mark_on n y) (list_any (is_mark_on n) marks) (ap (is_first_on n) there ∙ eq-eqb it.attempt.n n same)

marks_not_over : (n : ℕ) (l : Lane) (it : Mark) → slice_get l.marks 0 ≡ Some it → it.attempt.n ≡ n → over n l ≡ false
marks_not_over n l it there same = owing (is_open_on n l) (is_in_flight n l) (list_any (is_mark_on n) l.marks) (first_any n l.marks it there same)

other_set : (n : ℕ) (slots : List (Option Attempt)) (slot : ℕ) (x : Attempt) → attempt_in slots slot ≡ Some x → (x.n ≡ n → ⊥) → list_any (is_on n) (set slots slot None) ≡ list_any (is_on n) slots
other_set n [] slot x there apart = refl
other_set n (s ∷ slots) zero x there apart = sym (ap (λ (b : Bool). b || list_any (is_on n) slots) (ap (is_on n) there ∙ differs n x.n (λ e. apart (sym e))))
other_set n (s ∷ slots) (suc slot) x there apart = ap (λ (b : Bool). is_on n s || b) (other_set n slots slot x there apart)

other_more : (n : ℕ) (marks : List Mark) (m : Mark) → is_mark_on n m ≡ false → list_any (is_mark_on n) (marks ++ m ∷ []) ≡ list_any (is_mark_on n) marks
other_more n [] m e = ap (λ (b : Bool). b || false) e
other_more n (y ∷ marks) m e = ap (λ (b : Bool). is_mark_on n y || b) (other_more n marks m e)

one_more : (n : ℕ) (marks : List Mark) (m : Mark) → is_mark_on n m ≡ true → list_any (is_mark_on n) (marks ++ m ∷ []) ≡ true
one_more n [] m e = ap (λ (b : Bool). b || false) e
one_more n (y ∷ marks) m e = or_right (is_mark_on n y) (list_any (is_mark_on n) (marks ++ m ∷ [])) (one_more n marks m e)

other_drop : (n : ℕ) (marks : List Mark) (it : Mark) → slice_get marks 0 ≡ Some it → (it.attempt.n ≡ n → ⊥) → list_any (is_mark_on n) (drop 1 marks) ≡ list_any (is_mark_on n) marks
other_drop n [] it there apart = refl
other_drop n (y ∷ marks) it there apart = sym (ap (λ (b : Bool). b || list_any (is_mark_on n) marks) (ap (is_first_on n) there ∙ differs n it.attempt.n (λ e. apart (sym e))))

over_reported : (n slot : ℕ) (x : Attempt) (l : Lane) → attempt_in l.slots slot ≡ Some x → (x.n ≡ n → ⊥) → over n (reported slot l) ≡ over n l
over_reported n slot x l there apart = ap (λ (f : Bool). (not (is_open_on n l) && not f) && not (list_any (is_mark_on n) l.marks)) (other_set n l.slots slot x there apart)

over_owed : (n slot : ℕ) (x : Attempt) (note : Option Failure) (l : Lane) → attempt_in l.slots slot ≡ Some x → (x.n ≡ n → ⊥) → over n (owes (record { attempt = x; note = note }) (reported slot l)) ≡ over n l
over_owed n slot x note l there apart =
    let m : Mark = record { attempt = x; note = note } in
    ap (λ (k : Bool). (not (is_open_on n l) && not (list_any (is_on n) (set l.slots slot None))) && not k) (other_more n l.marks m (differs n x.n (λ e. apart (sym e))))
    ∙ over_reported n slot x l there apart

-- Jobs

abbrev begun_in_job : Option Job → ℕ
begun_in_job None = 0
begun_in_job (Some j) = j.begun

same_begun : (k : ℕ) (j : Job) → (unmarked_if k j).begun ≡ j.begun
same_begun k j = by (is_job_of k j) where
  by : (b : Bool) → (if b then record j { unmarked = true } else j).begun ≡ j.begun
  by true = refl
  by false = refl

pub job_gone : (k : ℕ) (jobs : List Job) → job_of k (without k jobs) ≡ None
job_gone k jobs = job_without k k jobs ∙ cond-true (eqb k k) None (job_of k jobs) (eq-eqb k k refl)

pub job_other : (k n : ℕ) (jobs : List Job) → (k ≡ n → ⊥) → job_of n (without k jobs) ≡ job_of n jobs
job_other k n jobs apart = job_without k n jobs ∙ cond-false (eqb k n) None (job_of n jobs) (ne_eqb k n apart)

unmarked_at : (k : ℕ) (jobs : List Job) → job_of k (unmark k jobs) ≡ option_map (unmarked_if k) (job_of k jobs)
unmarked_at k jobs = job_unmarked k k jobs ∙ cond-true (eqb k k) (option_map (unmarked_if k) (job_of k jobs)) (job_of k jobs) (eq-eqb k k refl)

unmarked_other : (k n : ℕ) (jobs : List Job) → (k ≡ n → ⊥) → job_of n (unmark k jobs) ≡ job_of n jobs
unmarked_other k n jobs apart = job_unmarked k n jobs ∙ cond-false (eqb k n) (option_map (unmarked_if k) (job_of n jobs)) (job_of n jobs) (ne_eqb k n apart)

-- A place of a message was settled: its job may be marked so, and nothing is changed of other messages

pub record Settled (k : ℕ) (l x : Lane) : Type 0 where
  pub busy : over k l ≡ false
  pub none : job_of k l.jobs ≡ None → job_of k x.jobs ≡ None
  pub some : (j : Job) → job_of k l.jobs ≡ Some j → (i : Job) × (job_of k x.jobs ≡ Some i) × (i.begun ≡ j.begun)
  pub jobs : (n : ℕ) → (k ≡ n → ⊥) → job_of n x.jobs ≡ job_of n l.jobs
  pub others : (n : ℕ) → (k ≡ n → ⊥) → over n x ≡ over n l

none_unmarked : (k : ℕ) (jobs : List Job) → job_of k jobs ≡ None → job_of k (unmark k jobs) ≡ None
none_unmarked k jobs e = unmarked_at k jobs ∙ ap (option_map (unmarked_if k)) e

some_unmarked : (k : ℕ) (jobs : List Job) (j : Job) → job_of k jobs ≡ Some j → (i : Job) × (job_of k (unmark k jobs) ≡ Some i) × (i.begun ≡ j.begun)
some_unmarked k jobs j e = (unmarked_if k j, unmarked_at k jobs ∙ ap (option_map (unmarked_if k)) e, same_begun k j)

settled_report : (slot : ℕ) (x : Attempt) (l : Lane) → attempt_in l.slots slot ≡ Some x → Settled x.n l (left_unmarked x.n (reported slot l))
settled_report slot x l there = record {
  busy = flies_not_over x.n l slot x there refl;
  none = λ e. none_unmarked x.n l.jobs e;
  some = λ j e. some_unmarked x.n l.jobs j e;
  jobs = λ n apart. unmarked_other x.n n l.jobs apart;
  others = λ n apart. over_reported n slot x l there apart;
}

over_dropped : (n k : ℕ) (it : Mark) (l : Lane) → slice_get l.marks 0 ≡ Some it → k ≡ it.attempt.n → (k ≡ n → ⊥) → over n (mark_settled l) ≡ over n l
over_dropped n k it l there same apart = ap (λ (m : Bool). (not (is_open_on n l) && not (is_in_flight n l)) && not m) (other_drop n l.marks it there (λ e. apart (same ∙ e)))

settled_mark : (b : Bool) (k : ℕ) (it : Mark) (l : Lane) → slice_get l.marks 0 ≡ Some it → k ≡ it.attempt.n → Settled k l (if b then mark_settled l else left_unmarked k (mark_settled l))
settled_mark true k it l there same = record {
  busy = marks_not_over k l it there (sym same);
  none = λ e. e;
  some = λ j e. (j, e, refl);
  jobs = λ n apart. refl;
  others = λ n apart. over_dropped n k it l there same apart;
}
settled_mark false k it l there same = record {
  busy = marks_not_over k l it there (sym same);
  none = λ e. none_unmarked k l.jobs e;
  some = λ j e. some_unmarked k l.jobs j e;
  jobs = λ n apart. unmarked_other k n l.jobs apart;
  others = λ n apart. over_dropped n k it l there same apart;
}

-- Moments

-- what is due of a message on a channel is due then
abbrev pub Entry : Channel → ℕ → Messages → ℕ → Type 0
Entry c n m x = (due : ℕ) → Among (due, n) (due_on c m) → due ≡ x

moved_now : (c : Channel) (k x : ℕ) (m : Messages) (due : ℕ) → Among (due, k) (due_on c (due_then c k x m)) → (due ≡ x) × (is_due k (due_on c m) ≡ true)
moved_now Local k x m due a = ⊎_elim
    (λ (w : (due ≡ x) × (k ≡ k) × (is_due k m.local ≡ true)). (w.0, w.2))
    (λ (w : Among (due, k) m.local × (k ≡ k → ⊥)). absurd (w.1 refl))
    (among_moved due k x k m.local a)
moved_now Remote k x m due a = ⊎_elim
    (λ (w : (due ≡ x) × (k ≡ k) × (is_due k m.remote ≡ true)). (w.0, w.2))
    (λ (w : Among (due, k) m.remote × (k ≡ k → ⊥)). absurd (w.1 refl))
    (among_moved due k x k m.remote a)

moved_other : (c : Channel) (k n x : ℕ) (m : Messages) → (k ≡ n → ⊥) → (due : ℕ) → Among (due, n) (due_on c (due_then c k x m)) → Among (due, n) (due_on c m)
moved_other Local k n x m apart due a = ⊎_elim
    (λ (w : (due ≡ x) × (n ≡ k) × (is_due k m.local ≡ true)). absurd (apart (sym w.1)))
    (λ (w : Among (due, n) m.local × (n ≡ k → ⊥)). w.0)
    (among_moved due n x k m.local a)
moved_other Remote k n x m apart due a = ⊎_elim
    (λ (w : (due ≡ x) × (n ≡ k) × (is_due k m.remote ≡ true)). absurd (apart (sym w.1)))
    (λ (w : Among (due, n) m.remote × (n ≡ k → ⊥)). w.0)
    (among_moved due n x k m.remote a)

-- The channel file of a message is unlinked

abbrev pub is_unlinking : Channel → ℕ → Row → Bool
is_unlinking c n (at.UnlinkFile e k p) = is_same c e && (k == n)
is_unlinking c n row = false

pub same_channel : (c : Channel) → is_same c c ≡ true
same_channel Local = refl
same_channel Remote = refl

-- What became of a pass, since the jobs were these and the moments those

abbrev pub retry_in : (ℕ → ℕ) → Channel → ℕ → ℕ → ℕ
retry_in born c n begun = next_retry (moment_of (born n)) (moment_of begun) (skip_of c)

module _ (first : Channel → ℕ → Option Job) (was : Channel → ℕ → ℕ) (born : ℕ → ℕ) where
  -- there is none
  abbrev pub NoPass : Channel → ℕ → Lane → Messages → Type 0
  NoPass c n l m = (first c n ≡ None) × (job_of n l.jobs ≡ None) × Entry c n m (was c n)

  abbrev pub Goes : Channel → ℕ → Lane → Messages → Type 0
  Goes c n l m = (j : Job) × (i : Job) × (first c n ≡ Some j) × (job_of n l.jobs ≡ Some i) × (i.begun ≡ j.begun) × (over n l ≡ false) × Entry c n m (was c n)

  abbrev pub Ends : Channel → ℕ → Lane → Messages → Type 0
  Ends c n l m = (j : Job) × (first c n ≡ Some j) × (job_of n l.jobs ≡ None) × (over n l ≡ true) × Entry c n m (retry_in born c n j.begun)

  abbrev pub Fate : Channel → ℕ → Lane → Messages → Type 0
  Fate c n l m = NoPass c n l m ⊎ (Goes c n l m ⊎ Ends c n l m)

  -- it is over, and the channel file is to be unlinked
  abbrev pub Over : Channel → ℕ → Lane → Messages → Type 0
  Over c n l m = (j : Job) × (first c n ≡ Some j) × (over n l ≡ true) × Entry c n m (was c n)

  carried : (c : Channel) (n : ℕ) (l x : Lane) (m y : Messages) → job_of n x.jobs ≡ job_of n l.jobs → over n x ≡ over n l → ((due : ℕ) → Among (due, n) (due_on c y) → Among (due, n) (due_on c m)) → Fate c n l m → Fate c n x y
  carried c n l x m y jobs same back h = ⊎_elim
      (λ (w : NoPass c n l m). inl (w.0, jobs ∙ w.1, λ due a. w.2 due (back due a)))
      (λ (w : Goes c n l m ⊎ Ends c n l m). inr (⊎_elim
      (λ (g : Goes c n l m). inl (g.0, g.1, g.2, jobs ∙ g.3, g.4, same ∙ g.5, λ due a. g.6 due (back due a)))
      (λ (e : Ends c n l m). inr (e.0, e.1, jobs ∙ e.2, same ∙ e.3, λ due a. e.4 due (back due a)))
      w))
      h

  -- a record is to be marked after its report

  owed_fate : (c : Channel) (n slot : ℕ) (x : Attempt) (note : Option Failure) (l : Lane) (m : Messages) → attempt_in l.slots slot ≡ Some x → Fate c n l m → Fate c n (owes (record { attempt = x; note = note }) (reported slot l)) m
  owed_fate c n slot x note l m there h = ⊎_elim same apart (cases_eq x.n n) where
    to : Lane
    to = owes (record { attempt = x; note = note }) (reported slot l)

    apart : (x.n ≡ n → ⊥) → Fate c n to m
    apart other = carried c n l to m m refl (over_owed n slot x note l there other) (λ due a. a) h

    same : x.n ≡ n → Fate c n to m
    same e = ⊎_elim
        (λ (w : NoPass c n l m). inl w)
        (λ (w : Goes c n l m ⊎ Ends c n l m). inr (⊎_elim
        (λ (g : Goes c n l m). inl (
          g.0,
          g.1,
          g.2,
          g.3,
          g.4,
          owing (is_open_on n to) (is_in_flight n to) (list_any (is_mark_on n) to.marks) (one_more n l.marks (record { attempt = x; note = note }) (eq-eqb x.n n e)),
          g.6,
        ))
        (λ (d : Ends c n l m). absurd (cc (sym d.3 ∙ flies_not_over n l slot x there e)))
        w))
        h

  -- a place of a message was settled, and its pass goes on, or ends

  stays : (c : Channel) (n k : ℕ) (l x : Lane) (m : Messages) → Settled k l x → job_over k x ≡ None → Fate c n l m → Fate c n x m
  stays c n k l x m it none h = ⊎_elim same apart (cases_eq k n) where
    apart : (k ≡ n → ⊥) → Fate c n x m
    apart other = carried c n l x m m (it.jobs n other) (it.others n other) (λ due a. a) h

    here : Fate c k l m → Fate c k x m
    here h = ⊎_elim
        (λ (w : NoPass c k l m). inl (w.0, it.none w.1, w.2))
        (λ (w : Goes c k l m ⊎ Ends c k l m). inr (⊎_elim
        (λ (g : Goes c k l m). let i = it.some g.1 g.3 in inl (g.0, i.0, g.2, i.1, i.2 ∙ g.4, not_over k x i.0 none i.1, g.6))
        (λ (d : Ends c k l m). absurd (cc (sym d.3 ∙ it.busy)))
        w))
        h

    same : k ≡ n → Fate c n x m
    same e = subst (λ (i : ℕ). Fate c i x m) e (here (subst (λ (i : ℕ). Fate c i l m) (sym e) h))

  -- when that is known, the next retry is reckoned from the birth that was told
  abbrev Reckons : Channel → ℕ → Messages → Type 0
  Reckons c k m = (begun : ℕ) → is_due k (due_on c m) ≡ true → next_try c k begun m ≡ retry_in born c k begun

  ends : (c : Channel) (n k : ℕ) (l x : Lane) (m : Messages) (job : Job) → Settled k l x → job_over k x ≡ Some job → Reckons c k m → Fate c n l m → Fate c n (ended k x) (due_then c k (next_try c k job.begun m) m)
  ends c n k l x m job it e reckons h = ⊎_elim same apart (cases_eq k n) where
    moment : ℕ
    moment = next_try c k job.begun m

    after : Messages
    after = due_then c k moment m

    is : (over k x ≡ true) × (job_of k x.jobs ≡ Some job)
    is = over_some k x job e

    apart : (k ≡ n → ⊥) → Fate c n (ended k x) after
    apart other = carried c n l (ended k x) m after (job_other k n x.jobs other ∙ it.jobs n other) (it.others n other) (moved_other c k n moment m other) h

    entry : (j : Job) → job.begun ≡ j.begun → Entry c k after (retry_in born c k j.begun)
    entry j began due a = let w = moved_now c k moment m due a in w.0 ∙ reckons job.begun w.1 ∙ ap (retry_in born c k) began

    job_is : (j i : Job) → job_of k x.jobs ≡ Some i → i.begun ≡ j.begun → job.begun ≡ j.begun
    job_is j i there began = ap begun_in_job (sym is.1 ∙ there) ∙ began

    here : Fate c k l m → Fate c k (ended k x) after
    here h = ⊎_elim
        (λ (w : NoPass c k l m). absurd (cc (sym is.1 ∙ it.none w.1)))
        (λ (w : Goes c k l m ⊎ Ends c k l m). inr (⊎_elim
        (λ (g : Goes c k l m). let i = it.some g.1 g.3 in inr (g.0, g.2, job_gone k x.jobs, is.0, entry g.0 (job_is g.0 i.0 i.1 (i.2 ∙ g.4))))
        (λ (d : Ends c k l m). absurd (cc (sym d.3 ∙ it.busy)))
        w))
        h

    same : k ≡ n → Fate c n (ended k x) after
    same e = subst (λ (i : ℕ). Fate c i (ended k x) after) e (here (subst (λ (i : ℕ). Fate c i l m) (sym e) h))

  -- or is over, with no place left `T`

  is_over : (c : Channel) (k : ℕ) (l x : Lane) (m : Messages) (job : Job) → Settled k l x → job_over k x ≡ Some job → Fate c k l m → Over c k x m
  is_over c k l x m job it e h =
      let is : (over k x ≡ true) × (job_of k x.jobs ≡ Some job) = over_some k x job e in
      ⊎_elim
      (λ (w : NoPass c k l m). absurd (cc (sym is.1 ∙ it.none w.1)))
      (λ (w : Goes c k l m ⊎ Ends c k l m). ⊎_elim
      (λ (g : Goes c k l m). (g.0, g.2, is.0, g.6))
      (λ (d : Ends c k l m). absurd (cc (sym d.3 ∙ it.busy)))
      w)
      h

  abbrev pub Final : Channel → ℕ → Lane → Messages → Row → Type 0
  Final c n l m row = (Fate c n l m × (is_unlinking c n row ≡ false)) ⊎ (Over c n l m × (is_unlinking c n row ≡ true))

  -- Both channels

  module _ (S : ℕ → List ℕ → Type 0) (ll lr : List Attempt) where
    abbrev pub Fates : Messages → Lane → Lane → Type 0
    Fates m l r = Sound S born m × ((n : ℕ) → Fate Local n l m) × ((n : ℕ) → Fate Remote n r m) × (l.left ≡ ll) × (r.left ≡ lr)

    reckons_local : (k : ℕ) (m : Messages) → Sound S born m → Reckons Local k m
    reckons_local k m sound begun due = ap (λ (birth : ℕ). next_retry (moment_of birth) (moment_of begun) (skip_of Local)) (birth_told born k m.known (sound.1 k due) sound.3)

    reckons_remote : (k : ℕ) (m : Messages) → Sound S born m → Reckons Remote k m
    reckons_remote k m sound begun due = ap (λ (birth : ℕ). next_retry (moment_of birth) (moment_of begun) (skip_of Remote)) (birth_told born k m.known (sound.2 k due) sound.3)

    owes_local : (slot : ℕ) (x : Attempt) (note : Option Failure) (d : Desk) → attempt_in d.slots.local.slots slot ≡ Some x → OfBoth Fates d → OfBoth Fates (waits Local x note (record d { slots = at_lane Local (reported slot) d.slots }))
    owes_local slot x note d there h = (h.0, (λ n. owed_fate Local n slot x note d.slots.local d.book.messages there (h.1 n)), h.2, h.3, h.4)

    owes_remote : (slot : ℕ) (x : Attempt) (note : Option Failure) (d : Desk) → attempt_in d.slots.remote.slots slot ≡ Some x → OfBoth Fates d → OfBoth Fates (waits Remote x note (record d { slots = at_lane Remote (reported slot) d.slots }))
    owes_remote slot x note d there h = (h.0, h.1, (λ n. owed_fate Remote n slot x note d.slots.remote d.book.messages there (h.2 n)), h.3, h.4)

    -- where a lane is changed so
    abbrev with_local : Lane → Desk → Desk
    with_local x d = record d { slots = record d.slots { local = x } }

    abbrev with_remote : Lane → Desk → Desk
    with_remote x d = record d { slots = record d.slots { remote = x } }

    retried_local : (k : ℕ) (x : Lane) (d : Desk) (o : Option Job) → Settled k d.slots.local x → x.left ≡ ll → job_over k x ≡ o → OfBoth Fates d → OfBoth Fates (retried_if o Local k (with_local x d))
    retried_local k x d None it left e h = (h.0, (λ n. stays Local n k d.slots.local x d.book.messages it e (h.1 n)), h.2, left, h.4)
    retried_local k x d (Some job) it left e h =
        let m : Messages = d.book.messages in
        let moment : ℕ = next_try Local k job.begun m in (
          sound_moved_local S born (moment, k) m h.0,
          (λ n. ends Local n k d.slots.local x m job it e (reckons_local k m h.0) (h.1 n)),
          (λ n. carried Remote n d.slots.remote d.slots.remote m (due_then Local k moment m) refl refl (λ due a. a) (h.2 n)),
          left,
          h.4,
        )

    retried_remote : (k : ℕ) (x : Lane) (d : Desk) (o : Option Job) → Settled k d.slots.remote x → x.left ≡ lr → job_over k x ≡ o → OfBoth Fates d → OfBoth Fates (retried_if o Remote k (with_remote x d))
    retried_remote k x d None it left e h = (h.0, h.1, (λ n. stays Remote n k d.slots.remote x d.book.messages it e (h.2 n)), h.3, left)
    retried_remote k x d (Some job) it left e h =
        let m : Messages = d.book.messages in
        let moment : ℕ = next_try Remote k job.begun m in (
          sound_moved_remote S born (moment, k) m h.0,
          (λ n. carried Local n d.slots.local d.slots.local m (due_then Remote k moment m) refl refl (λ due a. a) (h.1 n)),
          (λ n. ends Remote n k d.slots.remote x m job it e (reckons_remote k m h.0) (h.2 n)),
          h.3,
          left,
        )

    -- Reports that are taken

    if_fates : (b : Bool) (x y : Desk) → OfBoth Fates x → OfBoth Fates y → OfBoth Fates (if b then x else y)
    if_fates true x y p q = p
    if_fates false x y p q = q

    told_fates : (c : Channel) (o : Option Attempt) (r : Report) (d : Desk) → attempt_in (lane c d.slots).slots r.slot ≡ o → OfBoth Fates d → OfBoth Fates (told_by o c r d)
    told_fates c None r d there h = h
    told_fates Local (Some a) r d there h =
        let after : Desk = record d { slots = at_lane Local (reported r.slot) d.slots } in
        let x : Lane = left_unmarked a.n (reported r.slot d.slots.local) in
        if_fates (is_final (counted r.letter) a.dying && nat_lt (length (lane Local after.slots).marks) 120) (waits Local a (failure_in r) after) (deferred Local a.n after)
        (owes_local r.slot a (failure_in r) d there h) (retried_local a.n x d (job_over a.n x) (settled_report r.slot a d.slots.local there) h.3 refl h)
    told_fates Remote (Some a) r d there h =
        let after : Desk = record d { slots = at_lane Remote (reported r.slot) d.slots } in
        let x : Lane = left_unmarked a.n (reported r.slot d.slots.remote) in
        if_fates (is_final (counted r.letter) a.dying && nat_lt (length (lane Remote after.slots).marks) 120) (waits Remote a (failure_in r) after) (deferred Remote a.n after)
        (owes_remote r.slot a (failure_in r) d there h) (retried_remote a.n x d (job_over a.n x) (settled_report r.slot a d.slots.remote there) h.4 refl h)

    all_fates : (c : Channel) (rs : List Report) (d : Desk) → OfBoth Fates d → OfBoth Fates (told_all c rs d)
    all_fates c [] d h = h
    all_fates c (r ∷ rs) d h = all_fates c rs (told c r d) (told_fates c (attempt_in (lane c d.slots).slots r.slot) r d refl h)

    pub heard_fates : (c : Channel) (bytes : List ℕ) (d : Desk) → OfBoth Fates d → OfBoth Fates (heard c bytes d)
    heard_fates Local bytes d h = all_fates Local (reports_on d.local.reader bytes).0 (with_reader Local (reports_on d.local.reader bytes).1 d) h
    heard_fates Remote bytes d h = all_fates Remote (reports_on d.remote.reader bytes).0 (with_reader Remote (reports_on d.remote.reader bytes).1 d) h

    -- Marks

    abbrev pub Finals : Desk → Type 0
    Finals d = ((n : ℕ) → Final Local n d.slots.local d.book.messages d.row) × ((n : ℕ) → Final Remote n d.slots.remote d.book.messages d.row) × (d.slots.local.left ≡ ll) × (d.slots.remote.left ≡ lr)

    -- at a row that unlinks nothing
    pub finals : (d : Desk) → ((c : Channel) (n : ℕ) → is_unlinking c n d.row ≡ false) → OfBoth Fates d → Finals d
    finals d none h = ((λ n. inl (h.1 n, none Local n)), (λ n. inl (h.2 n, none Remote n)), h.3, h.4)

    final_over : (c : Channel) (n k : ℕ) (l x : Lane) (m : Messages) (p : Point) (job : Job) → Settled k l x → job_over k x ≡ Some job → Fate c n l m → Final c n x m (at.UnlinkFile c k p)
    final_over c n k l x m p job it e h = ⊎_elim same apart (cases_eq k n) where
      same : k ≡ n → Final c n x m (at.UnlinkFile c k p)
      same w = inr (
        subst (λ (i : ℕ). Over c i x m) w (is_over c k l x m job it e (subst (λ (i : ℕ). Fate c i l m) (sym w) h)),
        ap (λ (b : Bool). b && (k == n)) (same_channel c) ∙ eq-eqb k n w,
      )

      apart : (k ≡ n → ⊥) → Final c n x m (at.UnlinkFile c k p)
      apart other = inl (
        carried c n l x m m (it.jobs n other) (it.others n other) (λ due a. a) h,
        ap (λ (b : Bool). b && (k == n)) (same_channel c) ∙ differs n k (λ w. other (sym w)),
      )

    closed_local : (k : ℕ) (x : Lane) (p : Point) (d : Desk) (o : Option Job) → Settled k d.slots.local x → x.left ≡ ll → job_over k x ≡ o → OfBoth Fates d → Finals (closed_by o Local k p (with_local x d))
    closed_local k x p d None it left e h = finals (stands_at (with_local x d) p) (λ c n. refl) (retried_local k x d None it left e h)
    closed_local k x p d (Some job) it left e h = by job.unmarked where
      by : (b : Bool) → Finals (if b then retried Local k job.begun (stands_at (with_local x d) p) else goes (with_local x d) (at.UnlinkFile Local k p))
      by true = finals (retried Local k job.begun (stands_at (with_local x d) p)) (λ c n. refl) (retried_local k x d (Some job) it left e h)
      by false = ((λ n. final_over Local n k d.slots.local x d.book.messages p job it e (h.1 n)), (λ n. inl (h.2 n, refl)), left, h.4)

    closed_remote : (k : ℕ) (x : Lane) (p : Point) (d : Desk) (o : Option Job) → Settled k d.slots.remote x → x.left ≡ lr → job_over k x ≡ o → OfBoth Fates d → Finals (closed_by o Remote k p (with_remote x d))
    closed_remote k x p d None it left e h = finals (stands_at (with_remote x d) p) (λ c n. refl) (retried_remote k x d None it left e h)
    closed_remote k x p d (Some job) it left e h = by job.unmarked where
      by : (b : Bool) → Finals (if b then retried Remote k job.begun (stands_at (with_remote x d) p) else goes (with_remote x d) (at.UnlinkFile Remote k p))
      by true = finals (retried Remote k job.begun (stands_at (with_remote x d) p)) (λ c n. refl) (retried_remote k x d (Some job) it left e h)
      by false = ((λ n. inl (h.1 n, refl)), (λ n. final_over Remote n k d.slots.remote x d.book.messages p job it e (h.2 n)), h.3, left)

    -- the mark of the first record to be marked was made, or given up
    marked_by : (b : Bool) (c : Channel) (n place : ℕ) (it : Mark) (d : Desk) → slice_get (lane c d.slots).marks 0 ≡ Some it → n ≡ it.attempt.n → OfBoth Fates d → Finals (mark_over b (record { channel = c; n = n; place = place }) d)
    marked_by true Local n place it d there same h = let x : Lane = mark_settled d.slots.local in closed_local n x point.Reports d (job_over n x) (settled_mark true n it d.slots.local there same) h.3 refl h
    marked_by false Local n place it d there same h = let x : Lane = left_unmarked n (mark_settled d.slots.local) in closed_local n x point.Reports d (job_over n x) (settled_mark false n it d.slots.local there same) h.3 refl h
    marked_by true Remote n place it d there same h = let x : Lane = mark_settled d.slots.remote in closed_remote n x point.Reports d (job_over n x) (settled_mark true n it d.slots.remote there same) h.4 refl h
    marked_by false Remote n place it d there same h = let x : Lane = left_unmarked n (mark_settled d.slots.remote) in closed_remote n x point.Reports d (job_over n x) (settled_mark false n it d.slots.remote there same) h.4 refl h

    -- which is this one
    abbrev pub IsFirst : Marked → Desk → Type 0
    IsFirst m d = (it : Mark) × (slice_get (lane m.channel d.slots).marks 0 ≡ Some it) × (m.n ≡ it.attempt.n)

    marked : (b : Bool) (m : Marked) (d : Desk) → IsFirst m d → OfBoth Fates d → Finals (mark_over b m d)
    marked b m d is h = marked_by b m.channel m.n m.place is.0 d is.1 is.2 h

    opened_fates : (w : Way) (m : Marked) (fd : Fd) (d : Desk) → IsFirst m d → OfBoth Fates d → Finals (mark_opened w m fd d)
    opened_fates way.Fine m fd d is h = finals (mark_opened way.Fine m fd d) (λ c n. refl) h
    opened_fates way.Over m fd d is h = marked false m d is h
    opened_fates way.Absent m fd d is h = marked false m d is h
    opened_fates way.NoMemory m fd d is h = marked false m d is h
    opened_fates way.Broken m fd d is h = marked false m d is h

    noted_fates : (row : NoteRow) (m : Marked) (d : Desk) → IsFirst m d → OfBoth Fates d → Finals (noted_at row m d)
    noted_fates written.Written m d is h = finals (noted_at written.Written m d) (λ c n. refl) h
    noted_fates written.Failed m d is h = marked false m d is h
    noted_fates row m d is h = finals (noted_at row m d) (λ c n. refl) h

    pub mark_fates : (row : MarkRow) (m : Marked) (got : GotData) (d : Desk) → IsFirst m d → OfBoth Fates d → Finals (act_mark row m got d)
    mark_fates mark.Note m got d is h = let e : Desk = begin_note m d in noted_fates (note_moved e.note got).row m (record e { note = note_moved e.note got }) is h
    mark_fates mark.Noting m got d is h = noted_fates (note_moved d.note got).row m (record d { note = note_moved d.note got }) is h
    mark_fates mark.Open m got d is h = opened_fates (said got).way m (said got).fd d is h
    mark_fates (mark.Write fd) m got d is h = finals (act_mark (mark.Write fd) m got d) (λ c n. refl) h
    mark_fates (mark.Close fd done) m got d is h = marked done m d is h
