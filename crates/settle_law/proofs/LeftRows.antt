-- What each row of the sender leaves of the places that jobs left `T`, and of the messages that were tried.
use Rattle.std.proofs.Common.{◌≡◌, ℕ, List, [], ◌∷◌, length, drop, nat_lt, Bool, true, false, if◌then◌else◌, Option, Some, None, refl, sym, ap, ◌∙◌, subst, ⊎_elim, arith, eqb-true}
use Rattle.std.specs.Prelude.{◌&&◌, ◌==◌, is_none, is_some, slice_get}
use Rattle.std.specs.Option.{option_map}
use Rattle.std.proofs.lemmas.Bool.{and_parts, cases_Bool}
use Rattle.call_fs.specs.declared.calls.Fd.{Fd}
use Rattle.envelope_records.specs.declared.channel.Record.{Record}
use Rattle.program_law.proofs.Channel.Counts.{counted_first}
use Rattle.program_law.proofs.Channel.Marks.{still_open}
use Rattle.program_law.proofs.Channel.Passes.{over_kept}
use Rattle.program_law.proofs.Channel.Ties.{HereIf, at_itself, report_kept}
use Rattle.program_law.proofs.Sender.Lanes.{over_there}
use Rattle.program_law.specs.Channel.Files.{Files, with_mark}
use Rattle.program_law.specs.Channel.Tied.{First, IsTied, is_at, is_mark_at}
use Rattle.program_law.specs.Channel.Tied.First.{Unwritten, Written}
use Rattle.send_core.specs.Agrees.{is_same}
use Rattle.send_core.specs.Desk.{closed_by, deferred, failure_in, goes, has_begun, is_dying, is_final, is_free_for, link, request_sent, retried, retried_if, stands_at, told, told_all, told_by, waits, with_reader, with_requests}
use Rattle.send_core.specs.Turn.{begun_at, file_read, is_fine, lost, mark_over, pass_opened, put_later, requested, took, unlinked}
use Rattle.send_core.specs.declared.desk.Desk.{Desk}
use Rattle.send_parts.specs.declared.row.MarkRow.TheVariants as mark
use Rattle.send_parts.specs.declared.row.Point.TheVariants as point
use Rattle.send_parts.specs.declared.row.Point.{Point}
use Rattle.send_parts.specs.declared.row.Row.TheVariants as at
use Rattle.send_jobs.proofs.JobLemmas.{job_put, job_unmarked, job_without}
use Rattle.send_jobs.specs.Jobs.{job_of, new_job, unmark, unmarked_if}
use Rattle.send_jobs.specs.Lanes.{begun_by, ended, finished, job_over, left_unmarked, mark_settled, next, owes, reported, sent}
use Rattle.send_jobs.specs.Sending.{at_lane, lane, next_delivery, sent_as, sent_on}
use Rattle.send_jobs.specs.Slots.{attempt_in, lowest}
use Rattle.send_jobs.specs.declared.attempts.Attempt.{Attempt}
use Rattle.send_jobs.specs.declared.attempts.Mark.{Mark}
use Rattle.send_known.specs.declared.channel.Channel.TheVariants.{Local, Remote}
use Rattle.send_known.specs.declared.channel.Channel.{Channel}
use Rattle.send_jobs.specs.declared.jobs.Job.{Job}
use Rattle.send_jobs.specs.declared.lane.Lane.{Lane}
use Rattle.send_jobs.specs.declared.slots.Slots.{Slots}
use Rattle.send_links.specs.Records.{records_of}
use Rattle.send_parts.specs.Readings.{read_on}
use Rattle.send_parts.specs.Replies.{Said, said}
use Rattle.send_parts.specs.declared.reading.Progress.TheVariants.{Goes, Whole, Missing, Failed}
use Rattle.send_parts.specs.declared.reading.Progress.{Progress}
use Rattle.send_parts.specs.declared.reading.Reading.{Reading}
use Rattle.send_parts.specs.declared.reply.Way.TheVariants as way
use Rattle.send_parts.specs.declared.reply.Way.{Way}
use Rattle.send_runs.proofs.Steady.{sent_jobs}
use Rattle.settle_law.proofs.Lefts.{lefts_keep}
use Rattle.settle_law.specs.inside.Lefts.{AreLeft, HasLeft, HoldsTried, KeepsTried, RowsHoldTried, StillReads}
use Rattle.spawn_protocol.specs.Report.{counted, read_on as reports_on}
use Rattle.spawn_protocol.specs.declared.report.Report.{Report}

abbrev unmarked_of : Option Job → Bool
unmarked_of None = true
unmarked_of (Some job) = job.unmarked

none_before : (f : Job → Job) (o : Option Job) → option_map f o ≡ None → o ≡ None
none_before f None e = refl
none_before f (Some job) e = absurd (cc)

-- a job on a message of which a place stays `T` says so
spoilt_after : (n : ℕ) (jobs : List Job) (job : Job) → job_of n (unmark n jobs) ≡ Some job → job.unmarked ≡ true
spoilt_after n [] job e = absurd (cc)
spoilt_after n (j ∷ jobs) job e = by (j.n == n) refl (spoilt_after n jobs job) where
  by : (b : Bool) → (j.n == n) ≡ b → (job_of n (unmark n jobs) ≡ Some job → job.unmarked ≡ true) → job.unmarked ≡ true
  by true on rest =
      let k : Job = record j { unmarked = true } in
      let is : unmarked_if n j ≡ k = ap (λ (b : Bool). if b then k else j) on in
      let first : Some k ≡ Some job = sym (ap (λ (b : Bool). if b then Some k else job_of n (unmark n jobs)) on) ∙ sym (ap (λ (y : Job). if y.n == n then Some y else job_of n (unmark n jobs)) is) ∙ e in
      sym (ap (λ (o : Option Job). unmarked_of o) first)
  by false off rest =
      let is : unmarked_if n j ≡ j = ap (λ (b : Bool). if b then record j { unmarked = true } else j) off in
      rest (sym (ap (λ (b : Bool). if b then Some j else job_of n (unmark n jobs)) off) ∙ sym (ap (λ (y : Job). if y.n == n then Some y else job_of n (unmark n jobs)) is) ∙ e)

-- One channel

module _ (tried : ℕ → Bool) (files : Files) where
  abbrev Keeps : First → Lane → Type 0
  Keeps first l = KeepsTried tried files first l

  -- the same jobs are left, and each message without a job had none
  of_jobs : (first then_first : First) (l x : Lane) → ((n : ℕ) → job_of n x.jobs ≡ None → job_of n l.jobs ≡ None) → AreLeft files then_first x → Keeps first l → Keeps then_first x
  of_jobs first then_first l x none left h = (left, (λ n t e. h.1 n t (none n e)))

  none_unmarked : (m n : ℕ) (jobs : List Job) → job_of n (unmark m jobs) ≡ None → job_of n jobs ≡ None
  none_unmarked m n jobs e = by (m == n) (sym (job_unmarked m n jobs) ∙ e) where
    by : (b : Bool) → (if b then option_map (unmarked_if m) (job_of n jobs) else job_of n jobs) ≡ None → job_of n jobs ≡ None
    by true w = none_before (unmarked_if m) (job_of n jobs) w
    by false w = w

  -- a job that is over and left a place is ended
  over_keeps : (first : First) (l : Lane) (n : ℕ) (job : Job) → job_of n l.jobs ≡ Some job → job.unmarked ≡ true → Keeps first l → Keeps first (ended n l)
  over_keeps first l n job there spoilt h = (lefts_keep.over files first l n h.0, still) where
    still : (m : ℕ) → tried m ≡ true → job_of m (ended n l).jobs ≡ None → StillReads files m
    still m t e = ⊎_elim
        (λ (on : (n == m) ≡ true). let same : n ≡ m = eqb-true n m on in let it : HasLeft files first l n = h.0 n job there spoilt in record { spot = it.spot; of = it.of ∙ same; reads = it.reads })
        (λ (off : (n == m) ≡ false). h.1 m t (sym (ap (λ (b : Bool). if b then None else job_of m l.jobs) off) ∙ sym (job_without n m l.jobs) ∙ e))
        (cases_Bool (n == m))

  -- there was none to end
  none_keeps : (first : First) (l : Lane) (n : ℕ) → job_of n l.jobs ≡ None → Keeps first l → Keeps first (ended n l)
  none_keeps first l n none h = (lefts_keep.over files first l n h.0, still) where
    still : (m : ℕ) → tried m ≡ true → job_of m (ended n l).jobs ≡ None → StillReads files m
    still m t e = ⊎_elim
        (λ (on : (n == m) ≡ true). h.1 m t (subst (λ (k : ℕ). job_of k l.jobs ≡ None) (eqb-true n m on) none))
        (λ (off : (n == m) ≡ false). h.1 m t (sym (ap (λ (b : Bool). if b then None else job_of m l.jobs) off) ∙ sym (job_without n m l.jobs) ∙ e))
        (cases_Bool (n == m))

  -- one whose file was unlinked isn't told of
  gone_keeps : (first : First) (l : Lane) (n : ℕ) → tried n ≡ false → Keeps first l → Keeps first (ended n l)
  gone_keeps first l n gone h = (lefts_keep.over files first l n h.0, still) where
    still : (m : ℕ) → tried m ≡ true → job_of m (ended n l).jobs ≡ None → StillReads files m
    still m t e = ⊎_elim
        (λ (on : (n == m) ≡ true). absurd (cc (sym gone ∙ ap tried (eqb-true n m on) ∙ t)))
        (λ (off : (n == m) ≡ false). h.1 m t (sym (ap (λ (b : Bool). if b then None else job_of m l.jobs) off) ∙ sym (job_without n m l.jobs) ∙ e))
        (cases_Bool (n == m))

  -- what is kept in a taking
  abbrev Takes : Lane → Type 0
  Takes l = IsTied files Unwritten l × Keeps Unwritten l

  owed_takes : (l : Lane) (slot : ℕ) (a : Attempt) (m : Mark) → attempt_in l.slots slot ≡ Some a → m.attempt ≡ a → Takes l → Takes (owes m (reported slot l))
  owed_takes l slot a m there same h = (
    (report_kept files l slot a m h.0 there same).0,
    of_jobs Unwritten Unwritten l (owes m (reported slot l)) (λ n e. e) (lefts_keep.owed files l slot a m there same h.1.0) h.1,
  )

  left_takes : (l : Lane) (slot : ℕ) (a : Attempt) → attempt_in l.slots slot ≡ Some a → Takes l → Takes (left_unmarked a.n (reported slot l))
  left_takes l slot a there h = (
    (report_kept files l slot a (record { attempt = a; note = None }) h.0 there refl).1,
    of_jobs Unwritten Unwritten l (left_unmarked a.n (reported slot l)) (λ n e. none_unmarked a.n n l.jobs e) (lefts_keep.deferred files l slot a h.0 there h.1.0) h.1,
  )

  over_takes : (l : Lane) (n : ℕ) (job : Job) → job_over n l ≡ Some job → job.unmarked ≡ true → Takes l → Takes (ended n l)
  over_takes l n job over spoilt h = (over_kept files Unwritten l n job h.0 over, over_keeps Unwritten l n job (over_there n l job over) spoilt h.1)

  begun_keeps : (l : Lane) (n begun : ℕ) (dying : Bool) (records : List Record) → next l ≡ None → Keeps Unwritten l → Keeps Unwritten (begun_by n records begun dying l)
  begun_keeps l n begun dying records none h =
      of_jobs Unwritten Unwritten l (begun_by n records begun dying l) (λ m e. was m (sym (job_put (new_job n begun) m l.jobs) ∙ e)) (lefts_keep.begun files l n begun dying records none h.0) h
    where
      by : (b : Bool) (m : ℕ) → (if b then Some (new_job n begun) else job_of m l.jobs) ≡ None → job_of m l.jobs ≡ None
      by true m e = absurd (cc)
      by false m e = e

      was : (m : ℕ) → (if n == m then Some (new_job n begun) else job_of m l.jobs) ≡ None → job_of m l.jobs ≡ None
      was m e = by (n == m) m e

  sent_keeps : (l : Lane) (delivery : ℕ) → Keeps Unwritten l → Keeps Unwritten (sent delivery l)
  sent_keeps l delivery h =
      of_jobs Unwritten Unwritten l (sent delivery l) (λ n e. sym (ap (job_of n) (sent_jobs (lowest l.slots) (next l) delivery l)) ∙ e) (lefts_keep.sent files Unwritten l delivery h.0) h

  given_keeps : (l : Lane) (m : Mark) (n : ℕ) → IsTied files Unwritten l → slice_get l.marks 0 ≡ Some m → m.attempt.n ≡ n → Keeps Unwritten l → Keeps Unwritten (left_unmarked n (mark_settled l))
  given_keeps l m n tied first number h = subst (λ (k : ℕ). Keeps Unwritten (left_unmarked k (mark_settled l))) number
      (of_jobs Unwritten Unwritten l (left_unmarked m.attempt.n (mark_settled l)) (λ k e. none_unmarked m.attempt.n k l.jobs e) (lefts_keep.given_up files l m tied first h.0) h)

  made_keeps : (l : Lane) → Keeps Written l → Keeps Unwritten (mark_settled l)
  made_keeps l h = of_jobs Written Unwritten l (mark_settled l) (λ n e. e) (lefts_keep.made files l h.0) h

  written_keeps : (l : Lane) (m : Mark) → IsTied files Unwritten l → slice_get l.marks 0 ≡ Some m → Keeps Unwritten l → KeepsTried tried (with_mark m.attempt files) Written l
  written_keeps l m tied first h = (lefts_keep.written files l m first h.0, still) where
    owner : is_some (job_of m.attempt.n l.jobs) ≡ true
    owner = tied.owned m.attempt.n m.attempt.place (
        let sum = counted_first (is_mark_at m.attempt.n m.attempt.place) l.marks m first in
        let one : ◌≡◌ {A = ℕ} (HereIf (is_at m.attempt.n m.attempt.place m.attempt)) 1 = ap HereIf (at_itself m.attempt) in
        omega (arith, sum, one))

    still : (n : ℕ) → tried n ≡ true → job_of n l.jobs ≡ None → StillReads (with_mark m.attempt files) n
    still n t none =
        let it : StillReads files n = h.1 n t none in
        record {
          spot = it.spot;
          of = it.of;
          reads = still_open files m it.spot
              (λ same. absurd (cc (sym owner ∙ ap (λ (k : ℕ). is_some (job_of k l.jobs)) (sym same ∙ it.of) ∙ ap (λ (o : Option Job). is_some o) none))) it.reads;
        }

-- Both channels

on_lane : (P : Channel → Lane → Type 0) (c : Channel) (f : Lane → Lane) (s : Slots) → ((ch : Channel) → is_same c ch ≡ false → P ch (lane ch s)) → P c (f (lane c s)) → (ch : Channel) → P ch (lane ch (at_lane c f s))
on_lane P Local f s h one Local = one
on_lane P Local f s h one Remote = h Remote refl
on_lane P Remote f s h one Local = h Local refl
on_lane P Remote f s h one Remote = one

is_none_next : (l : Lane) (n : ℕ) → is_free_for n l ≡ true → next l ≡ None
is_none_next l n e = by (next l) (and_parts (is_none (next l)) (finished n l) e).0 where
  by : (o : Option Attempt) → is_none o ≡ true → o ≡ None
  by None is = refl
  by (Some a) is = absurd (cc)

module _ (tried : Channel → ℕ → Bool) (files : Channel → Files) where
  abbrev Takes_on : Channel → Lane → Type 0
  Takes_on ch l = Takes (tried ch) (files ch) l

  abbrev Keeps_on : Channel → Lane → Type 0
  Keeps_on ch l = KeepsTried (tried ch) (files ch) Unwritten l

  abbrev T : Slots → Type 0
  T s = (ch : Channel) → Takes_on ch (lane ch s)

  abbrev D : Slots → Type 0
  D s = (ch : Channel) → Keeps_on ch (lane ch s)

  abbrev Fin : Desk → Type 0
  Fin d = HoldsTried tried files d.row d.slots

  -- takings

  t_if : (b : Bool) (x y : Desk) → T x.slots → T y.slots → T (if b then x else y).slots
  t_if true x y p q = p
  t_if false x y p q = q

  t_retried : (o : Option Job) (c : Channel) (n : ℕ) (d : Desk) → job_over n (lane c d.slots) ≡ o → ((job : Job) → o ≡ Some job → job.unmarked ≡ true) → T d.slots → T (retried_if o c n d).slots
  t_retried None c n d e spoilt h = h
  t_retried (Some job) c n d e spoilt h = on_lane Takes_on c (ended n) d.slots (λ ch far. h ch) (over_takes (tried c) (files c) (lane c d.slots) n job e (spoilt job refl) (h c))

  t_told : (o : Option Attempt) (c : Channel) (r : Report) (d : Desk) → attempt_in (lane c d.slots).slots r.slot ≡ o → T d.slots → T (told_by o c r d).slots
  t_told None c r d there h = h
  t_told (Some a) Local r d there h =
      let before : Desk = record d { slots = at_lane Local (reported r.slot) d.slots } in
      let m : Mark = record { attempt = a; note = failure_in r } in
      let x : Lane = left_unmarked a.n (reported r.slot d.slots.local) in
      let after : Desk = record before { slots = at_lane Local (left_unmarked a.n) before.slots } in
      t_if (is_final (counted r.letter) a.dying && nat_lt (length (lane Local before.slots).marks) 120) (waits Local a (failure_in r) before) (deferred Local a.n before)
      (on_lane Takes_on Local (λ l. owes m (reported r.slot l)) d.slots (λ ch far. h ch) (owed_takes (tried Local) (files Local) d.slots.local r.slot a m there refl (h Local)))
      (t_retried (job_over a.n x) Local a.n after refl (λ job e. spoilt_after a.n d.slots.local.jobs job (over_there a.n x job e))
      (on_lane Takes_on Local (λ l. left_unmarked a.n (reported r.slot l)) d.slots (λ ch far. h ch) (left_takes (tried Local) (files Local) d.slots.local r.slot a there (h Local))))
  t_told (Some a) Remote r d there h =
      let before : Desk = record d { slots = at_lane Remote (reported r.slot) d.slots } in
      let m : Mark = record { attempt = a; note = failure_in r } in
      let x : Lane = left_unmarked a.n (reported r.slot d.slots.remote) in
      let after : Desk = record before { slots = at_lane Remote (left_unmarked a.n) before.slots } in
      t_if (is_final (counted r.letter) a.dying && nat_lt (length (lane Remote before.slots).marks) 120) (waits Remote a (failure_in r) before) (deferred Remote a.n before)
      (on_lane Takes_on Remote (λ l. owes m (reported r.slot l)) d.slots (λ ch far. h ch) (owed_takes (tried Remote) (files Remote) d.slots.remote r.slot a m there refl (h Remote)))
      (t_retried (job_over a.n x) Remote a.n after refl (λ job e. spoilt_after a.n d.slots.remote.jobs job (over_there a.n x job e))
      (on_lane Takes_on Remote (λ l. left_unmarked a.n (reported r.slot l)) d.slots (λ ch far. h ch) (left_takes (tried Remote) (files Remote) d.slots.remote r.slot a there (h Remote))))

  t_all : (c : Channel) (rs : List Report) (d : Desk) → T d.slots → T (told_all c rs d).slots
  t_all c [] d h = h
  t_all c (r ∷ rs) d h = t_all c rs (told c r d) (t_told (attempt_in (lane c d.slots).slots r.slot) c r d refl h)

  f_lost : (c : Channel) (d : Desk) → D d.slots → Fin (goes d (lost c))
  f_lost Local d h = (tt, h)
  f_lost Remote d h = (tt, h)

  f_took : (w : Way) (bytes : List ℕ) (c : Channel) (d : Desk) → T d.slots → Fin (took w bytes c d)
  f_took way.Fine bytes Local d h = (tt, λ ch. (t_all Local (reports_on d.local.reader bytes).0 (with_reader Local (reports_on d.local.reader bytes).1 d) h ch).1)
  f_took way.Fine bytes Remote d h = (tt, λ ch. (t_all Remote (reports_on d.remote.reader bytes).0 (with_reader Remote (reports_on d.remote.reader bytes).1 d) h ch).1)
  f_took way.Over bytes c d h = f_lost c d (λ ch. (h ch).1)
  f_took way.Absent bytes c d h = f_lost c d (λ ch. (h ch).1)
  f_took way.NoMemory bytes c d h = f_lost c d (λ ch. (h ch).1)
  f_took way.Broken bytes c d h = f_lost c d (λ ch. (h ch).1)

  -- what is then over

  f_closed : (o : Option Job) (c : Channel) (n : ℕ) (p : Point) (d : Desk) → job_over n (lane c d.slots) ≡ o → D d.slots → Fin (closed_by o c n p d)
  f_closed None c n p d e h = (tt, h)
  f_closed (Some job) c n p d e h = by job.unmarked refl where
    by : (b : Bool) → job.unmarked ≡ b → Fin (if b then retried c n job.begun (stands_at d p) else goes d (at.UnlinkFile c n p))
    by true is = (tt, on_lane Keeps_on c (ended n) d.slots (λ ch far. h ch) (over_keeps (tried c) (files c) Unwritten (lane c d.slots) n job (over_there n (lane c d.slots) job e) is (h c)))
    by false is = (tt, h)

  -- readings

  f_later : (c : Channel) (n now : ℕ) (d : Desk) → job_of n (lane c d.slots).jobs ≡ None → D d.slots → Fin (put_later c n now d)
  f_later c n now d none h = (tt, on_lane Keeps_on c (ended n) d.slots (λ ch far. h ch) (none_keeps (tried c) (files c) Unwritten (lane c d.slots) n none (h c)))

  f_begun : (c : Channel) (n begun : ℕ) (records : List Record) (d : Desk) → next (lane c d.slots) ≡ None → D d.slots → D (has_begun c n begun records d).slots
  f_begun Local n begun records d none h = on_lane Keeps_on Local (begun_by n records begun (is_dying n begun d)) d.slots (λ ch far. h ch) (begun_keeps (tried Local) (files Local) d.slots.local n begun (is_dying n begun d) records none (h Local))
  f_begun Remote n begun records d none h = on_lane Keeps_on Remote (begun_by n records begun (is_dying n begun d)) d.slots (λ ch far. h ch) (begun_keeps (tried Remote) (files Remote) d.slots.remote n begun (is_dying n begun d) records none (h Remote))

  f_pass : (o : Option (List Record)) (c : Channel) (n begun now : ℕ) (d : Desk) → job_of n (lane c d.slots).jobs ≡ None → D d.slots → Fin (pass_opened o c n begun now d)
  f_pass None c n begun now d none h = f_later c n now d none h
  f_pass (Some records) c n begun now d none h = by (is_free_for n (lane c d.slots)) refl where
    after : Desk
    after = has_begun c n begun records d

    by : (b : Bool) → is_free_for n (lane c d.slots) ≡ b → Fin (if b then closed_by (job_over n (lane c (has_begun c n begun records d).slots)) c n (point.Pass c false) (has_begun c n begun records d) else put_later c n now d)
    by true is = f_closed (job_over n (lane c (has_begun c n begun records d).slots)) c n (point.Pass c false) (has_begun c n begun records d) refl (f_begun c n begun records d (is_none_next (lane c d.slots) n is) h)
    by false is = f_later c n now d none h

  f_read : (x : Progress) (c : Channel) (n begun : ℕ) (reading : Reading) (now : ℕ) (s : Said) (d : Desk) → job_of n (lane c d.slots).jobs ≡ None → D d.slots → Fin (file_read x c n begun reading now s d)
  f_read (Goes on) c n begun reading now s d none h = (tt, h)
  f_read Whole c n begun reading now s d none h = f_pass (records_of d.book.read) c n begun now d none h
  f_read Missing c n begun reading now s d none h = f_later c n now d none h
  f_read Failed c n begun reading now s d none h = f_later c n now d none h

  -- requests

  f_if : (b : Bool) (x y : Desk) → Fin x → Fin y → Fin (if b then x else y)
  f_if true x y p q = p
  f_if false x y p q = q

  d_sent : (o : Option ℕ) (c : Channel) (k : ℕ) (s : Slots) → D s → D (sent_as o c k s)
  d_sent None c k s h ch = h ch
  d_sent (Some slot) Local k s h Local = sent_keeps (tried Local) (files Local) s.local k (h Local)
  d_sent (Some slot) Local k s h Remote = h Remote
  d_sent (Some slot) Remote k s h Local = h Local
  d_sent (Some slot) Remote k s h Remote = sent_keeps (tried Remote) (files Remote) s.remote k (h Remote)

  f_sent : (c : Channel) (d : Desk) → D d.slots → Fin (request_sent c (stands_at d (point.Pass c false)))
  f_sent Local d h =
      let before : Desk = stands_at d (point.Pass Local false) in
      f_if (is_some (next (lane Local d.slots))) (with_requests Local (drop 1 (link Local d).requests) (record before { slots = sent_on Local d.slots })) before
      (tt, d_sent (lowest d.slots.local.slots) Local (next_delivery d.slots) d.slots h) (tt, h)
  f_sent Remote d h =
      let before : Desk = stands_at d (point.Pass Remote false) in
      f_if (is_some (next (lane Remote d.slots))) (with_requests Remote (drop 1 (link Remote d).requests) (record before { slots = sent_on Remote d.slots })) before
      (tt, d_sent (lowest d.slots.remote.slots) Remote (next_delivery d.slots) d.slots h) (tt, h)

  f_requested : (w : Way) (c : Channel) (d : Desk) → D d.slots → Fin (requested w c d)
  f_requested way.Fine c d h = f_sent c d h
  f_requested way.Over c d h = f_lost c d h
  f_requested way.Absent c d h = f_lost c d h
  f_requested way.NoMemory c d h = f_lost c d h
  f_requested way.Broken c d h = f_lost c d h

  -- marks, and the file of a job that is done

  f_given_up : (c : Channel) (n place : ℕ) (d : Desk) → ((ch : Channel) → IsTied (files ch) Unwritten (lane ch d.slots)) → (first : Mark) → slice_get (lane c d.slots).marks 0 ≡ Some first → first.attempt.n ≡ n → D d.slots
      → Fin (mark_over false (record { channel = c; n = n; place = place }) d)
  f_given_up Local n place d tied first there number h =
      let after : Desk = record d { slots = at_lane Local (left_unmarked n) (at_lane Local mark_settled d.slots) } in
      f_closed (job_over n (lane Local after.slots)) Local n point.Reports after refl
      (on_lane Keeps_on Local (λ l. left_unmarked n (mark_settled l)) d.slots (λ ch far. h ch) (given_keeps (tried Local) (files Local) d.slots.local first n (tied Local) there number (h Local)))
  f_given_up Remote n place d tied first there number h =
      let after : Desk = record d { slots = at_lane Remote (left_unmarked n) (at_lane Remote mark_settled d.slots) } in
      f_closed (job_over n (lane Remote after.slots)) Remote n point.Reports after refl
      (on_lane Keeps_on Remote (λ l. left_unmarked n (mark_settled l)) d.slots (λ ch far. h ch) (given_keeps (tried Remote) (files Remote) d.slots.remote first n (tied Remote) there number (h Remote)))

  f_made : (fd : Fd) (c : Channel) (n place : ℕ) (d : Desk) → HoldsTried tried files (at.Mark (mark.Close fd true) (record { channel = c; n = n; place = place })) d.slots
      → Fin (mark_over true (record { channel = c; n = n; place = place }) d)
  f_made fd Local n place d h =
      let after : Desk = record d { slots = at_lane Local mark_settled d.slots } in
      f_closed (job_over n (lane Local after.slots)) Local n point.Reports after refl
      (on_lane Keeps_on Local mark_settled d.slots (far_local h) (made_keeps (tried Local) (files Local) d.slots.local (h.1 Local)))
    where
      far_local : HoldsTried tried files (at.Mark (mark.Close fd true) (record { channel = Local; n = n; place = place })) d.slots → (ch : Channel) → is_same Local ch ≡ false → Keeps_on ch (lane ch d.slots)
      far_local h Local far = absurd (cc)
      far_local h Remote far = h.1 Remote
  f_made fd Remote n place d h =
      let after : Desk = record d { slots = at_lane Remote mark_settled d.slots } in
      f_closed (job_over n (lane Remote after.slots)) Remote n point.Reports after refl
      (on_lane Keeps_on Remote mark_settled d.slots (far_remote h) (made_keeps (tried Remote) (files Remote) d.slots.remote (h.1 Remote)))
    where
      far_remote : HoldsTried tried files (at.Mark (mark.Close fd true) (record { channel = Remote; n = n; place = place })) d.slots → (ch : Channel) → is_same Remote ch ≡ false → Keeps_on ch (lane ch d.slots)
      far_remote h Local far = h.1 Local
      far_remote h Remote far = absurd (cc)

  f_unlinked : (w : Way) (c : Channel) (n : ℕ) (p : Point) (now : ℕ) (d : Desk) → is_fine w ≡ true → tried c n ≡ false → D d.slots → Fin (unlinked w c n p now d)
  f_unlinked way.Fine c n p now d fine gone h = (tt, on_lane Keeps_on c (ended n) d.slots (λ ch far. h ch) (gone_keeps (tried c) (files c) Unwritten (lane c d.slots) n gone (h c)))
  f_unlinked row c n p now d fine gone h = absurd (cc)

pub rows_hold_tried : RowsHoldTried
rows_hold_tried = record {
  takes = λ tried files c now came d tied h. f_took tried files (said came).way (said came).bytes c d (λ ch. (tied ch, h.1 ch));
  reads = λ tried files c n begun reading now came d none h. f_read tried files (read_on reading (said came)) c n (begun_at reading begun now) reading now (said came) d none h.1;
  gives = λ tried files c now came d h. f_requested tried files (said came).way c d h.1;
  unlinks = λ tried files c n p now came d fine gone h. f_unlinked tried files (said came).way c n p now d fine gone h.1;
  given_up = λ tried files m d tied first h. f_given_up tried files m.channel m.n m.place d tied first.first first.there first.number h;
  written = λ tried files l m tied first h. written_keeps tried files l m tied first h;
  made = λ tried files fd m now came d h. f_made tried files fd m.channel m.n m.place d h;
}
