-- A pass that begins has a job, or its file is unlinked next.
use Rattle.std.proofs.Common.{Bool, List, None, Option, Some, [], ap, eq-eqb, eqb, eqb-true, false, if◌then◌else◌, inl, inr, length, not, refl, subst, sym, true, ℕ, ◌∙◌, ◌≡◌, ◌≤◌, ◌⊎◌}
use Rattle.std.proofs.lemmas.Bool.{cond-true}
use Rattle.std.specs.Prelude.{is_none, is_some, slice_get, ◌&&◌, ◌==◌}
use Rattle.bounce_record.specs.Writing.{Writing}
use Rattle.call_fs.specs.Program.{MayCome}
use Rattle.call_fs.specs.declared.calls.Fd.{Fd}
use Rattle.call_fs.specs.declared.past.GotData.{GotData}
use Rattle.envelope_records.specs.declared.channel.Record.{Record}
use Rattle.retry_law.proofs.Events.{begins}
use Rattle.send_core.proofs.Coming.{by_file}
use Rattle.send_core.proofs.Standing.{FitAt}
use Rattle.send_core.proofs.Turns.{same_end}
use Rattle.send_core.specs.Agrees.{Agrees, is_opened}
use Rattle.send_core.specs.Desk.{closed_by, goes, has_begun, is_free_for, retried, stands_at}
use Rattle.send_core.specs.Past.{Account, Work}
use Rattle.send_core.specs.Table.{act, due_at}
use Rattle.send_core.specs.Turn.{pass_opened, put_later}
use Rattle.send_core.specs.declared.desk.Desk.{Desk}
use Rattle.send_parts.specs.declared.row.MarkRow.{MarkRow}
use Rattle.send_parts.specs.declared.row.Marked.{Marked}
use Rattle.send_parts.specs.declared.row.Point.TheVariants as point
use Rattle.send_parts.specs.declared.row.Point.{Point}
use Rattle.send_parts.specs.declared.row.Row.TheVariants as at
use Rattle.send_parts.specs.declared.row.Row.{Row}
use Rattle.send_jobs.proofs.JobLemmas.{job_put}
use Rattle.send_jobs.specs.Jobs.{job_of, new_job}
use Rattle.send_jobs.specs.Lanes.{is_in_flight, job_over}
use Rattle.send_jobs.specs.Sending.{lane}
use Rattle.send_jobs.specs.Slots.{is_on}
use Rattle.send_jobs.specs.declared.attempts.Attempt.{Attempt}
use Rattle.send_jobs.specs.declared.attempts.Mark.{Mark}
use Rattle.send_known.specs.declared.channel.Channel.TheVariants.{Local, Remote}
use Rattle.send_known.specs.declared.channel.Channel.{Channel}
use Rattle.send_jobs.specs.declared.jobs.Job.{Job}
use Rattle.send_links.specs.Records.{records_of}
use Rattle.send_parts.specs.declared.reading.Reading.TheVariants.{Closing, Going, Opening, Shutting}
use Rattle.send_parts.specs.declared.reading.Reading.{Reading as FileReading}
use Rattle.send_runs.proofs.Bridges.{flies_is}
use Rattle.send_runs.proofs.Fates.{is_unlinking, over_some, same_channel}
use Rattle.send_runs.proofs.Trials.{TrialAt}
use Rattle.send_runs.specs.DueMoments.Shift.{Begins}
use Rattle.send_runs.specs.DueMoments.{Trial, began, closed, is_trial_of, is_whole, shift_by, shift_if}
use Rattle.send_runs.specs.Dues.{flies}

-- one begins of the message and the channel of the file that was read, if that was records alone
begun_if : (b whole : Bool) (x begun : ℕ) → shift_if b (began whole x) ≡ Begins begun → (b ≡ true) × (whole ≡ true)
begun_if true true x begun e = (refl, refl)
begun_if true false x begun e = absurd (cc)
begun_if false whole x begun e = absurd (cc)

trial_is : (x c : Channel) (n k m : ℕ) → is_trial_of x n (record { channel = c; n = k; begun = m }) ≡ true → (x ≡ c) × (n ≡ k)
trial_is Local Local n k m e = (refl, sym (eqb-true k n e))
trial_is Remote Remote n k m e = (refl, sym (eqb-true k n e))
trial_is Local Remote n k m e = absurd (cc)
trial_is Remote Local n k m e = absurd (cc)

-- its file is unlinked next, or there is a job on it
abbrev pub Has : Channel → ℕ → Desk → Type 0
Has c n e = (is_unlinking c n e.row ≡ true) ⊎ (is_some (job_of n (lane c e.slots).jobs) ≡ true)

module _ (d : Desk) (now : ℕ) (c : Channel) (k m : ℕ) (bare : (lane c d.slots).left ≡ []) (none : is_in_flight k (lane c d.slots) ≡ false) where
  abbrev p : Point
  p = point.Pass c false

  is_free : is_free_for k (lane c d.slots) ≡ true
  is_free = ap (λ (left : List Attempt). is_none (slice_get left 0) && (not (is_on k (slice_get left 0)) && not (is_in_flight k (lane c d.slots)))) bare ∙ ap not none

  begun_job : (c : Channel) (rs : List Record) → job_of k (lane c (has_begun c k m rs d).slots).jobs ≡ Some (new_job k m)
  begun_job Local rs = job_put (new_job k m) k d.slots.local.jobs ∙ cond-true (eqb k k) (Some (new_job k m)) (job_of k d.slots.local.jobs) (eq-eqb k k refl)
  begun_job Remote rs = job_put (new_job k m) k d.slots.remote.jobs ∙ cond-true (eqb k k) (Some (new_job k m)) (job_of k d.slots.remote.jobs) (eq-eqb k k refl)

  abbrev unmarked_of : Option Job → Bool
  unmarked_of None = false
  unmarked_of (Some job) = job.unmarked

  closed_begun : (after : Desk) (o : Option Job) → job_over k (lane c after.slots) ≡ o → job_of k (lane c after.slots).jobs ≡ Some (new_job k m) → Has c k (closed_by o c k p after)
  closed_begun after None e there = inr (ap is_some there)
  closed_begun after (Some job) e there =
      let w = over_some k (lane c after.slots) job e in
      let whole : job.unmarked ≡ false = ap unmarked_of (sym w.1 ∙ there) in
      subst (λ (u : Bool). Has c k (if u then retried c k job.begun (stands_at after p) else goes after (at.UnlinkFile c k p))) (sym whole)
      (inl (ap (λ (x : Bool). x && (k == k)) (same_channel c) ∙ eq-eqb k k refl))

  whole_begun : (o : Option (List Record)) → is_some o ≡ true → Has c k (pass_opened o c k m now d)
  whole_begun None some = absurd (cc)
  whole_begun (Some rs) some =
      let after : Desk = has_begun c k m rs d in
      subst (λ (x : Bool). Has c k (if x then closed_by (job_over k (lane c after.slots)) c k p after else put_later c k now d)) (sym is_free)
      (closed_begun after (job_over k (lane c after.slots)) refl (begun_job c rs))

module _ (Q : MarkRow → Option Mark → Marked → Writing → Type 0) (d : Desk) (now : ℕ) (command : List ℕ) (clears : Bool) (f : Option Work) (tr : Option Trial) (a : Channel → Account) (c : Channel) (n begun : ℕ) where
  abbrev Fits : Row → Type 0
  Fits row = FitAt Q f (a Local) (a Remote) row d

  abbrev BeginsAt : Row → GotData → Type 0
  BeginsAt row got = shift_by c n now command clears f tr (due_at row d) got ≡ Begins begun

  no_trial : {A : Type 0} (row : Row) (got : GotData) → tr ≡ None → BeginsAt row got → A
  no_trial row got none is = let w = begins c n now command clears f tr (due_at row d) got begun is in absurd (cc (sym w.1 ∙ none))

  -- where its channel file was read to its end, and is records alone
  abbrev IsRead : Row → Type 0
  IsRead row = (m : ℕ) × (fd : Fd) × (row ≡ at.ReadFile c n m (Closing fd)) × ((lane c d.slots).left ≡ []) × (is_some (records_of d.book.read) ≡ true)

  file_begins : (e : Channel) (k m : ℕ) (reading : FileReading) (got : GotData) → MayCome (due_at (at.ReadFile e k m reading) d) got → Fits (at.ReadFile e k m reading) → TrialAt (at.ReadFile e k m reading) tr
      → BeginsAt (at.ReadFile e k m reading) got → IsRead (at.ReadFile e k m reading)
  file_begins e k m Opening got may fit tried is = no_trial (at.ReadFile e k m Opening) got tried is
  file_begins e k m (Going fd) got may fit tried is =
      let row : Row = at.ReadFile e k m (Going fd) in
      by_file (due_at row d) tt (λ g. BeginsAt row g → IsRead row) got may (λ told answers is. absurd (cc)) is
  file_begins e k m (Shutting fd) got may fit tried is =
      let row : Row = at.ReadFile e k m (Shutting fd) in
      by_file (due_at row d) tt (λ g. BeginsAt row g → IsRead row) got may
      (λ told answers is.
      let w = begun_if (is_trial_of c n (record { channel = e; n = k; begun = m })) (is_whole f fd) m begun (ap (λ (o : Option Trial). closed o (is_whole f fd) c n) (sym tried) ∙ is) in
      absurd (cc (sym w.1 ∙ ap (λ (x : Option Work). is_whole x fd) fit.2)))
      is
  file_begins e k m (Closing fd) got may fit tried is =
      let row : Row = at.ReadFile e k m (Closing fd) in
      by_file (due_at row d) tt (λ g. BeginsAt row g → IsRead row) got may
      (λ told answers is.
      let w = begun_if (is_trial_of c n (record { channel = e; n = k; begun = m })) (is_whole f fd) m begun (ap (λ (o : Option Trial). closed o (is_whole f fd) c n) (sym tried) ∙ is) in
      let of : (c ≡ e) × (n ≡ k) = trial_is c e n k m w.0 in
      let whole : is_some (records_of d.book.read) ≡ true = sym (ap (λ (x : Option Work). is_whole x fd) fit.2 ∙ ap (λ (x : Bool). x && is_some (records_of d.book.read)) (same_end fd.0)) ∙ w.1 in
      let left : (lane c d.slots).left ≡ [] = subst (λ (y : Channel). (lane y d.slots).left ≡ []) (sym of.0) fit.1 in
      (m, fd, ap (λ (y : Channel). at.ReadFile y k m (Closing fd)) (sym of.0) ∙ ap (λ (i : ℕ). at.ReadFile c i m (Closing fd)) (sym of.1), left, whole))
      is

  pub begins_at : (row : Row) (got : GotData) → MayCome (due_at row d) got → Fits row → TrialAt row tr → BeginsAt row got → IsRead row
  begins_at (at.ReadFile e k m reading) got may fit tried is = file_begins e k m reading got may fit tried is
  begins_at (at.Ended status) got may fit tried is = absurd may
  begins_at (at.Start row) got may fit tried is = no_trial (at.Start row) got tried is
  begins_at (at.Turn p) got may fit tried is = absurd may
  begins_at (at.TakeLink e) got may fit tried is = no_trial (at.TakeLink e) got tried is
  begins_at (at.Mark row m) got may fit tried is = no_trial (at.Mark row m) got tried is
  begins_at (at.UnlinkFile e k q) got may fit tried is = no_trial (at.UnlinkFile e k q) got tried is
  begins_at (at.Request e) got may fit tried is = no_trial (at.Request e) got tried is
  begins_at (at.FindTodo search) got may fit tried is = no_trial (at.FindTodo search) got tried is
  begins_at at.InTodo got may fit tried is = no_trial at.InTodo got tried is
  begins_at (at.Finish row k) got may fit tried is = no_trial (at.Finish row k) got tried is
  begins_at (at.Sweep row) got may fit tried is = no_trial (at.Sweep row) got tried is

  pub begun_row : (row : Row) (got : GotData) → MayCome (due_at row d) got → Fits row → TrialAt row tr → ((x : Channel) → Agrees (a x) (is_opened row x) (lane x d.slots) × (length (lane x d.slots).slots ≤ 120))
      → BeginsAt row got → flies n (a c) ≡ false → Has c n (act row now got d)
  begun_row row got may fit tried known is none = subst (λ (r : Row). Has c n (act r now got d)) (sym w.2) (whole_begun d now c n w.0 w.3 (sym flying ∙ none) (records_of d.book.read) w.4) where
    w : IsRead row
    w = begins_at row got may fit tried is

    agrees : Agrees (a c) false (lane c d.slots) × (length (lane c d.slots).slots ≤ 120)
    agrees = subst (λ (r : Row). Agrees (a c) (is_opened r c) (lane c d.slots) × (length (lane c d.slots).slots ≤ 120)) w.2 (known c)

    flying : flies n (a c) ≡ is_in_flight n (lane c d.slots)
    flying = flies_is n (lane c d.slots) (a c) agrees.0 agrees.1
