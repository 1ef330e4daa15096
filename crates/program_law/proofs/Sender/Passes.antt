-- A pass that opens.
use Rattle.std.proofs.Common.{◌≡◌, ◌≢◌, ◌⊎◌, inl, inr, ℕ, List, [], ◌++◌, get_or, Bool, true, false, not, Option, Some, None, refl, sym, ap, ◌∙◌, subst, ⊎_elim}
use Rattle.std.specs.Prelude.{◌==◌, if◌then◌else◌, All, Contains, IsSome, is_none}
use Rattle.std.proofs.lemmas.Bool.{and_parts, eq-eqb, eqb-true, ne_eqb, not-true}
use Rattle.std.proofs.lemmas.List.Elements.{All-contains, All-contains_itself, All-weaker}
use Rattle.call_fs.specs.declared.calls.CallData.{CallData}
use Rattle.call_fs.specs.declared.calls.Told.{Told}
use Rattle.call_fs.specs.declared.past.GotData.TheVariants.{Answered}
use Rattle.call_fs.specs.declared.past.NeedData.TheVariants as needs
use Rattle.call_fs.specs.Apply.{Fits, IsReadBy}
use Rattle.envelope_records.specs.declared.channel.Record.{Record}
use Rattle.queue_paths.specs.Names.{name_of}
use Rattle.queue_paths.specs.Names.Name.{Of}
use Rattle.retry_schedule.specs.Due.{is_due, moved, put}
use Rattle.retry_schedule.proofs.Entries.{in_added, in_removed}
use Rattle.retry_schedule.specs.Due.{removed}
use Rattle.send_core.specs.declared.desk.Desk.{Desk}
use Rattle.send_parts.specs.declared.row.Point.TheVariants as point
use Rattle.send_parts.specs.declared.row.Row.TheVariants as at
use Rattle.send_core.specs.Desk.{closed, due_then, has_begun, is_dying, is_free_for, later, never}
use Rattle.send_core.specs.Table.{act, busy, due_at, file_of}
use Rattle.send_core.specs.Turn.{begun_at, file_read, pass_opened, put_later}
use Rattle.send_jobs.specs.declared.attempts.Attempt.{Attempt}
use Rattle.send_known.specs.declared.channel.Channel.{Channel}
use Rattle.send_known.specs.declared.channel.Channel.TheVariants.{Local, Remote}
use Rattle.send_jobs.specs.declared.jobs.Job.{Job}
use Rattle.send_jobs.specs.declared.lane.Lane.{Lane}
use Rattle.send_jobs.specs.declared.slots.Slots.{Slots}
use Rattle.send_jobs.specs.Jobs.{job_of, new_job, put as put_job}
use Rattle.send_jobs.specs.Lanes.{begun_by, finished, is_in_flight, is_open_on, next}
use Rattle.send_jobs.specs.Sending.{at_lane, lane}
use Rattle.send_jobs.proofs.JobLemmas.{job_put}
use Rattle.send_known.specs.declared.messages.Messages.{Messages}
use Rattle.send_parts.specs.declared.reading.Progress.{Progress}
use Rattle.send_parts.specs.declared.reading.Progress.TheVariants.{Goes, Whole, Missing, Failed}
use Rattle.send_parts.specs.declared.reading.Reading.{Reading}
use Rattle.send_links.specs.Records.{records_of}
use Rattle.send_parts.specs.Readings.{read_on}
use Rattle.send_parts.specs.Replies.{Said, said}
use Rattle.send_parts.specs.Start.{kept}
use Rattle.program_law.proofs.Channel.Counts.{all_fail}
use Rattle.program_law.proofs.Channel.Passes.{begun_kept}
use Rattle.queue_law.specs.Numbers.{Queue, about, Sound}
use Rattle.queue_law.specs.Routes.{lane_part}
use Rattle.queue_law.specs.Senders.{called_queue}
use Rattle.queue_law.specs.Steps.{Elsewhere}
use Rattle.program_law.specs.Sender.Views.{files_of, records_at}
use Rattle.program_law.specs.Sender.Knows.{Serves}
use Rattle.program_law.specs.Sender.Readings.{ReadsOn}
use Rattle.program_law.specs.Sender.Rows.{HasNoJob, HasNoMarks, HasText}
use Rattle.program_law.specs.Sender.Stands.{DueApart, SenderLeads, SenderStands, StandsAt}
use Rattle.program_law.proofs.Sender.Apart.{IsApart}
use Rattle.program_law.proofs.Sender.Closes.{none_closed}
use Rattle.program_law.proofs.Sender.Desks.{OnDesk, due_again_on, on_of, stand}
use Rattle.queue_law.proofs.Growth.{grown_same}
use Rattle.program_law.proofs.Sender.Entries.{Grows, serves_grown}
use Rattle.program_law.proofs.Sender.Gone.{desk_grown}
use Rattle.program_law.proofs.Sender.Lanes.{OnLane, lane_on, none_on, then_on}
use Rattle.program_law.proofs.Sender.Marking.{again, closed_on}
use Rattle.program_law.proofs.Sender.Readings.{readings}
use Rattle.program_law.proofs.Sender.Texts.{they_are}

-- a step that concerns no number changes none of their names, and no injection
pub grown_by : (now : ℕ) (a : List ℕ) (q r : Queue) → Elsewhere now a None q r → Grows q r
grown_by now a q r E = record {
  looks = λ part n far. E.looks (Of part n) (λ e. absurd (cc));
  lives = λ n i there. (i, E.living n (λ e. absurd (cc)) ∙ there, refl, grown_same i.ledger);
}

-- The due entries when a job begins

job_or : (b : Bool) (new : Job) (o : Option Job) → b ≡ false → IsSome (if b then Some new else o) → IsSome o
job_or true new o e h = absurd (cc)
job_or false new o e h = h

off_number : (n begun : ℕ) (jobs : List Job) (e : ℕ × ℕ) → e.1 ≢ n → IsApart jobs e → IsApart (put_job (new_job n begun) jobs) e
off_number n begun jobs e far apart some =
    apart (job_or (n == e.1) (new_job n begun) (job_of e.1 jobs) (ne_eqb n e.1 (λ same. far (sym same)))
    (subst (λ (o : Option Job). IsSome o) (job_put (new_job n begun) e.1 jobs) some))

unlike_one : (n : ℕ) (e : ℕ × ℕ) → (e.1 == n) ≡ false → e.1 ≢ n
unlike_one n e off same = let yes = eq-eqb e.1 n same in absurd (cc)

moved_apart : (n begun : ℕ) (jobs : List Job) (es : List (ℕ × ℕ)) → All (IsApart jobs) es → (x : ℕ × ℕ) → Contains (put (never, n) es) x → IsApart (put_job (new_job n begun) jobs) x
moved_apart n begun jobs es h x w = ⊎_elim
    (λ same. λ some. ap (λ (e : ℕ × ℕ). e.0) same)
    (λ old. let o = (in_removed n x es).0 old in off_number n begun jobs x o.1 (All-contains (IsApart jobs) es x h o.0))
    ((in_added (never, n) x (removed n es)).0 w)

-- no entry is of its number
none_apart : (n begun : ℕ) (jobs : List Job) (es : List (ℕ × ℕ)) → All (IsApart jobs) es → is_due n es ≡ false → All (IsApart (put_job (new_job n begun) jobs)) es
none_apart n begun jobs es h e =
    let far = all_fail (λ (x : ℕ × ℕ). x.1 == n) es e in
    λ k d lt. off_number n begun jobs (get_or es k d) (unlike_one n (get_or es k d) (far k d lt)) (h k d lt)

begun_if : (b : Bool) (n begun : ℕ) (jobs : List Job) (es : List (ℕ × ℕ)) → All (IsApart jobs) es → is_due n es ≡ b
    → All (IsApart (put_job (new_job n begun) jobs)) (if b then put (never, n) es else es)
begun_if true n begun jobs es h e =
    All-weaker (Contains (put (never, n) es)) (IsApart (put_job (new_job n begun) jobs)) (moved_apart n begun jobs es h) (put (never, n) es) (All-contains_itself (put (never, n) es))
begun_if false n begun jobs es h e = none_apart n begun jobs es h e

begun_each : (n begun : ℕ) (jobs : List Job) (es : List (ℕ × ℕ)) → All (IsApart jobs) es → All (IsApart (put_job (new_job n begun) jobs)) (moved (never, n) es)
begun_each n begun jobs es h = begun_if (is_due n es) n begun jobs es h refl

apart_begun : (c : Channel) (n begun : ℕ) (records : List Record) (dying : Bool) (m : Messages) (s : Slots) → DueApart m s
    → DueApart (due_then c n never m) (at_lane c (begun_by n records begun dying) s)
apart_begun Local n begun records dying m s h Local = begun_each n begun s.local.jobs m.local (h Local)
apart_begun Local n begun records dying m s h Remote = h Remote
apart_begun Remote n begun records dying m s h Local = h Local
apart_begun Remote n begun records dying m s h Remote = begun_each n begun s.remote.jobs m.remote (h Remote)

-- The lane of a pass that begins

none_of : (o : Option Attempt) → is_none o ≡ true → o ≡ None
none_of None e = refl
none_of (Some a) e = absurd (cc)

put_was : (b : Bool) (new : Job) (o : Option Job) (job : Job) → ◌≡◌ {A = Option Job} (if b then Some new else o) (Some job) → (b ≡ true) ⊎ (o ≡ Some job)
put_was true new o job e = inl refl
put_was false new o job e = inr e

begun_lane : (q : Queue) (c : Channel) (l : Lane) (n begun : ℕ) (dying : Bool) (bytes : List ℕ) (records : List Record) → OnLane q c l → records_of bytes ≡ Some records
    → files_of q c n ≡ Some records → Serves (about q n) c → is_free_for n l ≡ true → l.marks ≡ [] → OnLane q c (begun_by n records begun dying l)
begun_lane q c l n begun dying bytes records h read there serves free bare =
    let both = and_parts (is_none (next l)) (finished n l) free in
    let parts = and_parts (not (is_open_on n l)) (not (is_in_flight n l)) both.1 in
    record {
      tied = begun_kept (files_of q c) l n begun dying bytes records h.tied (they_are bytes records read) there (none_of (next l) both.0)
          (not-true (is_in_flight n l) parts.1) bare;
      jobs = λ k job e. ⊎_elim
          (λ same. subst (λ (z : ℕ). Serves (about q z) c) (eqb-true n k same) serves)
          (λ old. h.jobs k job old)
          (put_was (n == k) (new_job n begun) (job_of k l.jobs) job (sym (job_put (new_job n begun) k l.jobs) ∙ e));
      marks = h.marks;
    }

bare_begun : (c : Channel) (n begun : ℕ) (records : List Record) (dying : Bool) (s : Slots) → HasNoMarks s → HasNoMarks (at_lane c (begun_by n records begun dying) s)
bare_begun Local n begun records dying s h Local = h Local
bare_begun Local n begun records dying s h Remote = h Remote
bare_begun Remote n begun records dying s h Local = h Local
bare_begun Remote n begun records dying s h Remote = h Remote

module _ (now : ℕ) (q : Queue) (a : List ℕ) (c : Channel) (n begun read : ℕ) (d : Desk) (h : OnDesk q d) (bare : HasNoMarks d.slots)
    (none : HasNoJob c n d.slots) (serves : Serves (about q n) c) where
  later_on : SenderStands now q a (put_later c n read d)
  later_on = again now q a c n (later read) (point.Pass c false) d bare
      (due_again_on q c n (later read) d h serves (none_on q c (lane c d.slots) (h.lanes c) n none))

  module _ (text : HasText q (lane_part c) n d.book.read) where
    module _ (records : List Record) (are : records_of d.book.read ≡ Some records) where
      there : files_of q c n ≡ Some records
      there = ap records_at text.there ∙ ap records_of (sym text.text) ∙ are

      begun_on : (ch : Channel) → c ≡ ch → is_free_for n (lane c d.slots) ≡ true → OnDesk q (has_begun c n begun records d)
      begun_on Local e free = subst (λ (x : Channel). OnDesk q (has_begun x n begun records d)) (sym e) (record {
        known = h.known;
        due = then_on q Local n never d.book.messages (subst (Serves (about q n)) e serves) h.due;
        lanes = lane_on q Local (begun_by n records begun (is_dying n begun d)) d.slots h.lanes
            (begun_lane q Local d.slots.local n begun (is_dying n begun d) d.book.read records (h.lanes Local) are
            (subst (λ (x : Channel). files_of q x n ≡ Some records) e there) (subst (Serves (about q n)) e serves)
            (subst (λ (x : Channel). is_free_for n (lane x d.slots) ≡ true) e free) (bare Local));
        apart = apart_begun Local n begun records (is_dying n begun d) d.book.messages d.slots h.apart;
        no_nul = h.no_nul;
      })
      begun_on Remote e free = subst (λ (x : Channel). OnDesk q (has_begun x n begun records d)) (sym e) (record {
        known = h.known;
        due = then_on q Remote n never d.book.messages (subst (Serves (about q n)) e serves) h.due;
        lanes = lane_on q Remote (begun_by n records begun (is_dying n begun d)) d.slots h.lanes
            (begun_lane q Remote d.slots.remote n begun (is_dying n begun d) d.book.read records (h.lanes Remote) are
            (subst (λ (x : Channel). files_of q x n ≡ Some records) e there) (subst (Serves (about q n)) e serves)
            (subst (λ (x : Channel). is_free_for n (lane x d.slots) ≡ true) e free) (bare Remote));
        apart = apart_begun Remote n begun records (is_dying n begun d) d.book.messages d.slots h.apart;
        no_nul = h.no_nul;
      })

      begun_bare : (ch : Channel) → HasNoMarks (has_begun ch n begun records d).slots
      begun_bare Local = bare_begun Local n begun records (is_dying n begun d) d.slots bare
      begun_bare Remote = bare_begun Remote n begun records (is_dying n begun d) d.slots bare

      if_free : (b : Bool) → is_free_for n (lane c d.slots) ≡ b
          → SenderStands now q a (if b then closed c n (point.Pass c false) (has_begun c n begun records d) else put_later c n read d)
      if_free true e = closed_on now q a c n (point.Pass c false) (has_begun c n begun records d) (begun_on c refl e) (begun_bare c)
      if_free false e = later_on

    opened_on : (o : Option (List Record)) → records_of d.book.read ≡ o → SenderStands now q a (pass_opened o c n begun read d)
    opened_on None e = later_on
    opened_on (Some records) e = if_free records e (is_free_for n (lane c d.slots)) refl

  on_progress : (g : Reading) (s : Said) (p : Progress) → ReadsOn q a (lane_part c) n p d.book.read (kept g d.book.read ++ s.bytes)
      → SenderStands now q a (file_read p c n begun g read s d)
  on_progress g s (Goes next) w =
      let e : Desk = record d { row = at.ReadFile c n begun next; book = record d.book { read = kept g d.book.read ++ s.bytes } } in
      let on : OnDesk q e = record { known = h.known; due = h.due; lanes = h.lanes; apart = h.apart; no_nul = h.no_nul } in
      stand now q a (at.ReadFile c n begun next) e (λ ch. refl) on (bare, (none, (serves, w)))
  on_progress g s Whole w = opened_on w (records_of d.book.read) refl
  on_progress g s Missing w = later_on
  on_progress g s Failed w = later_on

busy_on : (now : ℕ) (q : Queue) (a : List ℕ) (d : Desk) → SenderStands now q a d → SenderStands now q a (busy d)
busy_on now q a d h = h

lane_named : (c : Channel) (n : ℕ) → name_of (file_of c n) ≡ Of (lane_part c) n
lane_named Local n = refl
lane_named Remote n = refl

module _ (now : ℕ) (q : Queue) (a : List ℕ) (G : Sound q) where
  pub opens : (c : Channel) (n begun : ℕ) (g : Reading) (d : Desk) (read : ℕ) (call : CallData) (told : Told) (wrote : ℕ) → StandsAt now q a (at.ReadFile c n begun g) d
      → due_at (at.ReadFile c n begun g) d ≡ needs.File call → Fits q.disk call told.answer wrote → IsReadBy q.disk call told
      → SenderLeads now a q (called_queue q a read call told.answer wrote q.role) (act (at.ReadFile c n begun g) read (Answered told) d)
  opens c n begun g d read call told wrote h due fits by =
      let on = on_of now q a (at.ReadFile c n begun g) d (record { first = λ ch. refl; controls_read = tt }) (λ k w. w) h in
      let r : Queue = called_queue q a read call told.answer wrote q.role in
      let w = readings now q a G (lane_part c) n d.book.read read wrote (file_of c n) g call told (lane_named c n) h.rests.1.1.1 due fits by in
      let grows = grown_by now a q r w.leads.elsewhere in
      let begins : ℕ = begun_at g begun read in
      record {
        number = None;
        closed = none_closed now q;
        leads = w.leads;
        stands = busy_on now r a (file_read (read_on g (said (Answered told))) c n begins g read (said (Answered told)) d)
            (on_progress now r a c n begins read d (desk_grown q r d grows on) h.rests.0 h.rests.1.0 (serves_grown q r grows n c h.rests.1.1.0)
            g (said (Answered told)) (read_on g (said (Answered told))) w.reads);
      }
