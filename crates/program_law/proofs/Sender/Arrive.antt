-- What a sender relies on between two steps it relies on at the row that is next.
use Rattle.std.proofs.Common.{◌≡◌, ℕ, ◌≤◌, List, [], ◌∷◌, inl, Bool, true, false, Option, Some, None, refl, sym, ap, ◌∙◌, subst, arith}
use Rattle.std.specs.Prelude.{All, Contains, ◌||◌, not, if◌then◌else◌, nat_le, is_some, find, slice_get, IsSome}
use Rattle.std.specs.Option.{option_map}
use Rattle.std.proofs.lemmas.Bool.{and_parts, leb-true}
use Rattle.std.proofs.lemmas.List.Elements.{All-head, All-weaker}
use Rattle.call_fs.specs.declared.program.Ready.{Ready}
use Rattle.mail_bytes.specs.Moments.{IsMoment}
use Rattle.retry_schedule.specs.Due.{first_due}
use Rattle.send_core.specs.declared.desk.Desk.{Desk}
use Rattle.send_parts.specs.declared.row.MarkRow.TheVariants as mark
use Rattle.send_parts.specs.declared.row.Point.{Point}
use Rattle.send_parts.specs.declared.row.Point.TheVariants as point
use Rattle.send_parts.specs.declared.row.Row.{Row}
use Rattle.send_parts.specs.declared.row.Row.TheVariants as at
use Rattle.send_core.specs.Agrees.{is_same}
use Rattle.send_core.specs.Desk.{due_on, never, next_idle, sweep_due}
use Rattle.send_core.specs.Table.{arrive, begin_by, beginning, finishing, finishing_by, from_begin, from_local, from_point, from_remote, from_reports, from_sweep, from_take, going_on, holds, link_of, marking, marking_by, or_else, passing, sweeping, taking}
use Rattle.send_jobs.specs.declared.attempts.Failure.{Failure}
use Rattle.send_jobs.specs.declared.attempts.Mark.{Mark}
use Rattle.send_known.specs.declared.channel.Channel.{Channel}
use Rattle.send_known.specs.declared.channel.Channel.TheVariants.{Local, Remote}
use Rattle.send_jobs.specs.declared.slots.Slots.{Slots}
use Rattle.send_jobs.specs.declared.jobs.Job.{Job}
use Rattle.send_jobs.specs.Jobs.{job_of}
use Rattle.send_jobs.specs.Lanes.{next}
use Rattle.send_jobs.specs.Sending.{lane}
use Rattle.send_jobs.specs.Slots.{lowest}
use Rattle.send_known.specs.declared.known.Known.{Known}
use Rattle.send_known.specs.Known.{first_idle, is_idle}
use Rattle.send_parts.specs.declared.book.Book.{Book}
use Rattle.send_parts.specs.declared.rows.Search.TheVariants as search
use Rattle.send_parts.specs.declared.rows.SweepRow.TheVariants as sweep
use Rattle.program_law.specs.Channel.Tied.{First, IsTied, waiting}
use Rattle.program_law.specs.Channel.Tied.First.{Unwritten}
use Rattle.program_law.proofs.Channel.Counts.{at_head, in_tail}
use Rattle.queue_law.specs.Books.{Injection}
use Rattle.queue_law.specs.Marks.{IsDelivered}
use Rattle.queue_law.specs.Numbers.{Queue, About, about}
use Rattle.program_law.specs.Sender.Views.{files_of, first_at, first_if}
use Rattle.program_law.specs.Sender.Knows.{Knows, Serves, IsEntered, IsReported, has_file}
use Rattle.program_law.specs.Sender.Knows.Knows.{Stays, Leaves}
use Rattle.program_law.specs.Sender.Rows.{HasNoJob, HasNoMarks, PointStands, RowStands, Works, works}
use Rattle.program_law.specs.Sender.Stands.{HasControls, Stands, StandsAt, SenderStands}
use Rattle.program_law.proofs.Sender.Heads.{first_all, first_in, some_same}
use Rattle.program_law.proofs.Sender.Others.{mark_has_job}

-- at such a row no mark is written yet, and the control files were read
pub record IsPlain (row : Row) : Type 0 where
  pub first : (ch : Channel) → first_at row ch ≡ Unwritten
  pub controls_read : HasControls row

open_first : (b : Bool) → first_if b mark.Open ≡ Unwritten
open_first true = refl
open_first false = refl

note_first : (b : Bool) → first_if b mark.Note ≡ Unwritten
note_first true = refl
note_first false = refl

known_on : (p : Point) (row : Row) (w : About) (k : Known) → Knows (at.Turn p) w k → Knows row w k
known_on p row w k (Stays h) = Stays h
known_on p row w k (Leaves h) = absurd h

none_marked : (c : Channel) (xs : List Mark) → marking_by c (slice_get xs 0) ≡ None → xs ≡ []
none_marked c [] e = refl
none_marked c (m ∷ ms) e = absurd (cc)

by_due : (x e : ℕ × ℕ) (b : Bool) → ◌≡◌ {A = Option (ℕ × ℕ)} (if b then Some x else None) (Some e) → x ≡ e
by_due x e true eq = some_same x e eq
by_due x e false eq = absurd (cc)

due_one : (P : ℕ × ℕ → Type 0) (now : ℕ) (es : List (ℕ × ℕ)) → All P es → (e : ℕ × ℕ) → first_due now es ≡ Some e → P e
due_one P now [] h e eq = absurd (cc)
due_one P now (x ∷ xs) h e eq = subst P (by_due x e (nat_le x.0 now) eq) (All-head P x xs h)

by_now : (x e : ℕ × ℕ) (now : ℕ) (b : Bool) → nat_le x.0 now ≡ b → ◌≡◌ {A = Option (ℕ × ℕ)} (if b then Some x else None) (Some e) → e.0 ≤ now
by_now x e now true le eq = let same = ap (λ (y : ℕ × ℕ). y.0) (some_same x e eq) in let low = leb-true x.0 now le in omega (arith, same, low)
by_now x e now false le eq = absurd (cc)

due_by_now : (now : ℕ) (es : List (ℕ × ℕ)) (e : ℕ × ℕ) → first_due now es ≡ Some e → e.0 ≤ now
due_by_now now [] e eq = absurd (cc)
due_by_now now (x ∷ xs) e eq = by_now x e now (nat_le x.0 now) refl eq

told_by_then : {read : ℕ} (due : ℕ) → due ≤ read → read ≤ 250000000000 → due ≤ 250000000000
told_by_then due le told = omega (arith, le, told)

-- what is due by a moment that a clock may tell has no job, if what has a job is due at none
jobless : {read : ℕ} → IsMoment read → (o : Option Job) (due : ℕ) → due ≤ read → (IsSome o → due ≡ never) → o ≡ None
jobless told None due le f = refl
jobless told (Some job) due le f =
    let late : due ≡ 18446744073709551615 = f refl in
    let soon : due ≤ 250000000000 = told_by_then due le told in
    absurd (omega (arith, late, soon))

no_file : (l r : Bool) → not (l || r) ≡ true → (l ≡ false) × (r ≡ false)
no_file true r e = absurd (cc)
no_file false true e = absurd (cc)
no_file false false e = (refl, refl)

idle_flags : (now : ℕ) (k : Known) → is_idle now k ≡ true → (ch : Channel) → has_file ch k ≡ false
idle_flags now k e Local = (no_file k.local k.remote (and_parts (nat_le k.finish_at now) (not (k.local || k.remote)) e).1).0
idle_flags now k e Remote = (no_file k.local k.remote (and_parts (nat_le k.finish_at now) (not (k.local || k.remote)) e).1).1

-- the one that is found stands in the list, and passes
found : (p : Known → Bool) (ks : List Known) (n : ℕ) → option_map (λ (k : Known). k.n) (find p ks) ≡ Some n
    → (k : Known) × Contains ks k × (k.n ≡ n) × (p k ≡ true)
found p [] n e = absurd (cc)
found p (k ∷ ks) n e = by_test (found p ks n) (p k) refl e
  where
    by_test : (option_map (λ (x : Known). x.n) (find p ks) ≡ Some n → (x : Known) × Contains ks x × (x.n ≡ n) × (p x ≡ true))
        → (b : Bool) → p k ≡ b → option_map (λ (x : Known). x.n) (if b then Some k else find p ks) ≡ Some n
        → (x : Known) × Contains (k ∷ ks) x × (x.n ≡ n) × (p x ≡ true)
    by_test more true t eq = (k, at_head k ks, some_same k.n n eq, t)
    by_test more false t eq = let w = more eq in (w.0, in_tail k w.0 ks w.1, w.2, w.3)

module _ (now read : ℕ) (q : Queue) (a : List ℕ) (not_later : read ≤ now) (told : IsMoment read) where
  at_row : (p : Point) (b : Book) (s : Slots) (pass : Works) → Stands now q a (at.Turn p) b s pass
      → (row : Row) → IsPlain row → RowStands now q a row b s pass → Stands now q a row b s pass
  at_row p b s pass h row plain rests = record {
    knows = record {
      known = All-weaker (λ (k : Known). Knows (at.Turn p) (about q k.n) k) (λ (k : Known). Knows row (about q k.n) k) (λ k. known_on p row (about q k.n) k)
          b.messages.known h.knows.known;
      due = h.knows.due;
    };
    lanes = λ ch. let l = h.lanes ch in record {
      tied = subst (λ (f : First). IsTied (files_of q ch) f (lane ch s)) (sym (plain.first ch)) l.tied;
      jobs = l.jobs;
      marks = subst (λ (f : First). All (λ (m : Mark). IsEntered (about q m.attempt.n) ch m) (waiting f (lane ch s).marks)) (sym (plain.first ch)) l.marks;
    };
    apart = h.apart;
    no_nul = λ _. h.no_nul tt;
    rests = rests;
  }

  module _ (d : Desk) (ready : Ready) (p : Point) (h : Stands now q a (at.Turn p) d.book d.slots (works d)) where
    abbrev Good : Row → Type 0
    Good row = IsPlain row × RowStands now q a row d.book d.slots (works d)

    abbrev GoodIf : Option Row → Type 0
    GoodIf None = Unit {0}
    GoodIf (Some row) = Good row

    or_good : (o : Option Row) (row : Row) → GoodIf o → (o ≡ None → Good row) → Good (or_else o row)
    or_good None row g f = f refl
    or_good (Some first) row g f = g

    taking_good : (c : Channel) (b : Bool) → GoodIf (if b then Some (at.TakeLink c) else None)
    taking_good c true = (record { first = λ ch. refl; controls_read = tt }, tt)
    taking_good c false = tt

    -- a mark begins with its note, if something is noted
    marked_good : (c : Channel) (m : Mark) (o : Option Failure) → m.note ≡ o → slice_get (lane c d.slots).marks 0 ≡ Some m
        → Good (at.Mark (begin_by o) (record { channel = c; n = m.attempt.n; place = m.attempt.place }))
    marked_good c m None is e =
        let l = h.lanes c in
        let entered : IsEntered (about q m.attempt.n) c m = first_all (λ (x : Mark). IsEntered (about q x.attempt.n) c x) (lane c d.slots).marks m l.marks e in
        let serves = mark_has_job q (at.Turn p) c d.slots l m (first_in (lane c d.slots).marks m e) in
        let same : entered.injection ≡ serves.sorted.injection = some_same entered.injection serves.sorted.injection (sym entered.lives ∙ serves.sorted.lives) in
        let delivered : IsDelivered entered.injection.ledger c m.attempt.place =
        subst (λ (x : Option Failure). IsReported x entered.injection.ledger c m.attempt.place) is entered.reported in (
          record { first = λ ch. open_first (is_same c ch); controls_read = tt },
          (
            record { first = m; there = e; number = refl; place = refl },
            record { sorted = serves.sorted; done = inl (subst (λ (i : Injection). IsDelivered i.ledger c m.attempt.place) same delivered) },
          ),
        )
    marked_good c m (Some failure) is e = (
      record { first = λ ch. note_first (is_same c ch); controls_read = tt },
      (record { first = m; there = e; number = refl; place = refl }, record { first = m; there = e; failure = failure; note_is = is }),
    )

    marking_good : (c : Channel) (o : Option Mark) → slice_get (lane c d.slots).marks 0 ≡ o → GoodIf (marking_by c o)
    marking_good c None e = tt
    marking_good c (Some m) e = marked_good c m m.note refl e

    no_marks : marking Local d ≡ None → marking Remote d ≡ None → HasNoMarks d.slots
    no_marks e f Local = none_marked Local d.slots.local.marks e
    no_marks e f Remote = none_marked Remote d.slots.remote.marks f

    going_good : HasNoMarks d.slots → (c : Channel) (o : Option ℕ) → IsSome (next (lane c d.slots)) → lowest (lane c d.slots).slots ≡ o → GoodIf (going_on c o)
    going_good bare c None there e = tt
    going_good bare c (Some slot) there e = (record { first = λ ch. refl; controls_read = tt }, (bare, (there, ap (λ x. is_some x) e)))

    beginning_good : HasNoMarks d.slots → (c : Channel) (may : Bool) (o : Option (ℕ × ℕ)) → ((e : ℕ × ℕ) → o ≡ Some e → Serves (about q e.1) c)
        → ((e : ℕ × ℕ) → o ≡ Some e → HasNoJob c e.1 d.slots) → GoodIf (beginning c may o)
    beginning_good bare c false o f g = tt
    beginning_good bare c true None f g = tt
    beginning_good bare c true (Some e) f g = (record { first = λ ch. refl; controls_read = tt }, (bare, (g e refl, (f e refl, tt))))

    pass_by : HasNoMarks d.slots → (c : Channel) (may b : Bool) → is_some (next (lane c d.slots)) ≡ b
        → GoodIf (if b then going_on c (lowest (lane c d.slots).slots) else beginning c may (first_due read (due_on c d.book.messages)))
    pass_by bare c may true e = going_good bare c (lowest (lane c d.slots).slots) e refl
    pass_by bare c may false e = beginning_good bare c may (first_due read (due_on c d.book.messages))
        (λ e eq. due_one (λ (x : ℕ × ℕ). Serves (about q x.1) c) read (due_on c d.book.messages) (h.knows.due c) e eq)
        (λ e eq. jobless told (job_of e.1 (lane c d.slots).jobs) e.0 (due_by_now read (due_on c d.book.messages) e eq)
        (due_one (λ (x : ℕ × ℕ). IsSome (job_of x.1 (lane c d.slots).jobs) → x.0 ≡ never) read (due_on c d.book.messages) (h.apart c) e eq))

    finish_good : HasNoMarks d.slots → (o : Option ℕ) → first_idle read d.book.messages.known ≡ o → GoodIf (finishing_by o)
    finish_good bare None e = tt
    finish_good bare (Some n) e =
        let w = found (is_idle read) d.book.messages.known n e in
        (record { first = λ ch. refl; controls_read = tt }, (bare, record { it = w.0; there = w.1; number = w.2; none = idle_flags read w.0 w.3 }))

    sweep_good : HasNoMarks d.slots → (b : Bool) → GoodIf (if b then Some (at.Sweep sweep.First) else None)
    sweep_good bare true = (record { first = λ ch. refl; controls_read = tt }, (bare, tt))
    sweep_good bare false = tt

    remote_good : HasNoMarks d.slots → (may : Bool) → Good (from_remote may d read)
    remote_good bare may = or_good (passing Remote may d read) (at.FindTodo search.AfterLeft) (pass_by bare Remote may (is_some (next (lane Remote d.slots))) refl)
        (λ _. (record { first = λ ch. refl; controls_read = tt }, bare))

    local_good : HasNoMarks d.slots → (may : Bool) → Good (from_local may d read)
    local_good bare may = or_good (passing Local may d read) (from_remote true d read) (pass_by bare Local may (is_some (next (lane Local d.slots))) refl)
        (λ _. remote_good bare true)

    reports_good : Good (from_reports d read)
    reports_good = or_good (marking Local d) (or_else (marking Remote d) (from_local true d read)) (marking_good Local (slice_get d.slots.local.marks 0) refl)
        (λ e. or_good (marking Remote d) (from_local true d read) (marking_good Remote (slice_get d.slots.remote.marks 0) refl)
        (λ f. local_good (no_marks e f) true))

    take_good : Good (from_take d read ready)
    take_good = or_good (taking Remote ready) (from_reports d read) (taking_good Remote (holds (slice_get ready.links (link_of Remote)))) (λ _. reports_good)

    begin_good : Good (from_begin d read ready)
    begin_good = or_good (taking Local ready) (from_take d read ready) (taking_good Local (holds (slice_get ready.links (link_of Local)))) (λ _. take_good)

    from_sweep_good : HasNoMarks d.slots → Good (from_sweep d read ready)
    from_sweep_good bare = or_good (sweeping d read) (from_begin d read ready) (sweep_good bare (sweep_due read d.swept)) (λ _. begin_good)

    point_good : (at_point : Point) → PointStands at_point d.slots → Good (from_point at_point d read ready)
    point_good point.TakeLocal r = begin_good
    point_good point.TakeRemote r = take_good
    point_good point.Reports r = reports_good
    point_good (point.Pass Local may) r = local_good r may
    point_good (point.Pass Remote may) r = remote_good r may
    point_good point.Finish r = or_good (finishing d read) (from_sweep d read ready) (finish_good r (next_idle read d) refl) (λ _. from_sweep_good r)
    point_good point.Sweep r = from_sweep_good r

  arrived_at : (row : Row) (d : Desk) (ready : Ready) → Stands now q a row d.book d.slots (works d)
      → Stands now q a (arrive row d read ready) d.book d.slots (works d)
  arrived_at (at.Turn p) d ready h = let g = point_good d ready p h p h.rests in at_row p d.book d.slots (works d) h (from_point p d read ready) g.0 g.1
  arrived_at (at.Start row) d ready h = h
  arrived_at (at.TakeLink c) d ready h = h
  arrived_at (at.Mark row m) d ready h = h
  arrived_at (at.UnlinkFile c n p) d ready h = h
  arrived_at (at.ReadFile c n begun reading) d ready h = h
  arrived_at (at.Request c) d ready h = h
  arrived_at (at.FindTodo s) d ready h = h
  arrived_at at.InTodo d ready h = h
  arrived_at (at.Finish row n) d ready h = h
  arrived_at (at.Sweep row) d ready h = h
  arrived_at (at.Ended status) d ready h = h

  pub arrived : (d : Desk) (ready : Ready) → SenderStands now q a d → StandsAt now q a (arrive d.row d read ready) d
  arrived d ready h = arrived_at d.row d ready h
