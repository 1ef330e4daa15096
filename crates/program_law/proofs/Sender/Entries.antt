-- A taking: each report enters its recipient, or nothing.
use Rattle.std.proofs.Common.{◌≡◌, inl, inr, ℕ, ◌≤◌, ◌<◌, List, [], ◌∷◌, length, Bool, true, false, Option, Some, None, refl, sym, ap, ◌∙◌, subst, ⊎_elim, arith}
use Rattle.std.specs.Prelude.{◌==◌, ◌&&◌, ◌≢◌, not, if◌then◌else◌, nat_lt, All, Contains, IfSome}
use Rattle.std.specs.Option.{option_map}
use Rattle.std.proofs.lemmas.Bool.{cases_lt}
use Rattle.std.proofs.lemmas.List.{get_or_default, get_or_past}
use Rattle.std.proofs.lemmas.List.Elements.{All-weaker}
use Rattle.address_rules.specs.declared.controls.Controls.{Controls}
use Rattle.call_fs.specs.Disk.{Among}
use Rattle.call_fs.specs.Maps.{put}
use Rattle.call_fs.proofs.Maps.{put_cases, put_same}
use Rattle.envelope_records.specs.declared.channel.Record.{Record}
use Rattle.queue_paths.specs.Names.{Part}
use Rattle.queue_paths.specs.Names.Name.{Of}
use Rattle.queue_paths.specs.Names.Part.{Bounce, Info}
use Rattle.queue_paths.specs.Parts.{in_todo}
use Rattle.queue_paths.proofs.Parts.{todo_far, todo_same}
use Rattle.send_core.specs.declared.desk.Desk.{Desk}
use Rattle.send_parts.specs.declared.row.Row.TheVariants as at
use Rattle.send_core.specs.Booked.{reported_all, reported_by, reported_if, reported_in, reported_when}
use Rattle.send_core.specs.Desk.{deferred, due_on, link, told, told_all, told_by, waits, with_reader}
use Rattle.send_core.specs.Turn.{after_take, lost, took}
use Rattle.send_jobs.specs.declared.attempts.Attempt.{Attempt}
use Rattle.send_jobs.specs.declared.attempts.Failure.{Failure}
use Rattle.send_jobs.specs.declared.attempts.Mark.{Mark}
use Rattle.send_jobs.specs.Bookings.{Booking}
use Rattle.send_jobs.specs.Failures.{is_final}
use Rattle.send_known.specs.declared.channel.Channel.{Channel}
use Rattle.send_known.specs.declared.channel.Channel.TheVariants.{Local, Remote}
use Rattle.send_jobs.specs.declared.lane.Lane.{Lane}
use Rattle.send_jobs.specs.Jobs.{job_of}
use Rattle.send_jobs.specs.Lanes.{job_over, left_unmarked, owes, reported}
use Rattle.send_jobs.specs.Sending.{at_lane, lane}
use Rattle.send_jobs.specs.Slots.{attempt_in}
use Rattle.send_known.specs.declared.known.Known.{Known}
use Rattle.send_known.specs.declared.messages.Messages.{Messages}
use Rattle.send_parts.specs.declared.reply.Way.{Way}
use Rattle.send_parts.specs.declared.reply.Way.TheVariants as way
use Rattle.send_parts.specs.Replies.{said}
use Rattle.spawn_protocol.specs.declared.report.Report.{Report}
use Rattle.spawn_protocol.specs.Report.{Reader, counted, read_on}
use Rattle.program_law.specs.Channel.Files.{IsOpen}
use Rattle.program_law.specs.Channel.Tied.{in_hand, is_slot_at}
use Rattle.program_law.specs.Channel.Tied.First.{Unwritten}
use Rattle.program_law.proofs.Channel.Counts.{contained_counts, head_or_tail, not_in_none}
use Rattle.program_law.proofs.Channel.Ties.{at_itself, others_kept}
use Rattle.queue_law.specs.Ledgers.{HasGrown, Ledger, Line, Spot}
use Rattle.queue_law.specs.Books.{Books, Injection, entered_in, spot_in, with_line}
use Rattle.queue_law.specs.Entered.{Child, line_said}
use Rattle.queue_law.specs.Routes.{IsSpot, lane_part, sender_of}
use Rattle.queue_law.specs.Numbers.{Queue, look, About, about, IsPreprocessed, Sound}
use Rattle.queue_law.specs.Rests.{IsClosed}
use Rattle.queue_law.specs.Senders.{HasLane, LineFits, MayEnter, entered_queue}
use Rattle.queue_law.proofs.Growth.{grown_same, line_grows}
use Rattle.queue_law.proofs.Readings.{records_are}
use Rattle.queue_law.proofs.Sends.{entries_keep, lane_there, sorted_of_lane}
use Rattle.program_law.specs.Sender.Views.{files_of, records_at}
use Rattle.program_law.specs.Sender.Knows.{IsEntered, IsKnown, IsReported, IsSettledIn, Serves}
use Rattle.program_law.specs.Sender.Rows.{RowStands, works}
use Rattle.program_law.specs.Sender.Stands.{Stands, SenderStands}
use Rattle.program_law.specs.Sender.Takings.{AllLead, TakingsKeep, booked_queue}
use Rattle.program_law.proofs.Sender.Apart.{apart_lane, fewer_unmarked}
use Rattle.program_law.proofs.Sender.Desks.{OnDesk, on_of, retried_on, stand}
use Rattle.program_law.proofs.Sender.Lanes.{AllServe, OnLane, lane_on, left_on, owed_on}
use Rattle.program_law.proofs.Sender.Others.{the_job}
use Rattle.program_law.proofs.Sender.Texts.{they_are}

pub among_of : {A : Type 0} (xs : List A) (x : A) → Contains xs x → Among x xs
among_of [] x w = absurd (not_in_none x w)
among_of (y ∷ xs) x w = ⊎_elim (λ e. inl (sym e)) (λ more. inr (among_of xs x more)) (head_or_tail y x xs w)

-- Ledgers grow, and nothing else changes but bounce files

pub record Grows (q r : Queue) : Type 0 where
  pub looks : (part : Part) (n : ℕ) → part ≢ Bounce → look r (Of part n) ≡ look q (Of part n)
  pub lives : (n : ℕ) (i : Injection) → q.books.living n ≡ Some i
      → (j : Injection) × (r.books.living n ≡ Some j) × (j.args ≡ i.args) × HasGrown i.ledger j.ledger

-- the injections when a line is entered
pub lines_lives : (b : Books) (n : ℕ) (line : Line) (k : ℕ) (i : Injection) → b.living k ≡ Some i
    → (j : Injection) × ((entered_in b n line).living k ≡ Some j) × (j.args ≡ i.args) × HasGrown i.ledger j.ledger
lines_lives b n line k i e =
    let v : Option Injection = option_map (with_line line) (b.living n) in
    ⊎_elim
    (λ (c : (k ≡ n) × (put b.living n v k ≡ v)).
    let old : b.living n ≡ Some i = ap b.living (sym c.0) ∙ e in
    (with_line line i, c.1 ∙ ap (option_map (with_line line)) old, refl, line_grows line i.ledger))
    (λ (c : (k ≢ n) × (put b.living n v k ≡ b.living k)). (i, c.1 ∙ e, refl, grown_same i.ledger))
    (put_cases b.living n v k)

pub one_grown : (q : Queue) (n : ℕ) (line : Line) → Grows q (entered_queue q n line)
one_grown q n line = record {
  looks = λ part n far. refl;
  lives = λ k i e. lines_lives q.books n line k i e;
}

-- no channel's file is a bounce file
pub lane_bare : (ch : Channel) → lane_part ch ≢ Bounce
lane_bare Local s = cc
lane_bare Remote s = cc

reported_grown : (o : Option Failure) (l m : Ledger) (ch : Channel) (place : ℕ) → HasGrown l m → IsReported o l ch place → IsReported o m ch place
reported_grown None l m ch place g h = g.delivered (record { channel = ch; place = place }) h
reported_grown (Some failure) l m ch place g h = g.failed (record { channel = ch; place = place }) h

module _ (q r : Queue) (g : Grows q r) where
  pub settled_grown : (n : ℕ) (h : IsSettledIn (about q n)) → (k : IsSettledIn (about r n)) × (k.injection.args ≡ h.injection.args)
  settled_grown n h =
      let w = g.lives n h.injection h.lives in (
        record {
          no_todo = todo_same (about q n).parts (about r n).parts (λ part is. g.looks part n (todo_far part Bounce is refl)) ∙ h.no_todo;
          info = h.info;
          info_there = g.looks Info n (λ s. cc) ∙ h.info_there;
          injection = w.0;
          lives = w.1;
        },
        w.2,
      )

  pub known_grown : (k : Known) → IsKnown (about q k.n) k → IsKnown (about r k.n) k
  known_grown k h =
      let s = settled_grown k.n h.sorted in
      record {
        sorted = s.0;
        sender_is = h.sender_is ∙ ap sender_of (sym s.1);
        gone = λ ch e. g.looks (lane_part ch) k.n (lane_bare ch) ∙ h.gone ch e;
      }

  pub serves_grown : (n : ℕ) (ch : Channel) → Serves (about q n) ch → Serves (about r n) ch
  serves_grown n ch h = record { sorted = (settled_grown n h.sorted).0; file = h.file; there = g.looks (lane_part ch) n (lane_bare ch) ∙ h.there }

  pub entered_grown : (n : ℕ) (ch : Channel) (m : Mark) → IsEntered (about q n) ch m → IsEntered (about r n) ch m
  entered_grown n ch m h =
      let w = g.lives n h.injection h.lives in
      record { injection = w.0; lives = w.1; reported = reported_grown m.note h.injection.ledger w.0.ledger ch m.attempt.place w.3 h.reported }

  pub lane_grown : (ch : Channel) (l : Lane) → OnLane q ch l → OnLane r ch l
  lane_grown ch l h = record {
    tied = others_kept (files_of q ch) (files_of r ch) Unwritten l h.tied (λ n _. ap records_at (g.looks (lane_part ch) n (lane_bare ch)));
    jobs = λ n job e. serves_grown n ch (h.jobs n job e);
    marks = All-weaker (λ (m : Mark). IsEntered (about q m.attempt.n) ch m) (λ (m : Mark). IsEntered (about r m.attempt.n) ch m)
        (λ m. entered_grown m.attempt.n ch m) l.marks h.marks;
  }

  pub known_all : (m : Messages) → All (λ (k : Known). IsKnown (about q k.n) k) m.known → All (λ (k : Known). IsKnown (about r k.n) k) m.known
  known_all m h = All-weaker (λ (k : Known). IsKnown (about q k.n) k) (λ (k : Known). IsKnown (about r k.n) k) known_grown m.known h

  pub due_all : (m : Messages) → AllServe q m → AllServe r m
  due_all m h ch = All-weaker (λ (e : ℕ × ℕ). Serves (about q e.1) ch) (λ (e : ℕ × ℕ). Serves (about r e.1) ch) (λ e. serves_grown e.1 ch) (due_on ch m) (h ch)

-- An attempt in flight

inside : (slots : List (Option Attempt)) (slot : ℕ) (a : Attempt) → attempt_in slots slot ≡ Some a → slot < length slots
inside slots slot a there = ⊎_elim
    (λ lt. lt)
    (λ ge. let free : attempt_in slots slot ≡ None = get_or_past slots slot None ge in absurd (cc))
    (cases_lt slot (length slots))

in_slot : (slots : List (Option Attempt)) (slot : ℕ) (a : Attempt) → attempt_in slots slot ≡ Some a → Contains slots (Some a)
in_slot slots slot a there = (slot, inside slots slot a there, get_or_default slots slot (Some a) None (inside slots slot a there) ∙ there)

flies : (q : Queue) (ch : Channel) (l : Lane) → OnLane q ch l → (slot : ℕ) (a : Attempt) → attempt_in l.slots slot ≡ Some a → Serves (about q a.n) ch
flies q ch l h slot a there =
    let one = contained_counts (is_slot_at a.n a.place) l.slots (Some a) (in_slot l.slots slot a there) (at_itself a) in
    let held : 1 ≤ in_hand Unwritten a.n a.place l = omega (arith, one) in
    let job = the_job (job_of a.n l.jobs) (h.tied.owned a.n a.place held) in
    h.jobs a.n job.0 job.1

-- a spot by its two parts
pub spot_same : (s : Spot) (c : Channel) (p : ℕ) → s.channel ≡ c → p ≡ s.place → ◌≡◌ {A = Spot} (record { channel = c; place = p }) s
spot_same s c p e f = ap (λ (d : Channel). record { channel = d; place = p }) (sym e) ∙ ap (λ (k : ℕ). record { channel = s.channel; place = k }) f

-- its record is that of a recipient, of which what was reported may be entered
said_fits : (w : About) (i : Injection) (k : Bool) (s : Spot) → in_todo w.parts ≡ None → IsSpot i.ledger.routes i.args s → LineFits w i (line_said k s)
said_fits w i true s gone at = (gone, at)
said_fits w i false s gone at = (gone, at)

may_enter : (q : Queue) (ch : Channel) (l : Lane) → Sound q → OnLane q ch l
    → (slot : ℕ) (a : Attempt) (k : Bool) → attempt_in l.slots slot ≡ Some a → MayEnter (about q a.n) (line_said k (record { channel = ch; place = a.place }))
may_enter q ch l G h slot a k there =
    let serves = flies q ch l h slot a there in
    let unmarked : IsOpen (files_of q ch) a = subst (λ s. IfSome s (IsOpen (files_of q ch))) there (h.tied.in_flight slot None (inside l.slots slot a there)) in
    let lane : HasLane (about q a.n) ch = record {
      no_todo = serves.sorted.no_todo;
      file = serves.file;
      there = serves.there;
      injection = serves.sorted.injection;
      lives = serves.sorted.lives;
    } in
    let pre : IsPreprocessed (about q a.n) = sorted_of_lane (about q a.n) ch (G.fine a.n) lane in
    let i : Injection = pre.taken.injection in
    let marked = lane_there (about q a.n) i ch serves.file serves.there (pre.lanes ch) in
    let read = sym (ap records_at serves.there) ∙ unmarked.there in
    let are = they_are serves.file.file.bytes unmarked.records read in
    let of = records_are i ch serves.file.file.bytes unmarked.records pre.no_nul pre.taken.valid pre.taken.spots marked.present are in
    let it : Record = record { done = false; place = a.place; address = a.address } in
    let one = of.each it (among_of unmarked.records it unmarked.reads) in
    let at_place : a.place ≡ (spot_in i one.0).place = one.1.place_is in
    let same : ◌≡◌ {A = Spot} (record { channel = ch; place = a.place }) (spot_in i one.0) = spot_same (spot_in i one.0) ch a.place one.1.on at_place in
    record {
      mess = pre.taken.mess;
      there = pre.taken.mess_there;
      injection = i;
      lives = pre.taken.lives;
      accepted = pre.taken.accepted;
      fits = said_fits (about q a.n) i k (record { channel = ch; place = a.place }) pre.no_todo (one.0, same);
    }

-- What a report leads to, over a queue

deferred_on : (q : Queue) (c : Channel) (slot : ℕ) (a : Attempt) (d : Desk) → OnDesk q d → attempt_in (lane c d.slots).slots slot ≡ Some a
    → OnDesk q (deferred c a.n (record d { slots = at_lane c (reported slot) d.slots }))
deferred_on q Local slot a d h there =
    let after : Desk = record d { slots = at_lane Local (left_unmarked a.n) (at_lane Local (reported slot) d.slots) } in
    let f : Lane → Lane = λ l. left_unmarked a.n (reported slot l) in
    let on : OnDesk q after = record { known = h.known; due = h.due; no_nul = h.no_nul; lanes = lane_on q Local f d.slots h.lanes (left_on q Local d.slots.local (h.lanes Local) slot a there); apart = apart_lane Local f d.book.messages d.slots (fewer_unmarked a.n d.slots.local.jobs) h.apart } in
    retried_on q Local a.n (job_over a.n after.slots.local) after refl on
deferred_on q Remote slot a d h there =
    let after : Desk = record d { slots = at_lane Remote (left_unmarked a.n) (at_lane Remote (reported slot) d.slots) } in
    let f : Lane → Lane = λ l. left_unmarked a.n (reported slot l) in
    let on : OnDesk q after = record { known = h.known; due = h.due; no_nul = h.no_nul; lanes = lane_on q Remote f d.slots h.lanes (left_on q Remote d.slots.remote (h.lanes Remote) slot a there); apart = apart_lane Remote f d.book.messages d.slots (fewer_unmarked a.n d.slots.remote.jobs) h.apart } in
    retried_on q Remote a.n (job_over a.n after.slots.remote) after refl on

waits_on : (q : Queue) (c : Channel) (slot : ℕ) (m : Mark) (d : Desk) → OnDesk q d → attempt_in (lane c d.slots).slots slot ≡ Some m.attempt
    → IsEntered (about q m.attempt.n) c m → OnDesk q (waits c m.attempt m.note (record d { slots = at_lane c (reported slot) d.slots }))
waits_on q Local slot m d h there entered =
    let f : Lane → Lane = λ l. owes m (reported slot l) in
    record { known = h.known; due = h.due; no_nul = h.no_nul; lanes = lane_on q Local f d.slots h.lanes (owed_on q Local d.slots.local (h.lanes Local) slot m.attempt m there refl entered); apart = apart_lane Local f d.book.messages d.slots (λ n some. some) h.apart }
waits_on q Remote slot m d h there entered =
    let f : Lane → Lane = λ l. owes m (reported slot l) in
    record { known = h.known; due = h.due; no_nul = h.no_nul; lanes = lane_on q Remote f d.slots h.lanes (owed_on q Remote d.slots.remote (h.lanes Remote) slot m.attempt m there refl entered); apart = apart_lane Remote f d.book.messages d.slots (λ n some. some) h.apart }

module _ (now : ℕ) (a : List ℕ) (child : Option Child) (by : Controls) where
  -- what the entries es lead to from q, and where the desk is after them
  pub record Steps (es : List Booking) (q : Queue) (next : Desk) : Type 0 where
    pub lead : AllLead now a child by es q
    pub sound : Sound (booked_queue child by es q)
    pub on : OnDesk (booked_queue child by es q) next

  -- so it is of those that are left, from each queue that fits this desk
  abbrev Later : List Booking → Desk → Desk → Type 0
  Later es d last = (r : Queue) → Sound r → OnDesk r d → Steps es r last

  -- what is noted of a report
  abbrev note_if : Bool → Failure → Option Failure
  note_if k failure = if k then None else Some failure

  if_room : (q : Queue) (c : Channel) (slot : ℕ) (m : Mark) (d : Desk) (b : Bool) → OnDesk q d → attempt_in (lane c d.slots).slots slot ≡ Some m.attempt
      → IsEntered (about q m.attempt.n) c m
      → OnDesk q (if b then waits c m.attempt m.note (record d { slots = at_lane c (reported slot) d.slots }) else deferred c m.attempt.n (record d { slots = at_lane c (reported slot) d.slots }))
  if_room q c slot m d true h there entered = waits_on q c slot m d h there entered
  if_room q c slot m d false h there entered = deferred_on q c slot m.attempt d h there

  -- the line that was entered is what was reported
  said_so : (q : Queue) (c : Channel) (t : Attempt) (k : Bool) (failure : Failure) (i : Injection)
      → (entered_queue q t.n (line_said k (record { channel = c; place = t.place }))).books.living t.n ≡ Some (with_line (line_said k (record { channel = c; place = t.place })) i)
      → IsEntered (about (entered_queue q t.n (line_said k (record { channel = c; place = t.place }))) t.n) c (record { attempt = t; note = note_if k failure })
  said_so q c t true failure i lives = record { injection = with_line (line_said true (record { channel = c; place = t.place })) i; lives = lives; reported = inl refl }
  said_so q c t false failure i lives = record { injection = with_line (line_said false (record { channel = c; place = t.place })) i; lives = lives; reported = inl refl }

  abbrev Settled : Channel → ℕ → Attempt → Bool → Bool → Failure → Desk → Desk
  Settled c slot t b k failure d =
      let next : Desk = record d { slots = at_lane c (reported slot) d.slots } in
      if b && nat_lt (length (lane c next.slots).marks) 120 then waits c t (note_if k failure) next else deferred c t.n next

  settled_on : (q : Queue) (c : Channel) (slot : ℕ) (t : Attempt) (d : Desk) (b k : Bool) (failure : Failure) (es : List Booking) (last : Desk) → Sound q → OnDesk q d
      → attempt_in (lane c d.slots).slots slot ≡ Some t → Later es (Settled c slot t b k failure d) last → Steps (reported_if b k c t es) q last
  settled_on q c slot t d true k failure es last G h there later =
      let s : Spot = record { channel = c; place = t.place } in
      let line : Line = line_said k s in
      let may = may_enter q c (lane c d.slots) G (h.lanes c) slot t k there in
      let r : Queue = entered_queue q t.n line in
      let leads = entries_keep now q a G t.n line may in
      let closed : IsClosed now q t.n = record { mess = may.mess; there = may.there; shut = inr (record { injection = may.injection; lives = may.lives; accepted = may.accepted }) } in
      let g = one_grown q t.n line in
      let on : OnDesk r d = record { known = known_all q r g d.book.messages h.known; due = due_all q r g d.book.messages h.due; no_nul = h.no_nul; lanes = λ ch. lane_grown q r g ch (lane ch d.slots) (h.lanes ch); apart = h.apart } in
      let v : Option Injection = option_map (with_line line) (q.books.living t.n) in
      let lives : r.books.living t.n ≡ Some (with_line line may.injection) = put_same q.books.living t.n v ∙ ap (option_map (with_line line)) may.lives in
      let m : Mark = record { attempt = t; note = note_if k failure } in
      let more = later r leads.sound (if_room r c slot m d (nat_lt (length (lane c (at_lane c (reported slot) d.slots)).marks) 120) on there (said_so q c t k failure may.injection lives)) in
      record { lead = (closed, leads, more.lead); sound = more.sound; on = more.on }
  settled_on q c slot t d false k failure es last G h there later = later q G (deferred_on q c slot t d h there)

  told_on : (q : Queue) (c : Channel) (r : Report) (d : Desk) (o : Option Attempt) (es : List Booking) (last : Desk) → attempt_in (lane c d.slots).slots r.slot ≡ o
      → Sound q → OnDesk q d → Later es (told_by o c r d) last → Steps (reported_by o c r es) q last
  told_on q c r d None es last e G h later = later q G h
  told_on q c r d (Some t) es last e G h later =
      settled_on q c r.slot t d (is_final (counted r.letter) t.dying) (counted r.letter == 75) (record { report = r.text; is_late = not (counted r.letter == 68) }) es last G h e later

  told_all_on : (c : Channel) (rs : List Report) (d : Desk) (q : Queue) → Sound q → OnDesk q d → Steps (reported_all c rs d) q (told_all c rs d)
  told_all_on c [] d q G h = record { lead = tt; sound = G; on = h }
  told_all_on c (r ∷ rs) d q G h =
      told_on q c r d (attempt_in (lane c d.slots).slots r.slot) (reported_all c rs (told c r d)) (told_all c rs (told c r d)) refl G h
      (λ z G h. told_all_on c rs (told c r d) z G h)

  with_reader_on : (q : Queue) (c : Channel) (reader : Reader) (d : Desk) → OnDesk q d → OnDesk q (with_reader c reader d)
  with_reader_on q Local reader d h = record { known = h.known; due = h.due; lanes = h.lanes; apart = h.apart; no_nul = h.no_nul }
  with_reader_on q Remote reader d h = record { known = h.known; due = h.due; lanes = h.lanes; apart = h.apart; no_nul = h.no_nul }

  point_rests : (q : Queue) (c : Channel) (d : Desk) → RowStands now q a (at.Turn (after_take c)) d.book d.slots (works d)
  point_rests q Local d = tt
  point_rests q Remote d = tt

  pub lost_on : (q : Queue) (c : Channel) (d : Desk) → OnDesk q d → Stands now q a (lost c) d.book d.slots (works d)
  lost_on q Local d h = stand now q a (at.Ended 82) d (λ ch. refl) h tt
  lost_on q Remote d h = stand now q a (at.Ended 83) d (λ ch. refl) h tt

  pub record Taken (es : List Booking) (q : Queue) (next : Desk) : Type 0 where
    pub lead : AllLead now a child by es q
    pub sound : Sound (booked_queue child by es q)
    pub stands : SenderStands now (booked_queue child by es q) a next

  taken_on : (q : Queue) (c : Channel) (d : Desk) (w : Way) (bytes : List ℕ) → Sound q → OnDesk q d → Taken (reported_when w c bytes d) q (took w bytes c d)
  taken_on q c d way.Fine bytes G h =
      let it = read_on (link c d).reader bytes in
      let all = told_all_on c it.0 (with_reader c it.1 d) q G (with_reader_on q c it.1 d h) in
      let next : Desk = told_all c it.0 (with_reader c it.1 d) in
      let r : Queue = booked_queue child by (reported_in c bytes d) q in
      record {
        lead = all.lead;
        sound = all.sound;
        stands = stand now r a (at.Turn (after_take c)) next (λ ch. refl) all.on (point_rests r c next);
      }
  taken_on q c d way.Over bytes G h = record { lead = tt; sound = G; stands = lost_on q c d h }
  taken_on q c d way.Absent bytes G h = record { lead = tt; sound = G; stands = lost_on q c d h }
  taken_on q c d way.NoMemory bytes G h = record { lead = tt; sound = G; stands = lost_on q c d h }
  taken_on q c d way.Broken bytes G h = record { lead = tt; sound = G; stands = lost_on q c d h }

pub takings : TakingsKeep
takings now a child q c d read came G h =
    let on = on_of now q a (at.TakeLink c) d (record { first = λ ch. refl; controls_read = tt }) (λ n w. w) h in
    let w = taken_on now a child d.book.controls q c d (said came).way (said came).bytes G on in
    record { sound = w.sound; lead = w.lead; stands = w.stands }
