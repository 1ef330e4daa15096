-- By which controls a message is routed and its recipients are named: a ledger has just what the events of its life tell.
use Rattle.std.proofs.Common.{◌≡◌, ◌≢◌, inl, inr, ⊎_elim, ℕ, ◌==◌, List, [], ◌∷◌, Bool, true, false, ◌&&◌, Option, Some, None, option_map, unwrap_or, refl, sym, ap, ◌∙◌, subst, arith, if◌then◌else◌, codes, eqb-true, eq-eqb}
use Rattle.std.specs.Option.{option_and_then, option_map_or, option_or}
use Rattle.std.proofs.lemmas.Bool.{cases_Bool}
use Rattle.std.proofs.lemmas.Slice.Eq.{bytes_eq-Decides}
use Rattle.address_rules.specs.declared.controls.Controls.{Controls}
use Rattle.bounce_record.specs.declared.note_row.NoteRow.{NoteRow}
use Rattle.bounce_record.specs.declared.note_row.NoteRow.TheVariants as written
use Rattle.call_fs.proofs.Maps.{put_cases}
use Rattle.call_fs.specs.Disk.{Among, Disk}
use Rattle.call_fs.specs.Maps.{put}
use Rattle.call_fs.specs.Past.{IsRunBy}
use Rattle.call_fs.specs.declared.calls.CallData.TheVariants as call
use Rattle.call_fs.specs.declared.calls.Fd.{Fd}
use Rattle.call_fs.specs.declared.calls.How.TheVariants as how
use Rattle.call_fs.specs.declared.past.GotData.{GotData}
use Rattle.call_fs.specs.declared.past.GotData.TheVariants as got
use Rattle.call_fs.specs.declared.past.NeedData.{NeedData}
use Rattle.call_fs.specs.declared.past.NeedData.TheVariants as needs
use Rattle.call_fs.specs.declared.past.Own.{Own}
use Rattle.call_fs.specs.declared.program.Port.TheVariants as port
use Rattle.call_fs.specs.declared.program.Ready.{Ready}
use Rattle.program_law.proofs.Sender.Awaits.{gives}
use Rattle.program_law.proofs.Sender.Gone.{lane_name}
use Rattle.program_law.specs.Sender.Stands.{HasControls}
use Rattle.program_law.specs.Sender.Waits.{IsGive, IsPassGive}
use Rattle.queue_clean.specs.Commands.{ended, text_of}
use Rattle.queue_clean.specs.declared.command.Command.{Command}
use Rattle.queue_clean.specs.declared.command.Command.TheVariants.{Foop}
use Rattle.queue_law.proofs.Looks.{mapped_some}
use Rattle.queue_law.proofs.Notes.{same_spot, spot_itself}
use Rattle.queue_law.specs.Books.{Books, Injection, entered_in, with_line}
use Rattle.queue_law.specs.Entered.{Child, booked_all, booked_on, named_by, notes_read}
use Rattle.queue_law.specs.Ledgers.{Ledger, Line, Named, Spot, line_in, unrouted}
use Rattle.queue_law.specs.Ledgers.Line.{Delivers, Drops, Fails, Marks, Notes, Reads, Returns, Routes}
use Rattle.queue_law.specs.Notes.{is_spot, namer}
use Rattle.queue_law.specs.Routes.{lane_part}
use Rattle.queue_paths.proofs.Paths.{path_injective}
use Rattle.queue_paths.specs.Names.{path}
use Rattle.queue_paths.specs.Names.Name.{Of}
use Rattle.send_core.proofs.Runs.{write_opened, write_row}
use Rattle.send_core.specs.Booked.{booked_at, finished_at, if_done, marked_at, noted_at, reported_when, routed_at}
use Rattle.send_core.specs.declared.desk.Desk.{Desk}
use Rattle.send_core.specs.Papers.{controls_told}
use Rattle.send_core.specs.Table.{Next, due_at, place_after as sender_after, row_now}
use Rattle.send_jobs.specs.Bookings.{Booking}
use Rattle.send_jobs.specs.Bookings.Booking.{Dropped, Noted, Overwritten, ReadNotes, Reported, Returned, Routed}
use Rattle.send_known.specs.declared.channel.Channel.{Channel}
use Rattle.send_known.specs.declared.channel.Channel.TheVariants as channel
use Rattle.send_parts.specs.declared.row.MarkRow.{MarkRow}
use Rattle.send_parts.specs.declared.row.MarkRow.TheVariants as mark
use Rattle.send_parts.specs.declared.row.Marked.{Marked}
use Rattle.send_parts.specs.declared.row.Row.{Row}
use Rattle.send_parts.specs.declared.row.Row.TheVariants as at
use Rattle.send_parts.specs.declared.rows.FinishRow.TheVariants as finish
use Rattle.send_parts.specs.declared.rows.SweepRow.TheVariants as sweep
use Rattle.send_parts.specs.Replies.{said}
use Rattle.send_runs.proofs.Knowing.{one_passed}
use Rattle.todo_pass.specs.declared.row.Row.{Row as PassRow}
use Rattle.todo_pass.specs.declared.row.Row.TheVariants as todo
use Rattle.todo_pass.specs.Table.{command_text, due_at as pass_due_at}
use Rattle.world_events.specs.declared.event.Program.{Program}
use Rattle.world_events.specs.declared.event.Program.TheVariants.{Sender}
use Rattle.mail_world.specs.History.{Actor, Allowed, ComesOf, Event, Legal, Life, State, acted, after, books_after, bouncer_of, happens, next_of}
use Rattle.mail_world.specs.History.Event.{Act}
use Rattle.send_runs.proofs.Entries.{IsGiven, each_among, finished_each, done_each, given_at, routed_each, when_each}
use Rattle.world_law.proofs.Lives.{IsNew, Was, controls_in, entries_in, entries_of, event_goes, legal_life}
use Rattle.world_law.proofs.Ran.{have_run}
use Rattle.world_law.proofs.Readings.{read_now}
use Rattle.world_law.specs.Lives.{begun_by, begun_in}
use Rattle.world_law.specs.Routed.{LedgersAreRouted, asked_in, asker, is_marking, is_routing, last_asked, opens_lane, routes_told}

-- Whose mark is the newest of a recipient, if there is one

abbrev marker : List Named → Spot → Option Controls
marker [] s = None
marker (it ∷ earlier) s = if is_spot s it.spot then Some it.by else marker earlier s

pub namer_is : (routes : Controls) (marked : List Named) (s : Spot) → namer routes marked s ≡ unwrap_or (marker marked s) routes
namer_is routes [] s = refl
namer_is routes (it ∷ earlier) s = by (is_spot s it.spot) (namer_is routes earlier s) where
  by : (b : Bool) → namer routes earlier s ≡ unwrap_or (marker earlier s) routes → (if b then it.by else namer routes earlier s) ≡ unwrap_or (if b then Some it.by else marker earlier s) routes
  by true rest = refl
  by false rest = rest

-- What is entered changes routes and marks so

abbrev route_one : Controls → ℕ → Booking → Controls → Controls
route_one by n (Routed m) routes = if m == n then by else routes
route_one by n e routes = routes

abbrev mark_one : Controls → ℕ → Booking → List Named → List Named
mark_one by n (Overwritten c m place) marked = if m == n then named_by by c place ∷ marked else marked
mark_one by n e marked = marked

abbrev route_all : Controls → ℕ → List Booking → Controls → Controls
route_all by n [] routes = routes
route_all by n (e ∷ es) routes = route_all by n es (route_one by n e routes)

abbrev mark_all : Controls → ℕ → List Booking → List Named → List Named
mark_all by n [] marked = marked
mark_all by n (e ∷ es) marked = mark_all by n es (mark_one by n e marked)

abbrev Turns : Controls → ℕ → List Booking → Ledger → Ledger → Type 0
Turns by n es l m = (m.routes ≡ route_all by n es l.routes) × (m.marked ≡ mark_all by n es l.marked)

abbrev Was_before : Controls → Books → ℕ → List Booking → Injection → Type 0
Was_before by b n es j = (i : Injection) × (b.living n ≡ Some i) × Turns by n es i.ledger j.ledger

line_turns : (by : Controls) (e : Booking) (b : Books) (m : ℕ) (y : Line) → ((l : Ledger) → Turns by m (e ∷ []) l (line_in y l)) → ((n : ℕ) → m ≢ n → (l : Ledger) → Turns by n (e ∷ []) l l)
    → (n : ℕ) (j : Injection) → (entered_in b m y).living n ≡ Some j → Was_before by b n (e ∷ []) j
line_turns by e b m y here far n j is = ⊎_elim
    (λ (c : (n ≡ m) × (put b.living m (option_map (with_line y) (b.living m)) n ≡ (option_map (with_line y) (b.living m)))).
    let w = mapped_some (with_line y) (b.living m) j (sym c.1 ∙ is) in (
      w.0,
      ap b.living c.0 ∙ w.1,
      subst (λ (k : ℕ). Turns by k (e ∷ []) w.0.ledger j.ledger) (sym c.0) (subst (λ (k : Injection). Turns by m (e ∷ []) w.0.ledger k.ledger) w.2 (here w.0.ledger)),
    ))
    (λ (c : (n ≢ m) × (put b.living m (option_map (with_line y) (b.living m)) n ≡ b.living n)). (j, sym c.1 ∙ is, far n (λ e. c.0 (sym e)) j.ledger))
    (put_cases b.living m (option_map (with_line y) (b.living m)) n)

same_number : (m : ℕ) → (m == m) ≡ true
same_number m = eq-eqb m m refl

other_number : (m n : ℕ) → m ≢ n → (m == n) ≡ false
other_number m n far = ⊎_elim
    (λ (is : (m == n) ≡ true). absurd (far (eqb-true m n is)))
    (λ (not : (m == n) ≡ false). not)
    (cases_Bool (m == n))

one_turns : (child : Option Child) (by : Controls) (e : Booking) (b : Books) (n : ℕ) (j : Injection) → (booked_on child by e b).living n ≡ Some j → Was_before by b n (e ∷ []) j
one_turns child by (Routed m) b = line_turns by (Routed m) b m (Routes by)
    (λ l. (sym (ap (λ (z : Bool). if z then by else l.routes) (same_number m)), refl))
    (λ n far l. (sym (ap (λ (z : Bool). if z then by else l.routes) (other_number m n far)), refl))
one_turns child by (Reported true c m place) b = line_turns by (Reported true c m place) b m (Delivers (record { channel = c; place = place })) (λ l. (refl, refl)) (λ n far l. (refl, refl))
one_turns child by (Reported false c m place) b = line_turns by (Reported false c m place) b m (Fails (record { channel = c; place = place })) (λ l. (refl, refl)) (λ n far l. (refl, refl))
one_turns child by (Noted c m place) b = line_turns by (Noted c m place) b m (Notes (named_by by c place)) (λ l. (refl, refl)) (λ n far l. (refl, refl))
one_turns child by (Overwritten c m place) b = line_turns by (Overwritten c m place) b m (Marks (named_by by c place))
    (λ l. (refl, sym (ap (λ (z : Bool). if z then named_by by c place ∷ l.marked else l.marked) (same_number m))))
    (λ n far l. (refl, sym (ap (λ (z : Bool). if z then named_by by c place ∷ l.marked else l.marked) (other_number m n far))))
one_turns child by (ReadNotes m notes) b = line_turns by (ReadNotes m notes) b m (Reads (record { notes = notes; by = by })) (λ l. (refl, refl)) (λ n far l. (refl, refl))
one_turns child by (Dropped m) b = line_turns by (Dropped m) b m Drops (λ l. (refl, refl)) (λ n far l. (refl, refl))
one_turns None by (Returned m) b = λ n j is. (j, is, (refl, refl))
one_turns (Some c) by (Returned m) b = line_turns by (Returned m) b m (Returns (record { actor = c.actor; args = c.args; read = notes_read (b.living m) })) (λ l. (refl, refl)) (λ n far l. (refl, refl))

all_turns : (child : Option Child) (by : Controls) (es : List Booking) (b : Books) (n : ℕ) (j : Injection) → (booked_all child by es b).living n ≡ Some j → Was_before by b n es j
all_turns child by [] b n j is = (j, is, (refl, refl))
all_turns child by (e ∷ es) b n j is =
    let v = all_turns child by es (booked_on child by e b) n j is in
    let w = one_turns child by e b n v.0 v.1 in
    (w.0, w.1, (v.2.0 ∙ ap (route_all by n es) w.2.0, v.2.1 ∙ ap (mark_all by n es) w.2.1))

-- What isn't entered changes nothing

route_none : (by : Controls) (n : ℕ) (es : List Booking) → (Among (Routed n) es → ⊥) → (routes : Controls) → route_all by n es routes ≡ routes
route_none by n [] none routes = refl
route_none by n (e ∷ es) none routes =
    ap (route_all by n es) (first e (λ same. none (inl same)) routes) ∙ route_none by n es (λ more. none (inr more)) routes
  where
    first : (x : Booking) → (Routed n ≡ x → ⊥) → (r : Controls) → route_one by n x r ≡ r
    first (Routed m) apart r = ap (λ (z : Bool). if z then by else r) (other_number m n (λ same. apart (ap Routed (sym same))))
    first x apart r = refl

mark_none : (by : Controls) (n : ℕ) (s : Spot) (es : List Booking) → (Among (Overwritten s.channel n s.place) es → ⊥) → (marked : List Named)
    → marker (mark_all by n es marked) s ≡ marker marked s
mark_none by n s [] none marked = refl
mark_none by n s (e ∷ es) none marked =
    mark_none by n s es (λ more. none (inr more)) (mark_one by n e marked) ∙ first e (λ same. none (inl same)) marked
  where
    first : (x : Booking) → (Overwritten s.channel n s.place ≡ x → ⊥) → (l : List Named) → marker (mark_one by n x l) s ≡ marker l s
    first (Overwritten c m place) apart l = ⊎_elim
        (λ (is : (m == n) ≡ true).
        let number : n ≡ m = sym (eqb-true m n is) in
        ap (λ (z : Bool). marker (if z then named_by by c place ∷ l else l) s) is ∙ other number)
        (λ (not : (m == n) ≡ false). ap (λ (z : Bool). marker (if z then named_by by c place ∷ l else l) s) not)
        (cases_Bool (m == n))
      where
        other : n ≡ m → (if is_spot s (record { channel = c; place = place }) then Some by else marker l s) ≡ marker l s
        other number = ⊎_elim
            (λ (is : is_spot s (record { channel = c; place = place }) ≡ true). let w = same_spot s (record { channel = c; place = place }) is in absurd (apart (λ k. Overwritten (w.0 k) (number k) (w.1 k))))
            (λ (not : is_spot s (record { channel = c; place = place }) ≡ false). ap (λ (z : Bool). if z then Some by else marker l s) not)
            (cases_Bool (is_spot s (record { channel = c; place = place })))
    first x apart l = refl

-- Which row gives and which writes over

routing_due : (n : ℕ) (past : List Own) (due : NeedData) → is_routing n past due ≡ true → due ≡ needs.Give port.Clean (command_text n)
routing_due n past (needs.Give port.Clean text) e = ap (needs.Give port.Clean) ((bytes_eq-Decides text (command_text n)).0 e)
routing_due n past due e = absurd (cc)

abbrev first_of : List ℕ → ℕ
first_of [] = 0
first_of (x ∷ xs) = x

foop_apart : (m n : ℕ) → command_text n ≡ ended (text_of (Foop m)) → ⊥
foop_apart m n e = let heads : 116 ≡ 102 = ap first_of e in omega (arith, heads)

row_gives : (row : Row) (d : Desk) (n : ℕ) (c : Command) → IsGive row d.pass c → command_text n ≡ ended (text_of c) → IsGiven row d n
row_gives at.InTodo d n c is same = by d.pass.row d.pass.n refl refl is where
  by : (r : PassRow) (m : ℕ) → d.pass.row ≡ r → d.pass.n ≡ m → IsPassGive r m c → IsGiven at.InTodo d n
  by todo.Give m row_is number_is it = record {
    row_is = refl;
    gives = row_is;
    number_is = one_passed n m (same ∙ ap (λ (z : Command). ended (text_of z)) it) ∙ sym number_is;
  }
  by r m row_is number_is it = absurd it
row_gives (at.Finish finish.Give m) d n c is same = absurd (foop_apart m n (same ∙ ap (λ (z : Command). ended (text_of z)) is))
row_gives (at.Sweep (sweep.Give split m)) d n c is same = absurd (foop_apart m n (same ∙ ap (λ (z : Command). ended (text_of z)) is))
row_gives row d n c is same = absurd is

-- not a mark
abbrev IsElse : Booking → Type 0
IsElse (Overwritten c n place) = ⊥
IsElse e = Unit {0}

abbrev IsWrite : Row → Channel → ℕ → ℕ → Type 0
IsWrite row c n place = (fd : Fd) × (row ≡ at.Mark (mark.Write fd) (record { channel = c; n = n; place = place }))

none_noted : (row : NoteRow) (m : Marked) (came : GotData) (c : Channel) (n place : ℕ) → Among (Overwritten c n place) (noted_at row m came) → ⊥
none_noted (written.Sync fd) m came c n place h =
    each_among IsElse (if_done came (Noted m.channel m.n m.place)) (Overwritten c n place) (done_each IsElse came (Noted m.channel m.n m.place) tt) h
none_noted row m came c n place h = h

mark_writes : (row : MarkRow) (m : Marked) (came : GotData) (d : Desk) (c : Channel) (n place : ℕ) → Among (Overwritten c n place) (marked_at row m d.note.row came) → IsWrite (at.Mark row m) c n place
mark_writes (mark.Write fd) m came d c n place h = ⊎_elim
    (λ (same : Overwritten c n place ≡ Overwritten m.channel m.n m.place).
    let channel : m.channel ≡ c = cc in
    let number : m.n ≡ n = cc in
    let at_place : m.place ≡ place = cc in
    (fd, λ k. at.Mark (mark.Write fd) (record { channel = channel k; n = number k; place = at_place k })))
    (λ (none : ⊥). absurd none)
    h
mark_writes mark.Noting m came d c n place h = absurd (none_noted d.note.row m came c n place h)
mark_writes row m came d c n place h = absurd h

written_at : (row : Row) (came : GotData) (d : Desk) (c : Channel) (n place : ℕ) → Among (Overwritten c n place) (booked_at row came d) → IsWrite row c n place
written_at at.InTodo came d c n place h = absurd (each_among IsElse (routed_at d.pass.row d.pass.n) (Overwritten c n place) (routed_each IsElse (λ k. tt) d.pass.row d.pass.n) h)
written_at (at.TakeLink l) came d c n place h =
    absurd (each_among IsElse (reported_when (said came).way l (said came).bytes d) (Overwritten c n place) (when_each IsElse (λ delivered k m p. tt) (said came).way l (said came).bytes d) h)
written_at (at.Mark row m) came d c n place h = mark_writes row m came d c n place h
written_at (at.Finish row m) came d c n place h =
    absurd (each_among IsElse (finished_at row m d.bounce.row d.bounce.notes came) (Overwritten c n place)
    (finished_each IsElse (λ k notes. tt) (λ k. tt) (λ k. tt) row m d.bounce.row d.bounce.notes came) h)
written_at row came d c n place h = absurd h

record IsMarking (n : ℕ) (s : Spot) (past : List Own) (due : NeedData) : Type 0 where
  opened : Own
  before : List Own
  newest : past ≡ opened ∷ before
  fd : Fd
  place : ℕ
  bytes : List ℕ
  due_is : due ≡ needs.File (call.WriteAt fd place bytes)
  opens : opens_lane n s.channel opened.due ≡ true
  at_place : place ≡ s.place

and_both : (x y : Bool) → (x && y) ≡ true → (x ≡ true) × (y ≡ true)
and_both true true e = (refl, refl)
and_both true false e = absurd (cc)
and_both false y e = absurd (cc)

marking_due : (n : ℕ) (s : Spot) (past : List Own) (due : NeedData) → is_marking n s past due ≡ true → IsMarking n s past due
marking_due n s (opened ∷ before) (needs.File (call.WriteAt fd place bytes)) e =
    let both = and_both (opens_lane n s.channel opened.due) (place == s.place) e in
    record {
      opened = opened;
      before = before;
      newest = refl;
      fd = fd;
      place = place;
      bytes = bytes;
      due_is = refl;
      opens = both.0;
      at_place = eqb-true place s.place both.1;
    }
marking_due n s past due e = absurd (cc)

opening_due : (n : ℕ) (ch : Channel) (due : NeedData) → opens_lane n ch due ≡ true → due ≡ needs.File (call.Open (path (Of (lane_part ch) n)) how.Write)
opening_due n ch (needs.File (call.Open name how.Write)) e = ap (λ (x : List ℕ). needs.File (call.Open x how.Write)) ((bytes_eq-Decides name (path (Of (lane_part ch) n))).0 e)
opening_due n ch due e = absurd (cc)

same_lane : (c k : Channel) (n m : ℕ) → Of (lane_part c) n ≡ Of (lane_part k) m → (c ≡ k) × (n ≡ m)
same_lane channel.Local channel.Local n m e = (refl, cc)
same_lane channel.Remote channel.Remote n m e = (refl, cc)
same_lane channel.Local channel.Remote n m e = absurd (cc)
same_lane channel.Remote channel.Local n m e = absurd (cc)

same_text : (n m : List ℕ) (h : NeedData) → h ≡ needs.File (call.Open n how.Write) → h ≡ needs.File (call.Open m how.Write) → n ≡ m
same_text n m h one two = let both : needs.File (call.Open n how.Write) ≡ needs.File (call.Open m how.Write) = sym one ∙ two in cc

same_head : (a b : Own) (x y past : List Own) → past ≡ a ∷ x → past ≡ b ∷ y → a ≡ b
same_head a b x y past one two = let both : a ∷ x ≡ b ∷ y = sym one ∙ two in cc

not_both : (b : Bool) → b ≡ true → b ≡ false → ⊥
not_both true one two = absurd (cc)
not_both false one two = absurd (cc)

-- What a sender asks for is what it enters

module _ (start : ℕ) (past : List Own) (run : IsRunBy (Next None) past) (read : ℕ) (ready : Ready) (due : NeedData) (came : GotData) where
  abbrev d : Desk
  d = sender_after None past

  abbrev row : Row
  row = row_now d read ready

  abbrev by : Controls
  by = d.book.controls

  abbrev es : List Booking
  es = booked_at row came d

  module _ (is : due_at row d ≡ due) where
    given_due : (n : ℕ) → IsGiven row d n → is_routing n past due ≡ true
    given_due n g =
        let gives_it : due ≡ needs.Give port.Clean (command_text n) = sym is ∙ ap (λ (r : Row). due_at r d) g.row_is ∙ ap (λ (r : PassRow). pass_due_at r d.pass) g.gives
        ∙ ap (λ (k : ℕ). needs.Give port.Clean (command_text k)) (sym g.number_is) in
        ap (is_routing n past) gives_it ∙ (bytes_eq-Decides (command_text n) (command_text n)).1 refl

    routes_ask : (n : ℕ) (routes : Controls) → route_all by n es routes ≡ unwrap_or (asker (is_routing n) (Sender start) past due) routes
    routes_ask n routes = ⊎_elim
        (λ (t : is_routing n past due ≡ true).
        let gives_it : due_at row d ≡ needs.Give port.Clean (command_text n) = is ∙ routing_due n past due t in
        let G = gives d row (command_text n) gives_it in
        let g = row_gives row d n G.command G.is G.text_is in
        let entered : es ≡ Routed n ∷ [] = ap (λ (r : Row). booked_at r came d) g.row_is ∙ ap (λ (r : PassRow). routed_at r d.pass.n) g.gives
        ∙ ap (λ (k : ℕ). Routed k ∷ []) (sym g.number_is) in
        ap (λ (l : List Booking). route_all by n l routes) entered
        ∙ ap (λ (z : Bool). if z then by else routes) (same_number n)
        ∙ read_now past run read ready (subst HasControls (sym g.row_is) tt)
        ∙ sym (ap (λ (z : Bool). unwrap_or (if z then Some (controls_told past) else None) routes) t))
        (λ (f : is_routing n past due ≡ false).
        route_none by n es (λ among. not_both (is_routing n past due) (given_due n (given_at row came d n among)) f) routes
        ∙ sym (ap (λ (z : Bool). unwrap_or (if z then Some (controls_told past) else None) routes) f))
        (cases_Bool (is_routing n past due))

    written_due : (n : ℕ) (s : Spot) → IsWrite row s.channel n s.place → is_marking n s past due ≡ true
    written_due n s w =
        let m : Marked = record { channel = s.channel; n = n; place = s.place } in
        let o = write_opened None past read ready run w.0 m w.1 in
        let writes_it : due ≡ needs.File (call.WriteAt w.0 s.place (codes "D")) = sym is ∙ ap (λ (r : Row). due_at r d) w.1 in
        let opens_it : o.event.due ≡ needs.File (call.Open (path (Of (lane_part s.channel) n)) how.Write) =
        o.due ∙ ap (λ (x : List ℕ). needs.File (call.Open x how.Write)) (o.names ∙ lane_name s.channel n) in
        let text = path (Of (lane_part s.channel) n) in
        let opens : opens_lane n s.channel o.event.due ≡ true = ap (opens_lane n s.channel) opens_it ∙ (bytes_eq-Decides text text).1 refl in
        ap (λ (p : List Own). is_marking n s p due) o.newest ∙ ap (is_marking n s (o.event ∷ o.before)) writes_it
        ∙ ap (λ (z : Bool). z && (s.place == s.place)) opens ∙ same_number s.place

    marks_ask : (n : ℕ) (s : Spot) (marked : List Named) → marker (mark_all by n es marked) s ≡ option_or (asker (is_marking n s) (Sender start) past due) (marker marked s)
    marks_ask n s marked = ⊎_elim
        (λ (t : is_marking n s past due ≡ true).
        let M = marking_due n s past due t in
        let w = write_row None past read ready run M.fd M.place M.bytes (is ∙ M.due_is) in
        let o = write_opened None past read ready run M.fd w.0 w.1 in
        let same : M.opened ≡ o.event = same_head M.opened o.event M.before o.before past M.newest o.newest in
        let text : path (Of (lane_part s.channel) n) ≡ o.name = same_text (path (Of (lane_part s.channel) n)) o.name M.opened.due (opening_due n s.channel M.opened.due M.opens)
        (ap (λ (x : Own). x.due) same ∙ o.due) in
        let lane = same_lane s.channel w.0.channel n w.0.n (path_injective (Of (lane_part s.channel) n) (Of (lane_part w.0.channel) w.0.n) (text ∙ o.names ∙ lane_name w.0.channel w.0.n)) in
        let place : s.place ≡ w.0.place = sym M.at_place ∙ w.2 in
        let entered : es ≡ Overwritten s.channel n s.place ∷ [] = ap (λ (r : Row). booked_at r came d) w.1 ∙ sym (λ k. Overwritten (lane.0 k) (lane.1 k) (place k) ∷ []) in
        ap (λ (l : List Booking). marker (mark_all by n l marked) s) entered
        ∙ ap (λ (z : Bool). marker (if z then named_by by s.channel s.place ∷ marked else marked) s) (same_number n)
        ∙ ap (λ (z : Bool). if z then Some by else marker marked s) (spot_itself s)
        ∙ ap Some (read_now past run read ready (subst HasControls (sym w.1) tt))
        ∙ sym (ap (λ (z : Bool). option_or (if z then Some (controls_told past) else None) (marker marked s)) t))
        (λ (f : is_marking n s past due ≡ false).
        mark_none by n s es (λ among. not_both (is_marking n s past due) (written_due n s (written_at row came d s.channel n s.place among)) f) marked
        ∙ sym (ap (λ (z : Bool). option_or (if z then Some (controls_told past) else None) (marker marked s)) f))
        (cases_Bool (is_marking n s past due))

-- So at each event

abbrev Asked : (n : ℕ) → ((List Own → NeedData → Bool) → Option Controls) → Ledger → Ledger → Type 0
Asked n asked l m = (m.routes ≡ unwrap_or (asked (is_routing n)) l.routes) × ((s : Spot) → marker m.marked s ≡ option_or (asked (is_marking n s)) (marker l.marked s))

abbrev WasAsked : Books → ℕ → ((List Own → NeedData → Bool) → Option Controls) → Injection → Type 0
WasAsked b n asked j = (i : Injection) × (b.living n ≡ Some i) × Asked n asked i.ledger j.ledger

no_mark : (n : ℕ) (s : Spot) (past : List Own) (due : NeedData) → ((fd : Fd) (place : ℕ) (bytes : List ℕ) → due ≡ needs.File (call.WriteAt fd place bytes) → ⊥) → is_marking n s past due ≡ false
no_mark n s past due none = ⊎_elim
    (λ (t : is_marking n s past due ≡ true). let M = marking_due n s past due t in absurd (none M.fd M.place M.bytes M.due_is))
    (λ (f : is_marking n s past due ≡ false). f)
    (cases_Bool (is_marking n s past due))

-- where nothing is entered nothing of it is due
none_asked : (start n : ℕ) (past : List Own) (due : NeedData) (b : Books) (j : Injection) → b.living n ≡ Some j
    → ((text : List ℕ) → due ≡ needs.Give port.Clean text → ⊥) → ((fd : Fd) (place : ℕ) (bytes : List ℕ) → due ≡ needs.File (call.WriteAt fd place bytes) → ⊥)
    → WasAsked b n (λ such. asker such (Sender start) past due) j
none_asked start n past due b j is given written = (
  j,
  is,
  (
    ⊎_elim
        (λ (t : is_routing n past due ≡ true). absurd (given (command_text n) (routing_due n past due t)))
        (λ (f : is_routing n past due ≡ false). sym (ap (λ (z : Bool). unwrap_or (if z then Some (controls_told past) else None) j.ledger.routes) f))
        (cases_Bool (is_routing n past due)),
    λ s. sym (ap (λ (z : Bool). option_or (if z then Some (controls_told past) else None) (marker j.ledger.marked s)) (no_mark n s past due written)),
  ),
)

sends : (s : State) (child : Option Child) (b : Books) (a : List ℕ) (start : ℕ) (past : List Own) → IsRunBy (Next None) past → (read : ℕ) (ready : Ready) (due : NeedData) (came : GotData) (wrote : ℕ)
    → ComesOf s a due came wrote → next_of (Sender start) past read ready ≡ due → (n : ℕ) (j : Injection)
    → (books_after child b a (Sender start) past read ready due came).living n ≡ Some j → WasAsked b n (λ such. asker such (Sender start) past due) j
sends s child b a start past run read ready due came wrote comes is n j lives = by due came comes is lives where
  entered : (due : NeedData) (came : GotData) → next_of (Sender start) past read ready ≡ due
      → (booked_all child (sender_after None past).book.controls (booked_at (row_now (sender_after None past) read ready) came (sender_after None past)) b).living n ≡ Some j
      → WasAsked b n (λ such. asker such (Sender start) past due) j
  entered due came is lives =
      let w = all_turns child (sender_after None past).book.controls (booked_at (row_now (sender_after None past) read ready) came (sender_after None past)) b n j lives in
      (w.0, w.1, (w.2.0 ∙ routes_ask start past run read ready due came is n w.0.ledger.routes, λ s. ap (λ (l : List Named). marker l s) w.2.1 ∙ marks_ask start past run read ready due came is n s w.0.ledger.marked))

  by : (due : NeedData) (came : GotData) → ComesOf s a due came wrote → next_of (Sender start) past read ready ≡ due
      → (books_after child b a (Sender start) past read ready due came).living n ≡ Some j → WasAsked b n (λ such. asker such (Sender start) past due) j
  by (needs.File c) (got.Answered told) comes is lives = entered (needs.File c) (got.Answered told) is lives
  by (needs.Take p) came comes is lives = entered (needs.Take p) came is lives
  by (needs.Give p bytes) came comes is lives = entered (needs.Give p bytes) came is lives
  by (needs.File c) came comes is lives = absurd comes
  by due came comes is lives = none_asked start n past due b j lives (λ text e. absurd (cc)) (λ fd place bytes e. absurd (cc))

-- an event that isn't a sender's
abbrev asked_at : State → Event → (List Own → NeedData → Bool) → Option Controls
asked_at s e such = asked_in such s e

module _ (dd : Disk) (h : List Event) (e : Event) (legal : Legal dd (e ∷ h)) (n : ℕ) (j : Injection) (lives : (after dd (e ∷ h)).books.living n ≡ Some j) where
  abbrev st : State
  st = after dd h

  abbrev WasOld : Type 0
  WasOld = Was (controls_in st e) st.books (begun_in st e) (entries_in st e) n j

  quiet : WasOld → entries_in st e ≡ [] → ((such : List Own → NeedData → Bool) → asked_in such st e ≡ None) → WasAsked st.books n (asked_at st e) j
  quiet old none asks =
      let w = old.1 in
      let same : j.ledger ≡ w.0.ledger = w.5 none in (
        w.0,
        w.1,
        (
          ap (λ (l : Ledger). l.routes) same ∙ sym (ap (λ (o : Option Controls). unwrap_or o w.0.ledger.routes) (asks (is_routing n))),
          λ s. ap (λ (l : Ledger). marker l.marked s) same ∙ sym (ap (λ (o : Option Controls). option_or o (marker w.0.ledger.marked s)) (asks (is_marking n s))),
        ),
      )

  -- an event of an actor
  acts : (a : List ℕ) (own : Own) (wrote : ℕ) → (program : Program) (past : List Own) (life : Life) → st.actors a ≡ Some (record { program = program; past = past; life = life })
      → IsRunBy (next_of program) past → next_of program past own.read own.ready ≡ own.due → ComesOf st a own.due own.came wrote → e ≡ Act a own wrote → WasOld
      → WasAsked st.books n (asked_at st e) j
  acts a own wrote (Sender start) past life is run due comes it old =
      let x : Actor = record { program = Sender start; past = past; life = life } in
      let there : (acted st a own wrote (Some x)).books.living n ≡ Some j =
      ap (λ (o : Option Actor). (acted st a own wrote o).books.living n) (sym is) ∙ ap (λ (z : Event). (happens st z).books.living n) (sym it) ∙ lives in
      let w = sends st (bouncer_of st a) st.books a start past run own.read own.ready own.due own.came wrote comes due n j there in
      let asks : (such : List Own → NeedData → Bool) → asker such (Sender start) past own.due ≡ asked_in such st e =
      λ such. sym (ap (asked_in such st) it ∙ ap (option_and_then (λ (y : Actor). asker such y.program y.past own.due)) is) in (
        w.0,
        w.1,
        (
          w.2.0 ∙ ap (λ (o : Option Controls). unwrap_or o w.0.ledger.routes) (asks (is_routing n)),
          λ s. w.2.1 s ∙ ap (λ (o : Option Controls). option_or o (marker w.0.ledger.marked s)) (asks (is_marking n s)),
        ),
      )
  acts a own wrote program past life is run due comes it old = quiet old
      (ap (entries_in st) it ∙ ap (λ (o : Option Actor). entries_of o own) is)
      (λ such. ap (asked_in such st) it ∙ ap (option_and_then (λ (y : Actor). asker such y.program y.past own.due)) is)

  went : (event : Event) → e ≡ event → Allowed st event → WasOld → WasAsked st.books n (asked_at st e) j
  went (Act a own wrote) it may old =
      let x = may.actor in
      acts a own wrote x.program x.past x.life may.reads.is (have_run dd h legal.0 a x may.reads.is) may.due may.came it old
  went event it may old = quiet old (ap (entries_in st) it) (λ such. ap (asked_in such st) it)

  -- such an event begins no life
  begun_none : (event : Event) → e ≡ event → begun_in st e ≡ Some n → (such : List Own → NeedData → Bool) → asked_in such st e ≡ None
  begun_none (Act a own wrote) it born such = ap (asked_in such st) it ∙ by (st.actors a) (sym (ap (begun_in st) it) ∙ born) where
    by_program : (program : Program) (past : List Own) → begun_by program own.due own.came ≡ Some n → asker such program past own.due ≡ None
    by_program (Sender start) past begun = absurd (cc)
    by_program program past begun = refl

    by : (o : Option Actor) → option_and_then (λ (y : Actor). begun_by y.program own.due own.came) o ≡ Some n → option_and_then (λ (y : Actor). asker such y.program y.past own.due) o ≡ None
    by None begun = refl
    by (Some y) begun = by_program y.program y.past begun
  begun_none event it born such = ap (asked_in such st) it

-- The invariant

abbrev Agrees : Disk → List Event → ℕ → Ledger → Type 0
Agrees d h n l = (l.routes ≡ routes_told d h n) × ((s : Spot) → marker l.marked s ≡ last_asked (is_marking n s) d n h)

-- whether a life of the number has begun
abbrev begins : Option ℕ → ℕ → Bool
begins o n = option_map_or (λ m. m == n) o false

begins_not : (o : Option ℕ) (n : ℕ) → o ≢ Some n → begins o n ≡ false
begins_not None n far = refl
begins_not (Some m) n far = other_number m n (λ same. far (ap Some same))

or_twice : (o p : Option Controls) (routes : Controls) → unwrap_or o (unwrap_or p routes) ≡ unwrap_or (option_or o p) routes
or_twice None p routes = refl
or_twice (Some c) p routes = refl

agree : (d : Disk) (h : List Event) → Legal d h → (n : ℕ) (j : Injection) → (after d h).books.living n ≡ Some j → Agrees d h n j.ledger
agree d [] legal n j is = absurd (cc)
agree d (e ∷ h) legal n j is = ⊎_elim
    (λ (new : IsNew (begun_in (after d h) e) n j).
    let none : (such : List Own → NeedData → Bool) → last_asked such d n (e ∷ h) ≡ None =
    λ such. ap (λ (o : Option Controls). option_or o (if begins (begun_in (after d h) e) n then None else last_asked such d n h)) (begun_none d h e legal n j is e refl new.0 such)
    ∙ ap (λ (o : Option ℕ). if begins o n then None else last_asked such d n h) new.0
    ∙ ap (λ (z : Bool). if z then None else last_asked such d n h) (same_number n) in (
      ap (λ (l : Ledger). l.routes) new.2 ∙ sym (ap (λ (o : Option Controls). unwrap_or o unrouted) (none (is_routing n))),
      λ t. ap (λ (l : Ledger). marker l.marked t) new.2 ∙ sym (none (is_marking n t)),
    ))
    (λ (old : Was (controls_in (after d h) e) (after d h).books (begun_in (after d h) e) (entries_in (after d h) e) n j).
    let w = went d h e legal n j is e refl legal.1 old in
    let was : Agrees d h n w.0.ledger = agree d h legal.0 n w.0 w.1 in
    let on : (such : List Own → NeedData → Bool) → last_asked such d n (e ∷ h) ≡ option_or (asked_in such (after d h) e) (last_asked such d n h) =
    λ such. ap (λ (z : Bool). option_or (asked_in such (after d h) e) (if z then None else last_asked such d n h)) (begins_not (begun_in (after d h) e) n old.0) in (
      w.2.0 ∙ ap (unwrap_or (asked_in (is_routing n) (after d h) e)) was.0 ∙ or_twice (asked_in (is_routing n) (after d h) e) (last_asked (is_routing n) d n h) unrouted
          ∙ sym (ap (λ (o : Option Controls). unwrap_or o unrouted) (on (is_routing n))),
      λ t. w.2.1 t ∙ ap (option_or (asked_in (is_marking n t) (after d h) e)) (was.1 t) ∙ sym (on (is_marking n t)),
    ))
    ((event_goes (after d h) e legal.1).back n j is)

pub ledgers_are_routed : LedgersAreRouted
ledgers_are_routed d h legal i life it =
    let w = agree d life (legal_life d h life i legal it) i.number i it.0 in (
      w.0,
      λ s. namer_is i.ledger.routes i.ledger.marked s ∙ ap (λ (o : Option Controls). unwrap_or o i.ledger.routes) (w.1 s)
          ∙ ap (unwrap_or (last_asked (is_marking i.number s) d i.number life)) w.0,
    )
