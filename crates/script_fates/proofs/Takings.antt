-- What a taking of a sender adds to its marks: of each attempt of which a report is final, one.
use Rattle.address_rules.specs.declared.controls.Controls.{Controls}
use Rattle.std.proofs.Common.{◌≡◌, ⊎_elim, ℕ, ◌+◌, ◌<◌, ◌≤◌, List, [], ◌∷◌, ◌++◌, length, get_or, set, drop, take, cond, Bool, true, false, Option, Some, None, refl, sym, ap, ◌∙◌, subst, arith, append_assoc, length-append, length-set, count_by}
use Rattle.std.specs.Prelude.{◌&&◌, ◌==◌, if◌then◌else◌, is_none, is_some, map, not, nat_lt, slice_get}
use Rattle.std.proofs.lemmas.Bool.{lt-ltb}
use Rattle.std.proofs.lemmas.List.{append-nil, drop-append-le, drop_all, length-map, length-take-le, take_more}
use Rattle.std.proofs.lemmas.Option.{slice_get_cases}
use Rattle.std.proofs.lemmas.List.Sums.{sum_by-set}
use Rattle.bounce_record.specs.declared.note_row.NoteRow.{NoteRow}
use Rattle.bounce_record.specs.declared.note_row.NoteRow.TheVariants as written
use Rattle.bounce_record.specs.declared.return_row.ReturnRow.{ReturnRow}
use Rattle.bounce_record.specs.declared.return_row.ReturnRow.TheVariants as back
use Rattle.bounce_record.specs.Returning.{Returning, due_at as return_due_at}
use Rattle.bounce_record.specs.Writing.{Writing, due_at as note_due_at}
use Rattle.call_fs.specs.declared.calls.How.TheVariants as how
use Rattle.call_fs.specs.declared.past.GotData.{GotData}
use Rattle.call_fs.specs.declared.past.NeedData.{NeedData}
use Rattle.call_fs.specs.declared.past.NeedData.TheVariants as needs
use Rattle.call_fs.specs.declared.past.Own.{Own}
use Rattle.call_fs.specs.declared.program.Port.TheVariants as port
use Rattle.call_fs.specs.declared.program.Ready.{Ready}
use Rattle.call_fs.specs.Past.{IsRunBy}
use Rattle.queue_law.specs.Books.{Books, entered_in}
use Rattle.queue_law.specs.Entered.{Child as Bouncer, booked_all, line_said}
use Rattle.queue_law.specs.Ledgers.Line.{Fails}
use Rattle.send_jobs.specs.declared.attempts.Attempt.{Attempt}
use Rattle.send_jobs.specs.declared.attempts.Failure.{Failure}
use Rattle.send_jobs.specs.declared.attempts.Mark.{Mark}
use Rattle.send_known.specs.declared.channel.Channel.{Channel}
use Rattle.send_known.specs.declared.channel.Channel.TheVariants.{Local, Remote}
use Rattle.send_jobs.specs.declared.jobs.Job.{Job}
use Rattle.send_jobs.specs.declared.lane.Lane.{Lane}
use Rattle.send_jobs.specs.Bookings.{Booking}
use Rattle.send_jobs.specs.Bookings.Booking.{Reported}
use Rattle.send_jobs.specs.Failures.{failure_in, is_final}
use Rattle.send_jobs.specs.Lanes.{job_over, left_unmarked, reported}
use Rattle.send_jobs.specs.Sending.{at_lane, lane, none_out}
use Rattle.send_jobs.specs.Slots.{attempt_in}
use Rattle.send_links.specs.declared.link.Link.{Link}
use Rattle.send_parts.specs.declared.reading.Reading.{Reading}
use Rattle.send_parts.specs.declared.reading.Reading.TheVariants.{Opening, Going, Closing, Shutting}
use Rattle.send_parts.specs.declared.reply.Way.{Way}
use Rattle.send_parts.specs.declared.reply.Way.TheVariants as way
use Rattle.send_parts.specs.declared.rows.FinishRow.{FinishRow}
use Rattle.send_parts.specs.declared.rows.FinishRow.TheVariants as finish
use Rattle.send_parts.specs.declared.rows.StartRow.{StartRow}
use Rattle.send_parts.specs.declared.rows.StartRow.TheVariants as start
use Rattle.send_parts.specs.declared.rows.SweepRow.{SweepRow}
use Rattle.send_parts.specs.declared.rows.SweepRow.TheVariants as sweep
use Rattle.send_parts.specs.declared.step.Step.{Step}
use Rattle.send_parts.specs.declared.step.Step.TheVariants as step
use Rattle.send_parts.specs.Readings.{reading_step}
use Rattle.send_parts.specs.Replies.{Said, said}
use Rattle.send_parts.specs.Rows.{sweep_step}
use Rattle.send_parts.specs.Start.{remote_limit}
use Rattle.send_parts.specs.Steps.{due_by}
use Rattle.spawn_protocol.specs.declared.report.Report.{Report}
use Rattle.spawn_protocol.specs.Report.{Reader, counted, read_on}
use Rattle.todo_pass.specs.declared.row.Row.{Row as PassRow}
use Rattle.todo_pass.specs.declared.row.Row.TheVariants as todo
use Rattle.todo_pass.specs.Table.{Pass}
use Rattle.todo_pass.specs.Table as pass_table
use Rattle.send_core.specs.declared.desk.Desk.{Desk}
use Rattle.send_parts.specs.declared.row.MarkRow.{MarkRow}
use Rattle.send_parts.specs.declared.row.MarkRow.TheVariants as mark
use Rattle.send_parts.specs.declared.row.Marked.{Marked}
use Rattle.send_parts.specs.declared.row.Row.{Row}
use Rattle.send_parts.specs.declared.row.Row.TheVariants as at
use Rattle.send_core.specs.Agrees.{owed_at}
use Rattle.send_core.specs.Booked.{booked_at, reported_all, reported_by, reported_if, reported_in, reported_when}
use Rattle.send_core.specs.Desk.{deferred, heard, link, retried_if, settle, told, told_all, told_by, waits, with_reader}
use Rattle.send_core.specs.Past.{Account, Owed, account, work}
use Rattle.send_core.specs.Stands.{Machine, Stands}
use Rattle.send_core.specs.Start.{started}
use Rattle.send_core.specs.Table.{Next, place_after as sender_after, due_at, file_of, moved_by, port_of, row_now, sweep_words}
use Rattle.send_core.specs.Turn.{took}
use Rattle.send_core.proofs.Changes.{DeskFits}
use Rattle.send_core.proofs.Fits.{Fits}
use Rattle.send_core.proofs.Lists.{in_range}
use Rattle.send_core.proofs.Runs.{Was, frees, keeps}
use Rattle.send_core.proofs.Standing.{FitAt, arrives}
use Rattle.script_fates.specs.declared.fates.Fates.{Fates}
use Rattle.script_fates.specs.Fates.{AreFates}
use Rattle.script_fates.specs.Entering.{HasDue, entered_by, entered_of, heard_after, heard_by}
use Rattle.script_fates.proofs.Lives.{AddsSpot, Changes, enters_one, line_apart}

-- there is room for the marks of all that is in flight
pub record HasRoom (l : Lane) : Type 0 where
  pub few : length l.slots ≤ 120
  pub roomy : length l.marks + count_by is_some l.slots ≤ length l.slots

-- what was reported of the recipient of a mark
abbrev pub told_of : Channel → Mark → Booking
told_of c m = Reported (is_none m.note) c m.attempt.n m.attempt.place

-- these final reports were taken, and so many marks came
pub record Adds (c : Channel) (es : List Booking) (old new : Lane) : Type 0 where
  pub marks : List Mark
  pub are : map (told_of c) marks ≡ es
  pub after : new.marks ≡ old.marks ++ marks
  pub room : HasRoom new

same_room : (old new : Lane) → new.marks ≡ old.marks → new.slots ≡ old.slots → HasRoom old → HasRoom new
same_room old new marks slots room = record { few = rw slots room.few; roomy = rw (marks, slots) room.roomy }

adds_none : (c : Channel) (old new : Lane) → new.marks ≡ old.marks → new.slots ≡ old.slots → HasRoom old → Adds c [] old new
adds_none c old new marks slots room = record { marks = []; are = refl; after = marks ∙ sym (append-nil old.marks); room = same_room old new marks slots room }

-- A report

retried_lane : (o : Option Job) (c : Channel) (n : ℕ) (d : Desk) → ((lane c (retried_if o c n d).slots).marks ≡ (lane c d.slots).marks) × ((lane c (retried_if o c n d).slots).slots ≡ (lane c d.slots).slots)
retried_lane None c n d = (refl, refl)
retried_lane (Some job) Local n d = (refl, refl)
retried_lane (Some job) Remote n d = (refl, refl)

deferred_lane : (c : Channel) (n : ℕ) (d : Desk) → ((lane c (deferred c n d).slots).marks ≡ (lane c d.slots).marks) × ((lane c (deferred c n d).slots).slots ≡ (lane c d.slots).slots)
deferred_lane Local n d =
    let after : Desk = record d { slots = at_lane Local (left_unmarked n) d.slots } in
    retried_lane (job_over n (lane Local after.slots)) Local n after
deferred_lane Remote n d =
    let after : Desk = record d { slots = at_lane Remote (left_unmarked n) d.slots } in
    retried_lane (job_over n (lane Remote after.slots)) Remote n after

waits_lane : (c : Channel) (a : Attempt) (note : Option Failure) (d : Desk)
    → ((lane c (waits c a note d).slots).marks ≡ (lane c d.slots).marks ++ (let m : Mark = record { attempt = a; note = note } in m) ∷ []) × ((lane c (waits c a note d).slots).slots ≡ (lane c d.slots).slots)
waits_lane Local a noted d = (refl, refl)
waits_lane Remote a noted d = (refl, refl)

-- a mark has a note unless its recipient was delivered to
note_told : (k : Bool) (f : Failure) → is_none (if k then None else Some f) ≡ k
note_told true f = refl
note_told false f = refl

report_told : (c : Channel) (a : Attempt) (r : Report) → told_of c (record { attempt = a; note = failure_in r }) ≡ Reported (counted r.letter == 75) c a.n a.place
report_told c a r = ap (λ (k : Bool). Reported k c a.n a.place) (note_told (counted r.letter == 75) (record { report = r.text; is_late = not (counted r.letter == 68) }))

reported_lane : (c : Channel) (slot : ℕ) (d : Desk) → ((lane c (at_lane c (reported slot) d.slots)).marks ≡ (lane c d.slots).marks) × ((lane c (at_lane c (reported slot) d.slots)).slots ≡ set (lane c d.slots).slots slot None)
reported_lane Local slot d = (refl, refl)
reported_lane Remote slot d = (refl, refl)

count_freed : (slots : List (Option Attempt)) (slot : ℕ) → slot < length slots → count_by is_some (set slots slot None) + cond (is_some (attempt_in slots slot)) 1 0 ≡ count_by is_some slots
count_freed slots slot lt = let e = sum_by-set (λ s. cond (is_some s) 1 0) slots slot None None lt in omega (arith, e)

settled_adds : (c : Channel) (a : Attempt) (r : Report) (d e : Desk) → e ≡ record d { slots = at_lane c (reported r.slot) d.slots } → attempt_in (lane c d.slots).slots r.slot ≡ Some a → HasRoom (lane c d.slots)
    → Adds c (reported_if (is_final (counted r.letter) a.dying) (counted r.letter == 75) c a []) (lane c d.slots) (lane c (settle r c a e).slots)
settled_adds c a r d e is there room = by (is_final (counted r.letter) a.dying) where
  slot : ℕ
  slot = r.slot

  old : Lane
  old = lane c d.slots

  mid : Lane
  mid = lane c e.slots

  lt : slot < length old.slots
  lt = in_range old.slots slot a there

  marks_are : mid.marks ≡ old.marks
  marks_are = ap (λ (e : Desk). (lane c e.slots).marks) is ∙ (reported_lane c slot d).0

  slots_are : mid.slots ≡ set old.slots slot None
  slots_are = ap (λ (e : Desk). (lane c e.slots).slots) is ∙ (reported_lane c slot d).1

  freed : count_by is_some mid.slots + 1 ≡ count_by is_some old.slots
  freed =
      let one : ◌≡◌ {A = ℕ} (cond (is_some (attempt_in old.slots slot)) 1 0) 1 = ap (λ s. cond (is_some s) 1 0) there in
      let counted = count_freed old.slots slot lt in
      let same : count_by is_some mid.slots ≡ count_by is_some (set old.slots slot None) = ap (λ (l : List (Option Attempt)). count_by is_some l) slots_are in
      omega (arith, one, counted, same)

  many : length mid.slots ≡ length old.slots
  many = ap (λ (l : List (Option Attempt)). length l) slots_are ∙ length-set old.slots slot None

  fewer : length mid.marks + count_by is_some mid.slots + 1 ≤ length mid.slots
  fewer = let was = room.roomy in let same : length mid.marks ≡ length old.marks = ap (λ (l : List Mark). length l) marks_are in omega (arith, freed, many, same, was)

  few : length mid.slots ≤ 120
  few = let was = room.few in omega (arith, many, was)

  left : HasRoom mid
  left = record { few = few; roomy = omega (arith, fewer) }

  put_off : Adds c [] old (lane c (deferred c a.n e).slots)
  put_off =
      let it = deferred_lane c a.n e in record {
        marks = [];
        are = refl;
        after = it.0 ∙ marks_are ∙ sym (append-nil old.marks);
        room = same_room mid (lane c (deferred c a.n e).slots) it.0 it.1 left;
      }

  below : nat_lt (length mid.marks) 120 ≡ true
  below = lt-ltb (length mid.marks) 120 (omega (arith, fewer, few))

  owed : Adds c (Reported (counted r.letter == 75) c a.n a.place ∷ []) old (lane c (waits c a (failure_in r) e).slots)
  owed =
      let it = waits_lane c a (failure_in r) e in
      let m : Mark = record { attempt = a; note = failure_in r } in record {
        marks = m ∷ [];
        are = ap (λ (b : Booking). b ∷ []) (report_told c a r);
        after = it.0 ∙ ap (λ (t : List Mark). t ++ m ∷ []) marks_are;
        room = record {
          few = rw it.1 few;
          roomy =
              let more : length (lane c (waits c a (failure_in r) e).slots).marks ≡ length mid.marks + 1 = ap (λ (t : List Mark). length t) it.0 ∙ length-append mid.marks (m ∷ []) in
              let same : count_by is_some (lane c (waits c a (failure_in r) e).slots).slots ≡ count_by is_some mid.slots = ap (λ (t : List (Option Attempt)). count_by is_some t) it.1 in
              let long : length (lane c (waits c a (failure_in r) e).slots).slots ≡ length mid.slots = ap (λ (t : List (Option Attempt)). length t) it.1 in
              omega (arith, more, same, long, fewer);
        };
      }

  by : (final : Bool) → Adds c (reported_if final (counted r.letter == 75) c a []) old (lane c (if final && nat_lt (length mid.marks) 120 then waits c a (failure_in r) e else deferred c a.n e).slots)
  by true = subst (λ (x : Bool). Adds c (Reported (counted r.letter == 75) c a.n a.place ∷ []) old (lane c (if x then waits c a (failure_in r) e else deferred c a.n e).slots)) (sym below) owed
  by false = put_off

one_adds : (o : Option Attempt) (c : Channel) (r : Report) (d : Desk) → attempt_in (lane c d.slots).slots r.slot ≡ o → HasRoom (lane c d.slots)
    → Adds c (reported_by o c r []) (lane c d.slots) (lane c (told_by o c r d).slots)
one_adds None c r d there room = adds_none c (lane c d.slots) (lane c d.slots) refl refl room
one_adds (Some a) c r d there room = settled_adds c a r d (record d { slots = at_lane c (reported r.slot) d.slots }) refl there room

-- those of a report come before those of later ones
first_if : (final k : Bool) (c : Channel) (a : Attempt) (later : List Booking) → reported_if final k c a later ≡ reported_if final k c a [] ++ later
first_if true k c a later = refl
first_if false k c a later = refl

first_by : (o : Option Attempt) (c : Channel) (r : Report) (later : List Booking) → reported_by o c r later ≡ reported_by o c r [] ++ later
first_by None c r later = refl
first_by (Some a) c r later = first_if (is_final (counted r.letter) a.dying) (counted r.letter == 75) c a later

map_both : (c : Channel) (xs ys : List Mark) → map (told_of c) (xs ++ ys) ≡ map (told_of c) xs ++ map (told_of c) ys
map_both c [] ys = refl
map_both c (x ∷ xs) ys = ap (λ (t : List Booking). told_of c x ∷ t) (map_both c xs ys)

-- Reports, one after the other

all_add : (c : Channel) (rs : List Report) (d : Desk) → HasRoom (lane c d.slots) → Adds c (reported_all c rs d) (lane c d.slots) (lane c (told_all c rs d).slots)
all_add c [] d room = adds_none c (lane c d.slots) (lane c d.slots) refl refl room
all_add c (r ∷ rs) d room =
    let o = attempt_in (lane c d.slots).slots r.slot in
    let first = one_adds o c r d refl room in
    let rest = all_add c rs (told c r d) first.room in record {
      marks = first.marks ++ rest.marks;
      are = map_both c first.marks rest.marks
          ∙ ap (λ (t : List Booking). t ++ map (told_of c) rest.marks) first.are
          ∙ ap (λ (t : List Booking). reported_by o c r [] ++ t) rest.are
          ∙ sym (first_by o c r (reported_all c rs (told c r d)));
      after = rest.after ∙ ap (λ (t : List Mark). t ++ rest.marks) first.after ∙ append_assoc (lane c d.slots).marks first.marks rest.marks;
      room = rest.room;
    }

with_reader_lane : (c e : Channel) (reader : Reader) (d : Desk) → (with_reader e reader d).slots ≡ d.slots
with_reader_lane c Local reader d = refl
with_reader_lane c Remote reader d = refl

heard_adds : (c : Channel) (bytes : List ℕ) (d : Desk) → HasRoom (lane c d.slots) → Adds c (reported_in c bytes d) (lane c d.slots) (lane c (heard c bytes d).slots)
heard_adds c bytes d room =
    let it = read_on (link c d).reader bytes in
    let with_it : Desk = with_reader c it.1 d in
    let same = with_reader_lane c c it.1 d in
    let there : HasRoom (lane c with_it.slots) = rw same room in
    rw same at (all_add c it.0 with_it there)

pub took_adds : (c : Channel) (w : Way) (bytes : List ℕ) (d : Desk) → HasRoom (lane c d.slots) → Adds c (reported_when w c bytes d) (lane c d.slots) (lane c (took w bytes c d).slots)
took_adds c way.Fine bytes d room = heard_adds c bytes d room
took_adds c way.Over bytes d room = adds_none c (lane c d.slots) (lane c d.slots) refl refl room
took_adds c way.Absent bytes d room = adds_none c (lane c d.slots) (lane c d.slots) refl refl room
took_adds c way.NoMemory bytes d room = adds_none c (lane c d.slots) (lane c d.slots) refl refl room
took_adds c way.Broken bytes d room = adds_none c (lane c d.slots) (lane c d.slots) refl refl room

-- At a row

-- so many marks come as were delivered
abbrev pub AddsAt : Channel → List Booking → List Mark → List Mark → Type 0
AddsAt c es old new = map (told_of c) (drop (length old) new) ≡ es

past_all : (xs ys : List Mark) → drop (length xs) (xs ++ ys) ≡ ys
past_all [] ys = refl
past_all (x ∷ xs) ys = past_all xs ys

adds_at : (c : Channel) (es : List Booking) (old new : Lane) → Adds c es old new → AddsAt c es old.marks new.marks
adds_at c es old new a = ap (λ (t : List Mark). map (told_of c) (drop (length old.marks) t)) a.after ∙ ap (map (told_of c)) (past_all old.marks a.marks) ∙ a.are

none_at : (c : Channel) (marks : List Mark) → AddsAt c [] marks marks
none_at c marks = ap (map (told_of c)) (drop_all (length marks) marks (omega arith))

no_marks : (c : Channel) (limit other : ℕ) → (lane c (none_out limit other)).marks ≡ []
no_marks Local limit other = refl
no_marks Remote limit other = refl

-- a spawner's first byte leaves no mark
started_at : (c : Channel) (row : StartRow) (s : Said) (d : Desk) → AddsAt c [] (lane c d.slots).marks (lane c (started row s d).slots).marks
started_at c (start.Control file reading) s d = none_at c (lane c d.slots).marks
started_at c start.GreetLocal s d = none_at c (lane c d.slots).marks
started_at c (start.GreetRemote limit) s d =
    ap (λ (t : List Mark). map (told_of c) (drop (length (lane c d.slots).marks) t)) (no_marks c limit (remote_limit s.bytes d.book.controls))
    ∙ ap (map (told_of c)) (drop_all (length (lane c d.slots).marks) [] (omega arith))
started_at c (start.Scan split) s d = none_at c (lane c d.slots).marks
started_at c (start.StatTodo split n) s d = none_at c (lane c d.slots).marks
started_at c (start.ReadInfo split n reading) s d = none_at c (lane c d.slots).marks
started_at c (start.StatInfo split n) s d = none_at c (lane c d.slots).marks
started_at c (start.StatLocal split n birth) s d = none_at c (lane c d.slots).marks
started_at c (start.StatRemote split n birth local) s d = none_at c (lane c d.slots).marks
started_at c start.Over s d = none_at c (lane c d.slots).marks
started_at c (start.Ended status) s d = none_at c (lane c d.slots).marks

same_port : (e c : Channel) → ◌≡◌ {A = NeedData} (needs.Take (port_of e)) (needs.Take (port_of c)) → e ≡ c
same_port Local Local is = refl
same_port Remote Remote is = refl
same_port Local Remote is = absurd (cc)
same_port Remote Local is = absurd (cc)

no_clean : (c : Channel) → ◌≡◌ {A = NeedData} (needs.Take port.Clean) (needs.Take (port_of c)) → ⊥
no_clean Local is = cc
no_clean Remote is = cc

not_reading : (reading : Reading) (first : Step) (read : ℕ) (text : List ℕ) (c : Channel) → (due_by first text ≡ needs.Take (port_of c) → ⊥) → due_by (reading_step reading first read) text ≡ needs.Take (port_of c) → ⊥
not_reading Opening first read text c none is = none is
not_reading (Going fd) first read text c none is = cc
not_reading (Closing fd) first read text c none is = cc
not_reading (Shutting fd) first read text c none is = cc

not_pass : (row : PassRow) (p : Pass) (c : Channel) → pass_table.due_at row p ≡ needs.Take (port_of c) → ⊥
not_pass (todo.Clear t) p c is = cc
not_pass todo.StatMess p c is = cc
not_pass todo.OpenTodo p c is = cc
not_pass (todo.ReadTodo fd) p c is = cc
not_pass (todo.CloseTodo fd) p c is = cc
not_pass (todo.Create t) p c is = cc
not_pass (todo.Append t fd done) p c is = cc
not_pass (todo.Sync t fd) p c is = cc
not_pass (todo.Close t fd) p c is = cc
not_pass (todo.Shut fd why) p c is = cc
not_pass todo.Give p c is = cc
not_pass todo.Answer p c is = no_clean c is
not_pass todo.Done p c is = cc
not_pass (todo.Left why) p c is = cc
not_pass todo.Lost p c is = cc

not_note : (row : NoteRow) (w : Writing) (c : Channel) → note_due_at row w ≡ needs.Take (port_of c) → ⊥
not_note written.Open w c is = cc
not_note written.Create w c is = cc
not_note (written.Stat fd) w c is = cc
not_note (written.Read fd place count) w c is = cc
not_note (written.Append fd done) w c is = cc
not_note (written.Sync fd) w c is = cc
not_note (written.Close fd) w c is = cc
not_note (written.Shut fd) w c is = cc
not_note written.Written w c is = cc
not_note written.Failed w c is = cc

not_mark : (row : MarkRow) (m : Marked) (d : Desk) (c : Channel) → due_at (at.Mark row m) d ≡ needs.Take (port_of c) → ⊥
not_mark mark.Note m d c is = cc
not_mark mark.Noting m d c is = not_note d.note.row d.note c is
not_mark mark.Open m d c is = cc
not_mark (mark.Write fd) m d c is = cc
not_mark (mark.Close fd written) m d c is = cc

no_status : (c : Channel) → ◌≡◌ {A = NeedData} (needs.Take (port.Status 0)) (needs.Take (port_of c)) → ⊥
no_status Local is = cc
no_status Remote is = cc

not_return : (row : ReturnRow) (r : Returning) (c : Channel) → return_due_at row r ≡ needs.Take (port_of c) → ⊥
not_return back.Open r c is = cc
not_return (back.ReadNotes fd) r c is = cc
not_return (back.CloseNotes fd) r c is = cc
not_return back.OpenMessage r c is = cc
not_return (back.ReadMessage fd) r c is = cc
not_return (back.CloseMessage fd) r c is = cc
not_return (back.Shut fd) r c is = cc
not_return back.Start r c is = cc
not_return (back.Give pid) r c is = cc
not_return (back.Await pid) r c is = no_status c is
not_return back.Unlink r c is = cc
not_return back.Discard r c is = cc
not_return back.Over r c is = cc
not_return back.Failed r c is = cc

not_finish : (row : FinishRow) (n : ℕ) (d : Desk) (c : Channel) → due_at (at.Finish row n) d ≡ needs.Take (port_of c) → ⊥
not_finish finish.OpenBounce n d c is = cc
not_finish finish.Return n d c is = not_return d.bounce.row d.bounce c is
not_finish finish.UnlinkInfo n d c is = cc
not_finish finish.Give n d c is = cc
not_finish finish.Take n d c is = no_clean c is
not_finish finish.Later n d c is = cc
not_finish finish.Over n d c is = cc
not_finish finish.Lost n d c is = cc

not_sweep : (row : SweepRow) (text : List ℕ) (c : Channel) → due_by (sweep_step row) text ≡ needs.Take (port_of c) → ⊥
not_sweep sweep.First text c is = cc
not_sweep (sweep.Next split) text c is = cc
not_sweep (sweep.StatMess split n) text c is = cc
not_sweep (sweep.StatTodo split n) text c is = cc
not_sweep (sweep.StatInfo split n todo) text c is = cc
not_sweep (sweep.Give split n) text c is = cc
not_sweep (sweep.Take split n) text c is = no_clean c is
not_sweep sweep.Over text c is = cc
not_sweep sweep.Lost text c is = cc

row_adds : (row : Row) (now : ℕ) (came : GotData) (d : Desk) (c : Channel) → due_at row d ≡ needs.Take (port_of c) → (row ≡ at.TakeLink c → HasRoom (lane c d.slots))
    → AddsAt c (booked_at row came d) (lane c d.slots).marks (lane c (moved_by row now came d).slots).marks
row_adds (at.Start row) now came d c is room = started_at c row (said came) d
row_adds (at.Turn p) now came d c is room = absurd (cc)
row_adds (at.TakeLink e) now came d c is room =
    let same : e ≡ c = same_port e c is in
    subst (λ (e : Channel). AddsAt c (booked_at (at.TakeLink e) came d) (lane c d.slots).marks (lane c (moved_by (at.TakeLink e) now came d).slots).marks) (sym same)
    (adds_at c (reported_when (said came).way c (said came).bytes d) (lane c d.slots) (lane c (took (said came).way (said came).bytes c d).slots)
    (took_adds c (said came).way (said came).bytes d (room (ap at.TakeLink same))))
row_adds (at.Mark row m) now came d c is room = absurd (not_mark row m d c is)
row_adds (at.UnlinkFile e n p) now came d c is room = absurd (cc)
row_adds (at.ReadFile e n begun reading) now came d c is room = absurd (not_reading reading (step.Open (file_of e n) how.Read) (length d.book.read) [] c (λ is. cc) is)
row_adds (at.Request e) now came d c is room = absurd (cc)
row_adds (at.FindTodo search) now came d c is room = absurd (cc)
row_adds at.InTodo now came d c is room = absurd (not_pass d.pass.row d.pass c is)
row_adds (at.Finish row n) now came d c is room = absurd (not_finish row n d c is)
row_adds (at.Sweep row) now came d c is room = absurd (not_sweep row (sweep_words row d) c is)
row_adds (at.Ended status) now came d c is room = absurd (cc)

-- There is room in a run

fits_room : (a : Account) (l : Lane) (link : Link) → Fits false a l link → HasRoom l
fits_room a l link h = record {
  few = h.5.few;
  roomy =
      let was = h.5.roomy in
      let same : length a.to_mark ≡ length l.marks = sym (ap (λ (t : List Owed). length t) h.4) ∙ length-map l.marks owed_at in
      omega (arith, was, same);
}

both_room : (c : Channel) (al ar : Account) (d : Desk) → DeskFits al ar d → HasRoom (lane c d.slots)
both_room Local al ar d h = fits_room al d.slots.local d.local h.0
both_room Remote al ar d h = fits_room ar d.slots.remote d.remote h.1

run_room : (past : List Own) (now : ℕ) (ready : Ready) (c : Channel) → IsRunBy (Next None) past → row_now (sender_after None past) now ready ≡ at.TakeLink c → HasRoom (lane c (sender_after None past).slots)
run_room past now ready c run is =
    let d : Desk = sender_after None past in
    let fit = arrives (Was past) (work past) (account Local past) (account Remote past) (frees past) d.row d now ready (keeps None past run).0 in
    both_room c (account Local past) (account Remote past) d (subst (λ (row : Row). FitAt (Was past) (work past) (account Local past) (account Remote past) row d) is fit).0

-- What an event of a sender enters in the books

entered_is : (child : Option Bouncer) (by : Controls) (c : Channel) (marks : List Mark) (b : Books) → entered_of c marks b ≡ booked_all child by (map (told_of c) marks) b
entered_is child by c [] b = refl
entered_is child by c (m ∷ marks) b = entered_is child by c marks (entered_by c m b)

pub taking_enters : (child : Option Bouncer) (past : List Own) (own : Own) (c : Channel) (b : Books) → HasDue past own → own.due ≡ needs.Take (port_of c)
    → let d = sender_after None past in entered_of c (drop (length (lane c d.slots).marks) (lane c (sender_after None (own ∷ past)).slots).marks) b ≡ heard_by child past own b
taking_enters child past own c b due takes =
    let d : Desk = sender_after None past in
    let row : Row = row_now d own.read own.ready in
    let new : List Mark = drop (length (lane c d.slots).marks) (lane c (sender_after None (own ∷ past)).slots).marks in
    let adds : AddsAt c (booked_at row own.came d) (lane c d.slots).marks (lane c (moved_by row own.read own.came d).slots).marks =
    row_adds row own.read own.came d c (due.due ∙ takes) (run_room past own.read own.ready c due.run) in
    entered_is child d.book.controls c new b
    ∙ ap (λ (es : List Booking). booked_all child d.book.controls es b) adds
    ∙ ap (λ (due : NeedData). heard_after child b past own.read own.ready due own.came) (sym takes)

-- so, with the marks that a sender had and has
pub taking_is : (child : Option Bouncer) (past : List Own) (own : Own) (c : Channel) (b : Books) (old new : Machine) (before : ℕ) (marks : List Mark) → HasDue past own → own.due ≡ needs.Take (port_of c)
    → Stands old None past → Stands new None (own ∷ past) → before ≡ length (lane c old.desk.slots).marks → marks ≡ (lane c new.desk.slots).marks → entered_of c (drop before marks) b ≡ heard_by child past own b
taking_is child past own c b old new before marks due takes was now many are =
    ap (λ (k : ℕ). entered_of c (drop k marks) b) (many ∙ ap (λ (d : Desk). length (lane c d.slots).marks) was)
    ∙ ap (λ (m : List Mark). entered_of c (drop (length (lane c (sender_after None past).slots).marks) m) b) (are ∙ ap (λ (d : Desk). (lane c d.slots).marks) now)
    ∙ taking_enters child past own c b due takes

-- Marks, one after the other

entered_both : (c : Channel) (xs ys : List Mark) (b : Books) → entered_of c (xs ++ ys) b ≡ entered_of c ys (entered_of c xs b)
entered_both c [] ys b = refl
entered_both c (x ∷ xs) ys b = entered_both c xs ys (entered_by c x b)

drop_both : (n : ℕ) (xs ys : List Mark) → n ≤ length xs → drop n (xs ++ ys) ≡ drop n xs ++ ys
drop_both n xs ys le = drop-append-le n xs ys le

pub not_past : (marks : List Mark) (at : ℕ) → at < length marks → slice_get marks at ≡ None → ⊥
not_past marks at lt none = ⊎_elim
    (λ h. let e : ◌≡◌ {A = Option Mark} None (Some h.0) = sym none ∙ h.2 in cc)
    (λ h. let le : length marks ≤ at = h.0 in omega (arith, lt, le))
    (slice_get_cases marks at).1

pub entered_more : (c : Channel) (marks : List Mark) (before at : ℕ) (m : Mark) (b : Books) → before ≤ at → at < length marks → m ≡ get_or marks at m
    → entered_of c (drop before (take (at + 1) marks)) b ≡ entered_of c (m ∷ []) (entered_of c (drop before (take at marks)) b)
entered_more c marks before at m b low high is =
    let one : take (at + 1) marks ≡ take at marks ++ m ∷ [] = take_more marks at m high ∙ ap (λ (x : Mark). take at marks ++ x ∷ []) (sym is) in
    let long = length-take-le at marks (omega arith) in
    ap (λ (l : List Mark). entered_of c (drop before l) b) one
    ∙ ap (λ (l : List Mark). entered_of c l b) (drop_both before (take at marks) (m ∷ []) (omega (arith, long)))
    ∙ entered_both c (drop before (take at marks)) (m ∷ []) b

-- A mark alone

pub note_enters : (f : Fates) (b : Books) (c : Channel) (m : Mark) → is_some m.note ≡ true → AreFates f b → AreFates f (entered_by c m b)
note_enters f b c m some h = by m.note some where
  by : (o : Option Failure) → is_some o ≡ true → AreFates f (entered_in b m.attempt.n (line_said (is_none o) (record { channel = c; place = m.attempt.place })))
  by None some = absurd (cc)
  by (Some failure) some = line_apart f b m.attempt.n (Fails (record { channel = c; place = m.attempt.place })) (λ l. (refl, refl)) h

pub delivery_enters : (old new : Fates) (b : Books) (c : Channel) (m : Mark) → is_some m.note ≡ false → Changes (AddsSpot (record { channel = c; place = m.attempt.place })) old new m.attempt.n → AreFates old b → AreFates new (entered_by c m b)
delivery_enters old new b c m none enters h = by m.note none where
  by : (o : Option Failure) → is_some o ≡ false → AreFates new (entered_in b m.attempt.n (line_said (is_none o) (record { channel = c; place = m.attempt.place })))
  by (Some failure) none = absurd (cc)
  by None none = enters_one old new b m.attempt.n (record { channel = c; place = m.attempt.place }) enters h
