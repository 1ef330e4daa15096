-- What a sender's event enters that is no taking: a todo command routes its message, and nothing else tells of a delivery or of routes.
use Rattle.address_rules.specs.declared.controls.Controls.{Controls}
use Rattle.std.proofs.Common.{◌≡◌, ◌≢◌, ℕ, List, [], ◌∷◌, Bool, true, false, Option, Some, None, refl, sym, ap, ◌∙◌}
use Rattle.std.specs.Prelude.{◌==◌, if◌then◌else◌}
use Rattle.bounce_record.specs.declared.note_row.NoteRow.{NoteRow}
use Rattle.bounce_record.specs.declared.note_row.NoteRow.TheVariants as written
use Rattle.bounce_record.specs.declared.return_row.ReturnRow.{ReturnRow}
use Rattle.bounce_record.specs.declared.return_row.ReturnRow.TheVariants as back
use Rattle.call_fs.specs.declared.calls.Answer.{Answer}
use Rattle.call_fs.specs.declared.calls.Answer.TheVariants as answer
use Rattle.call_fs.specs.declared.calls.CallData.{CallData}
use Rattle.call_fs.specs.declared.past.GotData.{GotData}
use Rattle.call_fs.specs.declared.past.GotData.TheVariants as got
use Rattle.call_fs.specs.declared.past.NeedData.{NeedData}
use Rattle.call_fs.specs.declared.past.NeedData.TheVariants as needs
use Rattle.call_fs.specs.declared.past.Own.{Own}
use Rattle.call_fs.specs.declared.program.Port.TheVariants as port
use Rattle.queue_law.specs.Books.{Books, entered_in}
use Rattle.queue_law.specs.Entered.{Child as Bouncer, booked_all, booked_on, named_by, notes_read}
use Rattle.queue_law.specs.Ledgers.Line.{Drops, Marks, Notes, Reads, Returns, Routes}
use Rattle.send_known.specs.declared.channel.Channel.{Channel}
use Rattle.send_known.specs.declared.channel.Channel.TheVariants.{Local, Remote}
use Rattle.send_jobs.specs.Bookings.{Booking}
use Rattle.send_jobs.specs.Bookings.Booking.{Dropped, Noted, Overwritten, ReadNotes, Reported, Returned, Routed}
use Rattle.send_parts.specs.declared.rows.FinishRow.{FinishRow}
use Rattle.send_parts.specs.declared.rows.FinishRow.TheVariants as finish
use Rattle.todo_pass.specs.declared.row.Row.{Row as PassRow}
use Rattle.todo_pass.specs.declared.row.Row.TheVariants as todo
use Rattle.todo_pass.specs.Table.{Pass}
use Rattle.todo_pass.specs.Table as pass_table
use Rattle.send_core.specs.declared.desk.Desk.{Desk}
use Rattle.send_parts.specs.declared.row.MarkRow.{MarkRow}
use Rattle.send_parts.specs.declared.row.MarkRow.TheVariants as mark
use Rattle.send_parts.specs.declared.row.Marked.{Marked}
use Rattle.send_parts.specs.declared.row.Row.{Row}
use Rattle.send_parts.specs.declared.row.Row.TheVariants as at
use Rattle.send_core.specs.Booked.{booked_at, finished_at, if_done, if_ok, if_zero, marked_at, noted_at, returned_at, routed_at, routing_at, routing_by}
use Rattle.send_core.specs.Stands.{Machine, Stands, due_now, looked_at, row_of}
use Rattle.call_fs.specs.declared.program.Ready.{Ready}
use Rattle.send_core.specs.Table.{place_after as sender_after, due_at, moved_by, port_of, row_now}
use Rattle.script_fates.specs.declared.fates.Fates.{Fates}
use Rattle.script_fates.specs.Fates.{AreFates}
use Rattle.script_fates.specs.Entering.{HasDue, heard_after, heard_by}
use Rattle.script_fates.proofs.Lives.{line_apart}
use Rattle.call_fs.specs.declared.program.Port.{Port}
use Rattle.todo_pass.specs.Table.{command_text}

abbrev pub IsQuiet : Booking → Type 0
IsQuiet (Reported delivered c n place) = ⊥
IsQuiet (Routed n) = ⊥
IsQuiet other = Unit {0}

abbrev pub AreQuiet : List Booking → Type 0
AreQuiet [] = Unit {0}
AreQuiet (e ∷ es) = IsQuiet e × AreQuiet es

quiet_ok : (told : Answer) (e : Booking) → IsQuiet e → AreQuiet (if_ok told e)
quiet_ok answer.Done e h = (h, tt)
quiet_ok told e h = tt

quiet_done : (came : GotData) (e : Booking) → IsQuiet e → AreQuiet (if_done came e)
quiet_done (got.Answered told) e h = quiet_ok told.answer e h
quiet_done came e h = tt

quiet_if : (b : Bool) (e : Booking) → IsQuiet e → AreQuiet (if b then e ∷ [] else [])
quiet_if true e h = (h, tt)
quiet_if false e h = tt

quiet_zero : (came : GotData) (e : Booking) → IsQuiet e → AreQuiet (if_zero came e)
quiet_zero (got.Ended status) e h = quiet_if (status == 0) e h
quiet_zero came e h = tt

quiet_note : (row : NoteRow) (m : Marked) (came : GotData) → AreQuiet (noted_at row m came)
quiet_note (written.Sync fd) m came = quiet_done came (Noted m.channel m.n m.place) tt
quiet_note row m came = tt

quiet_mark : (row : MarkRow) (m : Marked) (w : NoteRow) (came : GotData) → AreQuiet (marked_at row m w came)
quiet_mark mark.Noting m w came = quiet_note w m came
quiet_mark (mark.Write fd) m w came = (tt, tt)
quiet_mark row m w came = tt

quiet_route : (row : PassRow) (n : ℕ) → routing_by row n ≡ None → AreQuiet (routed_at row n)
quiet_route todo.Give n none = absurd (cc)
quiet_route row n none = tt

quiet_return : (row : ReturnRow) (n : ℕ) (notes : List ℕ) (came : GotData) → AreQuiet (returned_at row n notes came)
quiet_return (back.CloseNotes fd) n notes came = (tt, tt)
quiet_return (back.Await pid) n notes came = quiet_zero came (Returned n) tt
quiet_return back.Discard n notes came = quiet_done came (Dropped n) tt
quiet_return row n notes came = tt

quiet_finish : (row : FinishRow) (n : ℕ) (r : ReturnRow) (notes : List ℕ) (came : GotData) → AreQuiet (finished_at row n r notes came)
quiet_finish finish.Return n r notes came = quiet_return r n notes came
quiet_finish row n r notes came = tt

not_link : (c : Channel) (due : NeedData) → ◌≡◌ {A = NeedData} (needs.Take (port_of c)) due → due ≢ needs.Take port.Lspawn → due ≢ needs.Take port.Rspawn → ⊥
not_link Local due is local remote = local (sym is)
not_link Remote due is local remote = remote (sym is)

quiet_row : (row : Row) (came : GotData) (d : Desk) (due : NeedData) → due_at row d ≡ due → due ≢ needs.Take port.Lspawn → due ≢ needs.Take port.Rspawn → routing_at row d ≡ None → AreQuiet (booked_at row came d)
quiet_row (at.TakeLink c) came d due is local remote none = absurd (not_link c due is local remote)
quiet_row (at.Mark row m) came d due is local remote none = quiet_mark row m d.note.row came
quiet_row at.InTodo came d due is local remote none = quiet_route d.pass.row d.pass.n none
quiet_row (at.Finish row n) came d due is local remote none = quiet_finish row n d.bounce.row d.bounce.notes came
quiet_row row came d due is local remote none = tt

quiet_on : (f : Fates) (child : Option Bouncer) (by : Controls) (e : Booking) (b : Books) → IsQuiet e → AreFates f b → AreFates f (booked_on child by e b)
quiet_on f child by (Routed n) b quiet h = absurd quiet
quiet_on f child by (Reported delivered c n place) b quiet h = absurd quiet
quiet_on f child by (Noted c n place) b quiet h = line_apart f b n (Notes (named_by by c place)) (λ l. (refl, refl)) h
quiet_on f child by (Overwritten c n place) b quiet h = line_apart f b n (Marks (named_by by c place)) (λ l. (refl, refl)) h
quiet_on f child by (ReadNotes n notes) b quiet h = line_apart f b n (Reads (record { notes = notes; by = by })) (λ l. (refl, refl)) h
quiet_on f None by (Returned n) b quiet h = h
quiet_on f (Some child) by (Returned n) b quiet h = line_apart f b n (Returns (record { actor = child.actor; args = child.args; read = notes_read (b.living n) })) (λ l. (refl, refl)) h
quiet_on f child by (Dropped n) b quiet h = line_apart f b n Drops (λ l. (refl, refl)) h

quiet_all : (f : Fates) (child : Option Bouncer) (by : Controls) (es : List Booking) (b : Books) → AreQuiet es → AreFates f b → AreFates f (booked_all child by es b)
quiet_all f child by [] b quiet h = h
quiet_all f child by (e ∷ es) b quiet h = quiet_all f child by es (booked_on child by e b) quiet.1 (quiet_on f child by e b quiet.0 h)

by_call : (f : Fates) (child : Option Bouncer) (past : List Own) (own : Own) (b : Books) (call : CallData) (came : GotData)
    → (let d = sender_after None past in AreQuiet (booked_at (row_now d own.read own.ready) came d)) → AreFates f b
    → AreFates f (heard_after child b past own.read own.ready (needs.File call) came)
by_call f child past own b call (got.Answered told) quiet h =
    let d : Desk = sender_after None past in quiet_all f child d.book.controls (booked_at (row_now d own.read own.ready) (got.Answered told) d) b quiet h
by_call f child past own b call came quiet h = h

by_due : (f : Fates) (child : Option Bouncer) (past : List Own) (own : Own) (b : Books) (due : NeedData)
    → (let d = sender_after None past in AreQuiet (booked_at (row_now d own.read own.ready) own.came d)) → AreFates f b
    → AreFates f (heard_after child b past own.read own.ready due own.came)
by_due f child past own b (needs.File call) quiet h = by_call f child past own b call own.came quiet h
by_due f child past own b (needs.Take p) quiet h =
    let d : Desk = sender_after None past in quiet_all f child d.book.controls (booked_at (row_now d own.read own.ready) own.came d) b quiet h
by_due f child past own b (needs.Give p bytes) quiet h =
    let d : Desk = sender_after None past in quiet_all f child d.book.controls (booked_at (row_now d own.read own.ready) own.came d) b quiet h
by_due f child past own b due quiet h = h

unrouted_enters : (f : Fates) (child : Option Bouncer) (past : List Own) (own : Own) (b : Books) → HasDue past own → own.due ≢ needs.Take port.Lspawn → own.due ≢ needs.Take port.Rspawn
    → (let d = sender_after None past in routing_at (row_now d own.read own.ready) d ≡ None) → AreFates f b → AreFates f (heard_by child past own b)
unrouted_enters f child past own b has local remote none h =
    let d : Desk = sender_after None past in
    by_due f child past own b own.due (quiet_row (row_now d own.read own.ready) own.came d own.due has.due local remote none) h

-- only a giving routes
not_given : (row : PassRow) (p : Pass) (n : ℕ) → ((to : Port) (bytes : List ℕ) → pass_table.due_at row p ≢ needs.Give to bytes) → routing_by row n ≡ None
not_given todo.Give p n none = absurd (none port.Clean (command_text p.n) refl)
not_given row p n none = refl

unrouted_row : (row : Row) (d : Desk) → ((to : Port) (bytes : List ℕ) → due_at row d ≢ needs.Give to bytes) → routing_at row d ≡ None
unrouted_row at.InTodo d none = not_given d.pass.row d.pass d.pass.n none
unrouted_row row d none = refl

pub other_enters : (f : Fates) (child : Option Bouncer) (past : List Own) (own : Own) (b : Books) → HasDue past own → own.due ≢ needs.Take port.Lspawn → own.due ≢ needs.Take port.Rspawn
    → ((to : Port) (bytes : List ℕ) → own.due ≢ needs.Give to bytes) → AreFates f b → AreFates f (heard_by child past own b)
other_enters f child past own b has local remote given h =
    let d : Desk = sender_after None past in
    unrouted_enters f child past own b has local remote (unrouted_row (row_now d own.read own.ready) d (λ to bytes is. given to bytes (sym has.due ∙ is))) h

not_taken : (due : NeedData) (to p : Port) (bytes : List ℕ) → due ≡ needs.Give to bytes → due ≢ needs.Take p
not_taken due to p bytes gives takes = let both : ◌≡◌ {A = NeedData} (needs.Give to bytes) (needs.Take p) = sym gives ∙ takes in cc

pub given_enters : (f : Fates) (child : Option Bouncer) (past : List Own) (own : Own) (b : Books) (to : Port) (bytes : List ℕ) → HasDue past own → own.due ≡ needs.Give to bytes
    → (let d = sender_after None past in routing_at (row_now d own.read own.ready) d ≡ None) → AreFates f b → AreFates f (heard_by child past own b)
given_enters f child past own b to bytes has gives none h =
    unrouted_enters f child past own b has (not_taken own.due to port.Lspawn bytes gives) (not_taken own.due to port.Rspawn bytes gives) none h

-- A todo command

routed_row : (row : PassRow) (m n : ℕ) → routing_by row m ≡ Some n → routed_at row m ≡ Routed n ∷ []
routed_row todo.Give m n some = let same : ◌≡◌ {A = Option ℕ} (Some m) (Some n) = some in cc
routed_row row m n some = absurd (cc)

routing_books : (row : Row) (came : GotData) (d : Desk) (n : ℕ) → routing_at row d ≡ Some n → booked_at row came d ≡ Routed n ∷ []
routing_books at.InTodo came d n some = routed_row d.pass.row d.pass.n n some
routing_books row came d n some = absurd (cc)

pub routed_enters : (child : Option Bouncer) (past : List Own) (own : Own) (b : Books) (p : Port) (bytes : List ℕ) (n : ℕ) → own.due ≡ needs.Give p bytes
    → let d = sender_after None past in routing_at (row_now d own.read own.ready) d ≡ Some n → entered_in b n (Routes d.book.controls) ≡ heard_by child past own b
routed_enters child past own b p bytes n gives some =
    let d : Desk = sender_after None past in
    ap (λ (es : List Booking). booked_all child d.book.controls es b) (sym (routing_books (row_now d own.read own.ready) own.came d n some))
    ∙ ap (λ (due : NeedData). heard_after child b past own.read own.ready due own.came) (sym gives)

-- what a sender that has looked says of itself, by the past that it stands for
pub looked_routing : (old new : Machine) (past : List Own) (now read : ℕ) (ready : Ready) (o : Option ℕ) → Stands old None past → new ≡ looked_at old now ready → now ≡ read → o ≡ routing_at (row_of new) new.desk
    → let d = sender_after None past in routing_at (row_now d read ready) d ≡ o
looked_routing old new past now read ready o stands looked same is =
    let d : Desk = sender_after None past in
    sym (is
    ∙ ap (λ (m : Machine). routing_at (row_of m) m.desk) looked
    ∙ ap (λ (e : Desk). routing_at (row_now e now ready) e) stands
    ∙ ap (λ (k : ℕ). routing_at (row_now d k ready) d) same)

pub looked_controls : (old new : Machine) (past : List Own) (now : ℕ) (ready : Ready) (by : Controls) → Stands old None past → new ≡ looked_at old now ready → by ≡ new.desk.book.controls
    → by ≡ (sender_after None past).book.controls
looked_controls old new past now ready by stands looked is = is ∙ ap (λ (m : Machine). m.desk.book.controls) looked ∙ ap (λ (d : Desk). d.book.controls) stands

-- A sender that has looked, taken what came and cleared its log stands for one event more.
pub goes_on : (old looked new last : Machine) (past : List Own) (own : Own) (now : ℕ) (came : GotData) → looked ≡ looked_at old now own.ready → now ≡ own.read → came ≡ own.came
    → Stands new None ((let it : Own = record { read = looked.present; ready = looked.ready; due = due_now looked; came = came } in it) ∷ past) → last ≡ record new { log = [] } → Stands last None (own ∷ past)
goes_on old looked new last past own now came is same comes stands cleared =
    ap (λ (m : Machine). m.desk) cleared
    ∙ stands
    ∙ ap (λ (m : Machine). after m.present m.ready came) is
    ∙ ap (λ (k : ℕ). after k own.ready came) same
    ∙ ap (λ (c : GotData). after own.read own.ready c) comes
  where
    after : ℕ → Ready → GotData → Desk
    after read ready came = moved_by (row_now (sender_after None past) read ready) read came (sender_after None past)
