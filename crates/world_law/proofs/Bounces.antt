-- The bounces in ledgers, as the books change.
use Rattle.std.proofs.Common.{◌≡◌, ◌≢◌, ◌⊎◌, inl, inr, ℕ, List, [], ◌∷◌, Bool, true, false, Option, Some, None, refl, sym, ap, ◌∙◌, subst, ⊎_elim, if◌then◌else◌}
use Rattle.address_rules.specs.declared.controls.Controls.{Controls}
use Rattle.address_rules.specs.Nuls.{HaveNoNul}
use Rattle.bounce_record.specs.declared.note_row.NoteRow.{NoteRow}
use Rattle.bounce_record.specs.declared.note_row.NoteRow.TheVariants as written
use Rattle.bounce_record.specs.declared.return_row.ReturnRow.{ReturnRow}
use Rattle.bounce_record.specs.declared.return_row.ReturnRow.TheVariants as back
use Rattle.call_fs.specs.declared.calls.Answer.{Answer}
use Rattle.call_fs.specs.declared.calls.Answer.TheVariants.{Done}
use Rattle.call_fs.specs.declared.calls.CallData.{CallData}
use Rattle.call_fs.specs.declared.past.GotData.{GotData}
use Rattle.call_fs.specs.declared.past.GotData.TheVariants as got
use Rattle.call_fs.specs.Disk.{Among}
use Rattle.queue_inject.specs.declared.injection.Arguments.{Arguments}
use Rattle.queue_law.specs.Books.{Books, HasQueued, Injection, IsInjected, IsLater, booked, entered_in}
use Rattle.queue_law.specs.Entered.{Child, booked_all, booked_on, line_said, named_by, notes_read}
use Rattle.queue_law.specs.Ledgers.{Bounced, Ledger, Line, NotesRead, line_in}
use Rattle.queue_law.specs.Ledgers.Line.{Delivers, Drops, Fails, Marks, Notes, Reads, Returns, Routes}
use Rattle.send_core.specs.Booked.{booked_at, if_done, if_ok, marked_at, noted_at, reported_all, reported_by, reported_if, reported_when, returned_at, routed_at}
use Rattle.send_core.specs.declared.desk.Desk.{Desk}
use Rattle.send_parts.specs.declared.row.MarkRow.{MarkRow}
use Rattle.send_parts.specs.declared.row.MarkRow.TheVariants as mark
use Rattle.send_parts.specs.declared.row.Marked.{Marked}
use Rattle.send_parts.specs.declared.row.Row.{Row}
use Rattle.send_parts.specs.declared.row.Row.TheVariants as at
use Rattle.send_core.specs.Desk.{link, told, with_reader}
use Rattle.send_jobs.specs.Bookings.{Booking}
use Rattle.send_jobs.specs.Bookings.Booking.{Dropped, Noted, Overwritten, ReadNotes, Reported, Returned, Routed}
use Rattle.send_jobs.specs.declared.attempts.Attempt.{Attempt}
use Rattle.send_known.specs.declared.channel.Channel.{Channel}
use Rattle.send_jobs.specs.Failures.{is_final}
use Rattle.send_jobs.specs.Sending.{lane}
use Rattle.send_jobs.specs.Slots.{attempt_in}
use Rattle.send_parts.specs.declared.reply.Way.{Way}
use Rattle.send_parts.specs.declared.reply.Way.TheVariants as way
use Rattle.send_parts.specs.declared.rows.FinishRow.{FinishRow}
use Rattle.send_parts.specs.declared.rows.FinishRow.TheVariants as finish
use Rattle.send_parts.specs.Replies.{said}
use Rattle.spawn_protocol.specs.declared.report.Report.{Report}
use Rattle.spawn_protocol.specs.Report.{counted, read_on}
use Rattle.todo_pass.specs.declared.row.Row.{Row as PassRow}
use Rattle.todo_pass.specs.declared.row.Row.TheVariants as todo
use Rattle.std.proofs.lemmas.Bool.Decides.{eqb_tells}
use Rattle.std.specs.Prelude.{◌==◌}
use Rattle.world_law.specs.Bounces.{BouncesAreQueued, IsBounceOf, IsReturned}
use Rattle.world_law.proofs.Columns.{Has, IsLiving, call_has, entered_has, not_entered}

abbrev bounced_in : Ledger → List Bounced
bounced_in l = l.bounced

-- a bounce in the ledger of some message with these arguments
abbrev HasBounce : Books → Arguments → Bounced → Type 0
HasBounce b of x = Has bounced_in b of x

-- what was accepted stays so
abbrev pub KeepsAccepted : Books → Books → Type 0
KeepsAccepted b c = (i : Injection) → IsInjected b i → i.accepted ≡ true → (j : Injection) × IsInjected c j × IsLater i j

pub queued_on : (b c : Books) → KeepsAccepted b c → (a : List ℕ) (args : Arguments) → HasQueued b a args → HasQueued c a args
queued_on b c keeps a args h =
    let w = keeps h.0 h.1 h.4 in
    (w.0, w.1, w.2.actor_is ∙ h.2, w.2.args_are ∙ h.3, w.2.accepted_is ∙ h.4)

-- what is known of a bounce of the books, of a message with these arguments
abbrev IsKnown : Books → Arguments → Bounced → Type 0
IsKnown b of x = HasQueued b x.actor x.args × (HaveNoNul x.read.by × IsBounceOf x.read.by of x.read.notes x.args)

known : (b : Books) (i : Injection) (x : Bounced) → IsReturned b i x → IsKnown b i.args x
known b i x w = (w.accepted, (w.no_nul, w.carries))

kept_returned : (b : Books) → BouncesAreQueued b → (of : Arguments) (x : Bounced) → HasBounce b of x → IsKnown b of x
kept_returned b B of x h = subst (λ (z : Arguments). IsKnown b z x) h.2 (known b h.0 x (B h.0 h.1 x h.3))

-- A call of an injector

pub called_bounces : (b : Books) (a : List ℕ) (args : Arguments) (call : CallData) (answer : Answer) → KeepsAccepted b (booked b a args call answer)
    → BouncesAreQueued b → BouncesAreQueued (booked b a args call answer)
called_bounces b a args call answer keeps B i kept x h =
    let w = kept_returned b B i.args x (call_has bounced_in (λ y none. none) b a args i.args call answer x (i, kept, refl, h)) in
    record { accepted = queued_on b (booked b a args call answer) keeps x.actor x.args w.0; no_nul = w.1.0; carries = w.1.1 }

-- What a sender enters

abbrev IsLineOf : Line → Bounced → Type 0
IsLineOf (Returns y) x = x ≡ y
IsLineOf line x = ⊥

line_bounced : (line : Line) (l : Ledger) (x : Bounced) → Among x (line_in line l).bounced → Among x l.bounced ⊎ IsLineOf line x
line_bounced (Returns y) l x h = ⊎_elim (λ (e : x ≡ y). inr e) (λ (w : Among x l.bounced). inl w) h
line_bounced (Delivers s) l x h = inl h
line_bounced (Fails s) l x h = inl h
line_bounced (Notes it) l x h = inl h
line_bounced (Reads it) l x h = inl h
line_bounced (Marks it) l x h = inl h
line_bounced (Routes by) l x h = inl h
line_bounced Drops l x h = inl h

-- the end of an injector of a bounce with 0 is among them
abbrev IsReturn : Booking → Type 0
IsReturn (Returned n) = Unit {0}
IsReturn e = ⊥

abbrev pub HasReturn : List Booking → Type 0
HasReturn [] = ⊥
HasReturn (e ∷ es) = IsReturn e ⊎ HasReturn es

-- no bounce more
no_line : (b : Books) (n : ℕ) (line : Line) (of : Arguments) (x : Bounced) → (IsLineOf line x → ⊥) → HasBounce (entered_in b n line) of x → HasBounce b of x
no_line b n line of x none h = not_entered bounced_in IsLineOf line_bounced b n line of x none h

said_none : (delivered : Bool) (c : Channel) (place : ℕ) (x : Bounced) → IsLineOf (line_said delivered (record { channel = c; place = place })) x → ⊥
said_none true c place x h = h
said_none false c place x h = h

on_bounces : (child : Option Child) (by : Controls) (e : Booking) (b : Books) (of : Arguments) (x : Bounced) → (IsReturn e → ⊥) → HasBounce (booked_on child by e b) of x → HasBounce b of x
on_bounces child by (Routed n) b of x none h = no_line b n (Routes by) of x (λ it. it) h
on_bounces child by (Reported delivered c n place) b of x none h =
    no_line b n (line_said delivered (record { channel = c; place = place })) of x (said_none delivered c place x) h
on_bounces child by (Noted c n place) b of x none h = no_line b n (Notes (named_by by c place)) of x (λ it. it) h
on_bounces child by (Overwritten c n place) b of x none h = no_line b n (Marks (named_by by c place)) of x (λ it. it) h
on_bounces child by (ReadNotes n notes) b of x none h = no_line b n (Reads (record { notes = notes; by = by })) of x (λ it. it) h
on_bounces child by (Dropped n) b of x none h = no_line b n Drops of x (λ it. it) h
on_bounces child by (Returned n) b of x none h = absurd (none tt)

all_bounces : (child : Option Child) (by : Controls) (es : List Booking) (b : Books) (of : Arguments) (x : Bounced) → (HasReturn es → ⊥) → HasBounce (booked_all child by es b) of x → HasBounce b of x
all_bounces child by [] b of x none h = h
all_bounces child by (e ∷ es) b of x none h =
    on_bounces child by e b of x (λ it. none (inl it)) (all_bounces child by es (booked_on child by e b) of x (λ it. none (inr it)) h)

-- The end of the child enters one.

abbrev pub bounced : Child → NotesRead → Bounced
bounced c read = record { actor = c.actor; args = c.args; read = read }

abbrev IsOfChild : Option Child → Books → ℕ → Arguments → Bounced → Type 0
IsOfChild child b n of x = (c : Child) × (child ≡ Some c) × IsLiving b n of × (x ≡ bounced c (notes_read (b.living n)))

returned_bounces : (child : Option Child) (by : Controls) (b : Books) (n : ℕ) (of : Arguments) (x : Bounced) → HasBounce (booked_all child by (Returned n ∷ []) b) of x → HasBounce b of x ⊎ IsOfChild child b n of x
returned_bounces None by b n of x h = inl h
returned_bounces (Some c) by b n of x h = ⊎_elim
    (λ (old : HasBounce b of x). inl old)
    (λ (it : (x ≡ bounced c (notes_read (b.living n))) × IsLiving b n of). inr (c, refl, it.1, it.0))
    (entered_has bounced_in IsLineOf line_bounced b n (Returns (bounced c (notes_read (b.living n)))) of x h)

-- Of what a sender enters nothing is a bounce, or it is one bounce alone: that of its child, which has queued it, of the message of that number
-- with the notes that were read last.
abbrev pub MayBook : Option Child → List Booking → Books → Type 0
MayBook child es b = (HasReturn es → ⊥)
    ⊎ ((n : ℕ) × (es ≡ Returned n ∷ []) × ((c : Child) → child ≡ Some c → (i : Injection) → b.living n ≡ Some i → IsReturned b i (bounced c (notes_read (b.living n)))))

pub booked_bounces : (child : Option Child) (by : Controls) (es : List Booking) (b : Books) → KeepsAccepted b (booked_all child by es b) → MayBook child es b
    → BouncesAreQueued b → BouncesAreQueued (booked_all child by es b)
booked_bounces child by es b keeps may B i kept x h =
    let it : IsKnown b i.args x = ⊎_elim none one may in
    record { accepted = queued_on b (booked_all child by es b) keeps x.actor x.args it.0; no_nul = it.1.0; carries = it.1.1 }
  where
    here : HasBounce (booked_all child by es b) i.args x
    here = (i, kept, refl, h)

    none : (HasReturn es → ⊥) → IsKnown b i.args x
    none without = kept_returned b B i.args x (all_bounces child by es b i.args x without here)

    entered : (n : ℕ) → ((c : Child) → child ≡ Some c → (j : Injection) → b.living n ≡ Some j → IsReturned b j (bounced c (notes_read (b.living n))))
        → IsOfChild child b n i.args x → IsKnown b i.args x
    entered n returns w =
        let lives = w.2 in
        subst (λ (y : Bounced). IsKnown b i.args y) (sym w.3)
        (subst (λ (z : Arguments). IsKnown b z (bounced w.0 (notes_read (b.living n)))) lives.2
        (known b lives.0 (bounced w.0 (notes_read (b.living n))) (returns w.0 w.1 lives.0 lives.1)))

    one : (n : ℕ) × (es ≡ Returned n ∷ []) × ((c : Child) → child ≡ Some c → (j : Injection) → b.living n ≡ Some j → IsReturned b j (bounced c (notes_read (b.living n))))
        → IsKnown b i.args x
    one w = ⊎_elim
        (λ (old : HasBounce b i.args x). kept_returned b B i.args x old)
        (λ (new : IsOfChild child b w.0 i.args x). entered w.0 w.2 new)
        (returned_bounces child by b w.0 i.args x (subst (λ (z : List Booking). HasBounce (booked_all child by z b) i.args x) w.1 here))

-- It is entered only as that injector's end comes.

if_none : (final delivered : Bool) (c : Channel) (a : Attempt) (later : List Booking) → (HasReturn later → ⊥) → HasReturn (reported_if final delivered c a later) → ⊥
if_none true delivered c a later none h = ⊎_elim (λ (it : ⊥). it) (λ (w : HasReturn later). none w) h
if_none false delivered c a later none h = none h

by_none : (o : Option Attempt) (c : Channel) (r : Report) (later : List Booking) → (HasReturn later → ⊥) → HasReturn (reported_by o c r later) → ⊥
by_none None c r later none h = none h
by_none (Some a) c r later none h = if_none (is_final (counted r.letter) a.dying) (counted r.letter == 75) c a later none h

all_none : (c : Channel) (rs : List Report) (d : Desk) → HasReturn (reported_all c rs d) → ⊥
all_none c [] d h = h
all_none c (r ∷ rs) d h = by_none (attempt_in (lane c d.slots).slots r.slot) c r (reported_all c rs (told c r d)) (all_none c rs (told c r d)) h

when_none : (w : Way) (c : Channel) (bytes : List ℕ) (d : Desk) → HasReturn (reported_when w c bytes d) → ⊥
when_none way.Fine c bytes d h = let it = read_on (link c d).reader bytes in all_none c it.0 (with_reader c it.1 d) h
when_none w c bytes d h = h

ok_none : (answer : Answer) (e : Booking) → (IsReturn e → ⊥) → HasReturn (if_ok answer e) → ⊥
ok_none Done e none h = ⊎_elim (λ (it : IsReturn e). none it) (λ (it : ⊥). it) h
ok_none answer e none h = h

done_none : (came : GotData) (e : Booking) → (IsReturn e → ⊥) → HasReturn (if_done came e) → ⊥
done_none (got.Answered told) e none h = ok_none told.answer e none h
done_none came e none h = h

noted_none : (row : NoteRow) (m : Marked) (came : GotData) → HasReturn (noted_at row m came) → ⊥
noted_none (written.Sync fd) m came h = done_none came (Noted m.channel m.n m.place) (λ it. it) h
noted_none row m came h = h

marked_none : (row : MarkRow) (m : Marked) (note : NoteRow) (came : GotData) → HasReturn (marked_at row m note came) → ⊥
marked_none mark.Noting m note came h = noted_none note m came h
marked_none (mark.Write fd) m note came h = ⊎_elim (λ (it : ⊥). it) (λ (it : ⊥). it) h
marked_none row m note came h = h

routed_none : (row : PassRow) (n : ℕ) → HasReturn (routed_at row n) → ⊥
routed_none todo.Give n h = ⊎_elim (λ (it : ⊥). it) (λ (it : ⊥). it) h
routed_none row n h = h

-- the status is taken, and it is 0
abbrev IsZero : ReturnRow → ℕ → List ℕ → GotData → Type 0
IsZero row n notes came = (pid : ℕ) × (row ≡ back.Await pid) × (came ≡ got.Ended 0) × (returned_at row n notes came ≡ Returned n ∷ [])

zero_alone : (pid n : ℕ) (notes : List ℕ) (came : GotData) → (HasReturn (returned_at (back.Await pid) n notes came) → ⊥) ⊎ IsZero (back.Await pid) n notes came
zero_alone pid n notes (got.Ended status) = ⊎_elim
    (λ (w : ((status == 0) ≡ true) × (status ≡ 0)). inr (pid, refl, ap got.Ended w.1, ap (λ (t : Bool). if t then Returned n ∷ [] else []) w.0))
    (λ (w : ((status == 0) ≡ false) × (status ≢ 0)). inl (λ h. subst (λ (t : Bool). HasReturn (if t then Returned n ∷ [] else [])) w.0 h))
    (eqb_tells status 0)
zero_alone pid n notes came = inl (λ h. h)

return_alone : (row : ReturnRow) (n : ℕ) (notes : List ℕ) (came : GotData) → (HasReturn (returned_at row n notes came) → ⊥) ⊎ IsZero row n notes came
return_alone (back.CloseNotes fd) n notes came = inl (λ h. ⊎_elim (λ (it : ⊥). it) (λ (it : ⊥). it) h)
return_alone (back.Await pid) n notes came = zero_alone pid n notes came
return_alone back.Discard n notes came = inl (λ h. done_none came (Dropped n) (λ it. it) h)
return_alone row n notes came = inl (λ h. h)

-- A bounce is entered alone, as the status of its injector is taken, which is 0.
pub record IsStatusTaken (row : Row) (came : GotData) (d : Desk) : Type 0 where
  pub n : ℕ
  pub pid : ℕ
  pub row_is : row ≡ at.Finish finish.Return n
  pub awaits : d.bounce.row ≡ back.Await pid
  pub zero : came ≡ got.Ended 0
  pub alone : booked_at row came d ≡ Returned n ∷ []

finished_alone : (row : FinishRow) (n : ℕ) (came : GotData) (d : Desk) → (HasReturn (booked_at (at.Finish row n) came d) → ⊥) ⊎ IsStatusTaken (at.Finish row n) came d
finished_alone finish.Return n came d = ⊎_elim
    (λ (none : HasReturn (returned_at d.bounce.row n d.bounce.notes came) → ⊥). inl none)
    (λ (w : IsZero d.bounce.row n d.bounce.notes came). inr (record { n = n; pid = w.0; row_is = refl; awaits = w.1; zero = w.2; alone = w.3 }))
    (return_alone d.bounce.row n d.bounce.notes came)
finished_alone row n came d = inl (λ h. h)

pub returns_alone : (row : Row) (came : GotData) (d : Desk) → (HasReturn (booked_at row came d) → ⊥) ⊎ IsStatusTaken row came d
returns_alone (at.TakeLink c) came d = inl (λ h. when_none (said came).way c (said came).bytes d h)
returns_alone (at.Mark row m) came d = inl (λ h. marked_none row m d.note.row came h)
returns_alone (at.Finish row n) came d = finished_alone row n came d
returns_alone at.InTodo came d = inl (λ h. routed_none d.pass.row d.pass.n h)
returns_alone row came d = inl (λ h. h)
