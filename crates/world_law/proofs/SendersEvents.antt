-- The events of the sender: file calls, what it gives to its cleaner and to the spawners, and what it takes from them.
use Rattle.std.proofs.Common.{◌≡◌, ◌≢◌, ◌⊎◌, inl, inr, ℕ, ◌≤◌, ◌==◌, List, [], ◌∷◌, ◌++◌, length, take, drop, Bool, true, false, if◌then◌else◌, Option, Some, None, refl, sym, ap, ◌∙◌, subst, arith, codes, ⊎_elim}
use Rattle.std.proofs.lemmas.List.{drop_at}
use Rattle.address_rules.specs.declared.controls.Controls.{Controls}
use Rattle.bounce_record.specs.declared.return_row.ReturnRow.{ReturnRow}
use Rattle.bounce_record.specs.declared.return_row.ReturnRow.TheVariants as back
use Rattle.bounce_record.specs.Returning.{Returning, due_at as return_due_at}
use Rattle.call_fs.specs.Apply.{Fits, IsReadBy}
use Rattle.call_fs.specs.declared.calls.CallData.{CallData}
use Rattle.call_fs.specs.declared.calls.Told.{Told}
use Rattle.call_fs.specs.declared.past.ChildData.{ChildData}
use Rattle.call_fs.specs.declared.past.ChildData.TheVariants as child_kinds
use Rattle.call_fs.specs.declared.past.GotData.{GotData}
use Rattle.call_fs.specs.declared.past.GotData.TheVariants as got
use Rattle.call_fs.specs.declared.past.NeedData.{NeedData}
use Rattle.call_fs.specs.declared.past.NeedData.TheVariants as needs
use Rattle.call_fs.specs.declared.past.Own.{Own}
use Rattle.call_fs.specs.declared.program.Port.{Port}
use Rattle.call_fs.specs.declared.program.Port.TheVariants as port
use Rattle.program_law.specs.Errand.Errands.{Awaits}
use Rattle.program_law.specs.Errand.Errands.Awaits.{Nothing, Answer}
use Rattle.program_law.proofs.Delivery.Stay.{drops_stay}
use Rattle.mail_bytes.specs.Moments.{IsMoment}
use Rattle.queue_clean.specs.Commands.{ended, text_of}
use Rattle.queue_law.specs.Books.{HasQueued}
use Rattle.queue_law.specs.Entered.{Child as Bouncer}
use Rattle.queue_law.specs.Numbers.{Queue}
use Rattle.queue_law.specs.Senders.{called_queue}
use Rattle.send_core.specs.Booked.{booked_at, returned_at, routed_at}
use Rattle.send_core.specs.declared.desk.Desk.{Desk}
use Rattle.send_parts.specs.declared.row.MarkRow.TheVariants as mark
use Rattle.send_parts.specs.declared.row.Row.{Row}
use Rattle.send_parts.specs.declared.row.Row.TheVariants as at
use Rattle.send_core.specs.Table.{place_after as sender_after, due_at, moved_by, row_now}
use Rattle.send_jobs.specs.Bookings.Booking.{Returned}
use Rattle.send_known.specs.declared.channel.Channel.TheVariants.{Local, Remote}
use Rattle.send_parts.specs.declared.rows.FinishRow.TheVariants as finish
use Rattle.program_law.specs.Sender.Stands.{StandsAt}
use Rattle.program_law.specs.Sender.Points.{HasChild}
use Rattle.program_law.specs.Sender.Takings.{booked_queue}
use Rattle.program_law.specs.Sender.Waits.{IsFree, awaits, awaits_at}
use Rattle.program_law.specs.Sender.Whole.{IsTold, SenderTakes}
use Rattle.program_law.proofs.Sender.Arrive.{arrived}
use Rattle.program_law.proofs.Sender.Asking.{texts_keep}
use Rattle.program_law.proofs.Sender.Awaits.{arrives, gives, lost, takes}
use Rattle.program_law.proofs.Sender.Frees.{free}
use Rattle.program_law.proofs.Sender.NoteDue.{note_takes, return_takes}
use Rattle.program_law.proofs.Sender.Programs.{runs_none, starts_of}
use Rattle.program_law.proofs.Sender.Whole.{senders_keep as sender_keeps}
use Rattle.todo_pass.specs.declared.row.Row.{Row as PassRow}
use Rattle.todo_pass.specs.declared.row.Row.TheVariants as todo
use Rattle.todo_pass.specs.Table.{Pass, due_at as due_in}
use Rattle.world_pipes.specs.Pipework.{Pipework, pipework_after}
use Rattle.world_pipes.specs.Pipework.Tenant.{Runs}
use Rattle.world_events.specs.declared.event.Program.{Program}
use Rattle.world_events.specs.declared.event.Program.TheVariants.{Sender}
use Rattle.mail_world.specs.History.{Actor, ComesOf, IsSender, Life, State, acted, bouncer_of, next_of}
use Rattle.mail_world.specs.History.Life.{Alive}
use Rattle.mail_world.specs.Untouched.{queue}
use Rattle.world_law.specs.Bounces.{BouncesAreQueued}
use Rattle.world_law.specs.Crew.{IsNamed, awaits_in, link_in, lives_in}
use Rattle.world_law.specs.Fares.{SenderFares}
use Rattle.world_law.specs.Inv.{ErrandRests, FedBy, Inv}
use Rattle.world_law.specs.Laws.{SendersKeep}
use Rattle.world_law.proofs.Bounces.{IsStatusTaken, MayBook, booked_bounces, returns_alone}
use Rattle.world_law.proofs.Gone.{errands_at}
use Rattle.world_law.proofs.Moved.{IsSameLink}
use Rattle.world_law.proofs.SendersChild.{IsOfChild, carried, child_queued, taken_has}
use Rattle.world_law.proofs.SendersLink.{IsBusy, answered_errands, asked_errands, cut_errands, given_rests, idle_at, idle_errands, told_by_link}
use Rattle.world_law.proofs.SendersOthers.{others_fare, others_fare_on, through}
use Rattle.world_law.proofs.SendersPipes.{IsOther, NoTenantMore, gives_same, takes_same, takes_slots}
use Rattle.world_law.proofs.SendersPut.{OthersFare, idle_by, sender, sent, sent_keeps, texts_booked, texts_on}
use Rattle.world_law.proofs.Tenants.{GoesOn, KeepsPrograms, came_kept, one_keeps, tenant_other}
use Rattle.send_jobs.specs.Bookings.{Booking}

-- What is due by its table

-- it gives its cleaner no command
abbrev GivesNone : NeedData → Type 0
GivesNone (needs.Give port.Clean text) = ⊥
GivesNone due = Unit {0}

-- a pass takes from the cleaner alone
pass_takes : (row : PassRow) (p : Pass) (from : Port) → due_in row p ≡ needs.Take from → port.Clean ≡ from
pass_takes todo.Answer p from is = cc
pass_takes row p from is = absurd (cc)

-- and enters nothing then
pass_enters : (row : PassRow) (p : Pass) → due_in row p ≡ needs.Take port.Clean → routed_at row p.n ≡ []
pass_enters todo.Give p due = absurd (cc)
pass_enters row p due = refl

-- a return takes the status of its injector alone
ended_has : (child : Option Bouncer) (n pid : ℕ) (notes : List ℕ) (came : GotData) → IsOfChild child came → HasChild (returned_at (back.Await pid) n notes came) child
ended_has child n pid notes (got.Ended status) has = by (status == 0) where
  by : (zero : Bool) → HasChild (if zero then Returned n ∷ [] else []) child
  by true = has
  by false = tt
ended_has child n pid notes came has = tt

return_has : (row : ReturnRow) (it : Returning) (child : Option Bouncer) (n : ℕ) (notes : List ℕ) (came : GotData) (from : Port) → return_due_at row it ≡ needs.Take from → IsOfChild child came
    → HasChild (returned_at row n notes came) child
return_has (back.Await pid) it child n notes came from due has = ended_has child n pid notes came has
return_has row it child n notes came from due has = absurd (cc)

pub told_other : (now : ℕ) (child : Option Bouncer) (q : Queue) (row : Row) (came : GotData) (d : Desk) (from : Port) → IsOther from → due_at row d ≡ needs.Take from
    → IsOfChild child came → IsTold now child q row came d
told_other now child q at.InTodo came d from it due has = λ done. absurd (subst IsOther (sym (pass_takes d.pass.row d.pass from due)) it)
told_other now child q (at.Finish finish.Return n) came d from it due has = return_has d.bounce.row d.bounce child n d.bounce.notes came from due has
told_other now child q (at.Finish row n) came d from it due has = tt
told_other now child q row came d from it due has = tt

-- nothing is entered with what is taken from the cleaner
pub none_entered : (child : Option Bouncer) (by : Controls) (row : Row) (came : GotData) (d : Desk) (q : Queue) → due_at row d ≡ needs.Take port.Clean → booked_queue child by (booked_at row came d) q ≡ q
none_entered child by (at.TakeLink Local) came d q due = absurd (cc)
none_entered child by (at.TakeLink Remote) came d q due = absurd (cc)
none_entered child by (at.Mark mark.Noting m) came d q due = absurd (note_takes d.note.row d.note port.Clean due)
none_entered child by (at.Mark (mark.Write fd) m) came d q due = absurd (cc)
none_entered child by (at.Mark row m) came d q due = refl
none_entered child by at.InTodo came d q due = ap (λ (es : List Booking). booked_queue child by es q) (pass_enters d.pass.row d.pass due)
none_entered child by (at.Finish finish.Return n) came d q due = absurd (return_takes d.bounce.row d.bounce due)
none_entered child by (at.Finish row n) came d q due = refl
none_entered child by row came d q due = refl

module _ (s : State) (I : Inv s) (wrote began : ℕ) (past : List Own) (own : Own) (is : s.actors (codes "sender") ≡ Some (sender began past)) (soon : own.read ≤ s.now) where
  abbrev name : List ℕ
  name = codes "sender"

  abbrev q : Queue
  q = queue s I.role

  abbrev d : Desk
  d = sender_after None past

  abbrev row : Row
  row = row_now d own.read own.ready

  abbrev next : GotData → Desk
  next came = moved_by row own.read came d

  abbrev event : NeedData → GotData → Own
  event due came = record { read = own.read; ready = own.ready; due = due; came = came }

  abbrev then_state : NeedData → GotData → State
  then_state due came = acted s name (event due came) wrote (Some (sender began past))

  abbrev pipes_then : NeedData → GotData → Pipework
  pipes_then due came = pipework_after s.pipework name due came wrote

  -- the injector of a bounce, if it has started one
  abbrev child : Option Bouncer
  child = bouncer_of s name

  fares : SenderFares s.now q name d
  fares = I.fares name (sender began past) is

  moment : IsMoment own.read
  moment = let m = I.moment in omega (arith, m, soon)

  here : StandsAt s.now q name row d
  here = arrived s.now own.read q name soon moment d own.ready fares.stands

  waits_as : (link_in s).awaits ≡ awaits_at row d.pass
  waits_as = ap awaits_in is ∙ sym (arrives d.row d own.read own.ready)

  idle : (due : NeedData) → due_at row d ≡ due → IsBusy due → (link_in s).awaits ≡ Nothing
  idle due e busy = waits_as ∙ idle_at d row (subst IsBusy (sym e) busy)

  is_free : (due : NeedData) (came : GotData) → due_at row d ≡ due → GivesNone due → IsFree (awaits (next came))
  is_free due came e none = free d own.read own.ready came (λ text given. subst GivesNone (sym e ∙ given) none)

  apart : (a : List ℕ) (slot : ℕ) (b : List ℕ) → s.pipework.programs a slot ≡ Some (Runs b) → b ≢ codes "clean"
  apart = tenant_other s I.tenants

  -- what lies between the two then, over a queue
  abbrev Between : Queue → Awaits → List ℕ → List ℕ → Type 0
  Between r w given answers =
      ErrandRests s.now r (lives_in (s.actors (codes "clean"))) (record { awaits = w; place = (link_in s).place; given = given; answers = answers })

  abbrev Then : Queue → NeedData → GotData → Type 0
  Then r due came = Between r (awaits (next came)) ((pipes_then due came).pipes (codes "clean") port.Input).bytes ((pipes_then due came).pipes name port.Clean).bytes

  -- it does something else than to give to its cleaner or take from it
  idle_then : (r : Queue) (due : NeedData) (came : GotData) → due_at row d ≡ due → IsBusy due → GivesNone due → IsSameLink s.pipework (pipes_then due came) → Then r due came
  idle_then r due came e busy none same =
      subst (λ (t : List ℕ). Between r (awaits (next came)) t ((pipes_then due came).pipes name port.Clean).bytes) (sym same.given)
      (subst (λ (t : List ℕ). Between r (awaits (next came)) (link_in s).given t) (sym same.answers)
      (idle_errands s.now q r (lives_in (s.actors (codes "clean"))) (lives_in (s.actors (codes "clean"))) (link_in s) I.errands (idle due e busy)
      (awaits (next came)) (is_free due came e none)))

  -- what was due is told by its table
  fed_when : (t : State) (due : NeedData) (came : GotData) → due_at row d ≡ due → FedBy t name due came → FedBy t name (due_at row d) came
  fed_when t due came is fed = subst (λ (z : NeedData). FedBy t name z came) (sym is) fed

  -- no file call enters a bounce
  call_books : (told : Told) → MayBook child (booked_at row (got.Answered told) d) s.books
  call_books told = ⊎_elim
      (λ none. inl none)
      (λ (w : IsStatusTaken row (got.Answered told) d). let ends : got.Answered told ≡ got.Ended 0 = w.zero in absurd (cc))
      (returns_alone row (got.Answered told) d)

  -- a taking enters that of the child
  taken_books : (came : GotData) → (came ≡ got.Ended 0 → (c : Bouncer) → child ≡ Some c → HasQueued s.books c.actor c.args) → MayBook child (booked_at row came d) s.books
  taken_books came queued = ⊎_elim
      (λ none. inl none)
      (λ (w : IsStatusTaken row came d).
      inr (
        w.n,
        w.alone,
        λ c has i lives.
            let it = carried s I began past is own.read own.ready came here w c has i lives in
            record { accepted = queued w.zero c has; no_nul = it.0; carries = it.1 },
      ))
      (returns_alone row came d)

  -- A file call

  called : (call : CallData) (told : Told) → due_at row d ≡ needs.File call → Fits s.disk call told.answer wrote → IsReadBy s.disk call told
      → Inv (then_state (needs.File call) (got.Answered told))
  called call told due fits by =
      let came : GotData = got.Answered told in
      let l = sender_keeps.calls s.now q name child d own.read own.ready call told wrote I.sound soon moment fares.stands due fits by in
      let made : Queue = called_queue q name own.read call told.answer wrote l.0 in
      let r : Queue = booked_queue child d.book.controls (booked_at row came d) made in
      let none : (link_in s).awaits ≡ Nothing = idle (needs.File call) due tt in
      sent_keeps s I r began past (event (needs.File call) came ∷ past) (pipes_then (needs.File call) came) is l.1.leads.sound
      (booked_bounces child d.book.controls (booked_at row came d) s.books l.1.leads.elsewhere.accepted (call_books told) I.bounces)
      (λ o x other there.
      others_fare s.now l.1.number q r l.1.leads.elsewhere I.sound.suits l.1.closed (drops_stay.tmp name q r (drops_stay.outside name q r l.1.leads.outside l.1.leads.old)) o other x.program x.past x.life (I.crew o x there)
      (idle_by s I none o x.program x.past x.life there (I.crew o x there)) (I.fares o x there))
      (record {
        stands = l.1.stands;
        texts = texts_booked child d.book.controls (booked_at row came d) made (next came)
            (texts_on q made refl (next came) (texts_keep.goes_on s.now q name d own.read own.ready came soon moment fares.stands fares.texts));
      })
      (λ b e t there. there) refl (fed_when (sent s r began (event (needs.File call) came ∷ past) (pipes_then (needs.File call) came)) (needs.File call) came due tt)
      (idle_then r (needs.File call) came due tt tt (record { given = refl; answers = refl }))

  -- What it enters of a giving or a taking

  abbrev told_then : GotData → Queue
  told_then came = booked_queue child d.book.controls (booked_at row came d) q

  -- A giving

  giving : (to : Port) (bytes : List ℕ) (came : GotData) → due_at row d ≡ needs.Give to bytes → SenderTakes s.now name q (told_then came) (next came)
  giving to bytes came due = sender_keeps.gives s.now q name child d own.read own.ready to bytes came I.sound soon moment fares.stands due

  gave : (to : Port) (bytes : List ℕ) (came : GotData) → due_at row d ≡ needs.Give to bytes → came ≢ got.Ended 0
      → FedBy (then_state (needs.Give to bytes) came) name (needs.Give to bytes) came → Then (told_then came) (needs.Give to bytes) came → Inv (then_state (needs.Give to bytes) came)
  gave to bytes came due no_status fed errands =
      let t = giving to bytes came due in
      let none : (link_in s).awaits ≡ Nothing = idle (needs.Give to bytes) due tt in
      sent_keeps s I (told_then came) began past (event (needs.Give to bytes) came ∷ past) (pipes_then (needs.Give to bytes) came) is t.sound
      (booked_bounces child d.book.controls (booked_at row came d) s.books (through s.now name q (told_then came) t.leads)
      (taken_books came (λ zero c has. absurd (no_status zero))) I.bounces)
      (λ o x other there.
      others_fare_on s.now o other x.program x.past x.life (I.crew o x there) (idle_by s I none o x.program x.past x.life there (I.crew o x there))
      q (told_then came) t.leads I.sound (I.fares o x there))
      (record {
        stands = t.stands;
        texts = texts_booked child d.book.controls (booked_at row came d) q (next came)
            (texts_keep.goes_on s.now q name d own.read own.ready came soon moment fares.stands fares.texts);
      })
      (λ b e t there. there) refl (fed_when (then_state (needs.Give to bytes) came) (needs.Give to bytes) came due fed) errands

  -- no status comes of it
  no_zero : (to : Port) (bytes : List ℕ) → ComesOf s name (needs.Give to bytes) (got.Ended 0) wrote → ⊥
  no_zero (port.Program slot) bytes comes = comes
  no_zero to bytes comes = comes

  gives_none : (to : Port) (bytes : List ℕ) (came : GotData) → ComesOf s name (needs.Give to bytes) came wrote → came ≢ got.Ended 0
  gives_none to bytes came comes zero = no_zero to bytes (subst (λ (z : GotData). ComesOf s name (needs.Give to bytes) z wrote) zero comes)

  -- what a child is given is its input
  fed_of : (to : Port) (bytes : List ℕ) (came : GotData) → ComesOf s name (needs.Give to bytes) came wrote → FedBy s name (needs.Give to bytes) came
  fed_of (port.Program slot) bytes got.Gave comes = comes
  fed_of to bytes came comes = tt

  still_sends : (due : NeedData) (came : GotData) → KeepsPrograms s.actors (then_state due came).actors
  still_sends due came = one_keeps s.actors name (sender began (event due came ∷ past)) (subst (λ (o : Option Actor). GoesOn o (Sender began)) (sym is) refl)

  gave_other : (to : Port) (bytes : List ℕ) (came : GotData) → due_at row d ≡ needs.Give to bytes → IsOther to → GivesNone (needs.Give to bytes)
      → ComesOf s name (needs.Give to bytes) came wrote → Inv (then_state (needs.Give to bytes) came)
  gave_other to bytes came due it none comes = gave to bytes came due (gives_none to bytes came comes)
      (came_kept s (then_state (needs.Give to bytes) came) (still_sends (needs.Give to bytes) came) (λ b e t there. inl there) I.tenants name (needs.Give to bytes) came (fed_of to bytes came comes))
      (idle_then (told_then came) (needs.Give to bytes) came due tt none (gives_same s.pipework apart wrote to bytes came it))

  -- a command, whole or in part
  gave_command : (bytes : List ℕ) (came : GotData) → due_at row d ≡ needs.Give port.Clean bytes → ComesOf s name (needs.Give port.Clean bytes) came wrote
      → Inv (then_state (needs.Give port.Clean bytes) came)
  gave_command bytes got.Gave due comes =
      let g = gives d row bytes due in
      gave port.Clean bytes got.Gave due (λ zero. absurd (cc)) tt
      (subst (λ (t : List ℕ). Between (told_then got.Gave) (awaits (next got.Gave)) ((link_in s).given ++ t) (link_in s).answers) (sym g.text_is)
      (subst (λ (w : Awaits). Between (told_then got.Gave) w ((link_in s).given ++ ended (text_of g.command)) (link_in s).answers) (sym (g.given own.read))
      (asked_errands s.now q (told_then got.Gave) (lives_in (s.actors (codes "clean"))) (lives_in (s.actors (codes "clean"))) (link_in s) I.errands (waits_as ∙ g.idle) g.command
      (given_rests s.now q name child got.Gave d I.sound row here g.command g.is))))
  gave_command bytes got.Failed due comes =
      let g = gives d row bytes due in
      gave port.Clean bytes got.Failed due (λ zero. absurd (cc)) tt
      (subst (λ (t : List ℕ). Between (told_then got.Failed) (awaits (next got.Failed)) ((link_in s).given ++ take wrote t) (link_in s).answers) (sym g.text_is)
      (subst (λ (w : Awaits). Between (told_then got.Failed) w ((link_in s).given ++ take wrote (ended (text_of g.command))) (link_in s).answers) (sym (g.failed own.read))
      (cut_errands s.now q (told_then got.Failed) (lives_in (s.actors (codes "clean"))) (lives_in (s.actors (codes "clean"))) (link_in s) I.errands (waits_as ∙ g.idle) g.command
      (given_rests s.now q name child got.Failed d I.sound row here g.command g.is) wrote)))
  gave_command bytes came due comes = absurd comes

  -- A taking

  taking : (from : Port) (came : GotData) → due_at row d ≡ needs.Take from → IsTold s.now child q row came d → SenderTakes s.now name q (told_then came) (next came)
  taking from came due told = sender_keeps.takes s.now q name child d own.read own.ready from came I.sound soon moment fares.stands due told

  took : (from : Port) (came : GotData) → due_at row d ≡ needs.Take from → IsTold s.now child q row came d → BouncesAreQueued (told_then came).books → OthersFare s (told_then came) → Then (told_then came) (needs.Take from) came
      → Inv (then_state (needs.Take from) came)
  took from came due told bounces others errands =
      let t = taking from came due told in
      sent_keeps s I (told_then came) began past (event (needs.Take from) came ∷ past) (pipes_then (needs.Take from) came) is t.sound bounces others
      (record {
        stands = t.stands;
        texts = texts_booked child d.book.controls (booked_at row came d) q (next came) (texts_keep.goes_on s.now q name d own.read own.ready came soon moment fares.stands fares.texts);
      })
      (takes_slots s.pipework apart wrote from came) refl (fed_when (sent s (told_then came) began (event (needs.Take from) came ∷ past) (pipes_then (needs.Take from) came)) (needs.Take from) came due tt) errands

  -- from a spawner, or of the injector of a bounce
  took_other : (from : Port) (came : GotData) → due_at row d ≡ needs.Take from → IsOther from → IsBusy (needs.Take from) → IsOfChild child came
      → (came ≡ got.Ended 0 → (c : Bouncer) → child ≡ Some c → HasQueued s.books c.actor c.args) → Inv (then_state (needs.Take from) came)
  took_other from came due it busy has queued =
      let told = told_other s.now child q row came d from it due has in
      let none : (link_in s).awaits ≡ Nothing = idle (needs.Take from) due busy in
      took from came due told
      (booked_bounces child d.book.controls (booked_at row came d) s.books (through s.now name q (told_then came) (taking from came due told).leads)
      (taken_books came queued) I.bounces)
      (λ o x other there.
      others_fare_on s.now o other x.program x.past x.life (I.crew o x there) (idle_by s I none o x.program x.past x.life there (I.crew o x there))
      q (told_then came) (taking from came due told).leads I.sound (I.fares o x there))
      (idle_then (told_then came) (needs.Take from) came due busy tt (takes_same s.pipework apart wrote from came it))

  -- from its cleaner, which enters nothing
  module _ (due : due_at row d ≡ needs.Take port.Clean) where
    answers_to : (link_in s).awaits ≡ Answer (takes d row due).0
    answers_to = waits_as ∙ (takes d row due).1

    others_same : (came : GotData) → OthersFare s (told_then came)
    others_same came = subst (λ (r : Queue). OthersFare s r) (sym (none_entered child d.book.controls row came d q due)) (λ o x other there. I.fares o x there)

    bounces_same : (came : GotData) → BouncesAreQueued (told_then came).books
    bounces_same came = subst (λ (r : Queue). BouncesAreQueued r.books) (sym (none_entered child d.book.controls row came d q due)) I.bounces

    lost_then : (came : GotData) → (came ≡ got.End) ⊎ (came ≡ got.Failed) → Between (told_then came) (awaits (next came)) (link_in s).given (link_in s).answers
    lost_then came none = subst (λ (r : Queue). Between r (awaits (next came)) (link_in s).given (link_in s).answers) (sym (none_entered child d.book.controls row came d q due))
        (errands_at s.now q (lives_in (s.actors (codes "clean"))) (lives_in (s.actors (codes "clean"))) (link_in s) (λ h. h) I.errands (awaits (next came)) (link_in s).place (link_in s).given
        (link_in s).answers (inl (lost d row own.read came due none)) refl refl refl)

    took_answer : (came : GotData) → ComesOf s name (needs.Take port.Clean) came wrote → IsTold s.now child q row came d → Inv (then_state (needs.Take port.Clean) came)
    took_answer (got.Took bytes) comes told =
        let rest = comes.1.0 in
        took port.Clean (got.Took bytes) due told (bounces_same (got.Took bytes)) (others_same (got.Took bytes))
        (subst (λ (t : List ℕ). Between (told_then (got.Took bytes)) (awaits (next (got.Took bytes))) (link_in s).given t) (sym (ap (drop (length bytes)) comes.1.1 ∙ drop_at bytes rest (length bytes) refl))
        (answered_errands s.now q (told_then (got.Took bytes)) (lives_in (s.actors (codes "clean"))) (lives_in (s.actors (codes "clean"))) (link_in s) I.errands (takes d row due).0 answers_to
        bytes rest comes.1.1 comes.0 (awaits (next (got.Took bytes))) (is_free (needs.Take port.Clean) (got.Took bytes) due tt)))
    took_answer got.End comes told = took port.Clean got.End due told (bounces_same got.End) (others_same got.End) (lost_then got.End (inl refl))
    took_answer got.Failed comes told = took port.Clean got.Failed due told (bounces_same got.Failed) (others_same got.Failed) (lost_then got.Failed (inr refl))
    took_answer came comes told = absurd comes

    answered : (came : GotData) → ComesOf s name (needs.Take port.Clean) came wrote → Inv (then_state (needs.Take port.Clean) came)
    answered came comes = took_answer came comes
        (told_by_link s.now q (lives_in (s.actors (codes "clean"))) (link_in s) I.errands (takes d row due).0 answers_to child row d (s.pipework.pipes name port.Clean) came waits_as refl comes due)

  -- The start of an injector, which may fail

  pub starting : (asked : ChildData) (came : GotData) → due_at row d ≡ needs.Start asked → NoTenantMore s.pipework (pipes_then (needs.Start asked) came)
      → IsSameLink s.pipework (pipes_then (needs.Start asked) came) → Inv (then_state (needs.Start asked) came)
  starting asked came due slots same =
      sent_keeps s I q began past (event (needs.Start asked) came ∷ past) (pipes_then (needs.Start asked) came) is I.sound I.bounces (λ o x other there. I.fares o x there)
      (record {
        stands = sender_keeps.starts s.now q name d own.read own.ready asked came soon moment fares.stands due;
        texts = texts_keep.goes_on s.now q name d own.read own.ready came soon moment fares.stands fares.texts;
      })
      slots refl (fed_when (then_state (needs.Start asked) came) (needs.Start asked) came due tt) (idle_then q (needs.Start asked) came due tt tt same)

  bounce_failed : (room : ℕ) (came : GotData) → due_at row d ≡ needs.Start (child_kinds.Bounce room) → ComesOf s name (needs.Start (child_kinds.Bounce room)) came wrote
      → Inv (then_state (needs.Start (child_kinds.Bounce room)) came)
  bounce_failed room got.Failed due comes = starting (child_kinds.Bounce room) got.Failed due (λ b e t there. there) (record { given = refl; answers = refl })
  bounce_failed room got.Memory due comes = starting (child_kinds.Bounce room) got.Memory due (λ b e t there. there) (record { given = refl; answers = refl })
  bounce_failed room came due comes = absurd comes

  -- By what is due

  by_due : (due : NeedData) (came : GotData) → due_at row d ≡ due → ComesOf s name due came wrote → Inv (then_state due came)
  by_due (needs.File call) (got.Answered told) e comes = called call told e comes.0 comes.1
  by_due (needs.File call) came e comes = absurd comes
  by_due (needs.Give port.Clean bytes) came e comes = gave_command bytes came e comes
  by_due (needs.Give to bytes) came e comes = gave_other to bytes came e tt tt comes
  by_due (needs.Take port.Clean) came e comes = answered e came comes
  by_due (needs.Take (port.Status slot)) came e comes = took_other (port.Status slot) came e tt tt (taken_has s I name refl wrote (port.Status slot) came tt comes)
      (child_queued s I name refl wrote (port.Status slot) came tt comes)
  by_due (needs.Take from) came e comes = took_other from came e tt tt (taken_has s I name refl wrote from came tt comes)
      (child_queued s I name refl wrote from came tt comes)
  by_due (needs.Start asked) came e comes =
      let w = starts_of d row asked e in
      subst (λ (x : ChildData). due_at row d ≡ needs.Start x → ComesOf s name (needs.Start x) came wrote → Inv (then_state (needs.Start x) came)) (sym w.asked_is)
      (bounce_failed d.bounce.room came) e comes
  by_due (needs.Command text) came e comes = absurd (runs_none d row text e)
  by_due needs.Wait came e comes = absurd comes
  by_due (needs.Ended status) came e comes = absurd comes

  sender_event : due_at row d ≡ own.due → ComesOf s name own.due own.came wrote → Inv (then_state own.due own.came)
  sender_event due comes = by_due own.due own.came due comes

by_program : (s : State) (I : Inv s) (a : List ℕ) (wrote : ℕ) (program : Program) (past : List Own) (life : Life) (own : Own) → IsSender program
    → IsNamed a program → life ≡ Alive → s.actors a ≡ Some (record { program = program; past = past; life = life }) → own.read ≤ s.now → next_of program past own.read own.ready ≡ own.due
    → ComesOf s a own.due own.came wrote → Inv (acted s a own wrote (Some (record { program = program; past = past; life = life })))
by_program s I a wrote (Sender began) past Alive own it named alive is soon due comes =
    subst (λ (b : List ℕ). Inv (acted s b own wrote (Some (sender began past)))) (sym named)
    (sender_event s I wrote began past own
    (subst (λ (b : List ℕ). s.actors b ≡ Some (sender began past)) named is) soon due
    (subst (λ (b : List ℕ). ComesOf s b own.due own.came wrote) named comes))
by_program s I a wrote (Sender began) past life own it named alive is soon due comes = absurd (cc)
by_program s I a wrote other past life own it named alive is soon due comes = absurd it

pub senders_keep : SendersKeep
senders_keep a own wrote s I may it =
    let x = may.actor in
    subst (λ (o : Option Actor). Inv (acted s a own wrote o)) (sym may.reads.is)
    (by_program s I a wrote x.program x.past x.life own it (I.crew a x may.reads.is) may.reads.alive may.reads.is may.reads.no_later may.due may.came)
