-- What a sender gives to the injector of a bounce, by its past
use Rattle.std.proofs.Common.{◌≡◌, ℕ, List, [], ◌∷◌, None, refl, sym, ap, ◌∙◌, subst}
use Rattle.bounce_record.specs.declared.return_row.ReturnRow.{ReturnRow}
use Rattle.bounce_record.specs.declared.return_row.ReturnRow.TheVariants as back
use Rattle.bounce_record.specs.Returning.{Returning, due_by as return_due, due_at as return_due_at, moved_at as return_moved}
use Rattle.call_fs.specs.declared.past.ChildData.{ChildData}
use Rattle.call_fs.specs.declared.past.ChildData.TheVariants as child
use Rattle.call_fs.specs.declared.past.GotData.{GotData}
use Rattle.call_fs.specs.declared.past.GotData.TheVariants as came
use Rattle.call_fs.specs.declared.past.NeedData.{NeedData}
use Rattle.call_fs.specs.declared.past.NeedData.TheVariants as needs
use Rattle.call_fs.specs.declared.past.Own.{Own}
use Rattle.call_fs.specs.declared.program.Port.TheVariants as port
use Rattle.call_fs.specs.declared.program.Ready.{Ready}
use Rattle.call_fs.specs.Past.{IsRunBy}
use Rattle.send_known.specs.Known.{sender_of}
use Rattle.send_parts.specs.declared.rows.FinishRow.TheVariants as finish
use Rattle.send_core.specs.declared.desk.Desk.{Desk}
use Rattle.send_parts.specs.declared.row.Row.{Row}
use Rattle.send_parts.specs.declared.row.Row.TheVariants as at
use Rattle.send_core.specs.Desk.{ready as ready_on_both}
use Rattle.send_core.specs.Finish.{finish_at, returned_to}
use Rattle.send_core.specs.Table.{act, arrive, place_after as sender_after, due_at, moved_by, row_now}
use Rattle.world_events.specs.declared.event.Program.TheVariants.{Sender}
use Rattle.mail_world.specs.History.{next_of}
use Rattle.mail_world.specs.Inside.{IsBirth, HasBorneLast}
use Rattle.mail_world.proofs.ReturnSteps.{IsReturn, returns_there, arrived, AreTexts, HasTexts, IsBorne, led, keeps, IsOfChild, give_row, start_row, returns_alone}

-- By its past

-- what is due of a child is what is due of the return at which a sender is
record AtReturn (past : List Own) (now : ℕ) (ready : Ready) (due : NeedData) : Type 0 where
  n : ℕ
  row : (sender_after None past).row ≡ at.Finish finish.Return n
  is : return_due (sender_after None past).bounce ≡ due

at_return : (began : ℕ) (past : List Own) (now : ℕ) (ready : Ready) (due : NeedData) → next_of (Sender began) past now ready ≡ due → IsOfChild due → AtReturn past now ready due
at_return began past now ready due e asks =
    let d : Desk = sender_after None past in
    let there = returns_alone d (row_now d now ready) (subst IsOfChild (sym e) asks) in
    let row = returns_there d.row (arrived d.row d now ready there) in
    record { n = row.0; row = row.1; is = sym (ap (λ (r : Row). due_at (arrive r d now ready) d) row.1) ∙ e }

borne : (began : ℕ) (past : List Own) (n pid : ℕ) → IsRunBy (next_of (Sender began)) past → (sender_after None past).row ≡ at.Finish finish.Return n → (sender_after None past).bounce.row ≡ back.Give pid
    → HasBorneLast past
borne began [] n pid run row is = absurd (cc)
borne began (own ∷ before) n pid run row is =
    let d : Desk = sender_after None before in
    let fares = led d own.read own.ready own.came (keeps before) (subst IsReturn (sym row) tt) in
    subst (λ (due : NeedData). IsBirth due own.came) run.1.0 (subst (λ (r : ReturnRow). IsBorne r (due_at (row_now d own.read own.ready) d) own.came) is fares.1)

-- what a sender gives to a program: it has just started it, in its first slot, and gives it two texts
pub record IsGiving (past : List Own) (slot : ℕ) (bytes : List ℕ) : Type 0 where
  pub borne : HasBorneLast past
  pub first : slot ≡ 0
  pub texts : AreTexts bytes

pub gives_texts : (began : ℕ) (past : List Own) (now : ℕ) (ready : Ready) (slot : ℕ) (bytes : List ℕ) → IsRunBy (next_of (Sender began)) past
    → next_of (Sender began) past now ready ≡ needs.Give (port.Program slot) bytes → IsGiving past slot bytes
gives_texts began past now ready slot bytes run e =
    let d : Desk = sender_after None past in
    let w = at_return began past now ready (needs.Give (port.Program slot) bytes) e tt in
    let gives = give_row d.bounce.row d.bounce slot bytes w.is in
    let texts : AreTexts d.bounce.input = subst (λ (r : ReturnRow). HasTexts r d.bounce.input) gives.is (keeps past (subst IsReturn (sym w.row) tt)) in
    record { borne = borne began past w.n gives.pid run w.row gives.is; first = gives.first; texts = subst AreTexts gives.text texts }

-- what it asks for to be started is the injector of a bounce
pub sender_asks : (began : ℕ) (past : List Own) (now : ℕ) (ready : Ready) (asked : ChildData) → next_of (Sender began) past now ready ≡ needs.Start asked → (room : ℕ) × (asked ≡ child.Bounce room)
sender_asks began past now ready asked e =
    let d : Desk = sender_after None past in
    let w = at_return began past now ready (needs.Start asked) e tt in
    (d.bounce.room, (start_row d.bounce.row d.bounce asked w.is).1)

-- Once it has started one

pub birth_is : (due : NeedData) (got : GotData) → IsBirth due got → (asked : ChildData) × (pid : ℕ) × (due ≡ needs.Start asked) × (got ≡ came.Started pid)
birth_is (needs.Start (child.Bounce room)) (came.Started pid) w = (child.Bounce room, pid, refl, refl)
birth_is (needs.Start (child.Forward uid room)) (came.Started pid) w = (child.Forward uid room, pid, refl, refl)
birth_is due got w = absurd w

-- the desk after the start
record IsAtGive (d : Desk) (n : ℕ) (input : List ℕ) : Type 0 where
  pid : ℕ
  row : d.row ≡ at.Finish finish.Return n
  bounce : d.bounce.row ≡ back.Give pid
  text : d.bounce.input ≡ input

started_desk : (row : ReturnRow) (n now pid : ℕ) (d : Desk) → row ≡ back.Start
    → let it : Returning = return_moved d.book.controls (sender_of n d.book.messages.known) row d.bounce now (came.Started pid) in
    IsAtGive (finish_at (returned_to it.row) n now (record d { bounce = it })) n d.bounce.input
started_desk back.Start n now pid d is = record { pid = pid; row = refl; bounce = refl; text = refl }
started_desk row n now pid d is = absurd (cc)

-- A sender that has just started one gives it its input next, at each moment and with whatever ready.
pub birth_gives : (began : ℕ) (past : List Own) → IsRunBy (next_of (Sender began)) past → HasBorneLast past
    → (bytes : List ℕ) × ((now : ℕ) (ready : Ready) → next_of (Sender began) past now ready ≡ needs.Give (port.Program 0) bytes)
birth_gives began [] run last = absurd last
birth_gives began (own ∷ before) run last =
    let d : Desk = sender_after None before in
    let b = birth_is own.due own.came last in
    let w = at_return began before own.read own.ready (needs.Start b.0) (run.1.0 ∙ b.2) tt in
    let row : row_now d own.read own.ready ≡ at.Finish finish.Return w.n = ap (λ (r : Row). arrive r d own.read own.ready) w.row in
    let stands : IsAtGive (moved_by (at.Finish finish.Return w.n) own.read (came.Started b.1) d) w.n d.bounce.input =
    of_ready (act (at.Finish finish.Return w.n) own.read (came.Started b.1) d) w.n d.bounce.input (started_desk d.bounce.row w.n own.read b.1 d (start_row d.bounce.row d.bounce b.0 w.is).0) in
    let there : IsAtGive (sender_after None (own ∷ before)) w.n d.bounce.input =
    subst (λ (r : Row). IsAtGive (moved_by r own.read own.came d) w.n d.bounce.input) (sym row)
    (subst (λ (got : GotData). IsAtGive (moved_by (at.Finish finish.Return w.n) own.read got d) w.n d.bounce.input) (sym b.3) stands) in
    (d.bounce.input, λ now ready. gives_now (sender_after None (own ∷ before)) w.n d.bounce.input now ready there)
  where
    of_ready : (e : Desk) (n : ℕ) (input : List ℕ) → IsAtGive e n input → IsAtGive (ready_on_both e) n input
    of_ready e n input w = record { pid = w.pid; row = w.row; bounce = w.bounce; text = w.text }

    gives_now : (e : Desk) (n : ℕ) (input : List ℕ) (now : ℕ) (ready : Ready) → IsAtGive e n input → due_at (row_now e now ready) e ≡ needs.Give (port.Program 0) input
    gives_now e n input now ready w =
        ap (λ (r : Row). due_at (arrive r e now ready) e) w.row ∙ ap (λ (r : ReturnRow). return_due_at r e.bounce) w.bounce ∙ ap (λ (t : List ℕ). needs.Give (port.Program 0) t) w.text
