-- The controls by which messages are routed are those of senders, which are short.
use Rattle.std.proofs.Common.{◌≡◌, ⊎_elim, ℕ, List, [], ◌∷◌, Option, Some, None, sym, subst, arith}
use Rattle.std.proofs.lemmas.List.Elements.{All-nil}
use Rattle.call_fs.specs.Disk.{Among, Disk}
use Rattle.call_fs.specs.Past.{IsRunBy}
use Rattle.call_fs.specs.declared.past.Own.{Own}
use Rattle.call_fs.specs.declared.program.Ready.{Ready}
use Rattle.program_law.specs.Sender.Stands.{HasControls}
use Rattle.queue_law.specs.Books.{Injection}
use Rattle.queue_law.specs.Ledgers.{Ledger, unrouted}
use Rattle.send_core.specs.Table.{arrive, place_after, row_now}
use Rattle.send_core.specs.declared.desk.Desk.{Desk}
use Rattle.send_jobs.specs.Bookings.Booking.{Routed}
use Rattle.send_parts.specs.declared.reading.Reading.TheVariants.{Opening, Going, Closing, Shutting}
use Rattle.send_parts.specs.declared.row.Row.{Row}
use Rattle.send_parts.specs.declared.row.Row.TheVariants as at
use Rattle.send_parts.specs.declared.rows.StartRow.TheVariants as start
use Rattle.world_events.specs.declared.event.Program.{Program}
use Rattle.world_events.specs.declared.event.Program.TheVariants.{Sender}
use Rattle.mail_world.specs.History.{Actor, Allowed, Event, Legal, State, after, next_of}
use Rattle.mail_world.specs.History.Event.{Act}
use Rattle.world_law.specs.Lives.{begun_in}
use Rattle.send_runs.proofs.Entries.{given_at}
use Rattle.world_law.proofs.Lives.{IsNew, Was, controls_by, controls_in, controls_of, entries_by, entries_in, entries_of, event_goes}
use Rattle.world_law.proofs.Ran.{HaveRun, have_run}
use Rattle.settle_law.proofs.ShortControls.{AreShort, HasShortPrefix}
use Rattle.settle_law.proofs.ShortRequests.{known_short}

unrouted_short : AreShort unrouted
unrouted_short = record { host = omega arith; double_to = omega arith; double_host = omega arith; prefixes = All-nil HasShortPrefix }

-- a sender in a todo pass has read its control files
todo_has : (row : Row) (d : Desk) (read : ℕ) (ready : Ready) → arrive row d read ready ≡ at.InTodo → HasControls row
todo_has (at.Start (start.Control file Opening)) d read ready is = absurd (cc)
todo_has (at.Start (start.Control file (Going fd))) d read ready is = absurd (cc)
todo_has (at.Start (start.Control file (Closing fd))) d read ready is = absurd (cc)
todo_has (at.Start (start.Control file (Shutting fd))) d read ready is = absurd (cc)
todo_has (at.Ended status) d read ready is = absurd (cc)
todo_has row d read ready is = tt

by_program : (program : Program) (past : List Own) (own : Own) → IsRunBy (next_of program) past → (n : ℕ) → Among (Routed n) (entries_by program past own.read own.ready own.came) → AreShort (controls_by program past)
by_program (Sender began) past own run n among =
    let d : Desk = place_after None past in
    let g = given_at (row_now d own.read own.ready) own.came d n among in
    known_short past run (todo_has d.row d own.read own.ready g.row_is)
by_program program past own run n among = absurd among

by_event : (e : Event) (s : State) → HaveRun s.actors → Allowed s e → (n : ℕ) → Among (Routed n) (entries_in s e) → AreShort (controls_in s e)
by_event (Act a own wrote) s ran may n among =
    let x = may.actor in
    subst (λ (o : Option Actor). AreShort (controls_of o)) (sym may.reads.is)
    (by_program x.program x.past own (ran a x may.reads.is) n (subst (λ (o : Option Actor). Among (Routed n) (entries_of o own)) may.reads.is among))
by_event e s ran may n among = absurd among

pub routes_short : (d : Disk) (h : List Event) → Legal d h → (n : ℕ) (i : Injection) → (after d h).books.living n ≡ Some i → AreShort i.ledger.routes
routes_short d [] legal n j is = absurd (cc)
routes_short d (e ∷ h) legal n j is =
    let s : State = after d h in
    ⊎_elim
    (λ (new : IsNew (begun_in s e) n j). subst (λ (l : Ledger). AreShort l.routes) (sym new.2) unrouted_short)
    (λ (was : Was (controls_in s e) s.books (begun_in s e) (entries_in s e) n j).
    let w = was.1 in
    ⊎_elim
    (λ (same : j.ledger.routes ≡ w.0.ledger.routes). subst AreShort (sym same) (routes_short d h legal.0 n w.0 w.1))
    (λ (routed : Among (Routed n) (entries_in s e) × (j.ledger.routes ≡ controls_in s e)).
    subst AreShort (sym routed.1) (by_event e s (have_run d h legal.0) legal.1 n routed.0))
    w.4)
    ((event_goes s e legal.1).back n j is)
