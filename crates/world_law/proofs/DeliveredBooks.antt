-- Of which reports it comes that a sender enters a recipient as delivered.
use Rattle.std.proofs.Common.{◌≡◌, ⊎_elim, ℕ, ◌==◌, List, [], ◌∷◌, Bool, true, false, Option, Some, None, refl, sym, ap, ◌∙◌, subst}
use Rattle.std.proofs.lemmas.Bool.{eqb-true}
use Rattle.call_fs.specs.Disk.{Among}
use Rattle.call_fs.specs.declared.past.GotData.{GotData}
use Rattle.program_law.specs.Post.Laws.{AreHeard, IsHeard, WasDelivered}
use Rattle.program_law.specs.Post.Posts.{Done, freed}
use Rattle.program_law.proofs.Post.Desks.{desks_tell, was_in}
use Rattle.send_core.specs.Booked.{booked_at, marked_at, reported_all, reported_by, reported_if, reported_when, finished_at, routed_at}
use Rattle.send_core.specs.declared.desk.Desk.{Desk}
use Rattle.send_parts.specs.declared.row.Row.{Row}
use Rattle.send_parts.specs.declared.row.Row.TheVariants as at
use Rattle.send_core.specs.Desk.{told}
use Rattle.send_jobs.specs.Bookings.{Booking}
use Rattle.send_jobs.specs.Bookings.Booking.{Reported}
use Rattle.send_jobs.specs.declared.attempts.Attempt.{Attempt}
use Rattle.send_known.specs.declared.channel.Channel.{Channel}
use Rattle.send_known.specs.declared.channel.Channel.TheVariants.{Local}
use Rattle.send_jobs.specs.Failures.{is_final}
use Rattle.send_jobs.specs.Sending.{lane}
use Rattle.send_jobs.specs.Slots.{attempt_in}
use Rattle.send_parts.specs.Replies.{said}
use Rattle.spawn_protocol.specs.declared.report.Report.{Report}
use Rattle.spawn_protocol.specs.Report.{counted}
use Rattle.send_runs.proofs.Entries.{each_among, finished_each, marked_each, routed_each}

-- Only a taking enters a report

abbrev IsNoReport : Booking → Type 0
IsNoReport (Reported delivered c n place) = ⊥
IsNoReport e = Unit {0}

pub said_at : (row : Row) (came : GotData) (d : Desk) (k : Bool) (c : Channel) (n place : ℕ) → Among (Reported k c n place) (booked_at row came d)
    → (e : Channel) × (row ≡ at.TakeLink e) × Among (Reported k c n place) (reported_when (said came).way e (said came).bytes d)
said_at (at.TakeLink e) came d k c n place h = (e, refl, h)
said_at (at.Mark row m) came d k c n place h =
    absurd (each_among IsNoReport (marked_at row m d.note.row came) (Reported k c n place) (marked_each IsNoReport (λ e i p. tt) (λ e i p. tt) row m d.note.row came) h)
said_at at.InTodo came d k c n place h =
    absurd (each_among IsNoReport (routed_at d.pass.row d.pass.n) (Reported k c n place) (routed_each IsNoReport (λ i. tt) d.pass.row d.pass.n) h)
said_at (at.Finish row m) came d k c n place h =
    absurd (each_among IsNoReport (finished_at row m d.bounce.row d.bounce.notes came) (Reported k c n place)
    (finished_each IsNoReport (λ i notes. tt) (λ i. tt) (λ i. tt) row m d.bounce.row d.bounce.notes came) h)
said_at row came d k c n place h = absurd h

-- each that ends in the bytes of a channel is of that channel
module _ (e : Channel) (k : Bool) (c : Channel) (n place : ℕ) where
  if_channel : (final delivered : Bool) (a : Attempt) (later : List Booking) → (Among (Reported k c n place) later → c ≡ e)
      → Among (Reported k c n place) (reported_if final delivered e a later) → c ≡ e
  if_channel true delivered a later rest h = ⊎_elim (λ (same : Reported k c n place ≡ Reported delivered e a.n a.place). let v : c ≡ e = cc in v) rest h
  if_channel false delivered a later rest h = rest h

  by_channel : (o : Option Attempt) (r : Report) (later : List Booking) → (Among (Reported k c n place) later → c ≡ e) → Among (Reported k c n place) (reported_by o e r later) → c ≡ e
  by_channel None r later rest h = rest h
  by_channel (Some a) r later rest h = if_channel (is_final (counted r.letter) a.dying) (counted r.letter == 75) a later rest h

  pub all_channel : (rs : List Report) (d : Desk) → Among (Reported k c n place) (reported_all e rs d) → c ≡ e
  all_channel [] d h = absurd h
  all_channel (r ∷ rs) d h = by_channel (attempt_in (lane e d.slots).slots r.slot) r (reported_all e rs (told e r d)) (all_channel rs (told e r d)) h

-- It is of an attempt in flight, and of such a delivery.
pub record IsSaid (done : List Done) (slots : List (Option Attempt)) (n place : ℕ) : Type 0 where
  pub slot : ℕ
  pub attempt : Attempt
  pub flies : attempt_in slots slot ≡ Some attempt
  pub number_is : n ≡ attempt.n
  pub place_is : place ≡ attempt.place
  pub it : Done
  pub among : Among it done
  pub slot_is : it.slot ≡ slot
  pub recipient_is : it.task.recipient ≡ attempt.address

module _ (done : List Done) (n place : ℕ) where
  abbrev Said : List Booking → Type 0
  Said es = Among (Reported true Local n place) es

  said_if : (final k : Bool) (r : Report) (a : Attempt) (slots : List (Option Attempt)) (later : List Booking) → (counted r.letter == 75) ≡ k → attempt_in slots r.slot ≡ Some a
      → IsHeard Local done r (Some a) → (Said later → IsSaid done slots n place) → Said (reported_if final k Local a later) → IsSaid done slots n place
  said_if true k r a slots later letter flies heard rest h = ⊎_elim
      (λ (same : Reported true Local n place ≡ Reported k Local a.n a.place).
      let yes : true ≡ k = cc in
      let number : n ≡ a.n = cc in
      let here : place ≡ a.place = cc in
      let w : WasDelivered done r.slot a.address = heard (eqb-true (counted r.letter) 75 (letter ∙ sym yes)) in
      record { slot = r.slot; attempt = a; flies = flies; number_is = number; place_is = here; it = w.it; among = w.among; slot_is = w.slot_is; recipient_is = w.recipient_is })
      rest
      h
  said_if false k r a slots later letter flies heard rest h = rest h

  said_by : (o : Option Attempt) (r : Report) (slots : List (Option Attempt)) (later : List Booking) → attempt_in slots r.slot ≡ o
      → IsHeard Local done r o → (Said later → IsSaid done slots n place) → Said (reported_by o Local r later) → IsSaid done slots n place
  said_by None r slots later flies heard rest h = absurd heard
  said_by (Some a) r slots later flies heard rest h = said_if (is_final (counted r.letter) a.dying) (counted r.letter == 75) r a slots later refl flies heard rest h

  pub said_heard : (rs : List Report) (slots : List (Option Attempt)) (d : Desk) → (lane Local d.slots).slots ≡ slots → AreHeard Local done rs slots
      → Said (reported_all Local rs d) → IsSaid done slots n place
  said_heard [] slots d same heard h = absurd h
  said_heard (r ∷ rs) slots d same heard h =
      let there : attempt_in slots r.slot ≡ attempt_in (lane Local d.slots).slots r.slot = ap (λ (z : List (Option Attempt)). attempt_in z r.slot) (sym same) in
      said_by (attempt_in (lane Local d.slots).slots r.slot) r slots (reported_all Local rs (told Local r d)) there (subst (IsHeard Local done r) there heard.0)
      (λ later.
      let w = said_heard rs (freed r slots) (told Local r d) (desks_tell.one Local r d ∙ ap (freed r) same) heard.1 later in
      record {
        slot = w.slot;
        attempt = w.attempt;
        flies = was_in slots r w.slot w.attempt w.flies;
        number_is = w.number_is;
        place_is = w.place_is;
        it = w.it;
        among = w.among;
        slot_is = w.slot_is;
        recipient_is = w.recipient_is;
      })
      h
