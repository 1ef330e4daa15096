-- The state after an event of the sender: what it is enough to show.
use Rattle.std.proofs.Common.{◌≡◌, ◌≢◌, inl, ℕ, List, [], ◌∷◌, Option, Some, None, refl, sym, ap, ◌∙◌, subst, codes}
use Rattle.address_rules.specs.declared.controls.Controls.{Controls}
use Rattle.call_fs.specs.declared.past.Own.{Own}
use Rattle.call_fs.specs.Maps.{put_at}
use Rattle.program_law.specs.Errand.Errands.Awaits.{Nothing}
use Rattle.queue_clean.specs.Table.{Place}
use Rattle.queue_law.specs.Entered.{Child as Bouncer, line_said, named_by, notes_read}
use Rattle.queue_law.specs.Cleaners.{IsBeside}
use Rattle.queue_law.specs.Ledgers.Line.{Drops, Marks, Notes, Reads, Returns, Routes}
use Rattle.queue_law.specs.Numbers.{Queue, Sound}
use Rattle.send_core.specs.declared.desk.Desk.{Desk}
use Rattle.send_core.specs.Desk.{link}
use Rattle.send_core.specs.Table.{Next, place_after as sender_after}
use Rattle.send_jobs.specs.declared.attempts.Attempt.{Attempt}
use Rattle.send_jobs.specs.Bookings.{Booking}
use Rattle.send_jobs.specs.Bookings.Booking.{Dropped, Noted, Overwritten, ReadNotes, Reported, Returned, Routed}
use Rattle.send_jobs.specs.Sending.{lane}
use Rattle.program_law.specs.Sender.Asking.{AreTextsFor, IsTextFor, TextsStand}
use Rattle.program_law.specs.Sender.Takings.{booked_queue, one_more}
use Rattle.program_law.proofs.Sender.Asking.{texts_keep}
use Rattle.program_law.proofs.Sender.Goes.{cleaners_go_on}
use Rattle.world_events.specs.declared.event.Program.{Program}
use Rattle.world_events.specs.declared.event.Program.TheVariants.{Cleaner, Sender}
use Rattle.world_pipes.specs.Pipework.{Pipework, Slot}
use Rattle.mail_world.specs.History.{Actor, Life, State}
use Rattle.mail_world.specs.History.Life.{Alive}
use Rattle.world_law.specs.Bounces.{BouncesAreQueued}
use Rattle.world_law.specs.Crew.{IsNamed, link_by, link_in, lives_in, place_in}
use Rattle.world_law.specs.Fares.{FaresBy, SenderFares}
use Rattle.world_law.specs.Inv.{ErrandRests, Inv, PastFed}
use Rattle.world_law.proofs.Moved.{each_put}
use Rattle.world_law.proofs.SendersOthers.{IsIdle}
use Rattle.world_law.proofs.SendersPipes.{NoTenantMore}
use Rattle.world_law.proofs.Tenants.{GoesOn, KeepsPrograms, one_child, one_keeps, put_none, tenants_kept}

-- The requests that lie ready are of what the books say.

module _ (q r : Queue) (same : r.books ≡ q.books) where
  text_on : (a : Attempt) (text : List ℕ) → IsTextFor q a text → IsTextFor r a text
  text_on a text h = record { injection = h.injection; lives = ap (λ b. b.living a.n) same ∙ h.lives; slot = h.slot; is = h.is }

  texts_for : (texts : List (List ℕ)) (left : List Attempt) → AreTextsFor q texts left → AreTextsFor r texts left
  texts_for [] [] h = tt
  texts_for (text ∷ texts) (a ∷ left) h = (text_on a text h.0, texts_for texts left h.1)
  texts_for [] (a ∷ left) h = absurd h
  texts_for (text ∷ texts) [] h = absurd h

  pub texts_on : (d : Desk) → TextsStand q d → TextsStand r d
  texts_on d h = record { texts = λ ch. texts_for (link ch d).requests (lane ch d.slots).left (h.texts ch); first = h.first; due = h.due; reads = h.reads }

-- whatever a sender enters
text_booked : (child : Option Bouncer) (by : Controls) (e : Booking) (q : Queue) (d : Desk) → TextsStand q d → TextsStand (one_more child by e q) d
text_booked child by (Routed n) q d h = texts_keep.enters q n (Routes by) d h
text_booked child by (Reported delivered c n place) q d h = texts_keep.enters q n (line_said delivered (record { channel = c; place = place })) d h
text_booked child by (Noted c n place) q d h = texts_keep.enters q n (Notes (named_by by c place)) d h
text_booked child by (Overwritten c n place) q d h = texts_keep.enters q n (Marks (named_by by c place)) d h
text_booked child by (ReadNotes n notes) q d h = texts_keep.enters q n (Reads (record { notes = notes; by = by })) d h
text_booked None by (Returned n) q d h = texts_on q (one_more None by (Returned n) q) refl d h
text_booked (Some it) by (Returned n) q d h = texts_keep.enters q n (Returns (record { actor = it.actor; args = it.args; read = notes_read (q.books.living n) })) d h
text_booked child by (Dropped n) q d h = texts_keep.enters q n Drops d h

pub texts_booked : (child : Option Bouncer) (by : Controls) (es : List Booking) (q : Queue) (d : Desk) → TextsStand q d → TextsStand (booked_queue child by es q) d
texts_booked child by [] q d h = texts_on q (booked_queue child by [] q) refl d h
texts_booked child by (e ∷ es) q d h = texts_booked child by es (one_more child by e q) d (text_booked child by e q d h)

-- The sender has one event more

abbrev pub sender : ℕ → List Own → Actor
sender began past = record { program = Sender began; past = past; life = Alive }

abbrev pub sent : State → Queue → ℕ → List Own → Pipework → State
sent s r began past w = record { disk = r.disk; holder = r.holder; now = s.now; actors = put_at s.actors (codes "sender") (Some (sender began past)); books = r.books; pipework = w }

-- what holds of each other actor then
abbrev pub OthersFare : State → Queue → Type 0
OthersFare s r = (o : List ℕ) (x : Actor) → o ≢ codes "sender" → s.actors o ≡ Some x → FaresBy s.now r o x.program x.past x.life

-- each actor runs what it ran
module _ (s : State) (r : Queue) (began : ℕ) (was past : List Own) (w : Pipework) (is : s.actors (codes "sender") ≡ Some (sender began was)) where
  pub still_sends : KeepsPrograms s.actors (sent s r began past w).actors
  still_sends = one_keeps s.actors (codes "sender") (sender began past) (subst (λ (o : Option Actor). GoesOn o (Sender began)) (sym is) refl)

module _ (s : State) (I : Inv s) where
  -- the cleaner, while the sender waits for nothing
  pub idle_by : (link_in s).awaits ≡ Nothing → (o : List ℕ) (program : Program) (past : List Own) (life : Life) → s.actors o ≡ Some (record { program = program; past = past; life = life })
      → IsNamed o program → IsIdle program past
  idle_by idle o (Cleaner began) past life is named =
      let there : s.actors (codes "clean") ≡ Some (record { program = Cleaner began; past = past; life = life }) = ap s.actors (sym named) ∙ is in
      λ m. subst (λ (p : Place). IsBeside m p) (ap place_in there) (cleaners_go_on.beside I.errands.waits (link_in s) I.errands.errand idle m)
  idle_by idle o program past life is named = tt

  pub sent_keeps : (r : Queue) (began : ℕ) (was past : List Own) (w : Pipework) → s.actors (codes "sender") ≡ Some (sender began was) → Sound r → BouncesAreQueued r.books
      → OthersFare s r
      → SenderFares s.now r (codes "sender") (sender_after None past) → NoTenantMore s.pipework w → w.slots ≡ s.pipework.slots → PastFed (sent s r began past w) (codes "sender") (Next None) past
      → ErrandRests s.now r (lives_in (s.actors (codes "clean"))) (link_by (Some (sender began past)) (s.actors (codes "clean")) w)
      → Inv (sent s r began past w)
  unfolding put_at
  sent_keeps r began was past w is G B others F slots same fed errands = record {
    role = r.role;
    moment = I.moment;
    sound = G;
    bounces = B;
    crew = each_put s.actors (codes "sender") (sender began past) (λ o z. IsNamed o z.program) refl (λ o z other is. I.crew o z is);
    fares = each_put s.actors (codes "sender") (sender began past) (λ o z. FaresBy s.now r o z.program z.past z.life) F (λ o z other is. others o z other is);
    crewed = λ b x there it m member gone. I.crewed (codes "sender") (sender began was) is (λ runs. runs) m member (put_none s.actors (codes "sender") (sender began past) m gone);
    tenants = tenants_kept s (sent s r began past w) (still_sends s r began was past w is) (λ a x there. ap (λ (f : List ℕ → Option Slot). f a) same) (λ a d t e. inl (slots a d t e)) I.tenants;
    child = one_child s (sent s r began past w) (still_sends s r began was past w is) (λ a d t e. inl (slots a d t e)) I.tenants (codes "sender") (sender began past) fed I.child;
    errands = errands;
  }
