-- What was entered stays so through what senders enter in ledgers.
use Rattle.address_rules.specs.declared.controls.Controls.{Controls}
use Rattle.std.proofs.Common.{◌≡◌, ◌≢◌, ⊎_elim, ℕ, List, [], ◌∷◌, true, Option, Some, None, option_map, sym, ap, ◌∙◌}
use Rattle.call_fs.specs.Maps.{put}
use Rattle.call_fs.proofs.Maps.{put_cases}
use Rattle.queue_inject.specs.Texts.{entered}
use Rattle.queue_law.specs.Books.{Books, Injection, entered_in, with_line}
use Rattle.queue_law.specs.Entered.{Child, booked_all, booked_on, line_said, named_by, notes_read, returned_in}
use Rattle.queue_law.specs.Ledgers.{Line}
use Rattle.queue_law.specs.Ledgers.Line.{Drops, Marks, Notes, Reads, Returns, Routes}
use Rattle.send_jobs.specs.Bookings.{Booking}
use Rattle.send_jobs.specs.Bookings.Booking.{Dropped, Noted, Overwritten, ReadNotes, Reported, Returned, Routed}

-- an accepted injection of this number, whose life lasts, entered this message, by the books
pub record EnteredIn (b : Books) (n : ℕ) (message : List ℕ) : Type 0 where
  pub injection : Injection
  pub lives : b.living n ≡ Some injection
  pub accepted : injection.accepted ≡ true
  pub text : message ≡ entered injection.args

module _ (n : ℕ) (message : List ℕ) where
  abbrev In : Books → Type 0
  In b = EnteredIn b n message

  lined : (b : Books) (m : ℕ) (line : Line) → In b → In (entered_in b m line)
  lined b m line h = ⊎_elim
      (λ (c : (n ≡ m) × (put b.living m (option_map (with_line line) (b.living m)) n ≡ option_map (with_line line) (b.living m))).
      record {
        injection = with_line line h.injection;
        lives = c.1 ∙ ap (λ (k : ℕ). option_map (with_line line) (b.living k)) (sym c.0) ∙ ap (option_map (with_line line)) h.lives;
        accepted = h.accepted;
        text = h.text;
      })
      (λ (c : (n ≢ m) × (put b.living m (option_map (with_line line) (b.living m)) n ≡ b.living n)).
      record { injection = h.injection; lives = c.1 ∙ h.lives; accepted = h.accepted; text = h.text })
      (put_cases b.living m (option_map (with_line line) (b.living m)) n)

  returned : (child : Option Child) (b : Books) (m : ℕ) → In b → In (returned_in child b m)
  returned None b m h = h
  returned (Some child) b m h = lined b m (Returns (record { actor = child.actor; args = child.args; read = notes_read (b.living m) })) h

  booked : (child : Option Child) (by : Controls) (e : Booking) (b : Books) → In b → In (booked_on child by e b)
  booked child by (Routed m) b h = lined b m (Routes by) h
  booked child by (Reported delivered c m place) b h = lined b m (line_said delivered (record { channel = c; place = place })) h
  booked child by (Noted c m place) b h = lined b m (Notes (named_by by c place)) h
  booked child by (Overwritten c m place) b h = lined b m (Marks (named_by by c place)) h
  booked child by (ReadNotes m notes) b h = lined b m (Reads (record { notes = notes; by = by })) h
  booked child by (Returned m) b h = returned child b m h
  booked child by (Dropped m) b h = lined b m Drops h

  pub entered_stays : (child : Option Child) (by : Controls) (es : List Booking) (b : Books) → In b → In (booked_all child by es b)
  entered_stays child by [] b h = h
  entered_stays child by (e ∷ es) b h = entered_stays child by es (booked_on child by e b) (booked child by e b h)
