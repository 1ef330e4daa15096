-- What a line leaves that is entered in a ledger. While a message is queued it is routed; afterwards any other line may come.
use Rattle.std.proofs.Common.{◌≡◌, ◌≢◌, inl, inr, [], Option, None, refl, sym, ap, subst, ⊎_elim}
use Rattle.call_fs.specs.Disk.{Among, File}
use Rattle.queue_paths.specs.Parts.{in_todo}
use Rattle.queue_law.specs.Books.{Injection, with_line}
use Rattle.queue_law.specs.Ledgers.{Bounced, IsFresh, IsUnreturned, Ledger, Line, Named, Spot, line_in}
use Rattle.queue_law.specs.Ledgers.Line.{Delivers, Drops, Fails, Marks, Notes, Reads, Returns, Routes}
use Rattle.queue_law.specs.Marks.{HasItsSpots, MayBeMarked}
use Rattle.queue_law.specs.Notes.{HasNotes, NotesDone, NotesState}
use Rattle.queue_law.specs.Notes.NotesDone.{Dropped, Injected, Nothing}
use Rattle.queue_law.specs.Notes.NotesState.{Gone, There}
use Rattle.queue_law.specs.Numbers.{About}
use Rattle.queue_law.specs.Routes.{IsSpot}
use Rattle.queue_law.specs.Senders.{LineFits, MayReturn}

-- While it is queued

-- nothing was reported of a fresh message, whatever routes it
pub fresh_spots : (i : Injection) → IsFresh i.ledger → HasItsSpots i
fresh_spots i fresh = record {
  delivered = λ s among. absurd (subst (λ (l : Ledger). Among s l.delivered) fresh among);
  failed = λ s among. absurd (subst (λ (l : Ledger). Among s l.failed) fresh among);
  noted = λ it among. absurd (subst (λ (l : Ledger). Among it l.noted) fresh among);
  marked = λ it among. absurd (subst (λ (l : Ledger). Among it l.marked) fresh among);
  bounced = λ b among. absurd (subst (λ (l : Ledger). Among b l.bounced) fresh among);
}

pub fresh_notes : (l : Ledger) → IsFresh l → l.noted ≡ []
fresh_notes l fresh = ap (λ (m : Ledger). m.noted) fresh

pub fresh_unreturned : (l : Ledger) → IsFresh l → IsUnreturned l
fresh_unreturned l fresh = record { none = ap (λ (m : Ledger). m.bounced) fresh; kept = ap (λ (m : Ledger). m.dropped) fresh }

-- so it stays, since only its routes are entered
pub fresh_on : (w : About) (i : Injection) (line : Line) → LineFits w i line → in_todo w.parts ≢ None → IsFresh i.ledger → IsFresh (line_in line i.ledger)
fresh_on w i (Routes by) fits there fresh = ap (λ (m : Ledger). line_in (Routes by) m) fresh
fresh_on w i (Delivers s) fits there fresh = absurd (there fits.0)
fresh_on w i (Fails s) fits there fresh = absurd (there fits.0)
fresh_on w i (Notes it) fits there fresh = absurd fits
fresh_on w i (Marks it) fits there fresh = absurd (there fits.0)
fresh_on w i (Reads it) fits there fresh = absurd (there fits)
fresh_on w i (Returns b) fits there fresh = absurd (there fits.no_todo)
fresh_on w i Drops fits there fresh = absurd fits

-- Afterwards

pub routes_on : (w : About) (i : Injection) (line : Line) → LineFits w i line → in_todo w.parts ≡ None → (line_in line i.ledger).routes ≡ i.ledger.routes
routes_on w i (Routes by) fits gone = absurd (fits gone)
routes_on w i (Delivers s) fits gone = refl
routes_on w i (Fails s) fits gone = refl
routes_on w i (Notes it) fits gone = refl
routes_on w i (Marks it) fits gone = refl
routes_on w i (Reads it) fits gone = refl
routes_on w i (Returns b) fits gone = refl
routes_on w i Drops fits gone = refl

-- one recipient more was delivered to, or is noted
pub more_marked : (l m : Ledger) → ((s : Spot) → Among s l.delivered → Among s m.delivered) → ((it : Named) → Among it l.noted → Among it m.noted)
    → (it : Named) → MayBeMarked l it → MayBeMarked m it
more_marked l m delivered noted it may = ⊎_elim
    (λ (was : Among it.spot l.delivered). inl (delivered it.spot was))
    (λ (was : Among it l.noted). inr (noted it was))
    may

pub spots_on : (w : About) (i : Injection) (line : Line) → LineFits w i line → in_todo w.parts ≡ None → HasItsSpots i → HasItsSpots (with_line line i)
spots_on w i (Routes by) fits gone h = absurd (fits gone)
spots_on w i (Delivers s) fits gone h = record {
  delivered = λ t among. ⊎_elim (λ (same : t ≡ s). subst (IsSpot i.ledger.routes i.args) (sym same) fits.1) (λ (old : Among t i.ledger.delivered). h.delivered t old) among;
  failed = h.failed;
  noted = h.noted;
  marked = λ it among. more_marked i.ledger (line_in (Delivers s) i.ledger) (λ t was. inr was) (λ t was. was) it (h.marked it among);
  bounced = h.bounced;
}
spots_on w i (Fails s) fits gone h = record {
  delivered = h.delivered;
  failed = λ t among. ⊎_elim (λ (same : t ≡ s). subst (IsSpot i.ledger.routes i.args) (sym same) fits.1) (λ (old : Among t i.ledger.failed). h.failed t old) among;
  noted = λ it among. inr (h.noted it among);
  marked = h.marked;
  bounced = h.bounced;
}
spots_on w i (Notes it) fits gone h = absurd fits
spots_on w i (Marks one) fits gone h = record {
  delivered = h.delivered;
  failed = h.failed;
  noted = h.noted;
  marked = λ it among. ⊎_elim (λ (same : it ≡ one). subst (MayBeMarked i.ledger) (sym same) fits.1) (λ (old : Among it i.ledger.marked). h.marked it old) among;
  bounced = h.bounced;
}
spots_on w i (Reads it) fits gone h = record {
  delivered = h.delivered;
  failed = h.failed;
  noted = h.noted;
  marked = h.marked;
  bounced = λ b among. inr (h.bounced b among);
}
spots_on w i (Returns b) fits gone h = record {
  delivered = h.delivered;
  failed = h.failed;
  noted = h.noted;
  marked = h.marked;
  bounced = λ c among. ⊎_elim
      (λ (same : c ≡ b). subst (λ (z : Bounced). Among z.read i.ledger.reads) (sym same) fits.read)
      (λ (old : Among c i.ledger.bounced). h.bounced c old)
      among;
}
spots_on w i Drops fits gone h = absurd fits

pub unreturned_on : (w : About) (i : Injection) (line : Line) → LineFits w i line → ((b : Bounced) → MayReturn w i.ledger b → ⊥)
    → IsUnreturned i.ledger → IsUnreturned (line_in line i.ledger)
unreturned_on w i (Routes by) fits never h = record { none = h.none; kept = h.kept }
unreturned_on w i (Delivers s) fits never h = record { none = h.none; kept = h.kept }
unreturned_on w i (Fails s) fits never h = record { none = h.none; kept = h.kept }
unreturned_on w i (Notes it) fits never h = absurd fits
unreturned_on w i (Marks it) fits never h = record { none = h.none; kept = h.kept }
unreturned_on w i (Reads it) fits never h = record { none = h.none; kept = h.kept }
unreturned_on w i (Returns b) fits never h = absurd (never b fits)
unreturned_on w i Drops fits never h = absurd fits

pub done_on : (w : About) (i : Injection) (line : Line) → LineFits w i line → in_todo w.parts ≡ None → NotesDone i → NotesDone (with_line line i)
done_on w i (Routes by) fits gone h = absurd (fits gone)
done_on w i (Delivers s) fits gone (Injected c among covers) = Injected c among covers
done_on w i (Delivers s) fits gone (Dropped is from) = Dropped is from
done_on w i (Delivers s) fits gone (Nothing none) = Nothing none
done_on w i (Fails s) fits gone (Injected c among covers) = Injected c among covers
done_on w i (Fails s) fits gone (Dropped is from) = Dropped is from
done_on w i (Fails s) fits gone (Nothing none) = Nothing none
done_on w i (Notes it) fits gone h = absurd fits
done_on w i (Marks it) fits gone (Injected c among covers) = Injected c among covers
done_on w i (Marks it) fits gone (Dropped is from) = Dropped is from
done_on w i (Marks it) fits gone (Nothing none) = Nothing none
done_on w i (Reads it) fits gone (Injected c among covers) = Injected c among covers
done_on w i (Reads it) fits gone (Dropped is from) = Dropped is from
done_on w i (Reads it) fits gone (Nothing none) = Nothing none
done_on w i (Returns b) fits gone (Injected c among covers) = Injected c (inr among) covers
done_on w i (Returns b) fits gone (Dropped is from) = Dropped is from
done_on w i (Returns b) fits gone (Nothing none) = Nothing none
done_on w i Drops fits gone h = absurd fits

has_on : (w : About) (i : Injection) (line : Line) → LineFits w i line → in_todo w.parts ≡ None → (f : File) → HasNotes i f → HasNotes (with_line line i) f
has_on w i (Routes by) fits gone f h = absurd (fits gone)
has_on w i (Delivers s) fits gone f h = record { fixed = h.fixed; whole = h.whole; begins = h.begins; covers = h.covers }
has_on w i (Fails s) fits gone f h = record { fixed = h.fixed; whole = h.whole; begins = h.begins; covers = h.covers }
has_on w i (Notes it) fits gone f h = absurd fits
has_on w i (Marks it) fits gone f h = record { fixed = h.fixed; whole = h.whole; begins = h.begins; covers = h.covers }
has_on w i (Reads it) fits gone f h = record { fixed = h.fixed; whole = h.whole; begins = h.begins; covers = h.covers }
has_on w i (Returns b) fits gone f h = record { fixed = h.fixed; whole = h.whole; begins = h.begins; covers = h.covers }
has_on w i Drops fits gone f h = absurd fits

pub notes_on : (w : About) (i : Injection) (line : Line) → LineFits w i line → in_todo w.parts ≡ None → (bounce : Option File) → NotesState i bounce
    → NotesState (with_line line i) bounce
notes_on w i line fits gone bounce (There f is h) = There f is (has_on w i line fits gone f h)
notes_on w i line fits gone bounce (Gone is settled) = Gone is (done_on w i line fits gone settled)
