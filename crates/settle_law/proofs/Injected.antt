-- What holds of the number and the arguments of each injection whose life lasts, if it holds wherever an injector links a message.
use Rattle.std.proofs.Common.{◌≡◌, ◌≢◌, ⊎_elim, ℕ, List, [], ◌∷◌, Bool, true, false, if◌then◌else◌, Option, Some, None, refl, sym, ap, ◌∙◌, subst}
use Rattle.std.specs.Prelude.{bytes_eq, option_map}
use Rattle.call_fs.specs.Maps.{put}
use Rattle.call_fs.proofs.Maps.{put_cases}
use Rattle.call_fs.specs.declared.calls.Answer.{Answer}
use Rattle.call_fs.specs.declared.calls.Answer.TheVariants.{Done}
use Rattle.call_fs.specs.declared.calls.CallData.{CallData}
use Rattle.call_fs.specs.declared.calls.CallData.TheVariants.{Link}
use Rattle.call_fs.specs.declared.past.GotData.{GotData}
use Rattle.call_fs.specs.declared.past.GotData.TheVariants.{Answered}
use Rattle.call_fs.specs.declared.past.NeedData.{NeedData}
use Rattle.call_fs.specs.declared.past.NeedData.TheVariants as needs
use Rattle.call_fs.specs.declared.past.Own.{Own}
use Rattle.call_fs.specs.declared.program.Ready.{Ready}
use Rattle.queue_inject.specs.declared.injection.Arguments.{Arguments}
use Rattle.queue_law.specs.Books.{Books, Injection, accept, begun, booked, entered_in, linked, with_line}
use Rattle.queue_law.specs.Entered.{Child as Bouncer, booked_all, booked_on, line_said, notes_read, named_by}
use Rattle.queue_law.specs.Ledgers.{Line}
use Rattle.queue_law.specs.Ledgers.Line.{Drops, Notes, Reads, Returns, Marks, Routes}
use Rattle.queue_paths.specs.Names.{Name, parse, path}
use Rattle.queue_paths.specs.Names.Name.{Of}
use Rattle.queue_paths.specs.Names.Part.{Intd, Mess, Todo, SplitIntd, SplitTodo}
use Rattle.send_core.specs.Booked.{booked_at}
use Rattle.send_core.specs.Table.{place_after as sender_after, row_now}
use Rattle.send_jobs.specs.Bookings.{Booking}
use Rattle.send_jobs.specs.Bookings.Booking.{Dropped, Noted, ReadNotes, Reported, Returned, Overwritten, Routed}
use Rattle.world_events.specs.declared.event.Program.{Program}
use Rattle.world_events.specs.declared.event.Program.TheVariants.{Injector, Sender}
use Rattle.mail_world.specs.History.{Actor, Allowed, Event, Life, State, acted, booked_by, books_after, bouncer_of, finished, happens, next_of, told_by}
use Rattle.mail_world.specs.History.Event.{Start, Act, Child, Generation, Report, End, Stop, Moment, Halt}
use Rattle.mail_world.specs.History.Life.{Over, Stopped}
use Rattle.address_rules.specs.declared.controls.Controls.{Controls}

module _ (P : ℕ → Arguments → Type 0) where
  abbrev pub OfOne : ℕ → Option Injection → Type 0
  OfOne n None = Unit {0}
  OfOne n (Some i) = P n i.args

  abbrev pub OfAll : Books → Type 0
  OfAll b = (n : ℕ) → OfOne n (b.living n)

  put_of : (living : ℕ → Option Injection) (n : ℕ) (o : Option Injection) → ((m : ℕ) → OfOne m (living m)) → OfOne n o → (m : ℕ) → OfOne m (put living n o m)
  put_of living n o S here m = ⊎_elim
      (λ (c : (m ≡ n) × (put living n o m ≡ o)). subst (λ (t : Option Injection). OfOne m t) (sym c.1) (subst (λ (k : ℕ). OfOne k o) (sym c.0) here))
      (λ (c : (m ≢ n) × (put living n o m ≡ living m)). subst (λ (t : Option Injection). OfOne m t) (sym c.1) (S m))
      (put_cases living n o m)

  mapped_of : (line : Line) (n : ℕ) (o : Option Injection) → OfOne n o → OfOne n (option_map (with_line line) o)
  mapped_of line n None h = h
  mapped_of line n (Some i) h = h

  accepted_of : (a : List ℕ) (n : ℕ) (o : Option Injection) → OfOne n o → OfOne n (accept a o)
  accepted_of a n None h = h
  accepted_of a n (Some i) h = by (bytes_eq i.actor a)
    where
      by : (t : Bool) → OfOne n (if t then Some (record i { accepted = true }) else Some i)
      by true = h
      by false = h

  -- what a sender enters

  entered_of : (b : Books) (n : ℕ) (line : Line) → OfAll b → OfAll (entered_in b n line)
  entered_of b n line S = put_of b.living n (option_map (with_line line) (b.living n)) S (mapped_of line n (b.living n) (S n))

  booked_on_of : (child : Option Bouncer) (by : Controls) (e : Booking) (b : Books) → OfAll b → OfAll (booked_on child by e b)
  booked_on_of child by (Routed n) b S = entered_of b n (Routes by) S
  booked_on_of child by (Reported delivered c n place) b S = entered_of b n (line_said delivered (record { channel = c; place = place })) S
  booked_on_of child by (Noted c n place) b S = entered_of b n (Notes (named_by by c place)) S
  booked_on_of child by (Overwritten c n place) b S = entered_of b n (Marks (named_by by c place)) S
  booked_on_of child by (ReadNotes n notes) b S = entered_of b n (Reads (record { notes = notes; by = by })) S
  booked_on_of None by (Returned n) b S = S
  booked_on_of (Some bouncer) by (Returned n) b S = entered_of b n (Returns (record { actor = bouncer.actor; args = bouncer.args; read = notes_read (b.living n) })) S
  booked_on_of child by (Dropped n) b S = entered_of b n Drops S

  booked_all_of : (child : Option Bouncer) (by : Controls) (es : List Booking) (b : Books) → OfAll b → OfAll (booked_all child by es b)
  booked_all_of child by [] b S = S
  booked_all_of child by (e ∷ es) b S = booked_all_of child by es (booked_on child by e b) (booked_on_of child by e b S)

  told_of : (child : Option Bouncer) (b : Books) (program : Program) (past : List Own) (read : ℕ) (ready : Ready) (came : GotData) → OfAll b → OfAll (told_by child b program past read ready came)
  told_of child b (Sender start) past read ready came S =
      let d = sender_after None past in booked_all_of child d.book.controls (booked_at (row_now d read ready) came d) b S
  told_of child b other past read ready came S = S

  -- what an injector links

  accepts_of : (b : Books) (a : List ℕ) (n : ℕ) → OfAll b → (t : Bool) → OfAll (if t then record { living = put b.living n (accept a (b.living n)); over = b.over } else b)
  accepts_of b a n S true = put_of b.living n (accept a (b.living n)) S (accepted_of a n (b.living n) (S n))
  accepts_of b a n S false = S

  linked_of : (b : Books) (a : List ℕ) (args : Arguments) (old : List ℕ) (name : Option Name) → ((n : ℕ) → name ≡ Some (Of Mess n) → P n args) → OfAll b → OfAll (linked b a args old name)
  linked_of b a args old (Some (Of Mess n)) here S = put_of b.living n (Some (begun a args n)) S (here n refl)
  linked_of b a args old (Some (Of Todo n)) here S = accepts_of b a n S (bytes_eq old (path (Of Intd n)))
  linked_of b a args old (Some (Of SplitTodo n)) here S = accepts_of b a n S (bytes_eq old (path (Of SplitIntd n)))
  linked_of b a args old name here S = S

  booked_of : (b : Books) (a : List ℕ) (args : Arguments) (c : CallData) (told : Answer) → ((old new : List ℕ) (n : ℕ) → c ≡ Link old new → parse new ≡ Some (Of Mess n) → P n args) → OfAll b
      → OfAll (booked b a args c told)
  booked_of b a args (Link old new) Done here S = linked_of b a args old (parse new) (λ n is. here old new n refl is) S
  booked_of b a args c told here S = S

  -- An event

  -- it holds of the message that such a program is to link
  abbrev pub Links : Program → List Own → ℕ → Ready → Type 0
  Links program past read ready = (args : Arguments) (old new : List ℕ) (n : ℕ) → program ≡ Injector args → next_of program past read ready ≡ needs.File (Link old new)
      → parse new ≡ Some (Of Mess n) → P n args

  module _ (program : Program) (past : List Own) (read : ℕ) (ready : Ready) (links : Links program past read ready) where
    by_program_of : (b : Books) (a : List ℕ) (c : CallData) (told : Answer) (p : Program) → program ≡ p → next_of program past read ready ≡ needs.File c → OfAll b → OfAll (booked_by b a p c told)
    by_program_of b a c told (Injector args) is next S = booked_of b a args c told (λ old new n link name. links args old new n is (next ∙ ap (λ (d : CallData). needs.File d) link) name) S
    by_program_of b a c told other is next S = S

    books_of : (child : Option Bouncer) (b : Books) (a : List ℕ) (due : NeedData) (came : GotData) → next_of program past read ready ≡ due → OfAll b
        → OfAll (books_after child b a program past read ready due came)
    books_of child b a (needs.File c) (Answered told) next S =
        told_of child (booked_by b a program c told.answer) program past read ready (Answered told) (by_program_of b a c told.answer program refl next S)
    books_of child b a (needs.Take port) came next S = told_of child b program past read ready came S
    books_of child b a (needs.Give port bytes) came next S = told_of child b program past read ready came S
    books_of child b a due came next S = S

  acted_of : (s : State) (a : List ℕ) (own : Own) (wrote : ℕ) (x : Actor) → Links x.program x.past own.read own.ready → next_of x.program x.past own.read own.ready ≡ own.due → OfAll s.books
      → OfAll (acted s a own wrote (Some x)).books
  acted_of s a own wrote x links next S = books_of x.program x.past own.read own.ready links (bouncer_of s a) s.books a own.due own.came next S

  finished_of : (s : State) (a : List ℕ) (life : Life) (o : Option Actor) → OfAll s.books → OfAll (finished s a life o).books
  finished_of s a life None S = S
  finished_of s a life (Some x) S = S

  pub happens_of : (e : Event) (s : State) → ((a : List ℕ) (x : Actor) → s.actors a ≡ Some x → (read : ℕ) (ready : Ready) → Links x.program x.past read ready) → Allowed s e → OfAll s.books
      → OfAll (happens s e).books
  happens_of (Start a program) s links may S = S
  happens_of (Act a own wrote) s links may S =
      subst (λ (o : Option Actor). OfAll (acted s a own wrote o).books) (sym may.reads.is)
      (acted_of s a own wrote may.actor (links a may.actor may.reads.is own.read own.ready) may.due S)
  happens_of (Child parent own a program) s links may S =
      subst (λ (o : Option Actor). OfAll (acted s parent own 0 o).books) (sym may.reads.is)
      (acted_of s parent own 0 may.actor (links parent may.actor may.reads.is own.read own.ready) may.due S)
  happens_of (Generation crew) s links may S = S
  happens_of (Report slot output) s links may S = S
  happens_of (End a read ready status) s links may S = finished_of s a (Over status) (s.actors a) S
  happens_of (Stop a) s links may S = finished_of s a Stopped (s.actors a) S
  happens_of (Moment m) s links may S = S
  happens_of (Halt how contents) s links may S = S
