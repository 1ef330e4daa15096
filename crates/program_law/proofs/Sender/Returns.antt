-- The return of a message: its two files are read, the bounce is injected, and the bounce file goes.
use Rattle.std.proofs.Common.{◌≡◌, ◌≢◌, inl, inr, ℕ, List, [], ◌∷◌, ◌++◌, length, Bool, true, false, Option, Some, None, refl, sym, ap, ◌∙◌, subst, ⊎_elim, codes, nat_lt}
use Rattle.std.specs.Prelude.{if◌then◌else◌, ◌||◌, ◌==◌, All, Contains, bytes_eq}
use Rattle.std.specs.List.{list_any}
use Rattle.std.proofs.lemmas.Bool.{eq-eqb}
use Rattle.std.proofs.lemmas.Bool.Decides.{eqb_tells}
use Rattle.std.proofs.lemmas.List.Elements.{All-contains, All-head, All-tail, All-weaker}
use Rattle.std.proofs.lemmas.Slice.Eq.{bytes_eq-Decides}
use Rattle.address_rules.specs.declared.controls.Controls.{Controls}
use Rattle.bounce_record.specs.declared.bounces.Bounce.{Bounce as Bouncing}
use Rattle.bounce_record.specs.declared.return_row.ReturnRow.{ReturnRow}
use Rattle.bounce_record.specs.declared.return_row.ReturnRow.TheVariants as back
use Rattle.bounce_record.specs.Bounces.{bounce_of, single}
use Rattle.bounce_record.specs.Returning.{Returning, answered, bounce_at, goes, input_of, made, return_begun, due_at as return_due_at, moved_at as return_moved_at}
use Rattle.call_fs.specs.declared.calls.Answer.{Answer}
use Rattle.call_fs.specs.declared.calls.Answer.TheVariants as answer
use Rattle.call_fs.specs.declared.calls.CallData.{CallData}
use Rattle.call_fs.specs.declared.calls.CallData.TheVariants as call
use Rattle.call_fs.specs.declared.calls.Fd.{Fd}
use Rattle.call_fs.specs.declared.calls.FsError.TheVariants as why
use Rattle.call_fs.specs.declared.calls.How.TheVariants as how
use Rattle.call_fs.specs.declared.calls.Told.{Told}
use Rattle.call_fs.specs.declared.file_system.TheConstants.{PIECE}
use Rattle.call_fs.specs.declared.past.GotData.{GotData}
use Rattle.call_fs.specs.declared.past.GotData.TheVariants as came
use Rattle.call_fs.specs.declared.past.NeedData.{NeedData}
use Rattle.call_fs.specs.declared.past.NeedData.TheVariants as needs
use Rattle.call_fs.specs.Apply.{Fits, IsReadBy}
use Rattle.call_fs.specs.Disk.{Among}
use Rattle.queue_inject.specs.Texts.{entered, message_text}
use Rattle.queue_paths.specs.Names.{Name, Part, path}
use Rattle.queue_paths.specs.Names.Name.{Of}
use Rattle.queue_paths.specs.Names.Part.{Bounce, Mess}
use Rattle.send_parts.specs.declared.row.Row.TheVariants as at
use Rattle.send_core.specs.Booked.{returned_at as booked_return}
use Rattle.send_core.specs.Finish.{returned_to}
use Rattle.send_jobs.specs.Bookings.Booking.{Returned}
use Rattle.send_known.specs.declared.channel.Channel.{Channel}
use Rattle.send_known.specs.declared.known.Known.{Known}
use Rattle.send_known.specs.Known.{is_known, is_of, sender_of}
use Rattle.send_core.proofs.Known.{Each, sender_said}
use Rattle.send_parts.specs.declared.book.Book.{Book}
use Rattle.send_parts.specs.declared.rows.FinishRow.{FinishRow}
use Rattle.send_parts.specs.declared.rows.FinishRow.TheVariants as finish
use Rattle.send_parts.specs.Rows.{finish_step}
use Rattle.send_parts.specs.Steps.{due_by}
use Rattle.program_law.proofs.Channel.Counts.{head_or_tail, not_in_none}
use Rattle.queue_law.specs.Books.{Injection, with_line}
use Rattle.queue_law.specs.Entered.{Child, notes_read}
use Rattle.queue_law.specs.Bouncing.{MayDiscard, MayUnlink, OthersStay, entering_queue}
use Rattle.queue_law.specs.Ledgers.{Bounced, HasGrown, Line, NotesRead}
use Rattle.queue_law.specs.Ledgers.Line.{Drops, Reads, Returns}
use Rattle.queue_law.specs.Numbers.{Entry, Queue, entry, look, about, IsPreprocessed, Sound}
use Rattle.queue_law.specs.Passes.{HasOpen}
use Rattle.queue_law.specs.Rests.{IsClosed}
use Rattle.queue_law.specs.Routes.{lane_part}
use Rattle.queue_law.specs.Routes.{sender_of as sender_in}
use Rattle.queue_law.specs.Senders.{LeadsOn, LineFits, MayEnter, called_queue, entered_queue}
use Rattle.queue_law.proofs.Bouncing.{bounces_drop, bounces_go, closes_enter, stays_closed}
use Rattle.queue_law.proofs.Changes.{unlinks_one}
use Rattle.queue_law.proofs.Growth.{grown_same}
use Rattle.queue_law.proofs.Looks.{find_none, find_some}
use Rattle.queue_law.proofs.Opens.{opened_held}
use Rattle.queue_law.proofs.Sends.{entered_living, entries_keep, reads_keep}
use Rattle.program_law.specs.Sender.Knows.{IsKnown, Knows}
use Rattle.program_law.specs.Sender.Knows.Knows.{Stays}
use Rattle.program_law.specs.Sender.Points.{FinishLeads, FinishesLead, HasChild, IsBeforeStatus, KnowsEach, ReturnTakes, ReturnsGoOn}
use Rattle.program_law.specs.Sender.Readings.{ReadsOn}
use Rattle.program_law.specs.Sender.Rows.{FinishStands, HasMade, HasMessage, HasNotesRead, HasText, IsIdle, HasFile, IsReadIn, ReturnHolds, ReturnStands}
use Rattle.program_law.specs.Sender.Takings.{booked_queue}
use Rattle.program_law.proofs.Sender.Closes.{none_closed, one_closed, taken_closed}
use Rattle.program_law.proofs.Sender.Entries.{Grows, known_grown, lines_lives, one_grown}
use Rattle.program_law.proofs.Sender.Gone.{file_call}
use Rattle.program_law.proofs.Sender.Heads.{some_same}
use Rattle.program_law.proofs.Sender.Points.{each_on, ends_lead, known_of}
use Rattle.program_law.proofs.Sender.Readings.{at_going}
use Rattle.program_law.proofs.Sender.Senders.{sorted_of}
use Rattle.send_parts.specs.declared.reading.Progress.TheVariants.{Goes}
use Rattle.send_parts.specs.declared.reading.Reading.TheVariants.{Closing, Going}

-- The sender of a known message

is_known_of : (n : ℕ) (ks : List Known) (k : Known) → Contains ks k → k.n ≡ n → is_known n ks ≡ true
is_known_of n [] k w e = absurd (not_in_none k w)
is_known_of n (x ∷ ks) k w e = ⊎_elim
    (λ same. ap (λ (b : Bool). b || list_any (is_of n) ks) (eq-eqb x.n n (ap (λ (z : Known). z.n) same ∙ e)))
    (λ more. or_true (is_of n x) (list_any (is_of n) ks) (is_known_of n ks k more e))
    (head_or_tail x k ks w)
  where
    or_true : (b c : Bool) → c ≡ true → (b || c) ≡ true
    or_true true c e = refl
    or_true false c e = e

-- the sender is that of the injection whose life lasts
abbrev HasSender : Queue → ℕ → List ℕ → Type 0
HasSender q n sender = (i : Injection) → q.books.living n ≡ Some i → sender ≡ sender_in i.args

each_sender : (q : Queue) (ks : List Known) → All (λ (k : Known). IsKnown (about q k.n) k) ks → Each (HasSender q) ks
each_sender q [] h = tt
each_sender q (k ∷ ks) h = (one (All-head (λ (x : Known). IsKnown (about q x.n) x) k ks h), each_sender q ks (All-tail (λ (x : Known). IsKnown (about q x.n) x) k ks h))
  where
    one : IsKnown (about q k.n) k → HasSender q k.n k.sender
    one w i lives =
        let same : w.sorted.injection ≡ i = some_same w.sorted.injection i (sym w.sorted.lives ∙ lives) in
        w.sender_is ∙ ap (λ (z : Injection). sender_in z.args) same

-- What nothing comes of is from `#@[]`

none_of : (from host to to_host sender notes message : List ℕ) (moment : ℕ) → bounce_of from host to to_host sender notes message moment ≡ None → sender ≡ codes "#@[]"
none_of from host to to_host [] notes message moment e = absurd (cc)
none_of from host to to_host (b ∷ sender) notes message moment e = by (single from host (b ∷ sender) notes message moment) (bytes_eq (b ∷ sender) (codes "#@[]")) refl e
  where
    by : (x : Bouncing) (is : Bool) → bytes_eq (b ∷ sender) (codes "#@[]") ≡ is → ◌≡◌ {A = Option Bouncing} (if is then None else Some x) None → (b ∷ sender) ≡ codes "#@[]"
    by x true is e = (bytes_eq-Decides (b ∷ sender) (codes "#@[]")).0 is
    by x false is e = absurd (cc)

-- the bounce that comes of what was read of a bounce file, by the controls of who read it
abbrev pub bounce_read : (sender : List ℕ) → NotesRead → (message : List ℕ) → ℕ → Option Bouncing
bounce_read sender it message moment = bounce_of it.by.bounce_from it.by.bounce_host it.by.double_bounce_to it.by.double_bounce_host sender it.notes message moment

-- The input is that of the bounce that comes, at some moment, of the notes that were read last in the life of this injection and of its message as
-- entered.
pub record IsInputFor (i : Injection) (input : List ℕ) : Type 0 where
  pub moment : ℕ
  pub bounce : Bouncing
  pub made : bounce_read (sender_in i.args) (notes_read (Some i)) (entered i.args) moment ≡ Some bounce
  pub input_is : input ≡ input_of bounce

made_same : (c : Controls) (moment : ℕ) (o : Option Bouncing) (sender from notes told message text : List ℕ) → sender ≡ from → notes ≡ told → message ≡ text
    → bounce_of c.bounce_from c.bounce_host c.double_bounce_to c.double_bounce_host sender notes message moment ≡ o
    → bounce_of c.bounce_from c.bounce_host c.double_bounce_to c.double_bounce_host from told text moment ≡ o
made_same c moment o sender from notes told message text one two three e =
    subst (λ (z : List ℕ). bounce_of c.bounce_from c.bounce_host c.double_bounce_to c.double_bounce_host z told text moment ≡ o) one
    (subst (λ (z : List ℕ). bounce_of c.bounce_from c.bounce_host c.double_bounce_to c.double_bounce_host sender z text moment ≡ o) two
    (subst (λ (z : List ℕ). bounce_of c.bounce_from c.bounce_host c.double_bounce_to c.double_bounce_host sender notes z moment ≡ o) three e))

-- One step

module _ (now : ℕ) (q : Queue) (a : List ℕ) (child : Option Child) (n : ℕ) (b : Book) (read wrote : ℕ) (G : Sound q)
    (idle : IsIdle n b.messages.known) (each : KnowsEach q (at.Finish finish.Return n) b.messages.known) where
  abbrev known : List Known
  known = b.messages.known

  abbrev sender : List ℕ
  sender = sender_of n known

  all_known : All (λ (k : Known). IsKnown (about q k.n) k) known
  all_known = All-weaker (λ (k : Known). Knows (at.Finish finish.Return n) (about q k.n) k) (λ (k : Known). IsKnown (about q k.n) k)
      (λ k w. known_of (at.Finish finish.Return n) (about q k.n) k (λ l. l.0) w) known each

  its : IsKnown (about q n) idle.it
  its = subst (λ m. IsKnown (about q m) idle.it) idle.number (All-contains (λ (k : Known). IsKnown (about q k.n) k) known idle.it all_known idle.there)

  bare : (ch : Channel) → (about q n).parts (lane_part ch) ≡ None
  bare ch = its.gone ch (idle.none ch)

  pre : IsPreprocessed (about q n)
  pre = sorted_of (about q n) (G.fine n) its.sorted.no_todo its.sorted.info its.sorted.info_there

  shut : IsClosed now q n
  shut = taken_closed now q n pre.taken

  sender_is : (i : Injection) → q.books.living n ≡ Some i → sender ≡ sender_in i.args
  sender_is = sender_said (HasSender q) n known (is_known_of n known idle.it idle.there idle.number) (each_sender q known all_known)

  -- what the bounce is made of is the injection's
  message_is : (i : Injection) → q.books.living n ≡ Some i → (message : List ℕ) → HasMessage (about q n) message → message ≡ entered i.args
  unfolding entered
  message_is i lives message h =
      let file : h.file ≡ pre.taken.mess = some_same h.file pre.taken.mess (sym h.there ∙ pre.taken.mess_there) in
      let same : pre.taken.injection ≡ i = some_same pre.taken.injection i (sym pre.taken.lives ∙ lives) in
      h.reads ∙ ap (λ (y : Entry). y.file.bytes) file ∙ pre.taken.message.holds ∙ ap (λ (z : Injection). (message_text z.args).bytes) same

  pub made_input : (i : Injection) → q.books.living n ≡ Some i → (input : List ℕ) → HasMade b.controls (about q n) sender input → IsInputFor i input
  made_input i lives input h =
      let same : h.read.injection ≡ i = some_same h.read.injection i (sym h.read.lives ∙ lives) in
      let last : notes_read (Some i) ≡ record { notes = h.notes; by = b.controls } = ap (λ (z : Injection). notes_read (Some z)) (sym same) ∙ h.read.last in
      record {
        moment = h.moment;
        bounce = h.bounce;
        made = subst (λ (z : NotesRead). bounce_read (sender_in i.args) z (entered i.args) h.moment ≡ Some h.bounce) (sym last)
            (made_same b.controls h.moment (Some h.bounce) sender (sender_in i.args) h.notes h.notes h.message (entered i.args) (sender_is i lives) refl
            (message_is i lives h.message h.held) h.made);
        input_is = h.input_is;
      }

  abbrev Leads : Queue → Returning → Type 0
  Leads r it = FinishLeads b.controls now a q r n (returned_to it.row) known it

  -- to what a step leads: the next row, and what is known
  abbrev To : Queue → Returning → Type 0
  To r it = FinishStands b.controls now r a (returned_to it.row) n known it × KnowsEach r (at.Finish (returned_to it.row) n) known

  knows_at : (r : Queue) (next : FinishRow) → Grows q r → KnowsEach r (at.Finish next n) known
  knows_at r next g = All-weaker (λ (k : Known). IsKnown (about q k.n) k) (λ (k : Known). Knows (at.Finish next n) (about r k.n) k) (λ k w. Stays (known_grown q r g k w)) known all_known

  same_lives : (k : ℕ) (i : Injection) → q.books.living k ≡ Some i → (j : Injection) × (q.books.living k ≡ Some j) × (j.args ≡ i.args) × HasGrown i.ledger j.ledger
  same_lives k i there = (i, there, refl, grown_same i.ledger)

  grows_but : (r : Queue) → LeadsOn now a (Some n) q r → OthersStay q r n
      → ((k : ℕ) (i : Injection) → q.books.living k ≡ Some i → (j : Injection) × (r.books.living k ≡ Some j) × (j.args ≡ i.args) × HasGrown i.ledger j.ledger) → Grows q r
  grows_but r leads others lives = record {
    looks = λ part k far. ⊎_elim
        (λ t. ap (λ (z : ℕ). look r (Of part z)) t.1 ∙ others part far ∙ ap (λ (z : ℕ). look q (Of part z)) (sym t.1))
        (λ f. leads.elsewhere.looks (Of part k) (λ e. f.1 (some_same k n (sym e))))
        (eqb_tells k n);
    lives = lives;
  }

  -- a step that only reads
  reads_to : (r : Queue) (it : Returning) → LeadsOn now a None q r → Grows q r → FinishStands b.controls now r a (returned_to it.row) n known it → Leads r it
  reads_to r it leads g stands = record {
    number = None;
    only = inl refl;
    closed = none_closed now q;
    leads = leads;
    stands = stands;
    knows = knows_at r (returned_to it.row) g;
  }

  -- one that concerns the number
  goes_to : (r : Queue) (it : Returning) → LeadsOn now a (Some n) q r → Grows q r → FinishStands b.controls now r a (returned_to it.row) n known it → Leads r it
  goes_to r it leads g stands = record {
    number = Some n;
    only = inr refl;
    closed = one_closed now q n shut;
    leads = leads;
    stands = stands;
    knows = knows_at r (returned_to it.row) g;
  }

  module _ (it : Returning) (number : it.n ≡ n) where
    abbrev at_row : ReturnRow → Returning
    at_row row = record it { row = row }

    abbrev Steps : ReturnRow → CallData → Type 0
    Steps row asked = (given : Answer) (bytes : List ℕ) → Fits q.disk asked given wrote → IsReadBy q.disk asked (record { answer = given; bytes = bytes })
        → Leads (booked_queue child b.controls (booked_return row n it.notes (came.Answered (record { answer = given; bytes = bytes }))) (called_queue q a read asked given wrote q.role))
        (return_moved_at b.controls sender row it read (came.Answered (record { answer = given; bytes = bytes })))

    abbrev same_grows : Grows q q
    same_grows = record { looks = λ part k far. refl; lives = same_lives }

    abbrev bare_at : ReturnRow → Returning
    bare_at row = record { n = it.n; row = row; notes = []; message = []; input = []; room = 0 }

    -- as `goes` has it
    abbrev goes_row : ReturnRow → Returning
    goes_row row = goes it row

    -- The bounce file is read

    more_notes : (fd : Fd) → IsReadIn q a Bounce n fd.0 it.notes × (it.message ≡ []) → Steps (back.ReadNotes fd) (call.ReadAt fd (length it.notes) PIECE)
    more_notes fd h (answer.Count count) bytes fits by =
        let r : Queue = called_queue q a read (call.ReadAt fd (length it.notes) PIECE) (answer.Count count) wrote q.role in
        let w = at_going now q a G Bounce n it.notes read wrote fd h.0 (answer.Count count) bytes fits by in
        by_last (nat_lt (length bytes) PIECE) r w.leads (record { looks = λ part k far. refl; lives = same_lives }) h.0.held w.reads
      where
        by_last : (last : Bool) (r : Queue) → LeadsOn now a None q r → Grows q r → HasFile r a Bounce n how.Read fd.0
            → ReadsOn r a Bounce n (if last then Goes (Closing fd) else Goes (Going fd)) it.notes (it.notes ++ bytes) → Leads r (record it { row = if last then back.CloseNotes fd else back.ReadNotes fd; notes = it.notes ++ bytes })
        by_last true r leads g held w = reads_to r (record it { row = back.CloseNotes fd; notes = it.notes ++ bytes }) leads g (record { idle = idle; number = number; holds = (held, (w.1, h.1)) })
        by_last false r leads g held w = reads_to r (record it { row = back.ReadNotes fd; notes = it.notes ++ bytes }) leads g (record { idle = idle; number = number; holds = (w, h.1) })
    more_notes fd h (answer.Refused why.Fault) bytes fits by =
        reads_to q (at_row (back.Shut fd)) (reads_keep now q a G read (call.ReadAt fd (length it.notes) PIECE) (answer.Refused why.Fault) wrote tt fits) same_grows
        (record { idle = idle; number = number; holds = (_, h.0.held.opened) })
    more_notes fd h given bytes fits by = absurd fits

    -- its close enters what was read

    may_enter : (line : Line) → LineFits (about q n) pre.taken.injection line → MayEnter (about q n) line
    may_enter line fits = record {
      mess = pre.taken.mess;
      there = pre.taken.mess_there;
      injection = pre.taken.injection;
      lives = pre.taken.lives;
      accepted = pre.taken.accepted;
      fits = fits;
    }

    end_notes : (fd : Fd) → HasFile q a Bounce n how.Read fd.0 × (HasText q Bounce n it.notes × (it.message ≡ [])) → Steps (back.CloseNotes fd) (call.Close fd)
    end_notes fd h answer.Done bytes fits by =
        let i : Injection = pre.taken.injection in
        let line : Line = Reads (record { notes = it.notes; by = b.controls }) in
        let r : Queue = entering_queue q a read (call.Close fd) answer.Done wrote n line in
        let leads = closes_enter now q a read n fd line answer.Done wrote G (may_enter line its.sorted.no_todo) h.0.opened.held fits in
        let notes : HasNotesRead b.controls (about r n) it.notes = record {
          file = h.1.0.file;
          there = h.1.0.there;
          reads = h.1.0.text;
          injection = with_line line i;
          lives = entered_living now q a G n line i pre.taken.lives;
          last = refl;
          read = inl refl;
        } in
        goes_to r (at_row back.OpenMessage) leads (record { looks = λ part k far. refl; lives = λ k j e. lines_lives q.books n line k j e })
        (record { idle = idle; number = number; holds = (notes, h.1.1) })
    end_notes fd h given bytes fits by = absurd fits

    -- The message file is read

    open_message : HasNotesRead b.controls (about q n) it.notes × (it.message ≡ []) → Steps back.OpenMessage (call.Open (path (Of Mess n)) how.Read)
    open_message h (answer.Opened fd) bytes fits by =
        let asked = call.Open (path (Of Mess n)) how.Read in
        let r : Queue = called_queue q a read asked (answer.Opened fd) wrote q.role in
        let w = opened_held q a read (path (Of Mess n)) how.Read fd wrote fits in
        let file : IsReadIn r a Mess n fd.0 [] = record {
          held = record { file = entry q.disk.files w.0; there = find_some q.disk.names q.disk.files (Of Mess n) w.0 w.1; opened = w.2 };
          begins = refl;
        } in
        reads_to r (at_row (back.ReadMessage fd)) (reads_keep now q a G read asked (answer.Opened fd) wrote tt fits) (record { looks = λ part k far. refl; lives = same_lives })
        (record { idle = idle; number = number; holds = (h.0, subst (IsReadIn r a Mess n fd.0) (sym h.1) file) })
    open_message h (answer.Refused cause) bytes fits by =
        let asked = call.Open (path (Of Mess n)) how.Read in
        reads_to (called_queue q a read asked (answer.Refused cause) wrote q.role) (bare_at back.Failed) (reads_keep now q a G read asked (answer.Refused cause) wrote tt fits)
        (record { looks = λ part k far. refl; lives = same_lives }) tt
    open_message h given bytes fits by = absurd fits

    more_message : (fd : Fd) → HasNotesRead b.controls (about q n) it.notes × IsReadIn q a Mess n fd.0 it.message → Steps (back.ReadMessage fd) (call.ReadAt fd (length it.message) PIECE)
    more_message fd h (answer.Count count) bytes fits by =
        let r : Queue = called_queue q a read (call.ReadAt fd (length it.message) PIECE) (answer.Count count) wrote q.role in
        let w = at_going now q a G Mess n it.message read wrote fd h.1 (answer.Count count) bytes fits by in
        by_last (nat_lt (length bytes) PIECE) r w.leads (record { looks = λ part k far. refl; lives = same_lives }) h.0 w.reads
      where
        by_last : (last : Bool) (r : Queue) → LeadsOn now a None q r → Grows q r → HasNotesRead b.controls (about r n) it.notes
            → ReadsOn r a Mess n (if last then Goes (Closing fd) else Goes (Going fd)) it.message (it.message ++ bytes)
            → Leads r (record it { row = if last then back.CloseMessage fd else back.ReadMessage fd; message = it.message ++ bytes })
        by_last true r leads g notes w =
            reads_to r (record it { row = back.CloseMessage fd; message = it.message ++ bytes }) leads g (record { idle = idle; number = number; holds = (notes, w) })
        by_last false r leads g notes w =
            reads_to r (record it { row = back.ReadMessage fd; message = it.message ++ bytes }) leads g (record { idle = idle; number = number; holds = (notes, w) })
    more_message fd h (answer.Refused why.Fault) bytes fits by =
        reads_to q (at_row (back.Shut fd)) (reads_keep now q a G read (call.ReadAt fd (length it.message) PIECE) (answer.Refused why.Fault) wrote tt fits) same_grows
        (record { idle = idle; number = number; holds = (_, h.1.held.opened) })
    more_message fd h given bytes fits by = absurd fits

    -- and the bounce is made of both

    abbrev bounce_then : Controls → Option Bouncing
    bounce_then c = bounce_of c.bounce_from c.bounce_host c.double_bounce_to c.double_bounce_host sender it.notes it.message read

    made_holds : (r : Queue) (o : Option Bouncing) → bounce_then b.controls ≡ o → HasNotesRead b.controls (about r n) it.notes → HasMessage (about r n) it.message
        → ((ch : Channel) → (about r n).parts (lane_part ch) ≡ None) → ((i : Injection) → r.books.living n ≡ Some i → sender ≡ sender_in i.args)
        → FinishStands b.controls now r a (returned_to (made it o).row) n known (made it o)
    made_holds r None e notes message gone from = record {
      idle = idle;
      number = number;
      holds = record {
        file = notes.file;
        there = notes.there;
        injection = notes.injection;
        lives = notes.lives;
        sender = sym (from notes.injection notes.lives) ∙ none_of b.controls.bounce_from b.controls.bounce_host b.controls.double_bounce_to b.controls.double_bounce_host sender it.notes it.message read e;
        gone = gone;
      };
    }
    made_holds r (Some bounce) e notes message gone from = record {
      idle = idle;
      number = number;
      holds = record {
        notes = it.notes;
        read = notes;
        message = it.message;
        held = message;
        moment = read;
        bounce = bounce;
        made = e;
        input_is = refl;
      };
    }

    end_message : (fd : Fd) → HasNotesRead b.controls (about q n) it.notes × (HasOpen q a fd.0 × HasText q Mess n it.message) → Steps (back.CloseMessage fd) (call.Close fd)
    end_message fd h answer.Done bytes fits by =
        let r : Queue = called_queue q a read (call.Close fd) answer.Done wrote q.role in
        let message : HasMessage (about r n) it.message = record { file = h.1.1.file; there = h.1.1.there; reads = h.1.1.text } in
        reads_to r (made it (bounce_at b.controls sender it read)) (reads_keep now q a G read (call.Close fd) answer.Done wrote h.1.0.1.held fits)
        (record { looks = λ part k far. refl; lives = same_lives }) (made_holds r (bounce_at b.controls sender it read) refl h.0 message bare sender_is)
    end_message fd h given bytes fits by = absurd fits

    shuts : (fd : Fd) → HasOpen q a fd.0 → Steps (back.Shut fd) (call.Close fd)
    shuts fd h answer.Done bytes fits by =
        reads_to (called_queue q a read (call.Close fd) answer.Done wrote q.role) (bare_at back.Failed) (reads_keep now q a G read (call.Close fd) answer.Done wrote h.1.held fits)
        (record { looks = λ part k far. refl; lives = same_lives }) tt
    shuts fd h given bytes fits by = absurd fits

    -- The bounce file goes

    gone_others : (r : Queue) → ((y : Name) → y ≢ Of Bounce n → look r y ≡ look q y) → OthersStay q r n
    gone_others r others part far = others (Of part n) (λ e. far (part_is part e))
      where
        part_is : (part : Part) → Of part n ≡ Of Bounce n → part ≡ Bounce
        part_is part e = cc

    unlinks : MayUnlink (about q n) → Steps back.Unlink (call.Unlink (path (Of Bounce n)))
    unlinks may answer.Done bytes fits by =
        let asked = call.Unlink (path (Of Bounce n)) in
        let r : Queue = called_queue q a read asked answer.Done wrote q.role in
        let one = unlinks_one q a read (Of Bounce n) answer.Done wrote fits in
        let leads = bounces_go now q a read n answer.Done wrote G may fits in
        goes_to r (bare_at back.Over) leads (grows_but r leads (gone_others r one.others) same_lives) (idle, one.gone refl)
    unlinks may (answer.Refused cause) bytes fits by =
        let asked = call.Unlink (path (Of Bounce n)) in
        goes_to (called_queue q a read asked (answer.Refused cause) wrote q.role) (bare_at back.Failed) (bounces_go now q a read n (answer.Refused cause) wrote G may fits)
        (record { looks = λ part k far. refl; lives = same_lives }) tt
    unlinks may given bytes fits by = absurd fits

    discards : MayDiscard (about q n) → Steps back.Discard (call.Unlink (path (Of Bounce n)))
    discards may answer.Done bytes fits by =
        let asked = call.Unlink (path (Of Bounce n)) in
        let r : Queue = entering_queue q a read asked answer.Done wrote n Drops in
        let one = unlinks_one q a read (Of Bounce n) answer.Done wrote fits in
        let leads = bounces_drop now q a read n answer.Done wrote G may fits in
        goes_to r (bare_at back.Over) leads (grows_but r leads (gone_others r one.others) (λ k j e. lines_lives q.books n Drops k j e)) (idle, one.gone refl)
    discards may (answer.Refused cause) bytes fits by =
        let asked = call.Unlink (path (Of Bounce n)) in
        goes_to (entering_queue q a read asked (answer.Refused cause) wrote n Drops) (bare_at back.Failed) (bounces_drop now q a read n (answer.Refused cause) wrote G may fits)
        (record { looks = λ part k far. refl; lives = same_lives }) tt
    discards may given bytes fits by = absurd fits

    -- Each call

    due_call : (row : ReturnRow) (own asked : CallData) → ◌≡◌ {A = NeedData} (needs.File own) (needs.File asked) → Steps row own → Steps row asked
    due_call row own asked due h = subst (Steps row) (file_call own asked due) h

    named : (make : List ℕ → CallData) (part : Part) (asked : CallData) → ◌≡◌ {A = NeedData} (needs.File (make (path (Of part it.n)))) (needs.File asked)
        → ◌≡◌ {A = NeedData} (needs.File (make (path (Of part n)))) (needs.File asked)
    named make part asked due = subst (λ (k : ℕ). ◌≡◌ {A = NeedData} (needs.File (make (path (Of part k)))) (needs.File asked)) number due

    pub return_step : (row : ReturnRow) (asked : CallData) → ReturnHolds b.controls q a row it n sender → return_due_at row it ≡ needs.File asked → Steps row asked
    return_step back.Open asked h due = absurd h
    return_step (back.ReadNotes fd) asked h due = due_call (back.ReadNotes fd) (call.ReadAt fd (length it.notes) PIECE) asked due (more_notes fd h)
    return_step (back.CloseNotes fd) asked h due = due_call (back.CloseNotes fd) (call.Close fd) asked due (end_notes fd h)
    return_step back.OpenMessage asked h due =
        due_call back.OpenMessage (call.Open (path (Of Mess n)) how.Read) asked (named (λ t. call.Open t how.Read) Mess asked due) (open_message h)
    return_step (back.ReadMessage fd) asked h due = due_call (back.ReadMessage fd) (call.ReadAt fd (length it.message) PIECE) asked due (more_message fd h)
    return_step (back.CloseMessage fd) asked h due = due_call (back.CloseMessage fd) (call.Close fd) asked due (end_message fd h)
    return_step (back.Shut fd) asked h due = due_call (back.Shut fd) (call.Close fd) asked due (shuts fd h)
    return_step back.Start asked h due = absurd (cc)
    return_step (back.Give pid) asked h due = absurd (cc)
    return_step (back.Await pid) asked h due = absurd (cc)
    return_step back.Unlink asked h due = due_call back.Unlink (call.Unlink (path (Of Bounce n))) asked (named call.Unlink Bounce asked due) (unlinks h)
    return_step back.Discard asked h due = due_call back.Discard (call.Unlink (path (Of Bounce n))) asked (named call.Unlink Bounce asked due) (discards h)
    return_step back.Over asked h due = absurd h
    return_step back.Failed asked h due = absurd h

    -- The status of the bounce's injector

    abbrev Taken : Queue → Returning → Type 0
    Taken r next = ReturnTakes b.controls now a q r n (returned_to next.row) known next

    takes_to : (r : Queue) (next : Returning) → LeadsOn now a (Some n) q r → Grows q r → FinishStands b.controls now r a (returned_to next.row) n known next → Taken r next
    takes_to r next leads g stands = record { closed = shut; leads = leads; stands = stands; knows = knows_at r (returned_to next.row) g }

    -- the queue is as it was
    nothing_leads : LeadsOn now a (Some n) q q
    nothing_leads = stays_closed now q a G n pre

    awaited : (pid : ℕ) (got : GotData) → HasMade b.controls (about q n) sender it.input → HasChild (booked_return (back.Await pid) n it.notes got) child
        → Taken (booked_queue child b.controls (booked_return (back.Await pid) n it.notes got) q) (return_moved_at b.controls sender (back.Await pid) it read got)
    awaited pid (came.Ended status) h has = by_zero (status == 0) has
      where
        by_zero : (zero : Bool) → HasChild (if zero then Returned n ∷ [] else []) child
            → Taken (booked_queue child b.controls (if zero then Returned n ∷ [] else []) q) (goes_row (if zero then back.Unlink else back.Failed))
        by_zero false has = takes_to q (bare_at back.Failed) nothing_leads same_grows tt
        by_zero true has = by_child has.0 has.1
          where
            returned_by : (c : Child) → Taken (booked_queue (Some c) b.controls (Returned n ∷ []) q) (at_row back.Unlink)
            returned_by c =
                let i : Injection = pre.taken.injection in
                let bounce : Bounced = record { actor = c.actor; args = c.args; read = notes_read (q.books.living n) } in
                let line : Line = Returns bounce in
                let notes_are : notes_read (q.books.living n) ≡ record { notes = h.notes; by = b.controls } = ap notes_read h.read.lives ∙ h.read.last in
                let same : h.read.injection ≡ i = some_same h.read.injection i (sym h.read.lives ∙ pre.taken.lives) in
                let was_read : Among (record { notes = h.notes; by = b.controls }) i.ledger.reads =
                subst (λ (z : Injection). Among (record { notes = h.notes; by = b.controls }) z.ledger.reads) same h.read.read in
                let may = may_enter line (record { no_todo = its.sorted.no_todo; gone = bare; read = subst (λ (t : NotesRead). Among t i.ledger.reads) (sym notes_are) was_read }) in
                let r : Queue = entered_queue q n line in
                let leads = entries_keep now q a G n line may in
                takes_to r (at_row back.Unlink) leads (one_grown q n line) (record {
                  idle = idle;
                  number = number;
                  holds = record {
                    file = h.read.file;
                    there = h.read.there;
                    injection = with_line line i;
                    lives = entered_living now q a G n line i pre.taken.lives;
                    bounce = bounce;
                    accepted = inl refl;
                    notes = ap (λ (t : NotesRead). t.notes) notes_are ∙ h.read.reads;
                  };
                })

            by_child : (c : Child) → child ≡ Some c → Taken (booked_queue child b.controls (Returned n ∷ []) q) (at_row back.Unlink)
            by_child c is = subst (λ (o : Option Child). Taken (booked_queue o b.controls (Returned n ∷ []) q) (at_row back.Unlink)) (sym is) (returned_by c)
    awaited pid (came.Answered told) h has = takes_to q (bare_at back.Failed) nothing_leads same_grows tt
    awaited pid (came.Took bytes) h has = takes_to q (bare_at back.Failed) nothing_leads same_grows tt
    awaited pid came.End h has = takes_to q (bare_at back.Failed) nothing_leads same_grows tt
    awaited pid came.Crashed h has = takes_to q (bare_at back.Failed) nothing_leads same_grows tt
    awaited pid came.Gave h has = takes_to q (bare_at back.Failed) nothing_leads same_grows tt
    awaited pid (came.Started other) h has = takes_to q (bare_at back.Failed) nothing_leads same_grows tt
    awaited pid came.Failed h has = takes_to q (bare_at back.Failed) nothing_leads same_grows tt
    awaited pid came.Memory h has = takes_to q (bare_at back.Failed) nothing_leads same_grows tt

  -- The open of the bounce file, with which a return begins

  abbrev Opens : CallData → Type 0
  Opens asked = (given : Answer) (bytes : List ℕ) → Fits q.disk asked given wrote
      → Leads (called_queue q a read asked given wrote q.role) (answered b.controls sender back.Open (return_begun n) read given bytes)

  pub opens_bounce : Opens (call.Open (path (Of Bounce n)) how.Read)
  opens_bounce (answer.Opened fd) bytes fits =
      let asked = call.Open (path (Of Bounce n)) how.Read in
      let r : Queue = called_queue q a read asked (answer.Opened fd) wrote q.role in
      let w = opened_held q a read (path (Of Bounce n)) how.Read fd wrote fits in
      let file : IsReadIn r a Bounce n fd.0 [] = record {
        held = record { file = entry q.disk.files w.0; there = find_some q.disk.names q.disk.files (Of Bounce n) w.0 w.1; opened = w.2 };
        begins = refl;
      } in
      reads_to r (goes (return_begun n) (back.ReadNotes fd)) (reads_keep now q a G read asked (answer.Opened fd) wrote tt fits) (record { looks = λ part k far. refl; lives = same_lives })
      (record { idle = idle; number = refl; holds = (file, refl) })
  opens_bounce (answer.Refused why.NotThere) bytes fits =
      let asked = call.Open (path (Of Bounce n)) how.Read in
      reads_to (called_queue q a read asked (answer.Refused why.NotThere) wrote q.role) (goes (return_begun n) back.Over) (reads_keep now q a G read asked (answer.Refused why.NotThere) wrote tt fits)
      (record { looks = λ part k far. refl; lives = same_lives }) (idle, find_none q.disk.names q.disk.files (Of Bounce n) fits)
  opens_bounce (answer.Refused why.Fault) bytes fits =
      let asked = call.Open (path (Of Bounce n)) how.Read in
      reads_to (called_queue q a read asked (answer.Refused why.Fault) wrote q.role) (goes (return_begun n) back.Failed) (reads_keep now q a G read asked (answer.Refused why.Fault) wrote tt fits)
      (record { looks = λ part k far. refl; lives = same_lives }) tt
  opens_bounce (answer.Refused why.Memory) bytes fits =
      let asked = call.Open (path (Of Bounce n)) how.Read in
      reads_to (called_queue q a read asked (answer.Refused why.Memory) wrote q.role) (goes (return_begun n) back.Failed) (reads_keep now q a G read asked (answer.Refused why.Memory) wrote tt fits)
      (record { looks = λ part k far. refl; lives = same_lives }) tt
  opens_bounce given bytes fits = absurd fits

-- What is no call

module _ (now : ℕ) (q : Queue) (a : List ℕ) (n : ℕ) (b : Book) (read : ℕ) (it : Returning) (idle : IsIdle n b.messages.known) (number : it.n ≡ n) where
  abbrev At : Returning → Type 0
  At next = FinishStands b.controls now q a (returned_to next.row) n b.messages.known next

  started : (got : GotData) → HasMade b.controls (about q n) (sender_of n b.messages.known) it.input → At (return_moved_at b.controls (sender_of n b.messages.known) back.Start it read got)
  started (came.Started pid) h = record { idle = idle; number = number; holds = h }
  started (came.Answered told) h = tt
  started (came.Took bytes) h = tt
  started came.End h = tt
  started (came.Ended status) h = tt
  started came.Crashed h = tt
  started came.Gave h = tt
  started came.Failed h = tt
  started came.Memory h = tt

  given : (pid : ℕ) (got : GotData) → HasMade b.controls (about q n) (sender_of n b.messages.known) it.input → At (return_moved_at b.controls (sender_of n b.messages.known) (back.Give pid) it read got)
  given pid came.Gave h = record { idle = idle; number = number; holds = h }
  given pid (came.Started other) h = tt
  given pid (came.Answered told) h = tt
  given pid (came.Took bytes) h = tt
  given pid came.End h = tt
  given pid (came.Ended status) h = tt
  given pid came.Crashed h = tt
  given pid came.Failed h = tt
  given pid came.Memory h = tt

  pub steps : (row : ReturnRow) (got : GotData) → ReturnHolds b.controls q a row it n (sender_of n b.messages.known) → IsBeforeStatus row
      → At (return_moved_at b.controls (sender_of n b.messages.known) row it read got)
  steps back.Start got h before = started got h
  steps (back.Give pid) got h before = given pid got h
  steps back.Open got h before = absurd before
  steps (back.ReadNotes fd) got h before = absurd before
  steps (back.CloseNotes fd) got h before = absurd before
  steps back.OpenMessage got h before = absurd before
  steps (back.ReadMessage fd) got h before = absurd before
  steps (back.CloseMessage fd) got h before = absurd before
  steps (back.Shut fd) got h before = absurd before
  steps (back.Await pid) got h before = absurd before
  steps back.Unlink got h before = absurd before
  steps back.Discard got h before = absurd before
  steps back.Over got h before = absurd before
  steps back.Failed got h before = absurd before

pub returns_go_on : ReturnsGoOn
returns_go_on = record {
  steps = λ now q a n b it read got each h before. steps now q a n b read it h.idle h.number it.row got h.holds before;
  takes = λ now q a child n pid b it read got G each h is has. takes_at now q a child n pid b it read got G each h it.row refl is has;
}
  where
    takes_at : (now : ℕ) (q : Queue) (a : List ℕ) (child : Option Child) (n pid : ℕ) (b : Book) (it : Returning) (read : ℕ) (got : GotData)
        → Sound q → KnowsEach q (at.Finish finish.Return n) b.messages.known → (h : ReturnStands b.controls q a n b.messages.known it)
        → (row : ReturnRow) → it.row ≡ row → row ≡ back.Await pid → HasChild (booked_return row n it.notes got) child
        → ReturnTakes b.controls now a q (booked_queue child b.controls (booked_return row n it.notes got) q) n
        (returned_to (return_moved_at b.controls (sender_of n b.messages.known) row it read got).row) b.messages.known (return_moved_at b.controls (sender_of n b.messages.known) row it read got)
    takes_at now q a child n pid b it read got G each h row own is has =
        let there : ReturnHolds b.controls q a (back.Await pid) it n (sender_of n b.messages.known) =
        subst (λ (x : ReturnRow). ReturnHolds b.controls q a x it n (sender_of n b.messages.known)) (own ∙ is) h.holds in
        let by : ReturnRow → Type 0 = λ x. HasChild (booked_return x n it.notes got) child
        → ReturnTakes b.controls now a q (booked_queue child b.controls (booked_return x n it.notes got) q) n
        (returned_to (return_moved_at b.controls (sender_of n b.messages.known) x it read got).row) b.messages.known (return_moved_at b.controls (sender_of n b.messages.known) x it read got) in
        subst by (sym is) (awaited now q a child n b read 0 G h.idle each it h.number pid got there) has

pub finishes_lead : FinishesLead
finishes_lead = record {
  opens = λ now q a n b read asked told wrote G each idle due fits.
      let from : KnowsEach q (at.Finish finish.Return n) b.messages.known = each_on q (at.Finish finish.OpenBounce n) (at.Finish finish.Return n) b.messages.known (λ m l. l.0) each in
      opened now q a n b read wrote G idle from asked told due fits;
  returns = λ now q a child n b it read asked told wrote G each h due fits given.
      return_step now q a child n b read wrote G h.idle each it h.number it.row asked h.holds due told.answer told.bytes fits given;
  ends = λ controls now q a n known it read asked told wrote G each h due fits. ends_lead controls now q a n known it read asked told wrote G each h due fits;
}
  where
    opened : (now : ℕ) (q : Queue) (a : List ℕ) (n : ℕ) (b : Book) (read wrote : ℕ) → Sound q → IsIdle n b.messages.known
        → KnowsEach q (at.Finish finish.Return n) b.messages.known → (asked : CallData) (told : Told) → due_by (finish_step finish.OpenBounce n) [] ≡ needs.File asked
        → Fits q.disk asked told.answer wrote
        → FinishLeads b.controls now a q (called_queue q a read asked told.answer wrote q.role) n
        (returned_to (answered b.controls (sender_of n b.messages.known) back.Open (return_begun n) read told.answer told.bytes).row) b.messages.known
        (answered b.controls (sender_of n b.messages.known) back.Open (return_begun n) read told.answer told.bytes)
    opened now q a n b read wrote G idle from asked told due fits =
        subst (Opens now q a None n b read wrote G idle from) (file_call (call.Open (path (Of Bounce n)) how.Read) asked due)
        (opens_bounce now q a None n b read wrote G idle from) told.answer told.bytes fits
