-- The requests that lie ready, over the queue.
use Rattle.std.proofs.Common.{◌≡◌, ℕ, ◌≤◌, List, [], ◌∷◌, ◌==◌, Bool, true, false, Option, Some, None, option_map, refl, sym, ap, ◌∙◌, subst, arith, eqb-true, eq-eqb}
use Rattle.std.specs.Prelude.{All, Contains}
use Rattle.std.proofs.lemmas.List.Elements.{All-head, All-tail}
use Rattle.bounce_record.specs.declared.note_row.NoteRow.{NoteRow}
use Rattle.bounce_record.specs.declared.note_row.NoteRow.TheVariants as written
use Rattle.bounce_record.specs.declared.return_row.ReturnRow.{ReturnRow}
use Rattle.bounce_record.specs.declared.return_row.ReturnRow.TheVariants as back
use Rattle.bounce_record.specs.Returning.{Returning, due_at as return_due_at}
use Rattle.bounce_record.specs.Writing.{Writing, due_at as note_due_at}
use Rattle.call_fs.proofs.Maps.{put_same, put_other}
use Rattle.call_fs.specs.declared.past.GotData.{GotData}
use Rattle.call_fs.specs.declared.past.GotData.TheVariants as came
use Rattle.call_fs.specs.declared.past.NeedData.{NeedData}
use Rattle.call_fs.specs.declared.past.NeedData.TheVariants as needs
use Rattle.call_fs.specs.declared.program.Port.TheVariants as port
use Rattle.call_fs.specs.declared.program.Ready.{Ready}
use Rattle.program_law.specs.Channel.Files.{Files}
use Rattle.program_law.specs.Channel.Tied.{First, IsTied, in_hand, is_at}
use Rattle.program_law.proofs.Channel.Counts.{at_head, contained_counts, in_tail}
use Rattle.program_law.proofs.Channel.Ties.{at_itself}
use Rattle.mail_bytes.specs.Moments.{IsMoment}
use Rattle.retry_schedule.specs.Due.{is_due}
use Rattle.send_core.specs.declared.desk.Desk.{Desk}
use Rattle.send_parts.specs.declared.row.MarkRow.TheVariants as mark
use Rattle.send_parts.specs.declared.row.Row.{Row}
use Rattle.send_parts.specs.declared.row.Row.TheVariants as at
use Rattle.send_core.specs.Desk.{due_on, link, ready}
use Rattle.send_core.specs.Finish.{looked_up, sweep_begun}
use Rattle.send_core.specs.Table.{act, arrive, begun, due_at, moved_by, port_of, row_now}
use Rattle.send_core.specs.Turn.{begun_at}
use Rattle.send_core.specs.Births.{none_born}
use Rattle.send_core.specs.Papers.Papers.{Told}
use Rattle.send_core.proofs.Asked.{Asked, Base, Facts, IsAsked, asked_addressed, asked_more}
use Rattle.send_core.proofs.Known.{Each}
use Rattle.send_core.proofs.Says.{arrive_says, asked_first}
use Rattle.send_jobs.specs.declared.attempts.Attempt.{Attempt}
use Rattle.send_known.specs.declared.channel.Channel.{Channel}
use Rattle.send_known.specs.declared.channel.Channel.TheVariants.{Local, Remote}
use Rattle.send_jobs.specs.declared.lane.Lane.{Lane}
use Rattle.send_jobs.specs.Jobs.{job_of}
use Rattle.send_jobs.specs.Lanes.{next}
use Rattle.send_jobs.specs.Sending.{lane}
use Rattle.send_jobs.specs.Slots.{lowest}
use Rattle.send_known.specs.declared.known.Known.{Known}
use Rattle.send_known.specs.Known.{is_known}
use Rattle.send_parts.specs.declared.reading.Reading.TheVariants.{Opening, Going, Closing, Shutting}
use Rattle.send_parts.specs.declared.rows.FinishRow.{FinishRow}
use Rattle.send_parts.specs.declared.rows.FinishRow.TheVariants as finish
use Rattle.send_parts.specs.declared.rows.StartRow.{StartRow}
use Rattle.send_parts.specs.declared.rows.StartRow.TheVariants as start
use Rattle.send_parts.specs.declared.rows.SweepRow.{SweepRow}
use Rattle.send_parts.specs.declared.rows.SweepRow.TheVariants as sweep
use Rattle.send_parts.specs.Readings.{read_on}
use Rattle.send_parts.specs.Replies.{said}
use Rattle.send_links.specs.Requests.{addressed, first_text, request_of, to_slot}
use Rattle.send_parts.specs.Sweep.{sweep_to}
use Rattle.todo_pass.specs.declared.row.Row.{Row as PassRow}
use Rattle.todo_pass.specs.declared.row.Row.TheVariants as todo
use Rattle.todo_pass.specs.Table.{Pass, due_at as pass_due, moved}
use Rattle.queue_law.specs.Books.{Injection, entered_in, with_line}
use Rattle.queue_law.specs.Ledgers.{Line}
use Rattle.queue_law.specs.Numbers.{About, Queue, about}
use Rattle.queue_law.specs.Routes.{sender_of}
use Rattle.queue_law.specs.Senders.{entered_queue}
use Rattle.queue_law.proofs.Tests.{off}
use Rattle.program_law.specs.Sender.Asking.{AreTextsFor, IsKnownAt, IsRequestFor, IsTextFor, RequestsAreTexts, TextsKeep, TextsStand}
use Rattle.program_law.specs.Sender.Knows.{IsLeaving, IsSettledIn, Knows}
use Rattle.program_law.specs.Sender.Knows.Knows.{Stays, Leaves}
use Rattle.program_law.specs.Sender.Stands.{KnowsAll, SenderStands, SparesSorted, StandsAt}
use Rattle.program_law.specs.Sender.Views.{files_of, first_at}
use Rattle.program_law.proofs.Sender.Arrive.{arrived}
use Rattle.program_law.proofs.Sender.AskingRows.{Any, HasNoneLeft, Kept, Then, any_sound, births_in, born_in, file_then, finish_then, known_at, looked_kept, mark_then, named_then, requested_then, started_then, swept_then, took_then, unlinked_then, went_then}
use Rattle.program_law.proofs.Sender.Others.{same_about, the_job}
use Rattle.program_law.proofs.Sender.Requests.{requests, the}

-- it is the sender of the message whose life lasts
abbrev SenderIs : Queue → ℕ → List ℕ → Type 0
SenderIs q n sender = (i : Injection) × (q.books.living n ≡ Some i) × (sender ≡ sender_of i.args)

-- Texts, as they are asked

text_asked : (q : Queue) (a : Attempt) (text : List ℕ) → IsTextFor q a text → IsAsked (SenderIs q) a text
text_asked q a text h = (h.slot, sender_of h.injection.args, (h.injection, h.lives, refl), h.is)

asked_text : (q : Queue) (a : Attempt) (text : List ℕ) → IsAsked (SenderIs q) a text → IsTextFor q a text
asked_text q a text h =
    let who : SenderIs q a.n h.1 = h.2 in
    record { injection = who.0; lives = who.1; slot = h.0; is = subst (λ (sender : List ℕ). text ≡ to_slot h.0 (request_of a.n sender a.address)) who.2 h.3 }

all_asked : (q : Queue) (texts : List (List ℕ)) (left : List Attempt) → AreTextsFor q texts left → Asked (SenderIs q) texts left
all_asked q [] [] h = tt
all_asked q (text ∷ texts) (a ∷ left) h = (text_asked q a text h.0, all_asked q texts left h.1)
all_asked q [] (a ∷ left) h = absurd h
all_asked q (text ∷ texts) [] h = absurd h

all_texts : (q : Queue) (texts : List (List ℕ)) (left : List Attempt) → Asked (SenderIs q) texts left → AreTextsFor q texts left
all_texts q [] [] h = tt
all_texts q (text ∷ texts) (a ∷ left) h = (asked_text q a text h.0, all_texts q texts left h.1)
all_texts q [] (a ∷ left) h = absurd h
all_texts q (text ∷ texts) [] h = absurd h

-- Another queue

more_texts : (q r : Queue) → (texts : List (List ℕ)) (left : List Attempt) → ((a : Attempt) (sender : List ℕ) → Contains left a → SenderIs q a.n sender → SenderIs r a.n sender)
    → AreTextsFor q texts left → AreTextsFor r texts left
more_texts q r texts left f h = by texts left f h where
  one : (a : Attempt) (text : List ℕ) → ((sender : List ℕ) → SenderIs q a.n sender → SenderIs r a.n sender) → IsTextFor q a text → IsTextFor r a text
  one a text g t = let w = text_asked q a text t in asked_text r a text (w.0, w.1, g w.1 w.2, w.3)

  by : (texts : List (List ℕ)) (left : List Attempt) → ((a : Attempt) (sender : List ℕ) → Contains left a → SenderIs q a.n sender → SenderIs r a.n sender)
      → AreTextsFor q texts left → AreTextsFor r texts left
  by [] [] f h = tt
  by (text ∷ texts) (a ∷ left) f h = (one a text (λ sender. f a sender (at_head a left)) h.0, by texts left (λ b sender w. f b sender (in_tail a b left w)) h.1)
  by [] (a ∷ left) f h = absurd h
  by (text ∷ texts) [] f h = absurd h

on_queue : (q r : Queue) (d : Desk) → ((ch : Channel) (a : Attempt) (sender : List ℕ) → Contains (lane ch d.slots).left a → SenderIs q a.n sender → SenderIs r a.n sender)
    → TextsStand q d → TextsStand r d
on_queue q r d f h = record {
  texts = λ ch. more_texts q r (link ch d).requests (lane ch d.slots).left (f ch) (h.texts ch);
  first = h.first;
  due = h.due;
  reads = h.reads;
}

-- a line is entered in the ledger of its message, which has the arguments that it had
entered_sender : (q : Queue) (n : ℕ) (line : Line) (m : ℕ) (sender : List ℕ) → SenderIs q m sender → SenderIs (entered_queue q n line) m sender
entered_sender q n line m sender h = by (m == n) refl where
  by : (b : Bool) → (m == n) ≡ b → SenderIs (entered_queue q n line) m sender
  by true e =
      let same : m ≡ n = eqb-true m n e in
      let was : q.books.living n ≡ Some h.0 = sym (ap q.books.living same) ∙ h.1 in
      let now : (entered_in q.books n line).living m ≡ Some (with_line line h.0) =
      ap (entered_in q.books n line).living same ∙ put_same q.books.living n (option_map (with_line line) (q.books.living n)) ∙ ap (option_map (with_line line)) was in
      (with_line line h.0, now, h.2)
  by false e = (h.0, put_other q.books.living n (option_map (with_line line) (q.books.living n)) m (λ same. off (sym e ∙ eq-eqb m n same)) ∙ h.1, h.2)

enters : (q : Queue) (n : ℕ) (line : Line) (d : Desk) → TextsStand q d → TextsStand (entered_queue q n line) d
enters q n line d h = on_queue q (entered_queue q n line) d (λ ch a sender _ w. entered_sender q n line a.n sender w) h

-- an attempt that is still to be given is at a message that is preprocessed
left_serves : (now : ℕ) (q : Queue) (a : List ℕ) (d : Desk) → SenderStands now q a d → (ch : Channel) (t : Attempt)
    → Contains (lane ch d.slots).left t → IsSettledIn (about q t.n)
left_serves now q a d h ch t w =
    let l = h.lanes ch in
    let one = contained_counts (is_at t.n t.place) (lane ch d.slots).left t w (at_itself t) in
    let held : 1 ≤ in_hand (first_at d.row ch) t.n t.place (lane ch d.slots) = omega (arith, one) in
    let job = the_job (job_of t.n (lane ch d.slots).jobs) (l.tied.owned t.n t.place held) in
    (l.jobs t.n job.0 job.1).sorted

others : (now : ℕ) (q r : Queue) (a : List ℕ) (d : Desk) → SparesSorted q r → SenderStands now q a d → TextsStand q d → TextsStand r d
others now q r a d spares stands h = on_queue q r d (λ ch t sender w who.
    let same : about r t.n ≡ about q t.n = same_about q r spares t.n (left_serves now q a d stands ch t w) in
    (who.0, ap (λ (z : About). z.living) same ∙ who.1, who.2)) h

-- A sender that begins

addressed_none : (o : Option ℕ) → addressed o [] ≡ []
addressed_none None = refl
addressed_none (Some slot) = refl

begins : (q : Queue) (turns : Option ℕ) → TextsStand q (begun turns)
begins q turns = record { texts = none; first = idle; due = nothing; reads = tt } where
  none : (ch : Channel) → AreTextsFor q (link ch (begun turns)).requests (lane ch (begun turns).slots).left
  none Local = tt
  none Remote = tt

  idle : (ch : Channel) → addressed (lowest (lane ch (begun turns).slots).slots) (link ch (begun turns)).requests ≡ (link ch (begun turns)).requests
  idle Local = addressed_none (lowest (lane Local (begun turns).slots).slots)
  idle Remote = addressed_none (lowest (lane Remote (begun turns).slots).slots)

  nothing : (ch : Channel) (n : ℕ) → is_due n (due_on ch (begun turns).book.messages) ≡ true → is_known n (begun turns).book.messages.known ≡ true
  nothing Local n due = absurd (cc)
  nothing Remote n due = absurd (cc)

-- Each row

-- what a past has to tell of a desk, as the desk has it: the births of its messages, and its
abbrev facts_of : Desk → Facts
facts_of d = record { letter = None; births = record none_born { of = births_in d.book.messages.known }; papers = Told d.book.controls }

-- with no job nothing is still to be given
no_left : (files : Files) (first : First) (l : Lane) → IsTied files first l → l.jobs ≡ [] → (left : List Attempt) → l.left ≡ left → left ≡ []
no_left files first l tied none [] e = refl
no_left files first l tied none (t ∷ left) e =
    let there : Contains l.left t = subst (λ (xs : List Attempt). Contains xs t) (sym e) (at_head t left) in
    let one = contained_counts (is_at t.n t.place) l.left t there (at_itself t) in
    let held : 1 ≤ in_hand first t.n t.place l = omega (arith, one) in
    let job = the_job (job_of t.n l.jobs) (tied.owned t.n t.place held) in
    let gone : job_of t.n l.jobs ≡ None = ap (job_of t.n) none in
    let is = job.1 in
    absurd (cc)

module _ (q : Queue) (d : Desk) (h : TextsStand q d) where
  kept : Kept (SenderIs q) d
  kept = ((all_asked q d.local.requests d.slots.local.left (h.texts Local), all_asked q d.remote.requests d.slots.remote.left (h.texts Remote)), (h.due Local, h.due Remote))

  -- the senders of known messages
  each : (row : Row) (ks : List Known) → ((n : ℕ) → IsLeaving row n → ⊥) → All (λ (k : Known). Knows row (about q k.n) k) ks → Each (SenderIs q) ks
  each row [] stay all = tt
  each row (k ∷ ks) stay all = (one k (All-head (λ (x : Known). Knows row (about q x.n) x) k ks all), each row ks stay (All-tail (λ (x : Known). Knows row (about q x.n) x) k ks all)) where
    one : (k : Known) → Knows row (about q k.n) k → SenderIs q k.n k.sender
    one k (Stays w) = (w.sorted.injection, w.sorted.lives, w.sender_is)
    one k (Leaves w) = absurd (stay k.n w)

  base : (row : Row) → ((n : ℕ) → IsLeaving row n → ⊥) → KnowsAll q row d.book.messages → Base (SenderIs q) (facts_of d) d
  base row stay knows = (
    (each row d.book.messages.known stay knows.known, h.due Local, h.due Remote, born_in d.book.messages.known),
    kept.0.0,
    kept.0.1,
    refl,
  )

  any_base : Base Any (facts_of d) d
  any_base = (
    any_sound d.book.messages (h.due Local, h.due Remote),
    asked_more (SenderIs q) Any (λ n sender _. tt) d.local.requests d.slots.local.left kept.0.0,
    asked_more (SenderIs q) Any (λ n sender _. tt) d.remote.requests d.slots.remote.left kept.0.1,
    refl,
  )

  arrives_known : (read : ℕ) (found : Ready) (row : Row) → IsKnownAt row d.book.messages.known → IsKnownAt (arrive row d read found) d.book.messages.known
  arrives_known read found (at.Turn p) w = known_at Any (facts_of d) (arrive (at.Turn p) d read found) d (arrive_says Any (facts_of d) d read found (at.Turn p) (any_base, tt))
  arrives_known read found (at.Start row) w = w
  arrives_known read found (at.TakeLink c) w = w
  arrives_known read found (at.Mark row m) w = w
  arrives_known read found (at.UnlinkFile c n p) w = w
  arrives_known read found (at.ReadFile c n begun g) w = w
  arrives_known read found (at.Request c) w = w
  arrives_known read found (at.FindTodo search) w = w
  arrives_known read found at.InTodo w = w
  arrives_known read found (at.Finish row n) w = w
  arrives_known read found (at.Sweep row) w = w
  arrives_known read found (at.Ended status) w = w

  module _ (now : ℕ) (a : List ℕ) where
    none_left : (row : StartRow) → StandsAt now q a (at.Start row) d → HasNoneLeft (SenderIs q) row d
    none_left (start.GreetRemote limit) w =
        let l = w.lanes Local in
        let r = w.lanes Remote in
        let jobs = w.rests.1.0 in (
          no_left (files_of q Local) (first_at (at.Start (start.GreetRemote limit)) Local) d.slots.local l.tied (jobs Local) d.slots.local.left refl,
          no_left (files_of q Remote) (first_at (at.Start (start.GreetRemote limit)) Remote) d.slots.remote r.tied (jobs Remote) d.slots.remote.left refl,
        )
    none_left (start.Control f g) w = tt
    none_left start.GreetLocal w = tt
    none_left (start.Scan split) w = tt
    none_left (start.StatTodo split n) w = tt
    none_left (start.ReadInfo split n g) w = tt
    none_left (start.StatInfo split n) w = tt
    none_left (start.StatLocal split n birth) w = tt
    none_left (start.StatRemote split n birth local) w = tt
    none_left start.Over w = tt
    none_left (start.Ended status) w = tt

    at_row : (row : Row) (read : ℕ) (came : GotData) → StandsAt now q a row d → IsKnownAt row d.book.messages.known → Then (SenderIs q) (act row read came d)
    at_row (at.Start row) read came w known = started_then (SenderIs q) row (said came) d (none_left row w) kept
    at_row (at.Turn p) read came w known = (kept, h.reads)
    at_row (at.TakeLink c) read came w known = took_then (SenderIs q) (facts_of d) (said came).way (said came).bytes c d (base (at.TakeLink c) (λ n x. x) w.knows)
    at_row (at.Mark row m) read came w known = mark_then (SenderIs q) (facts_of d) row m came d (base (at.Mark row m) (λ n x. x) w.knows)
    at_row (at.UnlinkFile c n p) read came w known = unlinked_then (SenderIs q) (facts_of d) (said came).way c n p read d (base (at.UnlinkFile c n p) (λ n x. x) w.knows)
    at_row (at.ReadFile c n begun g) read came w known =
        file_then (SenderIs q) (facts_of d) (read_on g (said came)) c n (begun_at g begun read) g read (said came) d known (base (at.ReadFile c n begun g) (λ n x. x) w.knows)
    at_row (at.Request c) read came w known =
        let t = the (next (lane c d.slots)) w.rests.1.0 in
        let slot = the (lowest (lane c d.slots).slots) w.rests.1.1 in
        requested_then (SenderIs q) (facts_of d) (said came).way c slot.0 t.0 d slot.1 t.1 (base (at.Request c) (λ n x. x) w.knows)
    at_row (at.FindTodo search) read came w known = named_then (SenderIs q) (said came).way (said came).bytes search read d kept
    at_row at.InTodo read came w known = went_then (SenderIs q) d.pass.row came (moved d.book.controls d.pass read came) read d kept
    at_row (at.Finish row n) read came w known = finish_then (SenderIs q) row n read came d kept
    at_row (at.Sweep row) read came w known =
        swept_then (SenderIs q) (sweep_to row read (said came) d.book) (looked_up row (said came) (sweep_begun row read d)) (looked_kept (SenderIs q) row (said came) read d kept)
    at_row (at.Ended status) read came w known = (kept, h.reads)

-- What comes first of each channel is addressed anew.

slot_twice : (slot : ℕ) (text : List ℕ) → to_slot slot (to_slot slot text) ≡ to_slot slot text
slot_twice slot [] = refl
slot_twice slot (b ∷ bs) = refl

addressed_twice : (o : Option ℕ) (texts : List (List ℕ)) → addressed o (addressed o texts) ≡ addressed o texts
addressed_twice None texts = refl
addressed_twice (Some slot) [] = refl
addressed_twice (Some slot) (text ∷ texts) = ap (λ t. t ∷ texts) (slot_twice slot text)

is_ready : (q : Queue) (d : Desk) → Then (SenderIs q) d → TextsStand q (ready d)
is_ready q d t = record { texts = texts; first = first; due = due; reads = t.1 } where
  texts : (ch : Channel) → AreTextsFor q (link ch (ready d)).requests (lane ch (ready d).slots).left
  texts Local = all_texts q (addressed (lowest d.slots.local.slots) d.local.requests) d.slots.local.left
      (asked_addressed (SenderIs q) (lowest d.slots.local.slots) d.local.requests d.slots.local.left t.0.0.0)
  texts Remote = all_texts q (addressed (lowest d.slots.remote.slots) d.remote.requests) d.slots.remote.left
      (asked_addressed (SenderIs q) (lowest d.slots.remote.slots) d.remote.requests d.slots.remote.left t.0.0.1)

  first : (ch : Channel) → addressed (lowest (lane ch (ready d).slots).slots) (link ch (ready d)).requests ≡ (link ch (ready d)).requests
  first Local = addressed_twice (lowest d.slots.local.slots) d.local.requests
  first Remote = addressed_twice (lowest d.slots.remote.slots) d.remote.requests

  due : (ch : Channel) (n : ℕ) → is_due n (due_on ch (ready d).book.messages) ≡ true → is_known n (ready d).book.messages.known ≡ true
  due Local n e = t.0.1.0 n e
  due Remote n e = t.0.1.1 n e

goes_on : (now : ℕ) (q : Queue) (a : List ℕ) (d : Desk) (read : ℕ) (found : Ready) (came : GotData) → read ≤ now → IsMoment read
    → SenderStands now q a d → TextsStand q d → TextsStand q (moved_by (row_now d read found) read came d)
goes_on now q a d read found came soon moment stands h =
    let row = row_now d read found in
    is_ready q (act row read came d) (at_row q d h now a row read came (arrived now read q a soon moment d found stands) (arrives_known q d h read found d.row h.reads))

pub texts_keep : TextsKeep
texts_keep = record { begins = begins; goes_on = goes_on; enters = enters; others = others }

-- What is given

module _ (now : ℕ) (q : Queue) (a : List ℕ) (d : Desk) (h : TextsStand q d) where
  request_for : (ch : Channel) (text : List ℕ) → StandsAt now q a (at.Request ch) d → first_text (link ch d).requests ≡ text → IsRequestFor q ch d text
  request_for ch text w is =
      let asked = (requests now q a ch d 0 came.End w).asked in
      let slot = the (lowest (lane ch d.slots).slots) w.rests.1.1 in
      let ready : addressed (Some slot.0) (link ch d).requests ≡ (link ch d).requests = subst (λ (o : Option ℕ). addressed o (link ch d).requests ≡ (link ch d).requests) slot.1 (h.first ch) in
      let t = asked_first (SenderIs q) slot.0 asked.attempt (link ch d).requests (lane ch d.slots).left (all_asked q (link ch d).requests (lane ch d.slots).left (h.texts ch)) asked.next_is ready in
      let who : SenderIs q asked.attempt.n t.0 = t.1 in
      record {
        attempt = asked.attempt;
        next_is = asked.next_is;
        reads = asked.reads;
        alone = asked.alone;
        slot = slot.0;
        free = slot.1;
        injection = who.0;
        lives = who.1;
        is = subst (λ (sender : List ℕ). text ≡ to_slot slot.0 (request_of asked.attempt.n sender asked.attempt.address)) who.2 (sym is ∙ t.2);
      }

-- nothing is given to a spawner here
abbrev IsNoRequest : NeedData → Type 0
IsNoRequest (needs.Give port.Lspawn bytes) = ⊥
IsNoRequest (needs.Give port.Rspawn bytes) = ⊥
IsNoRequest due = Unit {0}

module _ (d : Desk) where
  start_asks_none : (row : StartRow) → IsNoRequest (due_at (at.Start row) d)
  start_asks_none (start.Control f Opening) = tt
  start_asks_none (start.Control f (Going fd)) = tt
  start_asks_none (start.Control f (Closing fd)) = tt
  start_asks_none (start.Control f (Shutting fd)) = tt
  start_asks_none start.GreetLocal = tt
  start_asks_none (start.GreetRemote limit) = tt
  start_asks_none (start.Scan split) = tt
  start_asks_none (start.StatTodo split n) = tt
  start_asks_none (start.ReadInfo split n Opening) = tt
  start_asks_none (start.ReadInfo split n (Going fd)) = tt
  start_asks_none (start.ReadInfo split n (Closing fd)) = tt
  start_asks_none (start.ReadInfo split n (Shutting fd)) = tt
  start_asks_none (start.StatInfo split n) = tt
  start_asks_none (start.StatLocal split n birth) = tt
  start_asks_none (start.StatRemote split n birth local) = tt
  start_asks_none start.Over = tt
  start_asks_none (start.Ended status) = tt

  pass_asks_none : (row : PassRow) (p : Pass) → IsNoRequest (pass_due row p)
  pass_asks_none (todo.Clear t) p = tt
  pass_asks_none todo.StatMess p = tt
  pass_asks_none todo.OpenTodo p = tt
  pass_asks_none (todo.ReadTodo fd) p = tt
  pass_asks_none (todo.CloseTodo fd) p = tt
  pass_asks_none (todo.Create t) p = tt
  pass_asks_none (todo.Append t fd done) p = tt
  pass_asks_none (todo.Sync t fd) p = tt
  pass_asks_none (todo.Close t fd) p = tt
  pass_asks_none (todo.Shut fd why) p = tt
  pass_asks_none todo.Give p = tt
  pass_asks_none todo.Answer p = tt
  pass_asks_none todo.Done p = tt
  pass_asks_none (todo.Left why) p = tt
  pass_asks_none todo.Lost p = tt

  note_asks_none : (row : NoteRow) (w : Writing) → IsNoRequest (note_due_at row w)
  note_asks_none written.Open w = tt
  note_asks_none written.Create w = tt
  note_asks_none (written.Stat fd) w = tt
  note_asks_none (written.Read fd place len) w = tt
  note_asks_none (written.Append fd done) w = tt
  note_asks_none (written.Sync fd) w = tt
  note_asks_none (written.Close fd) w = tt
  note_asks_none (written.Shut fd) w = tt
  note_asks_none written.Written w = tt
  note_asks_none written.Failed w = tt

  return_asks_none : (row : ReturnRow) (it : Returning) → IsNoRequest (return_due_at row it)
  return_asks_none back.Open it = tt
  return_asks_none (back.ReadNotes fd) it = tt
  return_asks_none (back.CloseNotes fd) it = tt
  return_asks_none back.OpenMessage it = tt
  return_asks_none (back.ReadMessage fd) it = tt
  return_asks_none (back.CloseMessage fd) it = tt
  return_asks_none (back.Shut fd) it = tt
  return_asks_none back.Start it = tt
  return_asks_none (back.Give pid) it = tt
  return_asks_none (back.Await pid) it = tt
  return_asks_none back.Unlink it = tt
  return_asks_none back.Discard it = tt
  return_asks_none back.Over it = tt
  return_asks_none back.Failed it = tt

  finish_asks_none : (row : FinishRow) (n : ℕ) → IsNoRequest (due_at (at.Finish row n) d)
  finish_asks_none finish.OpenBounce n = tt
  finish_asks_none finish.Return n = return_asks_none d.bounce.row d.bounce
  finish_asks_none finish.UnlinkInfo n = tt
  finish_asks_none finish.Give n = tt
  finish_asks_none finish.Take n = tt
  finish_asks_none finish.Later n = tt
  finish_asks_none finish.Over n = tt
  finish_asks_none finish.Lost n = tt

  sweep_asks_none : (row : SweepRow) → IsNoRequest (due_at (at.Sweep row) d)
  sweep_asks_none sweep.First = tt
  sweep_asks_none (sweep.Next split) = tt
  sweep_asks_none (sweep.StatMess split n) = tt
  sweep_asks_none (sweep.StatTodo split n) = tt
  sweep_asks_none (sweep.StatInfo split n todo) = tt
  sweep_asks_none (sweep.Give split n) = tt
  sweep_asks_none (sweep.Take split n) = tt
  sweep_asks_none sweep.Over = tt
  sweep_asks_none sweep.Lost = tt

  -- what is given to a spawner is given at the row of a request
  by_request : (P : Row → Type 0) → ((c : Channel) → P (at.Request c)) → ((row : Row) → IsNoRequest (due_at row d) → P row) → (row : Row) → P row
  by_request P asks none (at.Request c) = asks c
  by_request P asks none (at.Start row) = none (at.Start row) (start_asks_none row)
  by_request P asks none (at.Turn p) = none (at.Turn p) tt
  by_request P asks none (at.TakeLink c) = none (at.TakeLink c) tt
  by_request P asks none (at.Mark mark.Note m) = none (at.Mark mark.Note m) tt
  by_request P asks none (at.Mark mark.Noting m) = none (at.Mark mark.Noting m) (note_asks_none d.note.row d.note)
  by_request P asks none (at.Mark mark.Open m) = none (at.Mark mark.Open m) tt
  by_request P asks none (at.Mark (mark.Write fd) m) = none (at.Mark (mark.Write fd) m) tt
  by_request P asks none (at.Mark (mark.Close fd written) m) = none (at.Mark (mark.Close fd written) m) tt
  by_request P asks none (at.UnlinkFile c n p) = none (at.UnlinkFile c n p) tt
  by_request P asks none (at.ReadFile c n begun Opening) = none (at.ReadFile c n begun Opening) tt
  by_request P asks none (at.ReadFile c n begun (Going fd)) = none (at.ReadFile c n begun (Going fd)) tt
  by_request P asks none (at.ReadFile c n begun (Closing fd)) = none (at.ReadFile c n begun (Closing fd)) tt
  by_request P asks none (at.ReadFile c n begun (Shutting fd)) = none (at.ReadFile c n begun (Shutting fd)) tt
  by_request P asks none (at.FindTodo search) = none (at.FindTodo search) tt
  by_request P asks none at.InTodo = none at.InTodo (pass_asks_none d.pass.row d.pass)
  by_request P asks none (at.Finish row n) = none (at.Finish row n) (finish_asks_none row n)
  by_request P asks none (at.Sweep row) = none (at.Sweep row) (sweep_asks_none row)
  by_request P asks none (at.Ended status) = none (at.Ended status) tt

none_given : (ch : Channel) (text : List ℕ) (due : NeedData) → due ≡ needs.Give (port_of ch) text → IsNoRequest due → ⊥
none_given Local text due e none = subst IsNoRequest e none
none_given Remote text due e none = subst IsNoRequest e none

same_request : (c ch : Channel) (d : Desk) (text : List ℕ) → due_at (at.Request c) d ≡ needs.Give (port_of ch) text → (c ≡ ch) × (first_text (link c d).requests ≡ text)
same_request Local Local d text e = (refl, cc)
same_request Remote Remote d text e = (refl, cc)
same_request Local Remote d text e = absurd (cc)
same_request Remote Local d text e = absurd (cc)

pub requests_are_texts : RequestsAreTexts
requests_are_texts now q a d read found ch text soon moment stands h due =
    by_request d (λ (row : Row). StandsAt now q a row d → due_at row d ≡ needs.Give (port_of ch) text → IsRequestFor q ch d text)
    (λ c w e.
    let same = same_request c ch d text e in
    request_for now q a d h ch text (subst (λ (x : Channel). StandsAt now q a (at.Request x) d) same.0 w) (subst (λ (x : Channel). first_text (link x d).requests ≡ text) same.0 same.1))
    (λ row none w e. absurd (none_given ch text (due_at row d) e none))
    (row_now d read found) (arrived now read q a soon moment d found stands) due
