-- Requests with senders that were said of their messages; and which rows say what was read.
use Rattle.std.proofs.Common.{◌≡◌, ℕ, List, [], ◌∷◌, length, drop, Bool, true, false, if◌then◌else◌, Option, Some, None, refl, sym, ap, ◌∙◌, subst}
use Rattle.std.specs.Prelude.{◌&&◌, is_some, nat_lt}
use Rattle.envelope_records.specs.declared.channel.Record.{Record}
use Rattle.send_core.specs.declared.desk.Desk.{Desk}
use Rattle.send_parts.specs.declared.row.Row.{Row}
use Rattle.send_parts.specs.declared.row.Row.TheVariants as at
use Rattle.send_core.specs.Desk.{deferred, due_again, failure_in, has_begun, heard, is_dying, is_final, never, ready, request_sent, retried_if, retry_of, settle, told, told_all, told_by, waits, with_reader, with_requests}
use Rattle.send_jobs.specs.declared.attempts.Attempt.{Attempt}
use Rattle.send_known.specs.declared.channel.Channel.{Channel}
use Rattle.send_known.specs.declared.channel.Channel.TheVariants.{Local, Remote}
use Rattle.send_jobs.specs.declared.jobs.Job.{Job}
use Rattle.send_jobs.specs.declared.lane.Lane.{Lane}
use Rattle.send_jobs.specs.Lanes.{job_over, left_unmarked, next, reported, sent, sent_in}
use Rattle.send_jobs.specs.Passes.{attempts_of}
use Rattle.send_jobs.specs.Sending.{at_lane, lane, next_delivery, sent_as, sent_on}
use Rattle.send_jobs.specs.Slots.{attempt_in, lowest}
use Rattle.send_known.specs.declared.known.Known.{Known}
use Rattle.send_known.specs.Known.{is_known, sender_of}
use Rattle.send_parts.specs.declared.reading.Reading.TheVariants.{Closing, Going, Opening, Shutting}
use Rattle.send_parts.specs.declared.rows.StartRow.{StartRow}
use Rattle.send_parts.specs.declared.rows.StartRow.TheVariants as start
use Rattle.send_parts.specs.Files.{sender_in}
use Rattle.send_links.specs.Requests.{addressed, request_of, requests_of, to_slot}
use Rattle.spawn_protocol.specs.declared.report.Report.{Report}
use Rattle.spawn_protocol.specs.Report.{counted, read_on}
use Rattle.todo_pass.specs.declared.row.Row.{Row as PassRow}
use Rattle.todo_pass.specs.declared.row.Row.TheVariants as todo
use Rattle.todo_pass.specs.Table.{Pass}
use Rattle.address_rules.specs.declared.control_file.ControlFile.{ControlFile}
use Rattle.call_fs.specs.declared.past.GotData.{GotData}
use Rattle.call_fs.specs.declared.past.NeedData.{NeedData}
use Rattle.send_parts.specs.declared.book.Book.{Book}
use Rattle.send_parts.specs.declared.reading.Reading.{Reading}
use Rattle.send_parts.specs.declared.rows.FinishRow.{FinishRow}
use Rattle.send_parts.specs.declared.rows.FinishRow.TheVariants as finish
use Rattle.send_parts.specs.declared.rows.SweepRow.{SweepRow}
use Rattle.send_parts.specs.declared.rows.SweepRow.TheVariants as sweep
use Rattle.send_parts.specs.Steps.{remove_text}
use Rattle.todo_pass.specs.declared.part.Target.TheVariants as target
use Rattle.todo_pass.specs.Table.{command_text}
use Rattle.send_core.specs.Births.{Births, births_by}
use Rattle.send_core.specs.Papers.{Paper, Papers, papers_by}
use Rattle.send_core.specs.Papers.Papers.{Reads, Told}
use Rattle.send_core.specs.Senders.{Letter, letter_by}
use Rattle.send_core.proofs.Known.{Sound, each_more, sender_said, sound_moved_local, sound_moved_remote}

-- What a past tells besides what it says of the channels: the info or todo file that is being read, when messages were born, and what
-- the control files say.
pub record Facts : Type 0 where
  pub letter : Option Letter
  pub births : Births
  pub papers : Papers

abbrev pub facts_by : ℕ → Facts → NeedData → GotData → Facts
facts_by now t due got = record { letter = letter_by t.letter due got; births = births_by t.births now due got; papers = papers_by t.papers due got }

module _ (S : ℕ → List ℕ → Type 0) where
  abbrev pub IsAsked : Attempt → List ℕ → Type 0
  IsAsked a text = (slot : ℕ) × (sender : List ℕ) × S a.n sender × (text ≡ to_slot slot (request_of a.n sender a.address))

  abbrev pub Asked : List (List ℕ) → List Attempt → Type 0
  Asked [] [] = Unit {0}
  Asked (text ∷ texts) (a ∷ left) = IsAsked a text × Asked texts left
  Asked texts left = ⊥

  asked_drop : (texts : List (List ℕ)) (left : List Attempt) → Asked texts left → Asked (drop 1 texts) (drop 1 left)
  asked_drop [] [] h = tt
  asked_drop (text ∷ texts) (a ∷ left) h = h.1
  asked_drop [] (a ∷ left) h = absurd h
  asked_drop (text ∷ texts) [] h = absurd h

  pub asked_addressed : (o : Option ℕ) (texts : List (List ℕ)) (left : List Attempt) → Asked texts left → Asked (addressed o texts) left
  asked_addressed None texts left h = h
  asked_addressed (Some slot) [] left h = h
  asked_addressed (Some slot) (text ∷ texts) (a ∷ left) h = ((slot, h.0.1, h.0.2, ap (to_slot slot) h.0.3), h.1)
  asked_addressed (Some slot) (text ∷ texts) [] h = absurd h

  one_asked : (n : ℕ) (sender : List ℕ) (dying done : Bool) (place : ℕ) (address : List ℕ) (rs : List Record) → S n sender → Asked (requests_of n sender rs) (attempts_of n dying rs)
      → Asked (requests_of n sender (record { done = done; place = place; address = address } ∷ rs)) (attempts_of n dying (record { done = done; place = place; address = address } ∷ rs))
  one_asked n sender dying true place address rs s h = h
  one_asked n sender dying false place address rs s h = ((0, sender, s, refl), h)

  asked_records : (n : ℕ) (sender : List ℕ) (dying : Bool) (rs : List Record) → S n sender → Asked (requests_of n sender rs) (attempts_of n dying rs)
  asked_records n sender dying [] s = tt
  asked_records n sender dying (r ∷ rs) s = one_asked n sender dying r.done r.place r.address rs s (asked_records n sender dying rs s)

-- What is so at each row

module _ (S : ℕ → List ℕ → Type 0) (t : Facts) where
  abbrev pub Base : Desk → Type 0
  Base d = Sound S t.births.of d.book.messages × Asked S d.local.requests d.slots.local.left × Asked S d.remote.requests d.slots.remote.left × (t.papers ≡ Told d.book.controls)

  -- the birth of this message was told last
  abbrev pub IsLast : ℕ → ℕ → Type 0
  IsLast n moment = t.births.last ≡ Some (record { n = n; moment = moment })

  abbrev pub StartSays : StartRow → List ℕ → Type 0
  StartSays (start.ReadInfo split n (Going fd)) read = t.letter ≡ Some (record { todo = false; n = n; fd = fd; bytes = read; over = false })
  StartSays (start.ReadInfo split n (Closing fd)) read = t.letter ≡ Some (record { todo = false; n = n; fd = fd; bytes = read; over = true })
  StartSays (start.StatInfo split n) read = S n (sender_in read)
  StartSays (start.StatLocal split n birth) read = S n (sender_in read) × IsLast n birth
  StartSays (start.StatRemote split n birth local) read = S n (sender_in read) × IsLast n birth
  StartSays row read = Unit {0}

  abbrev pub PassSays : PassRow → Pass → Type 0
  PassSays (todo.Clear part) p = p.todo ≡ []
  PassSays todo.StatMess p = p.todo ≡ []
  PassSays todo.OpenTodo p = p.todo ≡ []
  PassSays (todo.ReadTodo fd) p = t.letter ≡ Some (record { todo = true; n = p.n; fd = fd; bytes = p.todo; over = false })
  PassSays (todo.CloseTodo fd) p = t.letter ≡ Some (record { todo = true; n = p.n; fd = fd; bytes = p.todo; over = true })
  PassSays (todo.Create target.Info) p = S p.n p.sorted.sender
  PassSays (todo.Create target.Local) p = S p.n p.sorted.sender × IsLast p.n p.birth
  PassSays (todo.Create target.Remote) p = S p.n p.sorted.sender × IsLast p.n p.birth
  PassSays (todo.Append target.Info fd done) p = S p.n p.sorted.sender × (t.births.made ≡ Some (record { n = p.n; fd = fd }))
  PassSays (todo.Append target.Local fd done) p = S p.n p.sorted.sender × IsLast p.n p.birth × (t.births.made ≡ None)
  PassSays (todo.Append target.Remote fd done) p = S p.n p.sorted.sender × IsLast p.n p.birth × (t.births.made ≡ None)
  PassSays (todo.Sync part fd) p = S p.n p.sorted.sender × IsLast p.n p.birth
  PassSays (todo.Close part fd) p = S p.n p.sorted.sender × IsLast p.n p.birth
  PassSays todo.Give p = S p.n p.sorted.sender × IsLast p.n p.birth
  PassSays todo.Answer p = S p.n p.sorted.sender × IsLast p.n p.birth × (t.births.command ≡ command_text p.n)
  PassSays todo.Done p = Unit {0}
  PassSays (todo.Shut fd why) p = Unit {0}
  PassSays (todo.Left why) p = Unit {0}
  PassSays todo.Lost p = Unit {0}

  -- the cleaner was given the command to remove the message
  abbrev pub FinishSays : FinishRow → ℕ → Type 0
  FinishSays finish.Take n = t.births.command ≡ remove_text n
  FinishSays row n = Unit {0}

  abbrev pub SweepSays : SweepRow → Type 0
  SweepSays (sweep.Take split n) = t.births.command ≡ remove_text n
  SweepSays row = Unit {0}

  abbrev pub RowSays : Row → List ℕ → Pass → List Known → Type 0
  RowSays (at.Start row) read p ks = StartSays row read
  RowSays (at.ReadFile c n begun reading) read p ks = is_known n ks ≡ true
  RowSays at.InTodo read p ks = PassSays p.row p
  RowSays (at.Finish row n) read p ks = FinishSays row n
  RowSays (at.Sweep row) read p ks = SweepSays row
  RowSays row read p ks = Unit {0}

  abbrev pub SaysAt : Row → Desk → Type 0
  SaysAt row d = RowSays row d.book.read d.pass d.book.messages.known

  -- while the control files are read: those that were filed, and the one that is being read
  abbrev pub ControlSays : ControlFile → Reading → Book → Type 0
  ControlSays file Opening b = (held : Option Paper) × (t.papers ≡ Reads b.files held)
  ControlSays file (Going fd) b = t.papers ≡ Reads b.files (Some (record { file = file; fd = fd; bytes = b.read; over = false }))
  ControlSays file (Closing fd) b = t.papers ≡ Reads b.files (Some (record { file = file; fd = fd; bytes = b.read; over = true }))
  ControlSays file (Shutting fd) b = Unit {0}

  abbrev pub KnowsAt : Row → Desk → Type 0
  KnowsAt (at.Start (start.Control file reading)) d =
      Sound S t.births.of d.book.messages × Asked S d.local.requests d.slots.local.left × Asked S d.remote.requests d.slots.remote.left × ControlSays file reading d.book
  KnowsAt (at.Ended status) d = Unit {0}
  KnowsAt row d = Base d × SaysAt row d

  abbrev pub Knows : Desk → Type 0
  Knows d = KnowsAt d.row d

  -- Jobs that are over, and takings

  pub base_due : (c : Channel) (n due : ℕ) (d : Desk) → Base d → Base (due_again c n due d)
  base_due Local n due d h = (sound_moved_local S t.births.of (due, n) d.book.messages h.0, h.1, h.2, h.3)
  base_due Remote n due d h = (sound_moved_remote S t.births.of (due, n) d.book.messages h.0, h.1, h.2, h.3)

  base_retried : (o : Option Job) (c : Channel) (n : ℕ) (d : Desk) → Base d → Base (retried_if o c n d)
  base_retried None c n d h = h
  base_retried (Some job) c n d h = base_due c n (retry_of c n job.begun d) d h

  base_deferred : (c : Channel) (n : ℕ) (d : Desk) → Base d → Base (deferred c n d)
  base_deferred Local n d h =
      let after : Desk = record d { slots = at_lane Local (left_unmarked n) d.slots } in
      base_retried (job_over n (lane Local after.slots)) Local n after h
  base_deferred Remote n d h =
      let after : Desk = record d { slots = at_lane Remote (left_unmarked n) d.slots } in
      base_retried (job_over n (lane Remote after.slots)) Remote n after h

  base_if : (b : Bool) (x y : Desk) → Base x → Base y → Base (if b then x else y)
  base_if true x y p q = p
  base_if false x y p q = q

  base_settle : (r : Report) (c : Channel) (a : Attempt) (d : Desk) → Base d → Base (settle r c a d)
  base_settle r Local a d h =
      base_if (is_final (counted r.letter) a.dying && nat_lt (length d.slots.local.marks) 120) (waits Local a (failure_in r) d) (deferred Local a.n d) h (base_deferred Local a.n d h)
  base_settle r Remote a d h =
      base_if (is_final (counted r.letter) a.dying && nat_lt (length d.slots.remote.marks) 120) (waits Remote a (failure_in r) d) (deferred Remote a.n d) h (base_deferred Remote a.n d h)

  base_told_by : (o : Option Attempt) (c : Channel) (r : Report) (d : Desk) → Base d → Base (told_by o c r d)
  base_told_by None c r d h = h
  base_told_by (Some a) Local r d h = base_settle r Local a (record d { slots = at_lane Local (reported r.slot) d.slots }) h
  base_told_by (Some a) Remote r d h = base_settle r Remote a (record d { slots = at_lane Remote (reported r.slot) d.slots }) h

  base_told : (c : Channel) (rs : List Report) (d : Desk) → Base d → Base (told_all c rs d)
  base_told c [] d h = h
  base_told c (r ∷ rs) d h = base_told c rs (told c r d) (base_told_by (attempt_in (lane c d.slots).slots r.slot) c r d h)

  pub base_heard : (c : Channel) (bytes : List ℕ) (d : Desk) → Base d → Base (heard c bytes d)
  base_heard Local bytes d h = base_told Local (read_on d.local.reader bytes).0 (with_reader Local (read_on d.local.reader bytes).1 d) h
  base_heard Remote bytes d h = base_told Remote (read_on d.remote.reader bytes).0 (with_reader Remote (read_on d.remote.reader bytes).1 d) h

  -- A pass begins, and goes on

  pub base_begun : (c : Channel) (n begun : ℕ) (records : List Record) (d : Desk) → is_known n d.book.messages.known ≡ true → Base d → Base (has_begun c n begun records d)
  base_begun Local n begun records d is h = (
    sound_moved_local S t.births.of (never, n) d.book.messages h.0,
    asked_records S n (sender_of n d.book.messages.known) (is_dying n begun d) records (sender_said S n d.book.messages.known is h.0.0),
    h.2,
    h.3,
  )
  base_begun Remote n begun records d is h = (
    sound_moved_remote S t.births.of (never, n) d.book.messages h.0,
    h.1,
    asked_records S n (sender_of n d.book.messages.known) (is_dying n begun d) records (sender_said S n d.book.messages.known is h.0.0),
    h.3,
  )

  left_sent : (slot : ℕ) (a : Attempt) (delivery : ℕ) (lane : Lane) → lowest lane.slots ≡ Some slot → next lane ≡ Some a → (sent delivery lane).left ≡ drop 1 lane.left
  left_sent slot a delivery lane low first =
      ap (λ (o : Option ℕ). (sent_in o (next lane) delivery lane).left) low ∙ ap (λ (o : Option Attempt). (sent_in (Some slot) o delivery lane).left) first

  pub base_sent : (c : Channel) (slot : ℕ) (a : Attempt) (d : Desk) → lowest (lane c d.slots).slots ≡ Some slot → next (lane c d.slots) ≡ Some a → Base d → Base (request_sent c d)
  base_sent Local slot a d low first h = subst
      (λ (b : Bool). Base (if b then with_requests Local (drop 1 d.local.requests) (record d { slots = sent_on Local d.slots }) else d)) (sym (ap (λ (o : Option Attempt). is_some o) first))
      (subst (λ (o : Option ℕ). Base (with_requests Local (drop 1 d.local.requests) (record d { slots = sent_as o Local (next_delivery d.slots) d.slots }))) (sym low)
      (h.0, subst (λ (left : List Attempt). Asked S (drop 1 d.local.requests) left) (sym (left_sent slot a (next_delivery d.slots) d.slots.local low first)) (asked_drop S d.local.requests d.slots.local.left h.1), h.2, h.3))
  base_sent Remote slot a d low first h = subst
      (λ (b : Bool). Base (if b then with_requests Remote (drop 1 d.remote.requests) (record d { slots = sent_on Remote d.slots }) else d)) (sym (ap (λ (o : Option Attempt). is_some o) first))
      (subst (λ (o : Option ℕ). Base (with_requests Remote (drop 1 d.remote.requests) (record d { slots = sent_as o Remote (next_delivery d.slots) d.slots }))) (sym low)
      (h.0, h.1, subst (λ (left : List Attempt). Asked S (drop 1 d.remote.requests) left) (sym (left_sent slot a (next_delivery d.slots) d.slots.remote low first)) (asked_drop S d.remote.requests d.slots.remote.left h.2), h.3))

  pub base_ready : (d : Desk) → Base d → Base (ready d)
  base_ready d h = (
    h.0,
    asked_addressed S (lowest d.slots.local.slots) d.local.requests d.slots.local.left h.1,
    asked_addressed S (lowest d.slots.remote.slots) d.remote.requests d.slots.remote.left h.2,
    h.3,
  )

  -- with what is told later, if that tells the same births and the same control files
  pub base_still : (u : Facts) (d : Desk) → u.births.of ≡ t.births.of → u.papers ≡ t.papers → Base d
      → Sound S u.births.of d.book.messages × Asked S d.local.requests d.slots.local.left × Asked S d.remote.requests d.slots.remote.left × (u.papers ≡ Told d.book.controls)
  base_still u d same papers h = (subst (λ (of : ℕ → ℕ). Sound S of d.book.messages) (sym same) h.0, h.1, h.2, papers ∙ h.3)

-- what was said of a message before was said of it later

pub asked_more : (S T : ℕ → List ℕ → Type 0) → ((n : ℕ) (sender : List ℕ) → S n sender → T n sender) → (texts : List (List ℕ)) (left : List Attempt) → Asked S texts left → Asked T texts left
asked_more S T f [] [] h = tt
asked_more S T f (text ∷ texts) (a ∷ left) h = ((h.0.0, h.0.1, f a.n h.0.1 h.0.2, h.0.3), asked_more S T f texts left h.1)
asked_more S T f [] (a ∷ left) h = absurd h
asked_more S T f (text ∷ texts) [] h = absurd h

pub base_more : (S T : ℕ → List ℕ → Type 0) → ((n : ℕ) (sender : List ℕ) → S n sender → T n sender) → (t : Facts) (d : Desk) → Base S t d → Base T t d
base_more S T f t d h = (
  (each_more S T f d.book.messages.known h.0.0, h.0.1, h.0.2, h.0.3),
  asked_more S T f d.local.requests d.slots.local.left h.1,
  asked_more S T f d.remote.requests d.slots.remote.left h.2,
  h.3,
)
