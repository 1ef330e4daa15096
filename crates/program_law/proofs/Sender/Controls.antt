-- The reading of the control files, over all that the sender relies on.
use Rattle.address_rules.proofs.Nuls.{controls_none}
use Rattle.address_rules.specs.Nuls.{HaveNoNul}
use Rattle.std.proofs.Common.{◌≡◌, ℕ, List, [], ◌++◌, length, set, Bool, true, false, Option, Some, None, refl, sym, subst}
use Rattle.std.specs.Prelude.{All, if◌then◌else◌, nat_lt}
use Rattle.std.proofs.lemmas.List.Elements.{All-weaker}
use Rattle.address_rules.specs.declared.control_file.ControlFile.{ControlFile}
use Rattle.address_rules.specs.Files.{Fault, first_fault, place}
use Rattle.call_fs.specs.declared.calls.Answer.{Answer}
use Rattle.call_fs.specs.declared.calls.Answer.TheVariants as answer
use Rattle.call_fs.specs.declared.calls.CallData.{CallData}
use Rattle.call_fs.specs.declared.calls.CallData.TheVariants as call
use Rattle.call_fs.specs.declared.calls.Fd.{Fd}
use Rattle.call_fs.specs.declared.calls.FsError.TheVariants as why
use Rattle.call_fs.specs.declared.calls.How.TheVariants as how
use Rattle.call_fs.specs.declared.calls.Told.{Told}
use Rattle.call_fs.specs.declared.file_system.TheConstants.{PIECE}
use Rattle.call_fs.specs.declared.past.GotData.TheVariants.{Answered}
use Rattle.call_fs.specs.declared.past.NeedData.TheVariants as needs
use Rattle.call_fs.specs.Apply.{Fits}
use Rattle.send_core.specs.declared.desk.Desk.{Desk}
use Rattle.send_parts.specs.declared.row.Row.TheVariants as at
use Rattle.send_core.specs.Start.{start_at}
use Rattle.send_core.specs.Table.{act, due_at}
use Rattle.send_jobs.specs.Sending.{lane}
use Rattle.send_known.specs.declared.known.Known.{Known}
use Rattle.send_parts.specs.declared.book.Book.{Book}
use Rattle.send_parts.specs.declared.reading.Progress.{Progress}
use Rattle.send_parts.specs.declared.reading.Progress.TheVariants.{Goes, Whole, Missing, Failed}
use Rattle.send_parts.specs.declared.reading.Reading.{Reading}
use Rattle.send_parts.specs.declared.reading.Reading.TheVariants.{Opening, Going, Closing, Shutting}
use Rattle.send_parts.specs.declared.reply.Way.{Way}
use Rattle.send_parts.specs.declared.reply.Way.TheVariants as way
use Rattle.send_parts.specs.declared.rows.StartRow.{StartRow}
use Rattle.send_parts.specs.declared.rows.StartRow.TheVariants as start
use Rattle.send_parts.specs.declared.step.Step.TheVariants as step
use Rattle.send_parts.specs.Readings.{read_on, reading_step}
use Rattle.send_parts.specs.Replies.{Said, answered, said}
use Rattle.send_parts.specs.Start.{begins_at, control_read, file_after, filed, judged_by, kept, next_file, start_failed}
use Rattle.send_parts.specs.Steps.{control_text, due_by}
use Rattle.queue_law.specs.Numbers.{Queue, about, Sound}
use Rattle.queue_law.specs.Passes.{HasOpen}
use Rattle.queue_law.specs.Senders.{LeadsOn, called_queue}
use Rattle.queue_law.proofs.Opens.{opened_held}
use Rattle.queue_law.proofs.Sends.{reads_keep}
use Rattle.program_law.specs.Sender.Knows.{IsKnown, Knows}
use Rattle.program_law.specs.Sender.Knows.Knows.{Stays, Leaves}
use Rattle.program_law.specs.Sender.Rows.{HasNoJobs, HasNoMarks, ReadsOther, works}
use Rattle.program_law.specs.Sender.Stands.{DueApart, HasControls, SenderLeads, Stands, StandsAt}
use Rattle.program_law.proofs.Sender.Closes.{none_closed}
use Rattle.program_law.proofs.Sender.Entries.{Grows, due_all, known_all, lane_grown}
use Rattle.program_law.proofs.Sender.Gone.{file_call}
use Rattle.program_law.proofs.Sender.Lanes.{AllServe, OnBoth}
use Rattle.program_law.proofs.Sender.Passes.{grown_by}

-- A step of a reading

abbrev OtherOn : Queue → List ℕ → Progress → Type 0
OtherOn q a (Goes next) = ReadsOther q a next
OtherOn q a p = Unit {0}

record OtherLeads (now : ℕ) (a : List ℕ) (q r : Queue) (next : Progress) : Type 0 where
  leads : LeadsOn now a None q r
  reads : OtherOn r a next

module _ (now : ℕ) (q : Queue) (a : List ℕ) (G : Sound q) (f : ControlFile) (len read wrote : ℕ) where
  abbrev after : CallData → Answer → Queue
  after c told = called_queue q a read c told wrote q.role

  abbrev opening : CallData
  opening = call.Open (control_text f) how.Read

  at_opening : (told : Answer) (bytes : List ℕ) → Fits q.disk opening told wrote → OtherLeads now a q (after opening told) (read_on Opening (answered told bytes))
  at_opening (answer.Opened fd) bytes fits =
      let w = opened_held q a read (control_text f) how.Read fd wrote fits in
      record { leads = reads_keep now q a G read opening (answer.Opened fd) wrote tt fits; reads = (_, w.2) }
  at_opening (answer.Refused why.NotThere) bytes fits = record { leads = reads_keep now q a G read opening (answer.Refused why.NotThere) wrote tt fits; reads = tt }
  at_opening (answer.Refused why.Fault) bytes fits = record { leads = reads_keep now q a G read opening (answer.Refused why.Fault) wrote tt fits; reads = tt }
  at_opening (answer.Refused why.Memory) bytes fits = record { leads = reads_keep now q a G read opening (answer.Refused why.Memory) wrote tt fits; reads = tt }
  at_opening told bytes fits = absurd fits

  by_length : (fd : Fd) (c : CallData) (told : Answer) (b : Bool) → HasOpen (after c told) a fd.0 → OtherOn (after c told) a (if b then Goes (Closing fd) else Goes (Going fd))
  by_length fd c told true h = h
  by_length fd c told false h = h

  at_going : (fd : Fd) (told : Answer) (bytes : List ℕ) → HasOpen q a fd.0 → Fits q.disk (call.ReadAt fd len PIECE) told wrote
      → OtherLeads now a q (after (call.ReadAt fd len PIECE) told) (read_on (Going fd) (answered told bytes))
  at_going fd (answer.Count k) bytes h fits = record {
    leads = reads_keep now q a G read (call.ReadAt fd len PIECE) (answer.Count k) wrote tt fits;
    reads = by_length fd (call.ReadAt fd len PIECE) (answer.Count k) (nat_lt (length bytes) PIECE) (h.0, h.1);
  }
  at_going fd (answer.Refused why.Fault) bytes h fits = record {
    leads = reads_keep now q a G read (call.ReadAt fd len PIECE) (answer.Refused why.Fault) wrote tt fits;
    reads = (h.0, h.1);
  }
  at_going fd told bytes h fits = absurd fits

  at_closing : (fd : Fd) (told : Answer) → q.holder fd.0 ≡ Some a → Fits q.disk (call.Close fd) told wrote → OtherLeads now a q (after (call.Close fd) told) Whole
  at_closing fd answer.Done holds fits = record { leads = reads_keep now q a G read (call.Close fd) answer.Done wrote holds fits; reads = tt }
  at_closing fd told holds fits = absurd fits

  at_shutting : (fd : Fd) (told : Answer) → q.holder fd.0 ≡ Some a → Fits q.disk (call.Close fd) told wrote → OtherLeads now a q (after (call.Close fd) told) Failed
  at_shutting fd answer.Done holds fits = record { leads = reads_keep now q a G read (call.Close fd) answer.Done wrote holds fits; reads = tt }
  at_shutting fd told holds fits = absurd fits

  reads_other : (g : Reading) (c : CallData) (told : Told) → ReadsOther q a g → due_by (reading_step g (step.OpenControl f) len) [] ≡ needs.File c → Fits q.disk c told.answer wrote
      → OtherLeads now a q (after c told.answer) (read_on g (answered told.answer told.bytes))
  reads_other Opening c told h due fits =
      let same = sym (file_call opening c due) in
      subst (λ z. OtherLeads now a q (after z told.answer) (read_on Opening (answered told.answer told.bytes))) (sym same)
      (at_opening told.answer told.bytes (subst (λ z. Fits q.disk z told.answer wrote) same fits))
  reads_other (Going fd) c told h due fits =
      let same = sym (file_call (call.ReadAt fd len PIECE) c due) in
      subst (λ z. OtherLeads now a q (after z told.answer) (read_on (Going fd) (answered told.answer told.bytes))) (sym same)
      (at_going fd told.answer told.bytes h (subst (λ z. Fits q.disk z told.answer wrote) same fits))
  reads_other (Closing fd) c told h due fits =
      let same = sym (file_call (call.Close fd) c due) in
      subst (λ z. OtherLeads now a q (after z told.answer) Whole) (sym same) (at_closing fd told.answer h.1.held (subst (λ z. Fits q.disk z told.answer wrote) same fits))
  reads_other (Shutting fd) c told h due fits =
      let same = sym (file_call (call.Close fd) c due) in
      subst (λ z. OtherLeads now a q (after z told.answer) Failed) (sym same) (at_shutting fd told.answer h.1.held (subst (λ z. Fits q.disk z told.answer wrote) same fits))

-- What a sender relies on before it has the

record OnStart (q : Queue) (d : Desk) : Type 0 where
  known : All (λ (k : Known). IsKnown (about q k.n) k) d.book.messages.known
  due : AllServe q d.book.messages
  lanes : OnBoth q d.slots
  apart : DueApart d.book.messages d.slots
  bare : HasNoMarks d.slots
  none : HasNoJobs d.slots

stays : (f : ControlFile) (g : Reading) (q : Queue) (k : Known) → Knows (at.Start (start.Control f g)) (about q k.n) k → IsKnown (about q k.n) k
stays f g q k (Stays h) = h
stays f g q k (Leaves h) = absurd h

start_of : (now : ℕ) (q : Queue) (a : List ℕ) (f : ControlFile) (g : Reading) (d : Desk) → StandsAt now q a (at.Start (start.Control f g)) d → OnStart q d
start_of now q a f g d h = record {
  known = All-weaker (λ (k : Known). Knows (at.Start (start.Control f g)) (about q k.n) k) (λ (k : Known). IsKnown (about q k.n) k) (λ k w. stays f g q k w) d.book.messages.known h.knows.known;
  due = h.knows.due;
  lanes = λ ch. let l = h.lanes ch in record { tied = l.tied; jobs = l.jobs; marks = l.marks };
  apart = h.apart;
  bare = h.rests.0;
  none = h.rests.1.0;
}

start_grown : (q r : Queue) (d : Desk) → Grows q r → OnStart q d → OnStart r d
start_grown q r d g h = record {
  known = known_all q r g d.book.messages h.known;
  due = due_all q r g d.book.messages h.due;
  lanes = λ ch. lane_grown q r g ch (lane ch d.slots) (h.lanes ch);
  apart = h.apart;
  bare = h.bare;
  none = h.none;
}

module _ (now : ℕ) (q : Queue) (a : List ℕ) where
  abbrev Rests : StartRow → Type 0
  Rests (start.Control f g) = ReadsOther q a g
  Rests start.GreetLocal = Unit {0}
  Rests (start.Ended status) = Unit {0}
  Rests row = ⊥

  row_stands : (row : StartRow) (d : Desk) → OnStart q d → (HasControls (start_at row) → HaveNoNul d.book.controls) → Rests row → Stands now q a (start_at row) d.book d.slots (works d)
  row_stands (start.Control f g) d h c r = record {
    knows = record { known = All-weaker (λ (k : Known). IsKnown (about q k.n) k) (λ (k : Known). Knows (at.Start (start.Control f g)) (about q k.n) k) (λ k w. Stays w) d.book.messages.known h.known; due = h.due };
    lanes = λ ch. let l = h.lanes ch in record { tied = l.tied; jobs = l.jobs; marks = l.marks };
    apart = h.apart;
    no_nul = c;
    rests = (h.bare, (h.none, r));
  }
  row_stands start.GreetLocal d h c r = record {
    knows = record { known = All-weaker (λ (k : Known). IsKnown (about q k.n) k) (λ (k : Known). Knows (at.Start start.GreetLocal) (about q k.n) k) (λ k w. Stays w) d.book.messages.known h.known; due = h.due };
    lanes = λ ch. let l = h.lanes ch in record { tied = l.tied; jobs = l.jobs; marks = l.marks };
    apart = h.apart;
    no_nul = c;
    rests = (h.bare, (h.none, tt));
  }
  row_stands (start.Ended status) d h c r = record {
    knows = record { known = All-weaker (λ (k : Known). IsKnown (about q k.n) k) (λ (k : Known). Knows (at.Ended status) (about q k.n) k) (λ k w. Stays w) d.book.messages.known h.known; due = h.due };
    lanes = λ ch. let l = h.lanes ch in record { tied = l.tied; jobs = l.jobs; marks = l.marks };
    apart = h.apart;
    no_nul = c;
    rests = tt;
  }
  row_stands row d h c r = absurd r

  module _ (d : Desk) (h : OnStart q d) where
    abbrev Then : Book → Type 0
    Then b = Stands now q a (start_at b.row) b d.slots (works d)

    failed_then : (w : Way) → Then (begins_at (start_failed w) d.book)
    failed_then way.NoMemory = row_stands (start.Ended 51) (record d { book = begins_at (start.Ended 51) d.book }) (record { known = h.known; due = h.due; lanes = h.lanes; apart = h.apart; bare = h.bare; none = h.none }) (λ none. absurd none) tt
    failed_then way.Fine = row_stands (start.Ended 84) (record d { book = begins_at (start.Ended 84) d.book }) (record { known = h.known; due = h.due; lanes = h.lanes; apart = h.apart; bare = h.bare; none = h.none }) (λ none. absurd none) tt
    failed_then way.Over = row_stands (start.Ended 84) (record d { book = begins_at (start.Ended 84) d.book }) (record { known = h.known; due = h.due; lanes = h.lanes; apart = h.apart; bare = h.bare; none = h.none }) (λ none. absurd none) tt
    failed_then way.Absent = row_stands (start.Ended 84) (record d { book = begins_at (start.Ended 84) d.book }) (record { known = h.known; due = h.due; lanes = h.lanes; apart = h.apart; bare = h.bare; none = h.none }) (λ none. absurd none) tt
    failed_then way.Broken = row_stands (start.Ended 84) (record d { book = begins_at (start.Ended 84) d.book }) (record { known = h.known; due = h.due; lanes = h.lanes; apart = h.apart; bare = h.bare; none = h.none }) (λ none. absurd none) tt

    judged_then : (o : Option Fault) (files : List (Option (List ℕ))) → first_fault files ≡ o → Then (judged_by o (record d.book { files = files }))
    judged_then None files fine =
        let b : Book = judged_by None (record d.book { files = files }) in
        row_stands start.GreetLocal (record d { book = b }) (record { known = h.known; due = h.due; lanes = h.lanes; apart = h.apart; bare = h.bare; none = h.none }) (λ _. controls_none files fine) tt
    judged_then (Some fault) files fine =
        let b : Book = judged_by (Some fault) (record d.book { files = files }) in
        row_stands (start.Ended 85) (record d { book = b }) (record { known = h.known; due = h.due; lanes = h.lanes; apart = h.apart; bare = h.bare; none = h.none }) (λ none. absurd none) tt

    next_then : (o : Option ControlFile) (files : List (Option (List ℕ))) → Then (next_file o (record d.book { files = files }))
    next_then None files = judged_then (first_fault files) files refl
    next_then (Some next) files =
        let b : Book = next_file (Some next) (record d.book { files = files }) in
        row_stands (start.Control next Opening) (record d { book = b }) (record { known = h.known; due = h.due; lanes = h.lanes; apart = h.apart; bare = h.bare; none = h.none }) (λ none. absurd none) tt

    filed_then : (content : Option (List ℕ)) (f : ControlFile) → Then (filed content f d.book)
    filed_then content f = next_then (file_after f) (set d.book.files (place f) content)

    goes_then : (next : Reading) (f : ControlFile) (bytes : List ℕ) → ReadsOther q a next → Then (record d.book { row = start.Control f next; read = bytes })
    goes_then next f bytes r =
        row_stands (start.Control f next) (record d { book = record d.book { row = start.Control f next; read = bytes } })
        (record { known = h.known; due = h.due; lanes = h.lanes; apart = h.apart; bare = h.bare; none = h.none }) (λ none. absurd none) r

    read_then : (p : Progress) (f : ControlFile) (g : Reading) (s : Said) → OtherOn q a p → Then (control_read p f g s d.book)
    read_then (Goes Opening) f g s r = goes_then Opening f (kept g d.book.read ++ s.bytes) r
    read_then (Goes (Going fd)) f g s r = goes_then (Going fd) f (kept g d.book.read ++ s.bytes) r
    read_then (Goes (Closing fd)) f g s r = goes_then (Closing fd) f (kept g d.book.read ++ s.bytes) r
    read_then (Goes (Shutting fd)) f g s r = failed_then s.way
    read_then Whole f g s r = filed_then (Some d.book.read) f
    read_then Missing f g s r = filed_then None f
    read_then Failed f g s r = failed_then s.way

module _ (now : ℕ) (q : Queue) (a : List ℕ) where
  pub control_calls : Sound q → (f : ControlFile) (g : Reading) (d : Desk) (read : ℕ) (call : CallData) (told : Told) (wrote : ℕ)
      → StandsAt now q a (at.Start (start.Control f g)) d → due_at (at.Start (start.Control f g)) d ≡ needs.File call → Fits q.disk call told.answer wrote
      → SenderLeads now a q (called_queue q a read call told.answer wrote q.role) (act (at.Start (start.Control f g)) read (Answered told) d)
  control_calls G f g d read call told wrote h due fits =
      let w = reads_other now q a G f (length d.book.read) read wrote g call told h.rests.1.1 due fits in
      let r : Queue = called_queue q a read call told.answer wrote q.role in
      let there = start_grown q r d (grown_by now a q r w.leads.elsewhere) (start_of now q a f g d h) in
      record { number = None; closed = none_closed now q; leads = w.leads; stands = read_then now r a d there (read_on g (said (Answered told))) f g (said (Answered told)) w.reads }
