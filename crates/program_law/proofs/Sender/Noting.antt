-- The steps of a note, which comes before the mark of a recipient that failed for good.
use Rattle.std.proofs.Common.{◌≡◌, inl, inr, ℕ, ◌+◌, ◌-◌, ◌<◌, ◌≤◌, min, List, [], ◌∷◌, ◌++◌, length, take, drop, Bool, true, false, Option, Some, None, refl, sym, ap, ◌∙◌, subst, ⊎_elim, append_assoc, arith, length-drop, take_all, drop-drop, drop_of_length-le}
use Rattle.std.specs.Prelude.{if◌then◌else◌, nat_eq, nat_lt, All}
use Rattle.std.specs.List.{ends_with}
use Rattle.std.proofs.lemmas.Bool.{ltb-true, ltb-false}
use Rattle.std.proofs.lemmas.Bool.Decides.{eqb_tells}
use Rattle.std.proofs.lemmas.List.{append-nil, take-append-drop}
use Rattle.std.proofs.Math.Nat.{le-min}
use Rattle.address_rules.specs.declared.controls.Controls.{Controls}
use Rattle.address_rules.specs.Names.{stripped}
use Rattle.bounce_record.specs.declared.note_row.NoteRow.{NoteRow}
use Rattle.bounce_record.specs.declared.note_row.NoteRow.TheVariants as written
use Rattle.bounce_record.specs.Notes.{note_text, parting, with_note}
use Rattle.bounce_record.specs.Writing.{Writing, left_out, next_piece, parted_note, piece, tail_row, due_at as note_due_at, written_row}
use Rattle.bounce_record.proofs.Counting.{parting_tail}
use Rattle.call_fs.specs.declared.calls.Answer.{Answer}
use Rattle.call_fs.specs.declared.calls.Answer.TheVariants as answer
use Rattle.call_fs.specs.declared.calls.CallData.{CallData}
use Rattle.call_fs.specs.declared.calls.CallData.TheVariants as call
use Rattle.call_fs.specs.declared.calls.Fd.{Fd}
use Rattle.call_fs.specs.declared.calls.FsError.TheVariants as why
use Rattle.call_fs.specs.declared.calls.How.TheVariants as how
use Rattle.call_fs.specs.declared.calls.Told.{Told}
use Rattle.call_fs.specs.declared.modes.Mode.{Mode}
use Rattle.call_fs.specs.declared.past.GotData.TheVariants.{Answered}
use Rattle.call_fs.specs.declared.past.NeedData.{NeedData}
use Rattle.call_fs.specs.declared.past.NeedData.TheVariants as needs
use Rattle.call_fs.specs.Apply.{Fits, IsReadBy, empty_file, from_place, read_by}
use Rattle.call_fs.specs.Disk.{Among, File, Open as OpenFile}
use Rattle.envelope_records.specs.declared.channel.Record.{Record}
use Rattle.queue_paths.specs.Names.{path}
use Rattle.queue_paths.specs.Names.Name.{Of}
use Rattle.queue_paths.specs.Names.Part.{Bounce, Info}
use Rattle.queue_paths.proofs.Parts.{todo_far, todo_same}
use Rattle.send_core.specs.declared.desk.Desk.{Desk}
use Rattle.send_parts.specs.declared.row.MarkRow.{MarkRow}
use Rattle.send_parts.specs.declared.row.MarkRow.TheVariants as mark
use Rattle.send_parts.specs.declared.row.Marked.{Marked}
use Rattle.send_parts.specs.declared.row.Row.TheVariants as at
use Rattle.send_core.specs.Booked.{noted_at as booked_note}
use Rattle.send_core.specs.Desk.{goes}
use Rattle.send_core.specs.Turn.{note_of, noted, noted_at, told_report}
use Rattle.send_jobs.specs.declared.attempts.Failure.{Failure}
use Rattle.send_jobs.specs.declared.attempts.Mark.{Mark}
use Rattle.send_known.specs.declared.channel.Channel.{Channel}
use Rattle.send_jobs.specs.declared.lane.Lane.{Lane}
use Rattle.send_jobs.specs.Jobs.{job_of}
use Rattle.send_jobs.specs.Sending.{lane}
use Rattle.program_law.specs.Channel.Files.{IsOpen}
use Rattle.program_law.specs.Channel.Tied.{IsTied, in_hand, is_mark_at, waiting}
use Rattle.program_law.specs.Channel.Tied.First.{Unwritten}
use Rattle.program_law.proofs.Channel.Counts.{contained_counts}
use Rattle.program_law.proofs.Channel.Ties.{at_itself}
use Rattle.queue_law.specs.Books.{Injection, routed_in, spot_in, with_line}
use Rattle.queue_law.specs.Entered.{Child, named_by}
use Rattle.queue_law.specs.Bouncing.{BounceGrows, HoldsBounce, MayNote, NoteLeads, OthersStay, entering_queue}
use Rattle.queue_law.specs.Ledgers.{HasGrown, Named, Spot}
use Rattle.queue_law.specs.Ledgers.Line.{Notes}
use Rattle.queue_law.specs.Notes.{Covers}
use Rattle.queue_law.specs.Numbers.{Entry, Queue, Role, entry, look, about, IsPreprocessed, Sound}
use Rattle.queue_law.specs.Passes.{HasOpen}
use Rattle.queue_law.specs.Rests.{IsClosed}
use Rattle.queue_law.specs.Routes.{Recipient}
use Rattle.queue_law.specs.Senders.{HasLane, LeadsOn, called_queue}
use Rattle.queue_law.proofs.Bouncing.{bounces_begin, bounces_cover, bounces_grow, notes_sync}
use Rattle.queue_law.proofs.Growth.{grown_same}
use Rattle.queue_law.proofs.Looks.{find_some, found}
use Rattle.queue_law.proofs.Opens.{opened_held}
use Rattle.queue_law.proofs.Readings.{records_are}
use Rattle.queue_law.proofs.Sends.{entered_living, lane_there, reads_keep, sorted_of_lane}
use Rattle.program_law.specs.Sender.Views.{by_mark, files_of, records_at}
use Rattle.program_law.specs.Sender.Knows.{IsDoneIn, IsEntered, IsReported, IsSettledIn, Serves}
use Rattle.program_law.specs.Sender.Rows.{HasNote, HasPart, HasTail, IsFirstMark, IsToNote, NamesNoted, NoteHolds, NoteIsOf, noted_name}
use Rattle.program_law.specs.Sender.Stands.{SenderLeads, SenderStands}
use Rattle.program_law.specs.Sender.Takings.{booked_queue}
use Rattle.program_law.proofs.Sender.Closes.{lane_closed, none_closed, one_closed}
use Rattle.program_law.proofs.Sender.Entries.{Grows, among_of, lines_lives, spot_same}
use Rattle.program_law.proofs.Sender.Gone.{file_call}
use Rattle.program_law.proofs.Sender.Heads.{first_all, first_in, some_same}
use Rattle.program_law.proofs.Sender.Marking.{AtMark, at_grown, at_stands, over_failed}
use Rattle.program_law.proofs.Sender.Others.{the_job}
use Rattle.program_law.proofs.Sender.Texts.{they_are}

-- What is left out of the two newlines and the note

after_tail : (tail note : List ℕ) → 0 < length tail → drop (left_out tail) (10 ∷ 10 ∷ note) ≡ parting tail ++ note
after_tail [] note long = absurd (omega arith)
after_tail (b ∷ bytes) note long =
    elim (ends_with nat_eq (b ∷ bytes) (10 ∷ 10 ∷ [])) as (λ t. drop (if t then 2 else 0) (10 ∷ 10 ∷ note) ≡ (if t then [] else 10 ∷ 10 ∷ []) ++ note) [ true ↦ refl | false ↦ refl ]

after_file : (file note : List ℕ) → 0 < length file → drop (left_out (drop (length file - 2) file)) (10 ∷ 10 ∷ note) ≡ parting file ++ note
after_file file note long =
    let tail = drop (length file - 2) file in
    let len = length-drop (length file - 2) file in
    after_tail tail note (omega arith) ∙ ap (λ p. p ++ note) (sym (parting_tail file))

empty_by : (f : List ℕ) → length f ≡ 0 → f ≡ []
empty_by [] e = refl
empty_by (b ∷ bs) e = absurd (omega (arith, e))

-- What a note rests on at a row, or at its end

abbrev NoteNext : Controls → Queue → List ℕ → NoteRow → Marked → (name report text : List ℕ) → Type 0
NoteNext controls q a written.Written m name report text = IsDoneIn controls (about q m.n) m.channel m.place
NoteNext controls q a written.Failed m name report text = Unit {0}
NoteNext controls q a written.Create m name report text = Unit {0}
NoteNext controls q a (written.Stat fd) m name report text = NoteHolds controls q a (written.Stat fd) m name report text
NoteNext controls q a (written.Read fd place len) m name report text = NoteHolds controls q a (written.Read fd place len) m name report text
NoteNext controls q a (written.Append fd done) m name report text = NoteHolds controls q a (written.Append fd done) m name report text
NoteNext controls q a (written.Sync fd) m name report text = NoteHolds controls q a (written.Sync fd) m name report text
NoteNext controls q a (written.Close fd) m name report text = NoteHolds controls q a (written.Close fd) m name report text
NoteNext controls q a (written.Shut fd) m name report text = NoteHolds controls q a (written.Shut fd) m name report text
NoteNext controls q a written.Open m name report text = ⊥

-- at another row before the write, and with another note
at_row : (q : Queue) (row next : MarkRow) (c : Channel) (d : Desk) (w : Writing) → by_mark row ≡ Unwritten → by_mark next ≡ Unwritten → AtMark q row c d
    → AtMark q next c (record d { note = w })
at_row q row next c d w e f h = record {
  known = h.known;
  due = h.due;
  apart = h.apart;
  no_nul = h.no_nul;
  others = h.others;
  tied = subst (λ first. IsTied (files_of q c) first (lane c d.slots)) (e ∙ sym f) h.tied;
  jobs = h.jobs;
  marks = subst (λ first. All (λ (m : Mark). IsEntered (about q m.attempt.n) c m) (waiting first (lane c d.slots).marks)) (e ∙ sym f) h.marks;
}

module _ (now : ℕ) (r : Queue) (a : List ℕ) (m : Marked) (d : Desk) (w : Writing) (first : IsFirstMark m d.slots)
    (there : AtMark r mark.Noting m.channel (record d { note = w })) (of : NoteIsOf d.book.controls m d.slots w) where
  abbrev noting : Desk
  noting = record d { note = w }

  abbrev Holds : NoteRow → Type 0
  Holds row = NoteHolds d.book.controls r a row m (noted_name d.book.controls of.first) (told_report (Some of.failure)) w.text

  going : (row : NoteRow) → w.row ≡ row → Holds row → SenderStands now r a (goes noting (at.Mark mark.Noting m))
  going row is h = at_stands now r a mark.Noting m noting there first (record { of = of; holds = subst Holds (sym is) h })

  pub note_leads : (row : NoteRow) → w.row ≡ row → NoteNext d.book.controls r a row m (noted_name d.book.controls of.first) (told_report (Some of.failure)) w.text
      → SenderStands now r a (noted_at row m noting)
  note_leads written.Written is h = at_stands now r a mark.Open m noting (at_row r mark.Noting mark.Open m.channel noting w refl refl there) first h
  note_leads written.Failed is h = over_failed now r a mark.Noting m noting first there
  note_leads written.Create is h = going written.Create is h
  note_leads (written.Stat fd) is h = going (written.Stat fd) is h
  note_leads (written.Read fd place len) is h = going (written.Read fd place len) is h
  note_leads (written.Append fd done) is h = going (written.Append fd done) is h
  note_leads (written.Sync fd) is h = going (written.Sync fd) is h
  note_leads (written.Close fd) is h = going (written.Close fd) is h
  note_leads (written.Shut fd) is h = going (written.Shut fd) is h
  note_leads written.Open is h = absurd h

-- The bounce file and the text

module _ (r : Queue) (a : List ℕ) (G : Sound r) (n : ℕ) (name report text : List ℕ) (is : text ≡ 10 ∷ 10 ∷ note_text name report) where
  names_of : (y : Entry) → look r (Of Bounce n) ≡ Some y → NamesNoted (about r n) y.file.bytes
  names_of y there = let c = bounces_cover r n y G there in record {
    sorted = record { no_todo = c.no_todo; info = c.info; info_there = c.info_there; injection = c.injection; lives = c.lives };
    covers = c.covers y there;
  }

  begin_part : (fd done : ℕ) (held : HoldsBounce r a n fd) → drop done text ≡ parting held.file.file.bytes ++ note_text name report → HasPart r a n fd done name report text
  begin_part fd done held e = record {
    held = held;
    base = held.file.file.bytes;
    names = names_of held.file held.there;
    rest = ap (λ (t : List ℕ). held.file.file.bytes ++ t) e;
  }

  -- of an empty file
  begin_empty : (fd : ℕ) (held : HoldsBounce r a n fd) → held.file.file.bytes ≡ [] → HasPart r a n fd 2 name report text
  begin_empty fd held none = begin_part fd 2 held (ap (λ (t : List ℕ). drop 2 t) is ∙ ap (λ (f : List ℕ). parting f ++ note_text name report) (sym none))

  -- after a tail that was read
  begin_tail : (fd : ℕ) (held : HoldsBounce r a n fd) (tail : List ℕ) → 0 < length held.file.file.bytes → tail ≡ drop (length held.file.file.bytes - 2) held.file.file.bytes
      → HasPart r a n fd (left_out tail) name report text
  begin_tail fd held tail some e = begin_part fd (left_out tail) held
      (ap (λ (t : List ℕ). drop (left_out tail) t) is ∙ ap (λ (t : List ℕ). drop (left_out t) (10 ∷ 10 ∷ note_text name report)) e ∙ after_file held.file.file.bytes (note_text name report) some)

  -- the next append, or the sync
  next_part : (by : Controls) (fd : Fd) (done : ℕ) (m : Marked) → m.n ≡ n → HasPart r a n fd.0 done name report text → NoteNext by r a (next_piece fd done text) m name report text
  next_part by fd done m same h = on (nat_lt done (length text)) refl
    where
      on : (b : Bool) → nat_lt done (length text) ≡ b → NoteNext by r a (if b then written.Append fd done else written.Sync fd) m name report text
      on true e = subst (λ k. HasPart r a k fd.0 done name report text) (sym same) h
      on false e =
          let none : drop done text ≡ [] = drop_of_length-le text (ltb-false done (length text) e) in
          let all : h.held.file.file.bytes ≡ with_note h.base name report = sym (append-nil h.held.file.file.bytes) ∙ ap (λ (t : List ℕ). h.held.file.file.bytes ++ t) (sym none) ∙ h.rest in
          subst (λ k. HasNote r a k fd.0 name report) (sym same) (record { held = h.held; base = h.base; names = h.names; bytes = all })

-- The steps

module _ (now : ℕ) (q : Queue) (a : List ℕ) (G : Sound q) (m : Marked) (d : Desk) (first : IsFirstMark m d.slots) (read wrote : ℕ)
    (h : AtMark q mark.Noting m.channel d) where
  -- the message of the first mark has a job, and its channel file is there
  serves : Serves (about q m.n) m.channel
  serves =
      let mk = first.first in
      let l : Lane = lane m.channel d.slots in
      let k : ℕ = mk.attempt.n in
      let p : ℕ = mk.attempt.place in
      let one = contained_counts (is_mark_at k p) l.marks mk (first_in l.marks mk first.there) (at_itself mk.attempt) in
      let held : 1 ≤ in_hand Unwritten k p l = omega (arith, one) in
      let job = the_job (job_of k l.jobs) (h.tied.owned k p held) in
      subst (λ z. Serves (about q z) m.channel) first.number (h.jobs k job.0 job.1)

  abbrev lane_of : HasLane (about q m.n) m.channel
  lane_of = record { no_todo = serves.sorted.no_todo; file = serves.file; there = serves.there; injection = serves.sorted.injection; lives = serves.sorted.lives }

  closed : (n : ℕ) → ◌≡◌ {A = Option ℕ} (Some m.n) (Some n) → IsClosed now q n
  closed = one_closed now q m.n (lane_closed now q m.n m.channel G lane_of)

  -- a step that changes the bounce file alone
  grows_but : (r : Queue) → LeadsOn now a (Some m.n) q r → OthersStay q r m.n
      → ((n : ℕ) (i : Injection) → q.books.living n ≡ Some i → (j : Injection) × (r.books.living n ≡ Some j) × (j.args ≡ i.args) × HasGrown i.ledger j.ledger) → Grows q r
  grows_but r leads others lives = record {
    looks = λ part n far. ⊎_elim
        (λ t. ap (λ (z : ℕ). look r (Of part z)) t.1 ∙ others part far ∙ ap (λ (z : ℕ). look q (Of part z)) (sym t.1))
        (λ f. leads.elsewhere.looks (Of part n) (λ e. f.1 (some_same n m.n (sym e))))
        (eqb_tells n m.n);
    lives = lives;
  }

  -- so its number stays preprocessed
  settled_but : (r : Queue) → OthersStay q r m.n → IsSettledIn (about q m.n) → (i : Injection) → r.books.living m.n ≡ Some i → IsSettledIn (about r m.n)
  settled_but r others s i lives = record {
    no_todo = todo_same (about q m.n).parts (about r m.n).parts (λ part is. others part (todo_far part Bounce is refl)) ∙ s.no_todo;
    info = s.info;
    info_there = others Info (λ e. cc) ∙ s.info_there;
    injection = i;
    lives = lives;
  }

  same_lives : (n : ℕ) (i : Injection) → q.books.living n ≡ Some i → (j : Injection) × (q.books.living n ≡ Some j) × (j.args ≡ i.args) × HasGrown i.ledger j.ledger
  same_lives n i there = (i, there, refl, grown_same i.ledger)

  module _ (of : NoteIsOf d.book.controls m d.slots d.note) where
    abbrev name : List ℕ
    name = noted_name d.book.controls of.first

    abbrev report : List ℕ
    report = told_report (Some of.failure)

    abbrev text : List ℕ
    text = d.note.text

    -- at another row
    abbrev rowed : NoteRow → Writing
    rowed row = record d.note { row = row }

    of_row : (row : NoteRow) → NoteIsOf d.book.controls m d.slots (rowed row)
    of_row row = record { first = of.first; there = of.there; failure = of.failure; note_is = of.note_is; number = of.number; text = of.text }

    -- to what an answer leads
    stands_then : (r : Queue) (row : NoteRow) → Grows q r → NoteNext d.book.controls r a row m name report text → SenderStands now r a (noted_at row m (record d { note = rowed row }))
    unfolding of_row
    stands_then r row g next = note_leads now r a m d (rowed row) first
        (at_row r mark.Noting mark.Noting m.channel d (rowed row) refl refl (at_grown q r mark.Noting m.channel d g h)) (of_row row) row refl next

    abbrev Result : NoteRow → Option Child → CallData → Told → Type 0
    Result row child c told = (role : ℕ → Role) × SenderLeads now a q
        (booked_queue child d.book.controls (booked_note row m (Answered told)) (called_queue q a read c told.answer wrote role))
        (noted_at (written_row row text told.answer told.bytes) m (record d { note = rowed (written_row row text told.answer told.bytes) }))

    -- a call that only reads
    read_leads : (r : Queue) (row : NoteRow) → LeadsOn now a None q r → Grows q r → NoteNext d.book.controls r a row m name report text
        → SenderLeads now a q r (noted_at row m (record d { note = rowed row }))
    read_leads r row leads g next = record { number = None; closed = none_closed now q; leads = leads; stands = stands_then r row g next }

    -- one that changes the bounce file
    wrote_leads : (r : Queue) (row : NoteRow) → LeadsOn now a (Some m.n) q r → Grows q r → NoteNext d.book.controls r a row m name report text
        → SenderLeads now a q r (noted_at row m (record d { note = rowed row }))
    wrote_leads r row leads g next = record { number = Some m.n; closed = closed; leads = leads; stands = stands_then r row g next }

    -- the create

    create : (child : Option Child) (told : Told) → Fits q.disk (call.CreateExcl (path (Of Bounce m.n))) told.answer wrote → Result written.Create child (call.CreateExcl (path (Of Bounce m.n))) told
    create child told fits = by told.answer told.bytes fits
      where
        by : (given : Answer) (bytes : List ℕ) → Fits q.disk (call.CreateExcl (path (Of Bounce m.n))) given wrote
            → Result written.Create child (call.CreateExcl (path (Of Bounce m.n))) (record { answer = given; bytes = bytes })
        by (answer.Created fd i) bytes fits =
            let b = bounces_begin now q a read m.n m.channel (answer.Created fd i) wrote G lane_of fits in
            let r : Queue = called_queue q a read (call.CreateExcl (path (Of Bounce m.n))) (answer.Created fd i) wrote b.role in
            let new = b.begins fd i refl in
            let held : HoldsBounce r a m.n fd.0 = record { file = record { number = i; file = empty_file read }; there = new.there; mode = Mode.Created; opened = new.opened } in (
              b.role,
              wrote_leads r (written.Append fd 2) b.leads (grows_but r b.leads b.others same_lives)
                  (begin_empty r a b.leads.sound m.n name report text of.text fd.0 held refl),
            )
        by (answer.Refused cause) bytes fits =
            let b = bounces_begin now q a read m.n m.channel (answer.Refused cause) wrote G lane_of fits in
            let r : Queue = called_queue q a read (call.CreateExcl (path (Of Bounce m.n))) (answer.Refused cause) wrote b.role in
            (b.role, wrote_leads r written.Failed b.leads (grows_but r b.leads b.others same_lives) tt)
        by given bytes fits = absurd fits

    -- the stat

    stat : (child : Option Child) (fd : Fd) (told : Told) → HoldsBounce q a m.n fd.0 → Fits q.disk (call.Stat (path (Of Bounce m.n))) told.answer wrote
        → Result (written.Stat fd) child (call.Stat (path (Of Bounce m.n))) told
    stat child fd told held fits = by told.answer told.bytes fits
      where
        it : (held.file.file ≡ q.disk.files held.file.number) × (q.disk.names (path (Of Bounce m.n)) ≡ Some held.file.number)
        it = let w = found q.disk.names q.disk.files (Of Bounce m.n) held.file held.there in (ap (λ (z : Entry). z.file) w.1, w.0)

        tails : (long : ℕ) → long ≡ length held.file.file.bytes → NoteNext d.book.controls q a (tail_row fd long) m name report text
        tails long same = by_long (nat_lt 0 long) refl
          where
            by_long : (b : Bool) → nat_lt 0 long ≡ b → NoteNext d.book.controls q a (if b then written.Read fd (long - 2) (min long 2) else written.Append fd 2) m name report text
            by_long true e = record { held = held; some = subst (λ l. 0 < l) same (ltb-true 0 long e); place_is = ap (λ l. l - 2) same; len_is = ap (λ l. min l 2) same }
            by_long false e =
                let none : long ≤ 0 = ltb-false 0 long e in
                begin_empty q a G m.n name report text of.text fd.0 held (empty_by held.file.file.bytes (omega (arith, none, same)))

        by : (given : Answer) (bytes : List ℕ) → Fits q.disk (call.Stat (path (Of Bounce m.n))) given wrote
            → Result (written.Stat fd) child (call.Stat (path (Of Bounce m.n))) (record { answer = given; bytes = bytes })
        by (answer.Stat s) bytes fits =
            let same : s.number ≡ held.file.number = some_same s.number held.file.number (sym fits.number ∙ it.1) in
            let long : s.length ≡ length held.file.file.bytes = fits.length_is ∙ ap (λ k. length (q.disk.files k).bytes) same ∙ ap (λ (f : File). length f.bytes) (sym it.0) in (
              q.role,
              read_leads q (tail_row fd s.length) (reads_keep now q a G read (call.Stat (path (Of Bounce m.n))) (answer.Stat s) wrote tt fits)
                  (record { looks = λ part n far. refl; lives = same_lives }) (tails s.length long),
            )
        by (answer.Refused cause) bytes fits = (
          q.role,
          read_leads q (written.Shut fd) (reads_keep now q a G read (call.Stat (path (Of Bounce m.n))) (answer.Refused cause) wrote tt fits)
              (record { looks = λ part n far. refl; lives = same_lives }) (record { number = held.file.number; mode = held.mode }, held.opened),
        )
        by given bytes fits = absurd fits

    -- the read of the last two bytes

    read_tail : (child : Option Child) (fd : Fd) (place len : ℕ) (told : Told) → HasTail q a m.n fd.0 place len → Fits q.disk (call.ReadAt fd place len) told.answer wrote
        → told.bytes ≡ read_by q.disk (q.disk.opens fd.0) place told.answer → Result (written.Read fd place len) child (call.ReadAt fd place len) told
    read_tail child fd place len told t fits given = by told.answer told.bytes fits given
      where
        held : HoldsBounce q a m.n fd.0
        held = t.held

        file : List ℕ
        file = t.held.file.file.bytes

        file_is : t.held.file.file ≡ q.disk.files t.held.file.number
        file_is = ap (λ (z : Entry). z.file) (found q.disk.names q.disk.files (Of Bounce m.n) t.held.file t.held.there).1

        from : from_place q.disk (q.disk.opens fd.0) place ≡ drop (length t.held.file.file.bytes - 2) t.held.file.file.bytes
        from = ap (λ (o : Option OpenFile). from_place q.disk o place) t.held.opened.opened ∙ ap (λ (f : File). drop place f.bytes) (sym file_is) ∙ ap (λ p. drop p t.held.file.file.bytes) t.place_is

        within_by : (l s c : ℕ) → c ≡ min (min l 2) s → s ≡ l - (l - 2) → s ≤ c
        within_by l s c e f = subst (λ x. s ≤ x) (sym e) (le-min (le-min (omega (arith, f)) (omega (arith, f))) (omega arith))

        by : (told_it : Answer) (bytes : List ℕ) → Fits q.disk (call.ReadAt fd place len) told_it wrote → bytes ≡ read_by q.disk (q.disk.opens fd.0) place told_it
            → Result (written.Read fd place len) child (call.ReadAt fd place len) (record { answer = told_it; bytes = bytes })
        by (answer.Count count) bytes fits given =
            let tail : List ℕ = drop (length t.held.file.file.bytes - 2) t.held.file.file.bytes in
            let long = length-drop (length t.held.file.file.bytes - 2) t.held.file.file.bytes in
            let counted : count ≡ min (min (length t.held.file.file.bytes) 2) (length tail) =
            fits.1 ∙ ap (λ l. min l (length (from_place q.disk (q.disk.opens fd.0) place))) t.len_is ∙ ap (λ (x : List ℕ). min (min (length t.held.file.file.bytes) 2) (length x)) from in
            let within : length tail ≤ count = within_by (length t.held.file.file.bytes) (length tail) count counted long in
            let is : bytes ≡ tail = given ∙ ap (λ (x : List ℕ). take count x) from ∙ take_all count tail within in (
              q.role,
              read_leads q (written.Append fd (left_out bytes)) (reads_keep now q a G read (call.ReadAt fd place len) (answer.Count count) wrote tt fits)
                  (record { looks = λ part n far. refl; lives = same_lives }) (begin_tail q a G m.n name report text of.text fd.0 t.held bytes t.some is),
            )
        by (answer.Refused why.Fault) bytes fits given = (
          q.role,
          read_leads q (written.Shut fd) (reads_keep now q a G read (call.ReadAt fd place len) (answer.Refused why.Fault) wrote tt fits)
              (record { looks = λ part n far. refl; lives = same_lives }) (record { number = t.held.file.number; mode = t.held.mode }, t.held.opened),
        )
        by told_it bytes fits given = absurd fits

    -- an append

    append : (child : Option Child) (fd : Fd) (done : ℕ) (told : Told) → HasPart q a m.n fd.0 done name report text → Fits q.disk (call.Append fd (piece text done)) told.answer wrote
        → Result (written.Append fd done) child (call.Append fd (piece text done)) told
    unfolding settled_but
    append child fd done told p fits = by told.answer told.bytes fits
      where
        open_of : (r : Queue) (given : Answer) → BounceGrows now q r a m.n fd.0 p.held (piece text done) given → HasOpen r a fd.0
        open_of r given b = (record { number = p.held.file.number; mode = p.held.mode }, b.opens fd.0 (record { number = p.held.file.number; mode = p.held.mode }) p.held.opened)

        by : (given : Answer) (bytes : List ℕ) → Fits q.disk (call.Append fd (piece text done)) given wrote
            → Result (written.Append fd done) child (call.Append fd (piece text done)) (record { answer = given; bytes = bytes })
        by answer.Done bytes fits =
            let b = bounces_grow now q a read m.n fd (piece text done) answer.Done wrote G p.held fits in
            let r : Queue = called_queue q a read (call.Append fd (piece text done)) answer.Done wrote q.role in
            let more : List ℕ = piece text done in
            let held : HoldsBounce r a m.n fd.0 = record {
              file = record { number = p.held.file.number; file = b.file };
              there = b.there;
              mode = p.held.mode;
              opened = b.opens fd.0 (record { number = p.held.file.number; mode = p.held.mode }) p.held.opened;
            } in
            let rest : more ++ drop (done + 8192) text ≡ drop done text = ap (λ (t : List ℕ). more ++ t) (sym (drop-drop 8192 done text)) ∙ take-append-drop 8192 (drop done text) in
            let whole : b.file.bytes ++ drop (done + 8192) text ≡ with_note p.base name report =
            ap (λ (t : List ℕ). t ++ drop (done + 8192) text) (b.reads refl) ∙ append_assoc p.held.file.file.bytes more (drop (done + 8192) text) ∙ ap (λ (t : List ℕ). p.held.file.file.bytes ++ t) rest ∙ p.rest in
            let part : HasPart r a m.n fd.0 (done + 8192) name report text = record {
              held = held;
              base = p.base;
              names = record { sorted = settled_but r b.others p.names.sorted p.names.sorted.injection p.names.sorted.lives; covers = p.names.covers };
              rest = whole;
            } in (
              q.role,
              wrote_leads r (next_piece fd (done + 8192) text) b.leads (grows_but r b.leads b.others same_lives)
                  (next_part r a b.leads.sound m.n name report text of.text d.book.controls fd (done + 8192) m refl part),
            )
        by (answer.Refused why.Fault) bytes fits =
            let b = bounces_grow now q a read m.n fd (piece text done) (answer.Refused why.Fault) wrote G p.held fits in
            let r : Queue = called_queue q a read (call.Append fd (piece text done)) (answer.Refused why.Fault) wrote q.role in
            (q.role, wrote_leads r (written.Shut fd) b.leads (grows_but r b.leads b.others same_lives) (open_of r (answer.Refused why.Fault) b))
        by (answer.Refused why.Memory) bytes fits =
            let b = bounces_grow now q a read m.n fd (piece text done) (answer.Refused why.Memory) wrote G p.held fits in
            let r : Queue = called_queue q a read (call.Append fd (piece text done)) (answer.Refused why.Memory) wrote q.role in
            (q.role, wrote_leads r (written.Shut fd) b.leads (grows_but r b.leads b.others same_lives) (open_of r (answer.Refused why.Memory) b))
        by given bytes fits = absurd fits

    -- the close

    close : (child : Option Child) (fd : Fd) (told : Told) → HasOpen q a fd.0 → IsDoneIn d.book.controls (about q m.n) m.channel m.place → Fits q.disk (call.Close fd) told.answer wrote
        → Result (written.Close fd) child (call.Close fd) told
    close child fd told held sure fits = by told.answer told.bytes fits
      where
        by : (given : Answer) (bytes : List ℕ) → Fits q.disk (call.Close fd) given wrote → Result (written.Close fd) child (call.Close fd) (record { answer = given; bytes = bytes })
        by answer.Done bytes fits =
            let r : Queue = called_queue q a read (call.Close fd) answer.Done wrote q.role in (
              q.role,
              read_leads r written.Written (reads_keep now q a G read (call.Close fd) answer.Done wrote held.1.held fits)
                  (record { looks = λ part n far. refl; lives = same_lives }) sure,
            )
        by given bytes fits = absurd fits

    shut : (child : Option Child) (fd : Fd) (told : Told) → HasOpen q a fd.0 → Fits q.disk (call.Close fd) told.answer wrote → Result (written.Shut fd) child (call.Close fd) told
    shut child fd told held fits = by told.answer told.bytes fits
      where
        by : (given : Answer) (bytes : List ℕ) → Fits q.disk (call.Close fd) given wrote → Result (written.Shut fd) child (call.Close fd) (record { answer = given; bytes = bytes })
        by answer.Done bytes fits =
            let r : Queue = called_queue q a read (call.Close fd) answer.Done wrote q.role in (
              q.role,
              read_leads r written.Failed (reads_keep now q a G read (call.Close fd) answer.Done wrote held.1.held fits)
                  (record { looks = λ part n far. refl; lives = same_lives }) tt,
            )
        by given bytes fits = absurd fits

    -- The sync: its recipient is that of the record

    pre : IsPreprocessed (about q m.n)
    pre = sorted_of_lane (about q m.n) m.channel (G.fine m.n) lane_of

    -- the mark at work is of a recipient of the message
    record OfRecipient : Type 0 where
      recipient : Recipient pre.taken.injection.args
      spot_is : ◌≡◌ {A = Spot} (record { channel = m.channel; place = m.place }) (spot_in pre.taken.injection recipient)
      address_is : of.first.attempt.address ≡ routed_in pre.taken.injection recipient
      failed : Among (record { channel = m.channel; place = m.place }) pre.taken.injection.ledger.failed

    same_first : of.first ≡ first.first
    same_first = some_same of.first first.first (sym of.there ∙ first.there)

    of_recipient : OfRecipient
    of_recipient =
        let mk : Mark = of.first in
        let i : Injection = pre.taken.injection in
        let l : Lane = lane m.channel d.slots in
        let number : mk.attempt.n ≡ m.n = ap (λ (z : Mark). z.attempt.n) same_first ∙ first.number in
        let place : mk.attempt.place ≡ m.place = ap (λ (z : Mark). z.attempt.place) same_first ∙ first.place in
        let opened : IsOpen (files_of q m.channel) mk.attempt = first_all (λ (z : Mark). IsOpen (files_of q m.channel) z.attempt) l.marks mk h.tied.to_mark of.there in
        let marked = lane_there (about q m.n) i m.channel serves.file serves.there (pre.lanes m.channel) in
        let reads = sym (ap records_at serves.there) ∙ ap (files_of q m.channel) (sym number) ∙ opened.there in
        let are = they_are serves.file.file.bytes opened.records reads in
        let all = records_are i m.channel serves.file.file.bytes opened.records pre.no_nul pre.taken.valid pre.taken.spots marked.present are in
        let it : Record = record { done = false; place = mk.attempt.place; address = mk.attempt.address } in
        let one = all.each it (among_of opened.records it opened.reads) in
        let at_place : m.place ≡ (spot_in i one.0).place = sym place ∙ one.1.place_is in
        let entered : IsEntered (about q mk.attempt.n) m.channel mk = first_all (λ (z : Mark). IsEntered (about q z.attempt.n) m.channel z) l.marks mk h.marks of.there in
        let lives : q.books.living m.n ≡ Some entered.injection = ap q.books.living (sym number) ∙ entered.lives in
        let same : entered.injection ≡ i = some_same entered.injection i (sym lives ∙ pre.taken.lives) in
        let reported : IsReported (Some of.failure) entered.injection.ledger m.channel mk.attempt.place =
        subst (λ (o : Option Failure). IsReported o entered.injection.ledger m.channel mk.attempt.place) of.note_is entered.reported in
        let failed : Among (record { channel = m.channel; place = mk.attempt.place }) i.ledger.failed = subst (λ (z : Injection). Among (record { channel = m.channel; place = mk.attempt.place }) z.ledger.failed) same reported in
        record {
          recipient = one.0;
          spot_is = spot_same (spot_in i one.0) m.channel m.place one.1.on at_place;
          address_is = one.1.address_is;
          failed = subst (λ (p : ℕ). Among (record { channel = m.channel; place = p }) i.ledger.failed) place failed;
        }

    may_note : (fd : Fd) → HasNote q a m.n fd.0 name report → MayNote d.book.controls q a m.n fd.0
    may_note fd n =
        let i : Injection = pre.taken.injection in
        let same : n.names.sorted.injection ≡ i = some_same n.names.sorted.injection i (sym n.names.sorted.lives ∙ pre.taken.lives) in
        record {
          held = n.held;
          injection = i;
          lives = pre.taken.lives;
          recipient = of_recipient.recipient;
          failed = subst (λ (s : Spot). Among s i.ledger.failed) of_recipient.spot_is of_recipient.failed;
          base = n.base;
          report = report;
          covers = subst (λ (z : Injection). Covers z n.base) same n.names.covers;
          reads = n.bytes ∙ ap (λ (t : List ℕ). with_note n.base (stripped d.book.controls.virtual_domains t) report) of_recipient.address_is;
        }

    -- the spot that is entered
    abbrev spot : Named
    spot = named_by d.book.controls m.channel m.place

    sync : (child : Option Child) (fd : Fd) (told : Told) → HasNote q a m.n fd.0 name report → Fits q.disk (call.Sync fd) told.answer wrote → Result (written.Sync fd) child (call.Sync fd) told
    unfolding of_recipient may_note settled_but
    sync child fd told n fits = by told.answer told.bytes fits
      where
        may : MayNote d.book.controls q a m.n fd.0
        may = may_note fd n

        leads_at : (given : Answer) → Fits q.disk (call.Sync fd) given wrote → NoteLeads now q (entering_queue q a read (call.Sync fd) given wrote m.n (Notes spot)) a m.n
        leads_at given fits = subst (λ (s : Spot). NoteLeads now q (entering_queue q a read (call.Sync fd) given wrote m.n (Notes (record { spot = s; by = d.book.controls }))) a m.n) (sym of_recipient.spot_is)
            (notes_sync d.book.controls now q a read m.n fd given wrote G may fits)

        open_of : (r : Queue) → NoteLeads now q r a m.n → HasOpen r a fd.0
        open_of r b = (record { number = n.held.file.number; mode = n.held.mode }, b.opens fd.0 (record { number = n.held.file.number; mode = n.held.mode }) n.held.opened)

        by : (given : Answer) (bytes : List ℕ) → Fits q.disk (call.Sync fd) given wrote → Result (written.Sync fd) child (call.Sync fd) (record { answer = given; bytes = bytes })
        by answer.Done bytes fits =
            let b = leads_at answer.Done fits in
            let r : Queue = entering_queue q a read (call.Sync fd) answer.Done wrote m.n (Notes spot) in
            let lives = entered_living now q a G m.n (Notes spot) pre.taken.injection pre.taken.lives in
            let sure : IsDoneIn d.book.controls (about r m.n) m.channel m.place = record {
              sorted = settled_but r b.others serves.sorted (with_line (Notes spot) pre.taken.injection) lives;
              done = inr (inl refl);
            } in
            (q.role, wrote_leads r (written.Close fd) b.leads (grows_but r b.leads b.others (λ k i e. lines_lives q.books m.n (Notes spot) k i e)) (open_of r b, sure))
        by (answer.Refused why.Fault) bytes fits =
            let b = leads_at (answer.Refused why.Fault) fits in
            let r : Queue = entering_queue q a read (call.Sync fd) (answer.Refused why.Fault) wrote m.n (Notes spot) in
            (q.role, wrote_leads r (written.Shut fd) b.leads (grows_but r b.leads b.others same_lives) (open_of r b))
        by given bytes fits = absurd fits

    -- Each step

    due_call : (row : NoteRow) (child : Option Child) (own c : CallData) (told : Told) → ◌≡◌ {A = NeedData} (needs.File own) (needs.File c)
        → (Fits q.disk own told.answer wrote → IsReadBy q.disk own told → Result row child own told) → Fits q.disk c told.answer wrote → IsReadBy q.disk c told → Result row child c told
    due_call row child own c told due step fits given =
        let same : own ≡ c = file_call own c due in
        subst (λ (z : CallData). Result row child z told) same (step (subst (λ (z : CallData). Fits q.disk z told.answer wrote) (sym same) fits) (subst (λ (z : CallData). IsReadBy q.disk z told) (sym same) given))

    -- the name is that of the mark's message
    named : (make : List ℕ → CallData) (c : CallData) → ◌≡◌ {A = NeedData} (needs.File (make (path (Of Bounce d.note.n)))) (needs.File c) → ◌≡◌ {A = NeedData} (needs.File (make (path (Of Bounce m.n)))) (needs.File c)
    named make c due = subst (λ (k : ℕ). ◌≡◌ {A = NeedData} (needs.File (make (path (Of Bounce k)))) (needs.File c)) of.number due

    pub note_step : (row : NoteRow) (child : Option Child) (c : CallData) (told : Told) → NoteHolds d.book.controls q a row m name report text → note_due_at row d.note ≡ needs.File c
        → Fits q.disk c told.answer wrote → IsReadBy q.disk c told → Result row child c told
    note_step written.Open child c told holds due fits given = absurd holds
    note_step written.Create child c told holds due fits given =
        due_call written.Create child (call.CreateExcl (path (Of Bounce m.n))) c told (named call.CreateExcl c due) (λ f g. create child told f) fits given
    note_step (written.Stat fd) child c told holds due fits given =
        due_call (written.Stat fd) child (call.Stat (path (Of Bounce m.n))) c told (named call.Stat c due) (λ f g. stat child fd told holds f) fits given
    note_step (written.Read fd place len) child c told holds due fits given =
        due_call (written.Read fd place len) child (call.ReadAt fd place len) c told due (λ f g. read_tail child fd place len told holds f g) fits given
    note_step (written.Append fd done) child c told holds due fits given =
        due_call (written.Append fd done) child (call.Append fd (piece text done)) c told due (λ f g. append child fd done told holds f) fits given
    note_step (written.Sync fd) child c told holds due fits given = due_call (written.Sync fd) child (call.Sync fd) c told due (λ f g. sync child fd told holds f) fits given
    note_step (written.Close fd) child c told holds due fits given = due_call (written.Close fd) child (call.Close fd) c told due (λ f g. close child fd told holds.0 holds.1 f) fits given
    note_step (written.Shut fd) child c told holds due fits given = due_call (written.Shut fd) child (call.Close fd) c told due (λ f g. shut child fd told holds f) fits given
    note_step written.Written child c told holds due fits given = absurd holds
    note_step written.Failed child c told holds due fits given = absurd holds

  -- The open of the bounce file, with which a note begins

  module _ (to : IsToNote m d.slots) where
    abbrev begun_note : Writing
    begun_note = note_of (Some to.first) m.n d.book.controls

    of_begun : (row : NoteRow) → NoteIsOf d.book.controls m d.slots (record begun_note { row = row })
    of_begun row = record {
      first = to.first;
      there = to.there;
      failure = to.failure;
      note_is = to.note_is;
      number = refl;
      text = ap (λ (o : Option Failure). parted_note d.book.controls to.first.attempt.address (told_report o)) to.note_is;
    }

    abbrev opening : CallData
    opening = call.Open (path (Of Bounce m.n)) how.Append

    abbrev opened_to : NoteRow → Desk
    opened_to row = record d { note = record begun_note { row = row } }

    open_leads : (r : Queue) (row : NoteRow) → LeadsOn now a None q r → Grows q r
        → NoteNext d.book.controls r a row m (noted_name d.book.controls to.first) (told_report (Some to.failure)) begun_note.text
        → SenderLeads now a q r (noted_at row m (opened_to row))
    unfolding of_begun
    open_leads r row leads g next = record {
      number = None;
      closed = none_closed now q;
      leads = leads;
      stands = note_leads now r a m d (record begun_note { row = row }) first
          (at_row r mark.Noting mark.Noting m.channel d (record begun_note { row = row }) refl refl (at_grown q r mark.Noting m.channel d g h)) (of_begun row) row refl next;
    }

    pub note_opens : (given : Answer) (bytes : List ℕ) → Fits q.disk opening given wrote
        → SenderLeads now a q (called_queue q a read opening given wrote q.role) (noted m (Answered (record { answer = given; bytes = bytes })) (record d { note = begun_note }))
    note_opens (answer.Opened fd) bytes fits =
        let r : Queue = called_queue q a read opening (answer.Opened fd) wrote q.role in
        let w = opened_held q a read (path (Of Bounce m.n)) how.Append fd wrote fits in
        let held : HoldsBounce r a m.n fd.0 =
        record { file = entry q.disk.files w.0; there = find_some q.disk.names q.disk.files (Of Bounce m.n) w.0 w.1; mode = Mode.Opened how.Append; opened = w.2 } in
        open_leads r (written.Stat fd) (reads_keep now q a G read opening (answer.Opened fd) wrote tt fits) (record { looks = λ part n far. refl; lives = same_lives }) held
    note_opens (answer.Refused why.NotThere) bytes fits =
        open_leads (called_queue q a read opening (answer.Refused why.NotThere) wrote q.role) written.Create
        (reads_keep now q a G read opening (answer.Refused why.NotThere) wrote tt fits) (record { looks = λ part n far. refl; lives = same_lives }) tt
    note_opens (answer.Refused why.Fault) bytes fits =
        open_leads (called_queue q a read opening (answer.Refused why.Fault) wrote q.role) written.Failed
        (reads_keep now q a G read opening (answer.Refused why.Fault) wrote tt fits) (record { looks = λ part n far. refl; lives = same_lives }) tt
    note_opens (answer.Refused why.Memory) bytes fits =
        open_leads (called_queue q a read opening (answer.Refused why.Memory) wrote q.role) written.Failed
        (reads_keep now q a G read opening (answer.Refused why.Memory) wrote tt fits) (record { looks = λ part n far. refl; lives = same_lives }) tt
    note_opens given bytes fits = absurd fits
