-- What a step of another actor leaves to a sender.
use Rattle.std.proofs.Common.{◌≡◌, ◌≢◌, ℕ, ◌≤◌, List, Bool, true, false, Option, Some, None, refl, sym, ap, ◌∙◌, subst, arith}
use Rattle.std.specs.Prelude.{Contains, IsSome}
use Rattle.std.proofs.lemmas.List.Elements.{All-weaker}
use Rattle.address_rules.specs.declared.controls.Controls.{Controls}
use Rattle.bounce_record.specs.declared.note_row.NoteRow.{NoteRow}
use Rattle.bounce_record.specs.declared.note_row.NoteRow.TheVariants as written
use Rattle.bounce_record.specs.Writing.{Writing}
use Rattle.call_fs.specs.declared.calls.How.{How}
use Rattle.call_fs.specs.declared.calls.How.TheVariants as how
use Rattle.call_fs.specs.Disk.{Open as OpenFile}
use Rattle.queue_paths.specs.Names.{Part}
use Rattle.queue_paths.specs.Names.Name.{Of}
use Rattle.queue_paths.specs.Names.Part.{Bounce, Info, Local as LocalFile}
use Rattle.send_parts.specs.declared.row.MarkRow.{MarkRow}
use Rattle.send_parts.specs.declared.row.MarkRow.TheVariants as mark
use Rattle.send_parts.specs.declared.row.Marked.{Marked}
use Rattle.send_core.specs.Agrees.{is_same}
use Rattle.send_core.specs.Turn.{told_report}
use Rattle.send_parts.specs.declared.row.Row.{Row}
use Rattle.send_parts.specs.declared.row.Row.TheVariants as at
use Rattle.send_jobs.specs.declared.attempts.Mark.{Mark}
use Rattle.send_known.specs.declared.channel.Channel.{Channel}
use Rattle.send_jobs.specs.declared.jobs.Job.{Job}
use Rattle.send_jobs.specs.declared.slots.Slots.{Slots}
use Rattle.send_jobs.specs.Jobs.{job_of}
use Rattle.send_jobs.specs.Sending.{lane}
use Rattle.send_known.specs.declared.known.Known.{Known}
use Rattle.send_known.specs.declared.messages.Messages.{Messages}
use Rattle.send_core.specs.Desk.{due_on}
use Rattle.send_parts.specs.declared.book.Book.{Book}
use Rattle.send_parts.specs.declared.reading.Reading.{Reading}
use Rattle.send_parts.specs.declared.reading.Reading.TheVariants as reading
use Rattle.send_parts.specs.declared.rows.StartRow.{StartRow}
use Rattle.send_parts.specs.declared.rows.StartRow.TheVariants as start
use Rattle.program_law.specs.Channel.Tied.{in_hand, is_mark_at, waiting}
use Rattle.program_law.proofs.Channel.Counts.{all_where, contained_counts}
use Rattle.program_law.proofs.Channel.Ties.{at_itself, others_kept}
use Rattle.queue_law.specs.Numbers.{Queue, look, About, about}
use Rattle.queue_law.specs.Bouncing.{HoldsBounce}
use Rattle.queue_law.specs.Injectors.{IsHeld}
use Rattle.queue_law.specs.Passes.{HasOpen}
use Rattle.queue_law.specs.Routes.{lane_part}
use Rattle.queue_law.specs.Steps.{Elsewhere}
use Rattle.program_law.specs.Sender.Views.{files_of, first_at, first_if, records_at}
use Rattle.program_law.specs.Sender.Knows.{IsDoneIn, IsSettledIn, IsEntered, IsKnown, IsThereIf, Knows, Serves}
use Rattle.program_law.specs.Sender.Knows.Knows.{Stays, Leaves}
use Rattle.program_law.specs.Sender.Rows.{HasFile, HasText, IsFirstMark, IsLearned, MarkHolds, NamesNoted, NoteHolds, Reads, ReadsOther, RowStands, StartStands, Works, noted_name}
use Rattle.program_law.specs.Sender.Stands.{KnowsAll, LaneStands, SparesSorted}
use Rattle.program_law.specs.Sender.Laws.{IsAmongSorted}
use Rattle.program_law.proofs.Sender.Heads.{first_in}

-- there is a job, if there is one of some kind
pub the_job : (o : Option Job) → IsSome o → (job : Job) × (o ≡ Some job)
the_job None h = absurd (cc)
the_job (Some job) h = (job, refl)

-- the message of a mark that is to be made has a job
pub mark_has_job : (q : Queue) (row : Row) (ch : Channel) (s : Slots) → LaneStands q row ch s → (m : Mark) → Contains (waiting (first_at row ch) (lane ch s).marks) m
    → Serves (about q m.attempt.n) ch
mark_has_job q row ch s l m w =
    let n : ℕ = m.attempt.n in
    let place : ℕ = m.attempt.place in
    let one = contained_counts (is_mark_at n place) (waiting (first_at row ch) (lane ch s).marks) m w (at_itself m.attempt) in
    let held : 1 ≤ in_hand (first_at row ch) n place (lane ch s) = omega (arith, one) in
    let job = the_job (job_of n (lane ch s).jobs) (l.tied.owned n place held) in
    l.jobs n job.0 job.1

-- and so has that of the mark at work, which is preprocessed, while its note is written
unmarked : (same : Bool) (marks : List Mark) → waiting (first_if same mark.Noting) marks ≡ marks
unmarked true marks = refl
unmarked false marks = refl

noting_serves : (q : Queue) (m : Marked) (s : Slots) → LaneStands q (at.Mark mark.Noting m) m.channel s → IsFirstMark m s → IsSettledIn (about q m.n)
noting_serves q m s l f =
    let marks = (lane m.channel s).marks in
    let there : Contains (waiting (first_at (at.Mark mark.Noting m) m.channel) marks) f.first
    = subst (λ (all : List Mark). Contains all f.first) (sym (unmarked (is_same m.channel m.channel) marks)) (first_in marks f.first f.there) in
    subst (λ n. IsSettledIn (about q n)) f.number (mark_has_job q (at.Mark mark.Noting m) m.channel s l f.first there).sorted

module _ (q r : Queue) (spares : SparesSorted q r) where
  pub same_about : (n : ℕ) → IsSettledIn (about q n) → about r n ≡ about q n
  same_about n h = spares.sorted n h.no_todo h.info h.info_there

  settled_kept : (n : ℕ) → IsSettledIn (about q n) → IsSettledIn (about r n)
  settled_kept n h = subst IsSettledIn (sym (same_about n h)) h

  serves_kept : (n : ℕ) (ch : Channel) → Serves (about q n) ch → Serves (about r n) ch
  serves_kept n ch h = subst (λ (w : About). Serves w ch) (sym (same_about n h.sorted)) h

  known_kept : (row : Row) (k : Known) → Knows row (about q k.n) k → Knows row (about r k.n) k
  known_kept row k (Stays h) = Stays (subst (λ (w : About). IsKnown w k) (sym (same_about k.n h.sorted)) h)
  known_kept row k (Leaves h) = Leaves h

  -- the files of a preprocessed number
  same_look : (part : Part) (n : ℕ) → IsSettledIn (about q n) → look r (Of part n) ≡ look q (Of part n)
  same_look part n s = ap (λ (w : About). w.parts part) (same_about n s)

  abbrev file_kept : (a : List ℕ) (part : Part) (n : ℕ) (h : How) (fd : ℕ) → IsSettledIn (about q n)
      → ((o : OpenFile) → IsHeld q.disk.opens q.holder a fd o → IsHeld r.disk.opens r.holder a fd o)
      → HasFile q a part n h fd → HasFile r a part n h fd
  file_kept a part n h fd s opens f = record { file = f.file; there = same_look part n s ∙ f.there; opened = opens _ f.opened }

  text_kept : (part : Part) (n : ℕ) (read : List ℕ) → IsSettledIn (about q n) → HasText q part n read → HasText r part n read
  text_kept part n read s t = record { file = t.file; there = same_look part n s ∙ t.there; text = t.text }

  learned_kept : (n : ℕ) (read : List ℕ) → IsLearned q n read → IsLearned r n read
  learned_kept n read l = record { sorted = settled_kept n l.sorted; text = text_kept Info n read l.sorted l.text }

  module _ (a : List ℕ) (opens : (fd : ℕ) (o : OpenFile) → IsHeld q.disk.opens q.holder a fd o → IsHeld r.disk.opens r.holder a fd o) where
    open_kept : (fd : ℕ) → HasOpen q a fd → HasOpen r a fd
    open_kept fd h = (h.0, opens fd h.0 h.1)

    reads_kept : (part : Part) (n : ℕ) (g : Reading) (read : List ℕ) → IsSettledIn (about q n) → Reads q a part n g read → Reads r a part n g read
    reads_kept part n reading.Opening read s h = tt
    reads_kept part n (reading.Going fd) read s h = record { held = file_kept a part n how.Read fd.0 s (opens fd.0) h.held; begins = h.begins }
    reads_kept part n (reading.Closing fd) read s h = (open_kept fd.0 h.0, text_kept part n read s h.1)
    reads_kept part n (reading.Shutting fd) read s h = open_kept fd.0 h

    other_kept : (g : Reading) → ReadsOther q a g → ReadsOther r a g
    other_kept reading.Opening h = tt
    other_kept (reading.Going fd) h = open_kept fd.0 h
    other_kept (reading.Closing fd) h = open_kept fd.0 h
    other_kept (reading.Shutting fd) h = open_kept fd.0 h

    start_kept : (row : StartRow) (read : List ℕ) → StartStands q a row read → StartStands r a row read
    start_kept (start.Control file g) read h = other_kept g h
    start_kept start.GreetLocal read h = tt
    start_kept (start.GreetRemote limit) read h = tt
    start_kept (start.Scan split) read h = tt
    start_kept (start.StatTodo split n) read h = spares.taken_up n h
    start_kept (start.ReadInfo split n g) read h = (settled_kept n h.0, reads_kept Info n g read h.0 h.1)
    start_kept (start.StatInfo split n) read h = learned_kept n read h
    start_kept (start.StatLocal split n birth) read h = learned_kept n read h
    start_kept (start.StatRemote split n birth local) read h = (learned_kept n read h.0, subst (IsThereIf local) (sym (same_look LocalFile n h.0.sorted)) h.1)
    start_kept start.Over read h = tt
    start_kept (start.Ended status) read h = tt

    bounce_kept : (n fd : ℕ) → IsSettledIn (about q n) → HoldsBounce q a n fd → HoldsBounce r a n fd
    bounce_kept n fd s h = record { file = h.file; there = same_look Bounce n s ∙ h.there; mode = h.mode; opened = opens fd (record { number = h.file.number; mode = h.mode }) h.opened }

    done_kept : (by : Controls) (n : ℕ) (ch : Channel) (place : ℕ) → IsDoneIn by (about q n) ch place → IsDoneIn by (about r n) ch place
    done_kept by n ch place h = subst (λ (w : About). IsDoneIn by w ch place) (sym (same_about n h.sorted)) h

    names_kept : (n : ℕ) (bytes : List ℕ) → NamesNoted (about q n) bytes → NamesNoted (about r n) bytes
    names_kept n bytes h = subst (λ (w : About). NamesNoted w bytes) (sym (same_about n h.sorted)) h

    note_kept : (controls : Controls) (row : NoteRow) (m : Marked) (name report text : List ℕ) → IsSettledIn (about q m.n) → NoteHolds controls q a row m name report text
        → NoteHolds controls r a row m name report text
    unfolding bounce_kept
    note_kept controls written.Open m name report text s h = absurd h
    note_kept controls written.Create m name report text s h = tt
    note_kept controls (written.Stat fd) m name report text s h = bounce_kept m.n fd.0 s h
    note_kept controls (written.Read fd place len) m name report text s h = record { held = bounce_kept m.n fd.0 s h.held; some = h.some; place_is = h.place_is; len_is = h.len_is }
    note_kept controls (written.Append fd done) m name report text s h =
        record { held = bounce_kept m.n fd.0 s h.held; base = h.base; names = names_kept m.n h.base h.names; rest = h.rest }
    note_kept controls (written.Sync fd) m name report text s h =
        record { held = bounce_kept m.n fd.0 s h.held; base = h.base; names = names_kept m.n h.base h.names; bytes = h.bytes }
    note_kept controls (written.Close fd) m name report text s h = (open_kept fd.0 h.0, done_kept controls m.n m.channel m.place h.1)
    note_kept controls (written.Shut fd) m name report text s h = open_kept fd.0 h
    note_kept controls written.Written m name report text s h = absurd h
    note_kept controls written.Failed m name report text s h = absurd h

    mark_kept : (controls : Controls) (row : MarkRow) (m : Marked) (s : Slots) (w : Writing) → (row ≡ mark.Noting → IsSettledIn (about q m.n)) → MarkHolds controls q a row m s w
        → MarkHolds controls r a row m s w
    mark_kept controls mark.Note m s w sorted h = h
    mark_kept controls mark.Noting m s w sorted h =
        record { of = h.of; holds = note_kept controls w.row m (noted_name controls h.of.first) (told_report (Some h.of.failure)) w.text (sorted refl) h.holds }
    mark_kept controls mark.Open m s w sorted h = done_kept controls m.n m.channel m.place h
    mark_kept controls (mark.Write fd) m s w sorted h = (file_kept a (lane_part m.channel) m.n how.Write fd.0 h.1.sorted (opens fd.0) h.0, done_kept controls m.n m.channel m.place h.1)
    mark_kept controls (mark.Close fd written) m s w sorted h = open_kept fd.0 h

    row_kept : (now : ℕ) (row : Row) (b : Book) (s : Slots) (p : Works) → IsAmongSorted row → ((ch : Channel) → LaneStands q row ch s)
        → RowStands now q a row b s p → RowStands now r a row b s p
    row_kept now (at.Start row) b s p among lanes h = (h.0, (h.1.0, start_kept row b.read h.1.1))
    row_kept now (at.Turn point) b s p among lanes h = h
    row_kept now (at.TakeLink ch) b s p among lanes h = tt
    row_kept now (at.Mark row m) b s p among lanes h = (h.0, mark_kept b.controls row m s p.note (λ noting. noting_serves q m s (subst (λ (z : MarkRow). LaneStands q (at.Mark z m) m.channel s) noting (lanes m.channel)) h.0) h.1)
    row_kept now (at.UnlinkFile ch n point) b s p among lanes h = h
    row_kept now (at.ReadFile ch n begun g) b s p among lanes h =
        (h.0, (h.1.0, (serves_kept n ch h.1.1.0, reads_kept (lane_part ch) n g b.read h.1.1.0.sorted h.1.1.1)))
    row_kept now (at.Request ch) b s p among lanes h = h
    row_kept now (at.FindTodo search) b s p among lanes h = h
    row_kept now at.InTodo b s p among lanes h = absurd among
    row_kept now (at.Finish row n) b s p among lanes h = absurd among
    row_kept now (at.Sweep row) b s p among lanes h = absurd among
    row_kept now (at.Ended status) b s p among lanes h = tt

pub knows_kept : (q r : Queue) (row : Row) (m : Messages) → SparesSorted q r → KnowsAll q row m → KnowsAll r row m
knows_kept q r row m spares h = record {
  known = All-weaker (λ (k : Known). Knows row (about q k.n) k) (λ (k : Known). Knows row (about r k.n) k) (known_kept q r spares row) m.known h.known;
  due = λ ch. All-weaker (λ (e : ℕ × ℕ). Serves (about q e.1) ch) (λ (e : ℕ × ℕ). Serves (about r e.1) ch) (λ e. serves_kept q r spares e.1 ch) (due_on ch m) (h.due ch);
}

pub lanes_kept : (q r : Queue) (row : Row) (ch : Channel) (s : Slots) → SparesSorted q r → LaneStands q row ch s → LaneStands r row ch s
lanes_kept q r row ch s spares h = record {
  tied = others_kept (files_of q ch) (files_of r ch) (first_at row ch) (lane ch s) h.tied (λ n some. let job = the_job (job_of n (lane ch s).jobs) some in ap records_at (same_look q r spares (lane_part ch) n (h.jobs n job.0 job.1).sorted));
  jobs = λ n job e. serves_kept q r spares n ch (h.jobs n job e);
  marks = all_where (λ (m : Mark). IsEntered (about q m.attempt.n) ch m) (λ (m : Mark). IsEntered (about r m.attempt.n) ch m)
      (waiting (first_at row ch) (lane ch s).marks)
      (λ m w e. subst (λ (z : About). IsEntered z ch m) (sym (same_about q r spares m.attempt.n (mark_has_job q row ch s h m w).sorted)) e)
      h.marks;
}

pub rests_kept : (now : ℕ) (a o : List ℕ) (m : Option ℕ) (q r : Queue) → Elsewhere now o m q r → a ≢ o → SparesSorted q r
    → (row : Row) (b : Book) (s : Slots) (p : Works) → IsAmongSorted row → ((ch : Channel) → LaneStands q row ch s) → RowStands now q a row b s p
    → RowStands now r a row b s p
rests_kept now a o m q r E far spares row b s p among lanes h =
    row_kept q r spares a (λ fd how held. E.opens a fd how far held) now row b s p among lanes h
