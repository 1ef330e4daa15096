-- The write of a mark: the record reads `D` then, or it may, and all else is as it was.
use Rattle.std.proofs.Common.{◌≡◌, ◌≢◌, ◌⊎◌, inl, inr, ℕ, zero, suc, ◌+◌, ◌-◌, ◌≤◌, ◌<◌, List, [], ◌∷◌, length, take, Bool, true, false, Option, Some, None, refl, sym, ap, ◌∙◌, subst, ⊎_elim, arith, length-append}
use Rattle.std.specs.Prelude.{All, Contains, slice_get, flat_map}
use Rattle.std.specs.Option.{option_map}
use Rattle.std.proofs.lemmas.Bool.Decides.{eqb_tells}
use Rattle.std.proofs.lemmas.List.Elements.{All-drop, All-weaker}
use Rattle.call_fs.specs.declared.calls.Answer.{Answer}
use Rattle.call_fs.specs.declared.calls.Answer.TheVariants as answer
use Rattle.call_fs.specs.declared.calls.CallData.{CallData}
use Rattle.call_fs.specs.declared.calls.CallData.TheVariants as call
use Rattle.call_fs.specs.declared.calls.Fd.{Fd}
use Rattle.call_fs.specs.declared.calls.FsError.TheVariants as why
use Rattle.call_fs.specs.declared.calls.How.TheVariants as how
use Rattle.call_fs.specs.declared.calls.Told.{Told}
use Rattle.call_fs.specs.declared.past.GotData.TheVariants.{Answered}
use Rattle.call_fs.specs.declared.past.NeedData.TheVariants as needs
use Rattle.call_fs.specs.declared.modes.Mode.{Mode}
use Rattle.call_fs.specs.Apply.{Fits, IsReadBy, changed, overwritten, put_over}
use Rattle.call_fs.specs.Disk.{Disk, File, Open as OpenFile}
use Rattle.call_fs.specs.Maps.{put}
use Rattle.call_fs.proofs.Maps.{put_cases}
use Rattle.envelope_records.specs.declared.channel.Record.{Record}
use Rattle.envelope_records.specs.Records.{AreRecords, text_of}
use Rattle.queue_paths.specs.Names.{Name, Part, name_of, path}
use Rattle.queue_paths.specs.Names.Name.{Of}
use Rattle.queue_paths.specs.Names.Part.{Bounce, Info}
use Rattle.queue_paths.proofs.Parts.{todo_same}
use Rattle.send_core.specs.declared.desk.Desk.{Desk}
use Rattle.send_parts.specs.declared.row.MarkRow.{MarkRow}
use Rattle.send_parts.specs.declared.row.MarkRow.TheVariants as mark
use Rattle.send_parts.specs.declared.row.Marked.{Marked}
use Rattle.send_parts.specs.declared.row.Row.TheVariants as at
use Rattle.send_core.specs.Desk.{due_on, goes}
use Rattle.send_core.specs.Table.{act, due_at, file_of}
use Rattle.send_core.specs.Booked.{booked_at}
use Rattle.send_core.specs.Turn.{act_mark, note_of, noted as turned}
use Rattle.send_jobs.specs.declared.attempts.Attempt.{Attempt}
use Rattle.send_jobs.specs.declared.attempts.Mark.{Mark}
use Rattle.send_known.specs.declared.channel.Channel.{Channel}
use Rattle.send_known.specs.declared.channel.Channel.TheVariants.{Local, Remote}
use Rattle.send_jobs.specs.declared.lane.Lane.{Lane}
use Rattle.send_jobs.specs.Jobs.{job_of}
use Rattle.send_jobs.specs.Sending.{lane}
use Rattle.send_known.specs.declared.known.Known.{Known}
use Rattle.send_links.specs.Records.{records_of}
use Rattle.send_links.proofs.WholeRecords.{are_read}
use Rattle.program_law.specs.Channel.Files.{IsOpen, marked, with_mark}
use Rattle.program_law.specs.Channel.Tied.{First, IsTied, in_hand, is_mark_at}
use Rattle.program_law.specs.Channel.Tied.First.{Unwritten, Unsure, Written}
use Rattle.program_law.proofs.Channel.Counts.{contained_counts, head_or_tail, not_in_none}
use Rattle.program_law.proofs.Channel.Marks.{failed_kept, written_kept}
use Rattle.program_law.proofs.Channel.Texts.{At, at_of, mark_is, one_width, width}
use Rattle.program_law.proofs.Channel.Ties.{at_itself, others_kept, unsure_kept}
use Rattle.queue_law.specs.Books.{Books}
use Rattle.queue_law.specs.Entered.{Child, named_by}
use Rattle.queue_law.specs.Numbers.{Queue, Entry, Role, find, look, about, Sound}
use Rattle.queue_law.specs.Passes.{HasOpen}
use Rattle.queue_law.specs.Rests.{IsClosed}
use Rattle.queue_law.specs.Routes.{lane_part, sender_of}
use Rattle.queue_law.specs.Senders.{entered_queue, LeadsOn, MayMark, called_queue, marked_queue}
use Rattle.queue_law.proofs.Changes.{marks_change_one}
use Rattle.queue_law.specs.Ledgers.Line.{Marks}
use Rattle.queue_law.specs.Ledgers.{Named}
use Rattle.queue_law.proofs.Looks.{find_near, find_same, found}
use Rattle.queue_law.proofs.Sends.{marks_keep}
use Rattle.program_law.specs.Sender.Views.{files_of, records_at}
use Rattle.program_law.specs.Sender.Knows.{IsDoneIn, IsEntered, IsKnown, IsSettledIn, Serves}
use Rattle.program_law.specs.Sender.Rows.{HasFile, IsFirstMark}
use Rattle.program_law.specs.Sender.Stands.{SenderLeads, SenderStands, StandsAt}
use Rattle.program_law.specs.Sender.Takings.{booked_queue}
use Rattle.program_law.proofs.Sender.Closes.{lane_closed, one_closed}
use Rattle.program_law.proofs.Sender.Entries.{Grows, lines_lives, one_grown}
use Rattle.program_law.proofs.Sender.Gone.{file_call, info_apart, lane_name, other_number, not_lane}
use Rattle.program_law.proofs.Sender.Heads.{first_all, first_in}
use Rattle.program_law.proofs.Sender.Lanes.{AllServe, OnLane}
use Rattle.program_law.proofs.Sender.Marking.{AtMark, at_grown, at_mark, at_stands, close_answer, open_answer, which}
use Rattle.program_law.proofs.Sender.Noting.{note_opens, note_step}
use Rattle.program_law.proofs.Sender.Others.{the_job}
use Rattle.program_law.proofs.Sender.Texts.{they_are}

abbrev pub dee : List ℕ
dee = 68 ∷ []

-- The bytes of a mark

placed_in : (k : ℕ) (rs : List Record) (r : Record) → At k rs → Contains rs r → r.place < k + length (flat_map text_of rs)
placed_in k [] r h w = absurd (not_in_none r w)
placed_in k (x ∷ rs) r h w =
    let sum = length-append (text_of x) (flat_map text_of rs) in
    let one = one_width x in
    ⊎_elim
    (λ same. let here = h.0 in let place = ap (λ (y : Record). y.place) same in omega (arith, here, place, sum, one))
    (λ more. let up = placed_in (k + width x) rs r h.1 more in omega (arith, up, sum, one))
    (head_or_tail x r rs w)

pub in_text : (bytes : List ℕ) (rs : List Record) (r : Record) → AreRecords bytes rs → Contains rs r → r.place < length bytes
in_text bytes rs r are w =
    let there : At 0 rs = at_of 0 rs (λ before after it e. let p = are.places before after it e in omega (arith, p)) in
    let lt = placed_in 0 rs r there w in
    let len = ap length are.text in
    omega (arith, lt, len)

take_none : (k : ℕ) → take {A = ℕ} k [] ≡ []
take_none zero = refl
take_none (suc k) = refl

pub take_dee : (k : ℕ) → 0 < k → take k dee ≡ dee
take_dee zero lt = absurd (omega arith)
take_dee (suc k) lt = ap (λ t. 68 ∷ t) (take_none k)

dee_bytes : (read place : ℕ) (f : File) (bytes : List ℕ) → f.bytes ≡ bytes → place < length bytes → (overwritten read place dee f).bytes ≡ put_over place dee bytes
dee_bytes read place f bytes e lt =
    let len = ap length e in
    ap (λ t. put_over place t f.bytes) (take_dee (length f.bytes - place) (omega (arith, len, lt))) ∙ ap (put_over place dee) e

-- Names of channel files

lanes_apart : (ch c : Channel) (k n : ℕ) → ch ≢ c → Of (lane_part ch) k ≢ Of (lane_part c) n
lanes_apart Local Local k n far e = far refl
lanes_apart Local Remote k n far e = absurd (cc)
lanes_apart Remote Local k n far e = absurd (cc)
lanes_apart Remote Remote k n far e = far refl

name_case : (ch c : Channel) (k n : ℕ) → (Of (lane_part ch) k ≡ Of (lane_part c) n) ⊎ (Of (lane_part ch) k ≢ Of (lane_part c) n)
name_case ch c k n = ⊎_elim
    (λ same. ⊎_elim
    (λ t. inl (ap (λ x. Of (lane_part x) k) same ∙ ap (Of (lane_part c)) t.1))
    (λ f. inr (other_number c n k (lane_part ch) f.1))
    (eqb_tells k n))
    (λ far. inr (lanes_apart ch c k n far))
    (which c ch)

-- After a record of one file was marked

module _ (q r : Queue) (c : Channel) (n place : ℕ) (books : r.books ≡ q.books) (old new : Entry) (there : look q (Of (lane_part c) n) ≡ Some old)
    (there_then : look r (Of (lane_part c) n) ≡ Some new) (bytes : new.file.bytes ≡ put_over place dee old.file.bytes)
    (others : (part : Part) (k : ℕ) → Of part k ≢ Of (lane_part c) n → look r (Of part k) ≡ look q (Of part k)) where
  settled_after : (k : ℕ) (h : IsSettledIn (about q k)) → (s : IsSettledIn (about r k)) × (s.injection.args ≡ h.injection.args)
  settled_after k h = (
    record {
      no_todo = todo_same (about q k).parts (about r k).parts (λ part is. others part k (not_lane c part n k is)) ∙ h.no_todo;
      info = h.info;
      info_there = others Info k (info_apart c n k) ∙ h.info_there;
      injection = h.injection;
      lives = ap (λ (b : Books). b.living k) books ∙ h.lives;
    },
    refl,
  )

  none_after : (ch : Channel) (k : ℕ) → look q (Of (lane_part ch) k) ≡ None → look r (Of (lane_part ch) k) ≡ None
  none_after ch k e = ⊎_elim
      (λ same. let no : ◌≡◌ {A = Option Entry} None (Some old) = sym e ∙ ap (look q) same ∙ there in absurd (cc))
      (λ far. others (lane_part ch) k far ∙ e)
      (name_case ch c k n)

  known_after : (k : Known) → IsKnown (about q k.n) k → IsKnown (about r k.n) k
  known_after k h =
      let s = settled_after k.n h.sorted in
      record { sorted = s.0; sender_is = h.sender_is ∙ ap sender_of (sym s.1); gone = λ ch e. none_after ch k.n (h.gone ch e) }

  serves_after : (k : ℕ) (ch : Channel) → Serves (about q k) ch → Serves (about r k) ch
  serves_after k ch h = ⊎_elim
      (λ same. record { sorted = (settled_after k h.sorted).0; file = new; there = ap (look r) same ∙ there_then })
      (λ far. record { sorted = (settled_after k h.sorted).0; file = h.file; there = others (lane_part ch) k far ∙ h.there })
      (name_case ch c k n)

  entered_after : (k : ℕ) (ch : Channel) (m : Mark) → IsEntered (about q k) ch m → IsEntered (about r k) ch m
  entered_after k ch m h = record { injection = h.injection; lives = ap (λ (b : Books). b.living k) books ∙ h.lives; reported = h.reported }

  marks_after : (ch : Channel) (ms : List Mark) → All (λ (m : Mark). IsEntered (about q m.attempt.n) ch m) ms
      → All (λ (m : Mark). IsEntered (about r m.attempt.n) ch m) ms
  marks_after ch ms h = All-weaker (λ (m : Mark). IsEntered (about q m.attempt.n) ch m) (λ (m : Mark). IsEntered (about r m.attempt.n) ch m)
      (λ m. entered_after m.attempt.n ch m) ms h

  other_lane : (ch : Channel) → ch ≢ c → (l : Lane) → OnLane q ch l → OnLane r ch l
  other_lane ch far l h = record {
    tied = others_kept (files_of q ch) (files_of r ch) Unwritten l h.tied (λ k _. ap records_at (others (lane_part ch) k (lanes_apart ch c k n far)));
    jobs = λ k job e. serves_after k ch (h.jobs k job e);
    marks = marks_after ch l.marks h.marks;
  }

  -- the file has its records with that one marked
  file_after : (a : Attempt) → a.n ≡ n → a.place ≡ place → IsOpen (files_of q c) a → (k : ℕ) → files_of r c k ≡ with_mark a (files_of q c) k
  file_after a number at_place o k =
      let read_as : records_of old.file.bytes ≡ Some o.records = sym (ap records_at there) ∙ ap (files_of q c) (sym number) ∙ o.there in
      let are = they_are old.file.bytes o.records read_as in
      let rec : Record = record { done = false; place = a.place; address = a.address } in
      let then_are = mark_is old.file.bytes o.records rec are o.reads in
      let same_bytes : new.file.bytes ≡ put_over a.place dee old.file.bytes = bytes ∙ ap (λ p. put_over p dee old.file.bytes) (sym at_place) in
      let reads : files_of r c n ≡ Some (marked a.place o.records) =
      ap records_at there_then ∙ ap records_of same_bytes ∙ are_read (put_over a.place dee old.file.bytes) (marked a.place o.records) then_are in
      let v : Option (List Record) = option_map (marked a.place) (files_of q c a.n) in
      let is : v ≡ Some (marked a.place o.records) = ap (option_map (marked a.place)) o.there in
      ⊎_elim
      (λ w. ap (files_of r c) (w.0 ∙ number) ∙ reads ∙ sym is ∙ sym w.1)
      (λ w. ap records_at (others (lane_part c) k (other_number c n k (lane_part c) (λ e. w.0 (e ∙ sym number)))) ∙ sym w.1)
      (put_cases (files_of q c) a.n v k)

  module _ (fd : Fd) (d : Desk) (first : Mark) (is_first : slice_get (lane c d.slots).marks 0 ≡ Some first) (number : first.attempt.n ≡ n)
      (at_place : first.attempt.place ≡ place) (h : AtMark q (mark.Write fd) c d) where
    opened : IsOpen (files_of q c) first.attempt
    opened = first_all (λ m. IsOpen (files_of q c) m.attempt) (lane c d.slots).marks first h.tied.to_mark is_first

    tied_after : (f : First) → IsTied (with_mark first.attempt (files_of q c)) f (lane c d.slots) → IsTied (files_of r c) f (lane c d.slots)
    tied_after f t = others_kept (with_mark first.attempt (files_of q c)) (files_of r c) f (lane c d.slots) t (λ k _. file_after first.attempt number at_place opened k)

    known_all_after : All (λ (k : Known). IsKnown (about r k.n) k) d.book.messages.known
    known_all_after = All-weaker (λ (k : Known). IsKnown (about q k.n) k) (λ (k : Known). IsKnown (about r k.n) k) known_after d.book.messages.known h.known

    due_after : AllServe r d.book.messages
    due_after ch = All-weaker (λ (e : ℕ × ℕ). Serves (about q e.1) ch) (λ (e : ℕ × ℕ). Serves (about r e.1) ch) (λ e. serves_after e.1 ch) (due_on ch d.book.messages) (h.due ch)

    written_at : (written : Bool) → AtMark r (mark.Close fd written) c d
    written_at true = record {
      known = known_all_after;
      due = due_after;
      apart = h.apart;
      no_nul = h.no_nul;
      others = λ ch far. other_lane ch far (lane ch d.slots) (h.others ch far);
      tied = tied_after Written (written_kept (files_of q c) first (lane c d.slots) h.tied is_first);
      jobs = λ k job e. serves_after k c (h.jobs k job e);
      marks = marks_after c _ (All-drop (λ (m : Mark). IsEntered (about q m.attempt.n) c m) 1 (lane c d.slots).marks h.marks);
    }
    written_at false = record {
      known = known_all_after;
      due = due_after;
      apart = h.apart;
      no_nul = h.no_nul;
      others = λ ch far. other_lane ch far (lane ch d.slots) (h.others ch far);
      tied = tied_after Unsure (failed_kept (files_of q c) first (lane c d.slots) h.tied is_first);
      jobs = λ k job e. serves_after k c (h.jobs k job e);
      marks = marks_after c (lane c d.slots).marks h.marks;
    }

-- a write that wrote nothing
unsure_at : (q : Queue) (fd : Fd) (c : Channel) (d : Desk) → AtMark q (mark.Write fd) c d → AtMark q (mark.Close fd false) c d
unsure_at q fd c d h = record {
  known = h.known;
  due = h.due;
  apart = h.apart;
  no_nul = h.no_nul;
  others = h.others;
  tied = unsure_kept (files_of q c) (lane c d.slots) h.tied;
  jobs = h.jobs;
  marks = h.marks;
}

opens_same : (e : Disk) (o : Option OpenFile) (g : File → File) → (changed e o g).opens ≡ e.opens
opens_same e None g = refl
opens_same e (Some o) g = refl

put_self : (files : ℕ → File) (j i : ℕ) → put files j (files j) i ≡ files i
put_self files j i = ⊎_elim (λ w. w.1 ∙ ap files (sym w.0)) (λ w. w.1) (put_cases files j (files j) i)

looks_same : (e : Disk) (o : Option OpenFile) (x : Name) → find (changed e o (λ f. f)).names (changed e o (λ f. f)).files x ≡ find e.names e.files x
looks_same e None x = refl
looks_same e (Some o) x = find_same e.names e.names e.files (put e.files o.number (e.files o.number)) x refl (λ i w. put_self e.files o.number i)

module _ (now : ℕ) (q : Queue) (a : List ℕ) (G : Sound q) (m : Marked) (d : Desk) (first : IsFirstMark m d.slots) (read : ℕ) (fd : Fd)
    (h : AtMark q (mark.Write fd) m.channel d) (file : HasFile q a (lane_part m.channel) m.n how.Write fd.0) (sure : IsDoneIn d.book.controls (about q m.n) m.channel m.place) where
  abbrev writing : CallData
  writing = call.WriteAt fd m.place dee

  -- the mark that is entered
  abbrev it : Named
  it = named_by d.book.controls m.channel m.place

  abbrev after : ℕ → Answer → Queue
  after wrote told = marked_queue q a read m.n fd it told wrote

  abbrev x : Name
  x = Of (lane_part m.channel) m.n

  serves : Serves (about q m.n) m.channel
  serves =
      let mk = first.first in
      let l : Lane = lane m.channel d.slots in
      let k : ℕ = mk.attempt.n in
      let p : ℕ = mk.attempt.place in
      let one = contained_counts (is_mark_at k p) l.marks mk (first_in l.marks mk first.there) (at_itself mk.attempt) in
      let held : 1 ≤ in_hand Unwritten k p l = omega (arith, one) in
      let job = the_job (job_of k l.jobs) (h.tied.owned k p held) in
      subst (λ z. Serves (about q z) m.channel) first.number (h.jobs k job.0 job.1)

  may : MayMark q a m.n fd.0 it
  may = record {
    lane = record { no_todo = serves.sorted.no_todo; file = file.file; there = file.there; injection = sure.sorted.injection; lives = sure.sorted.lives };
    opened = file.opened;
    may = sure.done;
  }

  leads : (told : Answer) (wrote : ℕ) → Fits q.disk writing told wrote → LeadsOn now a (Some m.n) q (after wrote told)
  leads told wrote fits = marks_keep now q a read m.n fd it told wrote G may fits

  closed : (n : ℕ) → ◌≡◌ {A = Option ℕ} (Some m.n) (Some n) → IsClosed now q n
  closed = one_closed now q m.n (lane_closed now q m.n m.channel G may.lane)

  open_then : (told : Answer) (wrote : ℕ) → (after wrote told).disk.opens ≡ q.disk.opens → (after wrote told).holder ≡ q.holder → HasOpen (after wrote told) a fd.0
  open_then told wrote e f = (
    record { number = file.file.number; mode = Mode.Opened how.Write },
    record { opened = ap (λ o. o fd.0) e ∙ file.opened.opened; held = ap (λ o. o fd.0) f ∙ file.opened.held },
  )

  the_file : file.file.file ≡ q.disk.files file.file.number
  the_file = ap (λ (y : Entry). y.file) (found q.disk.names q.disk.files x file.file file.there).1

  place_in : m.place < length file.file.file.bytes
  place_in =
      let mk = first.first in
      let o = first_all (λ z. IsOpen (files_of q m.channel) z.attempt) (lane m.channel d.slots).marks mk h.tied.to_mark first.there in
      let read_as : records_of file.file.file.bytes ≡ Some o.records = sym (ap records_at file.there) ∙ ap (files_of q m.channel) (sym first.number) ∙ o.there in
      let are = they_are file.file.file.bytes o.records read_as in
      let lt = in_text file.file.file.bytes o.records (record { done = false; place = mk.attempt.place; address = mk.attempt.address }) are o.reads in
      let p = first.place in
      omega (arith, lt, p)

  abbrev g : File → File
  g = overwritten read m.place dee

  there_then : look (after 0 answer.Done) x ≡ Some (record { number = file.file.number; file = g (q.disk.files file.file.number) })
  there_then =
      subst (λ (o : Option OpenFile). find (changed q.disk o g).names (changed q.disk o g).files x ≡ Some (record { number = file.file.number; file = g (q.disk.files file.file.number) }))
      (sym file.opened.opened) (find_near q.disk.names q.disk.files x file.file (g (q.disk.files file.file.number)) file.there)

  others_then : Fits q.disk writing answer.Done 0 → (part : Part) (k : ℕ) → Of part k ≢ x → look (after 0 answer.Done) (Of part k) ≡ look q (Of part k)
  others_then fits part k far =
      let one = marks_change_one q a read m.n fd it answer.Done 0 G may fits in
      ⊎_elim
      (λ t.
      let apart : part ≢ lane_part m.channel = λ e. far (ap (λ z. Of z k) e ∙ ap (Of (lane_part m.channel)) t.1) in
      ap (λ z. look (after 0 answer.Done) (Of part z)) t.1 ∙ one.parts part apart ∙ ap (λ z. look q (Of part z)) (sym t.1))
      (λ f. (leads answer.Done 0 fits).elsewhere.looks (Of part k) (λ e. f.1 (sym (number_same m.n k e))))
      (eqb_tells k m.n)
    where
      number_same : (j k : ℕ) → ◌≡◌ {A = Option ℕ} (Some j) (Some k) → j ≡ k
      number_same j k e = cc

  marked_at : Fits q.disk writing answer.Done 0 → (written : Bool) → AtMark (after 0 answer.Done) (mark.Close fd written) m.channel d
  marked_at fits written =
      let r : Queue = entered_queue q m.n (Marks it) in
      written_at r (after 0 answer.Done) m.channel m.n m.place refl file.file (record { number = file.file.number; file = g (q.disk.files file.file.number) }) file.there there_then
      (dee_bytes read m.place (q.disk.files file.file.number) file.file.file.bytes (ap (λ (f : File). f.bytes) (sym the_file)) place_in)
      (others_then fits) fd d first.first first.there first.number first.place (at_grown q r (mark.Write fd) m.channel d (one_grown q m.n (Marks it)) h) written

  stand_then : (told : Answer) (wrote : ℕ) (written : Bool) → (after wrote told).disk.opens ≡ q.disk.opens → (after wrote told).holder ≡ q.holder
      → AtMark (after wrote told) (mark.Close fd written) m.channel d → SenderStands now (after wrote told) a (goes d (at.Mark (mark.Close fd written) m))
  stand_then told wrote written e f there = at_stands now (after wrote told) a (mark.Close fd written) m d there first (open_then told wrote e f)

  grows_to : (told : Answer) (wrote : ℕ) → ((part : Part) (k : ℕ) → look (after wrote told) (Of part k) ≡ look q (Of part k)) → Grows q (after wrote told)
  grows_to told wrote e = record { looks = λ part k far. e part k; lives = λ k i there. lines_lives q.books m.n (Marks it) k i there }

  pub write_answer : (wrote : ℕ) (told : Answer) (bytes : List ℕ) → Fits q.disk writing told wrote
      → SenderLeads now a q (after wrote told) (act_mark (mark.Write fd) m (Answered (record { answer = told; bytes = bytes })) d)
  write_answer wrote answer.Done bytes fits = record {
    number = Some m.n;
    closed = closed;
    leads = leads answer.Done wrote fits;
    stands = stand_then answer.Done wrote true (opens_same q.disk (q.disk.opens fd.0) g) refl (marked_at fits true);
  }
  write_answer zero (answer.Refused why.Fault) bytes fits = record {
    number = Some m.n;
    closed = closed;
    leads = leads (answer.Refused why.Fault) 0 fits;
    stands = stand_then (answer.Refused why.Fault) 0 false (opens_same q.disk (q.disk.opens fd.0) (λ f. f)) refl
        (at_grown q (after 0 (answer.Refused why.Fault)) (mark.Close fd false) m.channel d
        (grows_to (answer.Refused why.Fault) 0 (λ part k. looks_same q.disk (q.disk.opens fd.0) (Of part k))) (unsure_at q fd m.channel d h));
  }
  write_answer (suc zero) (answer.Refused why.Fault) bytes fits = record {
    number = Some m.n;
    closed = closed;
    leads = leads (answer.Refused why.Fault) 1 fits;
    stands = stand_then (answer.Refused why.Fault) 1 false (opens_same q.disk (q.disk.opens fd.0) g) refl (marked_at fits.0 false);
  }
  write_answer (suc (suc k)) (answer.Refused why.Fault) bytes fits = absurd (let le = fits.1 in omega (arith, le))
  write_answer wrote (answer.Refused why.Memory) bytes fits = record {
    number = Some m.n;
    closed = closed;
    leads = leads (answer.Refused why.Memory) wrote fits;
    stands = stand_then (answer.Refused why.Memory) wrote false refl refl
        (at_grown q (after wrote (answer.Refused why.Memory)) (mark.Close fd false) m.channel d
        (grows_to (answer.Refused why.Memory) wrote (λ part k. refl)) (unsure_at q fd m.channel d h));
  }
  write_answer wrote (answer.Refused why.NotThere) bytes fits = absurd fits
  write_answer wrote (answer.Refused why.Exists) bytes fits = absurd fits
  write_answer wrote (answer.Created f k) bytes fits = absurd fits
  write_answer wrote (answer.Opened f) bytes fits = absurd fits
  write_answer wrote (answer.Count k) bytes fits = absurd fits
  write_answer wrote (answer.Stat s) bytes fits = absurd fits
  write_answer wrote (answer.Name k) bytes fits = absurd fits
  write_answer wrote answer.NoName bytes fits = absurd fits

-- Each step

-- at the begin of a note
at_noting : (now : ℕ) (q : Queue) (a : List ℕ) (m : Marked) (d : Desk) → StandsAt now q a (at.Mark mark.Note m) d → AtMark q mark.Noting m.channel d
at_noting now q a m d h =
    let t = at_mark now q a mark.Note m d h in
    record { known = t.known; due = t.due; apart = t.apart; no_nul = t.no_nul; others = t.others; tied = t.tied; jobs = t.jobs; marks = t.marks }

module _ (now : ℕ) (q : Queue) (a : List ℕ) (child : Option Child) (G : Sound q) (m : Marked) (d : Desk) (read : ℕ) (told : Told)
    (wrote : ℕ) where
  -- to what a call leads
  abbrev Leads : MarkRow → CallData → Type 0
  Leads row c = (role : ℕ → Role) × SenderLeads now a q (booked_queue child d.book.controls (booked_at (at.Mark row m) (Answered told) d) (called_queue q a read c told.answer wrote role))
      (act (at.Mark row m) read (Answered told) d)

  noted : StandsAt now q a (at.Mark mark.Noting m) d → (c : CallData) → due_at (at.Mark mark.Noting m) d ≡ needs.File c → Fits q.disk c told.answer wrote → IsReadBy q.disk c told
      → Leads mark.Noting c
  noted h c due fits given =
      let there = at_mark now q a mark.Noting m d h in
      let n = h.rests.1 in
      note_step now q a G m d h.rests.0 read wrote there n.of d.note.row child c told n.holds due fits given

  note_begins : StandsAt now q a (at.Mark mark.Note m) d → (c : CallData) → due_at (at.Mark mark.Note m) d ≡ needs.File c → Fits q.disk c told.answer wrote → Leads mark.Note c
  note_begins h c due fits =
      let there = at_noting now q a m d h in
      let to = h.rests.1 in
      let same : c ≡ call.Open (path (Of Bounce m.n)) how.Append = sym (file_call (call.Open (path (Of Bounce m.n)) how.Append) c due) in
      let go = note_opens now q a G m d h.rests.0 read wrote there to told.answer told.bytes (subst (λ z. Fits q.disk z told.answer wrote) same fits) in
      let by_first : Option Mark → Type 0 = λ o. SenderLeads now a q (called_queue q a read (call.Open (path (Of Bounce m.n)) how.Append) told.answer wrote q.role)
      (turned m (Answered told) (record d { note = note_of o m.n d.book.controls })) in
      (q.role, subst (λ z. SenderLeads now a q (called_queue q a read z told.answer wrote q.role) (act_mark mark.Note m (Answered told) d)) (sym same) (subst by_first (sym to.there) go))

  pub marks : (row : MarkRow) (c : CallData) → StandsAt now q a (at.Mark row m) d → due_at (at.Mark row m) d ≡ needs.File c → Fits q.disk c told.answer wrote → IsReadBy q.disk c told
      → Leads row c
  marks mark.Note c h due fits given = note_begins h c due fits
  marks mark.Noting c h due fits given = noted h c due fits given
  marks mark.Open c h due fits given =
      let there = at_mark now q a mark.Open m d h in
      let same : c ≡ call.Open (path (Of (lane_part m.channel) m.n)) how.Write =
      sym (file_call (call.Open (path (name_of (file_of m.channel m.n))) how.Write) c due) ∙ ap (λ t. call.Open t how.Write) (lane_name m.channel m.n) in
      let go = open_answer now q a G m d h.rests.0 read wrote told.answer told.bytes there h.rests.1 (subst (λ z. Fits q.disk z told.answer wrote) same fits) in
      (q.role, subst (λ z. SenderLeads now a q (called_queue q a read z told.answer wrote q.role) (act_mark mark.Open m (Answered told) d)) (sym same) go)
  marks (mark.Write fd) c h due fits given =
      let there = at_mark now q a (mark.Write fd) m d h in
      let same : c ≡ call.WriteAt fd m.place dee = sym (file_call (call.WriteAt fd m.place dee) c due) in
      let go = write_answer now q a G m d h.rests.0 read fd there h.rests.1.0 h.rests.1.1 wrote told.answer told.bytes (subst (λ z. Fits q.disk z told.answer wrote) same fits) in
      (q.role, subst (λ z. SenderLeads now a q (entered_queue (called_queue q a read z told.answer wrote q.role) m.n (Marks (named_by d.book.controls m.channel m.place))) (act_mark (mark.Write fd) m (Answered told) d)) (sym same) go)
  marks (mark.Close fd written) c h due fits given =
      let there = at_mark now q a (mark.Close fd written) m d h in
      let same : c ≡ call.Close fd = sym (file_call (call.Close fd) c due) in
      let go = close_answer now q a G m d h.rests.0 read wrote fd written told.answer told.bytes there h.rests.1.1.held (subst (λ z. Fits q.disk z told.answer wrote) same fits) in
      (q.role, subst (λ z. SenderLeads now a q (called_queue q a read z told.answer wrote q.role) (act_mark (mark.Close fd written) m (Answered told) d)) (sym same) go)
