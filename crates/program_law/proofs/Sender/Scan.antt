-- The scan of the info files.
use Rattle.std.proofs.Common.{◌≡◌, ◌≢◌, ℕ, ◌+◌, List, [], ◌∷◌, ◌++◌, Bool, true, false, Option, Some, None, refl, sym, ap, ◌∙◌, subst, eqb-true}
use Rattle.std.specs.Prelude.{if◌then◌else◌, ◌==◌, nat_lt, take, IsSome}
use Rattle.call_fs.specs.declared.calls.Answer.{Answer}
use Rattle.call_fs.specs.declared.calls.Answer.TheVariants as answer
use Rattle.call_fs.specs.declared.calls.CallData.{CallData}
use Rattle.call_fs.specs.declared.calls.CallData.TheVariants as call
use Rattle.call_fs.specs.declared.calls.FsError.TheVariants as why
use Rattle.call_fs.specs.declared.calls.Told.{Told}
use Rattle.call_fs.specs.declared.past.GotData.TheVariants.{Answered}
use Rattle.call_fs.specs.declared.past.NeedData.TheVariants as needs
use Rattle.call_fs.specs.Apply.{Fits, IsReadBy}
use Rattle.mail_bytes.specs.Decimal.{digits, number_of}
use Rattle.mail_bytes.proofs.Digits.{number_of_some}
use Rattle.queue_paths.specs.declared.names.Name.TheVariants as name
use Rattle.queue_paths.specs.Names.{Name, path, split as split_of}
use Rattle.queue_paths.specs.Names.Name.{Of}
use Rattle.queue_paths.specs.Names.Part.{Todo, Info, Local as LocalFile, Remote as RemoteFile}
use Rattle.queue_paths.specs.Parts.{in_todo}
use Rattle.queue_law.proofs.Waits.{todo_here}
use Rattle.send_core.specs.declared.desk.Desk.{Desk}
use Rattle.send_parts.specs.declared.row.Row.TheVariants as at
use Rattle.send_core.specs.Start.{start_at}
use Rattle.send_core.specs.Table.{act, due_at}
use Rattle.send_known.specs.declared.channel.Channel.{Channel}
use Rattle.send_known.specs.declared.channel.Channel.TheVariants.{Local, Remote}
use Rattle.send_jobs.specs.Jobs.{job_of}
use Rattle.send_jobs.specs.Sending.{lane}
use Rattle.send_known.specs.declared.known.Known.{Known}
use Rattle.send_parts.specs.declared.book.Book.{Book}
use Rattle.send_parts.specs.declared.reading.Progress.{Progress}
use Rattle.send_parts.specs.declared.reading.Progress.TheVariants.{Goes, Whole, Missing, Failed}
use Rattle.send_parts.specs.declared.reading.Reading.{Reading}
use Rattle.send_parts.specs.declared.reading.Reading.TheVariants.{Opening, Going, Closing, Shutting}
use Rattle.send_parts.specs.declared.reply.Way.{Way}
use Rattle.send_parts.specs.declared.reply.Way.TheVariants as way
use Rattle.send_parts.specs.declared.rows.StartRow.{StartRow}
use Rattle.send_parts.specs.declared.rows.StartRow.TheVariants as start
use Rattle.send_parts.specs.declared.dir.Dir.TheVariants as dir
use Rattle.send_parts.specs.Steps.{dir_text}
use Rattle.send_parts.specs.Files.{is_info, lying_in, message_number, number_below, sender_in}
use Rattle.send_parts.specs.Readings.{read_on}
use Rattle.send_parts.specs.Replies.{Said, answered, said}
use Rattle.send_parts.specs.Start.{by_way, info_read, info_row, kept, remote_stated, scan_known, scan_row, scanned, start_failed}
use Rattle.queue_law.specs.Numbers.{Queue, Entry, entry, look, About, about, IsTaken, Phase, Sound}
use Rattle.queue_law.specs.Numbers.Phase.{Free, Queued, Sorted, Finished}
use Rattle.queue_law.specs.Routes.{lane_part}
use Rattle.queue_law.specs.Senders.{LeadsOn, called_queue}
use Rattle.queue_law.specs.Steps.{Elsewhere}
use Rattle.queue_law.proofs.Frame.{about_same}
use Rattle.queue_law.proofs.Looks.{find_none, find_some}
use Rattle.queue_law.proofs.Sends.{reads_keep}
use Rattle.program_law.specs.Sender.Knows.{IsKnown, IsSettledIn, IsThereIf, Serves, has_file}
use Rattle.program_law.specs.Sender.Readings.{ReadsOn}
use Rattle.program_law.specs.Sender.Rows.{HasNoJobs, HasNoMarks, HasText, IsLearned, IsTakenUp, StartStands, works}
use Rattle.program_law.specs.Sender.Scan.{IsScan}
use Rattle.program_law.specs.Sender.Stands.{SenderLeads, Stands, StandsAt}
use Rattle.program_law.proofs.Sender.Closes.{none_closed}
use Rattle.program_law.proofs.Sender.Desks.{OnDesk, on_of, stand}
use Rattle.program_law.proofs.Sender.Entries.{Grows, settled_grown}
use Rattle.program_law.proofs.Sender.Gone.{desk_grown, file_call}
use Rattle.program_law.proofs.Sender.Learned.{learned_on}
use Rattle.program_law.proofs.Sender.Passes.{grown_by}
use Rattle.program_law.proofs.Sender.Passing.{number_read, some_of}
use Rattle.program_law.proofs.Sender.Readings.{readings}
use Rattle.program_law.proofs.Sender.Senders.{settled_of, sorted_of, told_of}

-- What a stat tells of a name

abbrev Tells : Way → Option Entry → Type 0
Tells way.Fine o = (y : Entry) × (o ≡ Some y)
Tells way.Absent o = o ≡ None
Tells w o = Unit {0}

stat_tells : (q : Queue) (x : Name) (told : Answer) (bytes : List ℕ) (wrote : ℕ) → Fits q.disk (call.Stat (path x)) told wrote → Tells (answered told bytes).way (look q x)
stat_tells q x (answer.Stat s) bytes wrote fits = (entry q.disk.files s.number, find_some q.disk.names q.disk.files x s.number fits.number)
stat_tells q x (answer.Refused why.NotThere) bytes wrote fits = find_none q.disk.names q.disk.files x fits
stat_tells q x (answer.Refused why.Fault) bytes wrote fits = tt
stat_tells q x (answer.Refused why.Memory) bytes wrote fits = absurd fits
stat_tells q x (answer.Refused why.Exists) bytes wrote fits = absurd fits
stat_tells q x (answer.Created fd k) bytes wrote fits = absurd fits
stat_tells q x (answer.Opened fd) bytes wrote fits = absurd fits
stat_tells q x (answer.Count k) bytes wrote fits = absurd fits
stat_tells q x answer.Done bytes wrote fits = absurd fits
stat_tells q x (answer.Name k) bytes wrote fits = absurd fits
stat_tells q x answer.NoName bytes wrote fits = absurd fits

the_entry : (o : Option Entry) → o ≢ None → (y : Entry) × (o ≡ Some y)
the_entry None f = absurd (f refl)
the_entry (Some y) f = (y, refl)

-- a number of which there is an info file is taken up
taken_by : (w : About) (info : Entry) → IsTaken w → w.parts Info ≡ Some info → IsTakenUp w
taken_by w info t there = record {
  accepted = record { injection = t.injection; lives = t.lives; accepted = t.accepted };
  mess = t.mess;
  mess_there = t.mess_there;
  filed = λ todo none. let both = sym there ∙ none in absurd (cc);
}

taken_up : (w : About) (info : Entry) → Phase w → w.parts Info ≡ Some info → IsTakenUp w
taken_up w info (Free h) there = let none = h.unsorted Info refl in absurd (cc)
taken_up w info (Queued h) there = taken_by w info h.taken there
taken_up w info (Sorted h) there = taken_by w info h.taken there
taken_up w info (Finished h) there = let none = h.unsorted Info refl in absurd (cc)

-- and if todo isn't there, it is preprocessed
settles : (q : Queue) (n : ℕ) → Sound q → IsTakenUp (about q n) → in_todo (about q n).parts ≡ None → IsSettledIn (about q n)
settles q n G t none =
    let w = the_entry (look q (Of Info n)) (t.filed none) in
    settled_of (about q n) (sorted_of (about q n) (G.fine n) none w.0 w.1)

learned_of : (q : Queue) (n : ℕ) (read : List ℕ) → IsSettledIn (about q n) → HasText q Info n read → IsLearned q n read
learned_of q n read f t = record { sorted = f; text = t }

-- What a search of a directory of info files finds

lies_in : (o : Option ℕ) (below n : ℕ) → lying_in below o ≡ Some n → (o ≡ Some n) × (split_of n ≡ below)
lies_in None below n is = absurd (cc)
lies_in (Some m) below n is = by (split_of m == below) refl is where
  by : (b : Bool) → (split_of m == below) ≡ b → ◌≡◌ {A = Option ℕ} (if b then Some m else None) (Some n) → (◌≡◌ {A = Option ℕ} (Some m) (Some n)) × (split_of n ≡ below)
  by true here same = let w : m ≡ n = cc in (same, ap split_of (sym w) ∙ eqb-true (split_of m) below here)
  by false here same = absurd (cc)

info_path : (n : ℕ) → dir_text (dir.Info (split_of n)) ++ 47 ∷ digits n ≡ path (Of Info n)
unfolding path
info_path n = refl

-- a number that it finds is taken up
search_finds : (q : Queue) (below : ℕ) (after : List ℕ) (told : Answer) (bytes : List ℕ) (wrote : ℕ) → Sound q
    → Fits q.disk (call.NextName (dir_text (dir.Info below)) after) told wrote → (answered told bytes).way ≡ way.Fine
    → (n : ℕ) → number_below below (answered told bytes).bytes ≡ Some n → IsTakenUp (about q n)
search_finds q below after (answer.Name text) bytes wrote G fits fine n number =
    let read = lies_in (message_number text) below n number in
    let is : text ≡ digits n = (number_of_some text n (number_read (number_of text) n read.0)).0 in
    let full : dir_text (dir.Info below) ++ 47 ∷ text ≡ path (Of Info n)
    = ap (λ (k : ℕ). dir_text (dir.Info k) ++ 47 ∷ text) (sym read.1) ∙ ap (λ (t : List ℕ). dir_text (dir.Info (split_of n)) ++ 47 ∷ t) is ∙ info_path n in
    let w = some_of (q.disk.names (path (Of Info n))) (subst (λ (t : List ℕ). IsSome (q.disk.names t)) full fits.1.stands.0) in
    taken_up (about q n) (entry q.disk.files w.0) (G.fine n) (find_some q.disk.names q.disk.files (Of Info n) w.0 w.1)
search_finds q below after answer.NoName bytes wrote G fits fine n number = absurd (cc)
search_finds q below after (answer.Refused why.NotThere) bytes wrote G fits fine n number = absurd (cc)
search_finds q below after (answer.Refused why.Fault) bytes wrote G fits fine n number = absurd (cc)
search_finds q below after told bytes wrote G fits fine n number = absurd fits

-- A row of the scan, or what comes after it
abbrev pub IsPast : StartRow → Type 0
IsPast (start.Control file reading) = ⊥
IsPast row = Unit {0}

abbrev pub Rests : Queue → List ℕ → StartRow → List ℕ → Type 0
Rests q a row read = IsPast row × StartStands q a row read

failed_rests : (q : Queue) (a : List ℕ) (w : Way) (read : List ℕ) → Rests q a (start_failed w) read
failed_rests q a way.NoMemory read = (tt, tt)
failed_rests q a way.Fine read = (tt, tt)
failed_rests q a way.Over read = (tt, tt)
failed_rests q a way.Absent read = (tt, tt)
failed_rests q a way.Broken read = (tt, tt)

named_rests : (q : Queue) (a : List ℕ) (o : Option ℕ) (split : ℕ) (read : List ℕ) → ((n : ℕ) → o ≡ Some n → IsTakenUp (about q n)) → Rests q a (scan_row o split) read
named_rests q a None split read finds = (tt, tt)
named_rests q a (Some n) split read finds = (tt, finds n refl)

next_rests : (q : Queue) (a : List ℕ) (b : Bool) (split : ℕ) (read : List ℕ) → Rests q a (if b then start.Scan (split + 1) else start.Over) read
next_rests q a true split read = (tt, tt)
next_rests q a false split read = (tt, tt)

stated_rests : (q : Queue) (a : List ℕ) (w : Way) (there missing : StartRow) (read : List ℕ) → (w ≡ way.Fine → Rests q a there read) → (w ≡ way.Absent → Rests q a missing read)
    → Rests q a (by_way w there missing) read
stated_rests q a way.Fine there missing read f g = f refl
stated_rests q a way.Absent there missing read f g = g refl
stated_rests q a way.NoMemory there missing read f g = failed_rests q a way.NoMemory read
stated_rests q a way.Over there missing read f g = failed_rests q a way.Over read
stated_rests q a way.Broken there missing read f g = failed_rests q a way.Broken read

row_rests : (q : Queue) (a : List ℕ) (b : Bool) (split n : ℕ) (read : List ℕ) → IsLearned q n read → Rests q a (info_row b split n) read
row_rests q a true split n read l = (tt, l)
row_rests q a false split n read l = (tt, tt)

abbrev found_as : ℕ → ℕ → Bool → Bool → List ℕ → Known
found_as n birth local remote read = record { n = n; birth = birth; finish_at = 0; local = local; remote = remote; sender = sender_in read }

module _ (now : ℕ) (q : Queue) (a : List ℕ) (d : Desk) (h : OnDesk q d) (bare : HasNoMarks d.slots) (none : HasNoJobs d.slots) where
  abbrev pub With : Book → Desk
  With b = record d { book = b }

  abbrev pub Well : Book → Type 0
  Well b = OnDesk q (With b) × Rests q a b.row b.read

  -- what such a desk relies on at the row where it is then
  stands_then : (row : StartRow) (b : Book) → OnDesk q (With b) → Rests q a row b.read → Stands now q a (start_at row) b d.slots (works d)
  stands_then (start.Control file g) b on r = absurd r.0
  stands_then start.GreetLocal b on r = stand now q a (at.Start start.GreetLocal) (With b) (λ ch. refl) on (bare, (none, r.1))
  stands_then (start.GreetRemote limit) b on r = stand now q a (at.Start (start.GreetRemote limit)) (With b) (λ ch. refl) on (bare, (none, r.1))
  stands_then (start.Scan split) b on r = stand now q a (at.Start (start.Scan split)) (With b) (λ ch. refl) on (bare, (none, r.1))
  stands_then (start.StatTodo split n) b on r = stand now q a (at.Start (start.StatTodo split n)) (With b) (λ ch. refl) on (bare, (none, r.1))
  stands_then (start.ReadInfo split n g) b on r = stand now q a (at.Start (start.ReadInfo split n g)) (With b) (λ ch. refl) on (bare, (none, r.1))
  stands_then (start.StatInfo split n) b on r = stand now q a (at.Start (start.StatInfo split n)) (With b) (λ ch. refl) on (bare, (none, r.1))
  stands_then (start.StatLocal split n birth) b on r = stand now q a (at.Start (start.StatLocal split n birth)) (With b) (λ ch. refl) on (bare, (none, r.1))
  stands_then (start.StatRemote split n birth local) b on r =
      stand now q a (at.Start (start.StatRemote split n birth local)) (With b) (λ ch. refl) on (bare, (none, r.1))
  stands_then start.Over b on r = stand now q a (start_at start.Over) (With b) (λ ch. refl) on tt
  stands_then (start.Ended status) b on r = stand now q a (at.Ended status) (With b) (λ ch. refl) on tt

  pub stands_with : (b : Book) → Well b → Stands now q a (start_at b.row) b d.slots (works d)
  stands_with b w = stands_then b.row b w.0 w.1

  -- only the row, what was read, or after which name the search goes on is another
  pub on_row : (row : StartRow) → OnDesk q (With (record d.book { row = row }))
  on_row row = record { known = h.known; due = h.due; lanes = h.lanes; apart = h.apart; no_nul = h.no_nul }

  pub on_after : (row : StartRow) (after : List ℕ) → OnDesk q (With (record d.book { row = row; after = after }))
  on_after row after = record { known = h.known; due = h.due; lanes = h.lanes; apart = h.apart; no_nul = h.no_nul }

  pub on_read : (row : StartRow) (read : List ℕ) → OnDesk q (With (record d.book { row = row; read = read }))
  on_read row read = record { known = h.known; due = h.due; lanes = h.lanes; apart = h.apart; no_nul = h.no_nul }

  scanned_well : (w : Way) (text : List ℕ) (split : ℕ) → (w ≡ way.Fine → (n : ℕ) → number_below split text ≡ Some n → IsTakenUp (about q n)) → Well (scanned w text split d.book)
  scanned_well way.Fine text split finds = (on_after (scan_row (number_below split text) split) (take 255 text), named_rests q a (number_below split text) split d.book.read (finds refl))
  scanned_well way.Over text split finds = (on_after (if nat_lt split 22 then start.Scan (split + 1) else start.Over) [], next_rests q a (nat_lt split 22) split d.book.read)
  scanned_well way.Absent text split finds = (on_row (start_failed way.Absent), failed_rests q a way.Absent d.book.read)
  scanned_well way.NoMemory text split finds = (on_row (start_failed way.NoMemory), failed_rests q a way.NoMemory d.book.read)
  scanned_well way.Broken text split finds = (on_row (start_failed way.Broken), failed_rests q a way.Broken d.book.read)

  read_well : (p : Progress) (split n : ℕ) (g : Reading) (s : Said) → IsSettledIn (about q n) → ReadsOn q a Info n p d.book.read (kept g d.book.read ++ s.bytes)
      → Well (info_read p split n g s d.book)
  read_well (Goes Opening) split n g s f r = (on_read (start.ReadInfo split n Opening) (kept g d.book.read ++ s.bytes), (tt, (f, r)))
  read_well (Goes (Going fd)) split n g s f r = (on_read (start.ReadInfo split n (Going fd)) (kept g d.book.read ++ s.bytes), (tt, (f, r)))
  read_well (Goes (Closing fd)) split n g s f r = (on_read (start.ReadInfo split n (Closing fd)) (kept g d.book.read ++ s.bytes), (tt, (f, r)))
  read_well (Goes (Shutting fd)) split n g s f r = (on_row (start_failed s.way), failed_rests q a s.way d.book.read)
  read_well Whole split n g s f r = (on_row (info_row (is_info d.book.read) split n), row_rests q a (is_info d.book.read) split n d.book.read (learned_of q n d.book.read f r))
  read_well Missing split n g s f r = (on_row (start.Scan split), (tt, tt))
  read_well Failed split n g s f r = (on_row (start_failed s.way), failed_rests q a s.way d.book.read)

  free : (n : ℕ) (ch : Channel) → job_of n (lane ch d.slots).jobs ≡ None
  free n ch = ap (job_of n) (none ch)

  -- what is found is known, and due at moment 0
  found_well : Sound q → (split n birth : ℕ) (local remote : Bool) → IsLearned q n d.book.read → IsThereIf local (look q (Of LocalFile n)) → IsThereIf remote (look q (Of RemoteFile n))
      → Well (scan_known split n birth local remote d.book)
  found_well G split n birth local remote l on_local on_remote =
      let k : Known = found_as n birth local remote d.book.read in
      let it : IsKnown (about q n) k = record { sorted = l.sorted; sender_is = told_of q n d.book.read G l; gone = gone } in
      let on = learned_on q k 0 d h it serves (free n) in
      (record { known = on.known; due = on.due; lanes = on.lanes; apart = on.apart; no_nul = on.no_nul }, (tt, tt))
    where
      gone : (ch : Channel) → has_file ch (found_as n birth local remote d.book.read) ≡ false → (about q n).parts (lane_part ch) ≡ None
      gone Local e = subst (λ b. IsThereIf b (look q (Of LocalFile n))) e on_local
      gone Remote e = subst (λ b. IsThereIf b (look q (Of RemoteFile n))) e on_remote

      serves : (ch : Channel) → has_file ch (found_as n birth local remote d.book.read) ≡ true → Serves (about q n) ch
      serves Local e = let w = subst (λ b. IsThereIf b (look q (Of LocalFile n))) e on_local in record { sorted = l.sorted; file = w.0; there = w.1 }
      serves Remote e = let w = subst (λ b. IsThereIf b (look q (Of RemoteFile n))) e on_remote in record { sorted = l.sorted; file = w.0; there = w.1 }

  remote_well : Sound q → (w : Way) (split n birth : ℕ) (local : Bool) → IsLearned q n d.book.read → IsThereIf local (look q (Of LocalFile n)) → Tells w (look q (Of RemoteFile n))
      → Well (remote_stated w split n birth local d.book)
  remote_well G way.Fine split n birth local l on_local t = found_well G split n birth local true l on_local t
  remote_well G way.Absent split n birth local l on_local t = found_well G split n birth local false l on_local t
  remote_well G way.NoMemory split n birth local l on_local t = (on_row (start_failed way.NoMemory), failed_rests q a way.NoMemory d.book.read)
  remote_well G way.Over split n birth local l on_local t = (on_row (start_failed way.Over), failed_rests q a way.Over d.book.read)
  remote_well G way.Broken split n birth local l on_local t = (on_row (start_failed way.Broken), failed_rests q a way.Broken d.book.read)

-- Each row

tells_fine : (w : Way) (o : Option Entry) → w ≡ way.Fine → Tells w o → (y : Entry) × (o ≡ Some y)
tells_fine w o e t = subst (λ (v : Way). Tells v o) e t

tells_absent : (w : Way) (o : Option Entry) → w ≡ way.Absent → Tells w o → o ≡ None
tells_absent w o e t = subst (λ (v : Way). Tells v o) e t

learned_grown : (q r : Queue) (n : ℕ) (read : List ℕ) → Grows q r → IsLearned q n read → IsLearned r n read
learned_grown q r n read g l = record {
  sorted = (settled_grown q r g n l.sorted).0;
  text = record { file = l.text.file; there = g.looks Info n (λ s. cc) ∙ l.text.there; text = l.text.text };
}

-- a step that concerns no number leaves each taken up
taken_read : (now : ℕ) (a : List ℕ) (q r : Queue) (n : ℕ) → Elsewhere now a None q r → IsTakenUp (about q n) → IsTakenUp (about r n)
taken_read now a q r n E t = subst IsTakenUp (sym (about_same now a None q r E n (λ e. absurd (cc)))) t

module _ (now : ℕ) (q : Queue) (a : List ℕ) (G : Sound q) (d : Desk) (read wrote : ℕ) where
  abbrev after : CallData → Answer → Queue
  after c told = called_queue q a read c told wrote q.role

  -- where a stat leads
  module _ (x : Name) (told : Told) (fits : Fits q.disk (call.Stat (path x)) told.answer wrote) (on : OnDesk q d) (bare : HasNoMarks d.slots) (none : HasNoJobs d.slots) where
    abbrev r : Queue
    r = after (call.Stat (path x)) told.answer

    leads : LeadsOn now a None q r
    leads = reads_keep now q a G read (call.Stat (path x)) told.answer wrote tt fits

    grows : Grows q r
    grows = grown_by now a q r leads.elsewhere

    abbrev w : Way
    w = (answered told.answer told.bytes).way

    tells : Tells w (look q x)
    tells = stat_tells q x told.answer told.bytes wrote fits

    grown : OnDesk r d
    grown = desk_grown q r d grows on

    stated : (there missing : StartRow) → (w ≡ way.Fine → Rests r a there d.book.read) → (w ≡ way.Absent → Rests r a missing d.book.read)
        → Stands now r a (start_at (by_way w there missing)) (record d.book { row = by_way w there missing }) d.slots (works d)
    stated there missing f g = stands_with now r a d grown bare none (record d.book { row = by_way w there missing })
        (on_row now r a d grown bare none (by_way w there missing), stated_rests r a w there missing d.book.read f g)

  stat_todo : (split n : ℕ) (told : Told) → StandsAt now q a (at.Start (start.StatTodo split n)) d → Fits q.disk (call.Stat (path (Of Todo n))) told.answer wrote
      → SenderLeads now a q (after (call.Stat (path (Of Todo n))) told.answer) (act (at.Start (start.StatTodo split n)) read (Answered told) d)
  stat_todo split n told h fits =
      let on = on_of now q a (at.Start (start.StatTodo split n)) d (record { first = λ ch. refl; controls_read = tt }) (λ k w. w) h in
      let L = leads (Of Todo n) told fits on h.rests.0 h.rests.1.0 in
      let g = grows (Of Todo n) told fits on h.rests.0 h.rests.1.0 in
      let r : Queue = after (call.Stat (path (Of Todo n))) told.answer in
      let t = stat_tells q (Of Todo n) told.answer told.bytes wrote fits in
      record {
        number = None;
        closed = none_closed now q;
        leads = L;
        stands = stated (Of Todo n) told fits on h.rests.0 h.rests.1.0 (start.Scan split) (start.ReadInfo split n Opening)
            (λ e. (tt, tt))
            (λ e. (tt, (settles r n L.sound (taken_read now a q r n L.elsewhere h.rests.1.1) (todo_here r L.sound.suits n ∙ g.looks Todo n (λ s. cc) ∙ tells_absent (answered told.answer told.bytes).way (look q (Of Todo n)) e t), tt)));
      }

  stat_info : (split n : ℕ) (told : Told) → StandsAt now q a (at.Start (start.StatInfo split n)) d → Fits q.disk (call.Stat (path (Of Info n))) told.answer wrote
      → SenderLeads now a q (after (call.Stat (path (Of Info n))) told.answer) (act (at.Start (start.StatInfo split n)) read (Answered told) d)
  stat_info split n told h fits =
      let on = on_of now q a (at.Start (start.StatInfo split n)) d (record { first = λ ch. refl; controls_read = tt }) (λ k w. w) h in
      let L = leads (Of Info n) told fits on h.rests.0 h.rests.1.0 in
      let g = grows (Of Info n) told fits on h.rests.0 h.rests.1.0 in
      let r : Queue = after (call.Stat (path (Of Info n))) told.answer in
      record {
        number = None;
        closed = none_closed now q;
        leads = L;
        stands = stated (Of Info n) told fits on h.rests.0 h.rests.1.0 (start.StatLocal split n (said (Answered told)).stat.moment) (start.Scan split)
            (λ e. (tt, learned_grown q r n d.book.read g h.rests.1.1))
            (λ e. (tt, tt));
      }

  stat_local : (split n birth : ℕ) (told : Told) → StandsAt now q a (at.Start (start.StatLocal split n birth)) d → Fits q.disk (call.Stat (path (Of LocalFile n))) told.answer wrote
      → SenderLeads now a q (after (call.Stat (path (Of LocalFile n))) told.answer) (act (at.Start (start.StatLocal split n birth)) read (Answered told) d)
  stat_local split n birth told h fits =
      let on = on_of now q a (at.Start (start.StatLocal split n birth)) d (record { first = λ ch. refl; controls_read = tt }) (λ k w. w) h in
      let L = leads (Of LocalFile n) told fits on h.rests.0 h.rests.1.0 in
      let g = grows (Of LocalFile n) told fits on h.rests.0 h.rests.1.0 in
      let r : Queue = after (call.Stat (path (Of LocalFile n))) told.answer in
      let t = stat_tells q (Of LocalFile n) told.answer told.bytes wrote fits in
      let l = learned_grown q r n d.book.read g h.rests.1.1 in
      record {
        number = None;
        closed = none_closed now q;
        leads = L;
        stands = stated (Of LocalFile n) told fits on h.rests.0 h.rests.1.0 (start.StatRemote split n birth true) (start.StatRemote split n birth false)
            (λ e. let y = tells_fine (answered told.answer told.bytes).way (look q (Of LocalFile n)) e t in (tt, (l, (y.0, g.looks LocalFile n (λ s. cc) ∙ y.1))))
            (λ e. (tt, (l, g.looks LocalFile n (λ s. cc) ∙ tells_absent (answered told.answer told.bytes).way (look q (Of LocalFile n)) e t)));
      }

  stat_remote : (split n birth : ℕ) (local : Bool) (told : Told) → StandsAt now q a (at.Start (start.StatRemote split n birth local)) d
      → Fits q.disk (call.Stat (path (Of RemoteFile n))) told.answer wrote
      → SenderLeads now a q (after (call.Stat (path (Of RemoteFile n))) told.answer) (act (at.Start (start.StatRemote split n birth local)) read (Answered told) d)
  stat_remote split n birth local told h fits =
      let on = on_of now q a (at.Start (start.StatRemote split n birth local)) d (record { first = λ ch. refl; controls_read = tt }) (λ k w. w) h in
      let L = leads (Of RemoteFile n) told fits on h.rests.0 h.rests.1.0 in
      let g = grows (Of RemoteFile n) told fits on h.rests.0 h.rests.1.0 in
      let r : Queue = after (call.Stat (path (Of RemoteFile n))) told.answer in
      let v : Way = (answered told.answer told.bytes).way in
      let t : Tells v (look r (Of RemoteFile n)) = subst (Tells v) (sym (g.looks RemoteFile n (λ s. cc))) (stat_tells q (Of RemoteFile n) told.answer told.bytes wrote fits) in
      let l = learned_grown q r n d.book.read g h.rests.1.1.0 in
      let on_local : IsThereIf local (look r (Of LocalFile n)) = subst (IsThereIf local) (sym (g.looks LocalFile n (λ s. cc))) h.rests.1.1.1 in
      let grown_desk = grown (Of RemoteFile n) told fits on h.rests.0 h.rests.1.0 in
      record {
        number = None;
        closed = none_closed now q;
        leads = L;
        stands = stands_with now r a d grown_desk h.rests.0 h.rests.1.0 (remote_stated v split n birth local d.book)
            (remote_well now r a d grown_desk h.rests.0 h.rests.1.0 L.sound v split n birth local l on_local t);
      }

  searched : (split : ℕ) (told : Told) → StandsAt now q a (at.Start (start.Scan split)) d
      → Fits q.disk (call.NextName (dir_text (dir.Info split)) d.book.after) told.answer wrote
      → SenderLeads now a q (after (call.NextName (dir_text (dir.Info split)) d.book.after) told.answer) (act (at.Start (start.Scan split)) read (Answered told) d)
  searched split told h fits =
      let place : List ℕ = dir_text (dir.Info split) in
      let on = on_of now q a (at.Start (start.Scan split)) d (record { first = λ ch. refl; controls_read = tt }) (λ k w. w) h in
      let r : Queue = after (call.NextName place d.book.after) told.answer in
      let L = reads_keep now q a G read (call.NextName place d.book.after) told.answer wrote tt fits in
      let grown_desk = desk_grown q r d (grown_by now a q r L.elsewhere) on in
      let s : Said = said (Answered told) in
      record {
        number = None;
        closed = none_closed now q;
        leads = L;
        stands = stands_with now r a d grown_desk h.rests.0 h.rests.1.0 (scanned s.way s.bytes split d.book)
            (scanned_well now r a d grown_desk h.rests.0 h.rests.1.0 s.way s.bytes split
            (λ fine n number. taken_read now a q r n L.elsewhere (search_finds q split d.book.after told.answer told.bytes wrote G fits fine n number)));
      }

  read_info : (split n : ℕ) (g : Reading) (c : CallData) (told : Told) → StandsAt now q a (at.Start (start.ReadInfo split n g)) d
      → due_at (at.Start (start.ReadInfo split n g)) d ≡ needs.File c → Fits q.disk c told.answer wrote → IsReadBy q.disk c told
      → SenderLeads now a q (after c told.answer) (act (at.Start (start.ReadInfo split n g)) read (Answered told) d)
  read_info split n g c told h due fits by =
      let on = on_of now q a (at.Start (start.ReadInfo split n g)) d (record { first = λ ch. refl; controls_read = tt }) (λ k w. w) h in
      let w = readings now q a G Info n d.book.read read wrote (name.Info n) g c told refl h.rests.1.1.1 due fits by in
      let r : Queue = after c told.answer in
      let grows = grown_by now a q r w.leads.elsewhere in
      let grown_desk = desk_grown q r d grows on in
      let s : Said = said (Answered told) in
      record {
        number = None;
        closed = none_closed now q;
        leads = w.leads;
        stands = stands_with now r a d grown_desk h.rests.0 h.rests.1.0 (info_read (read_on g s) split n g s d.book)
            (read_well now r a d grown_desk h.rests.0 h.rests.1.0 (read_on g s) split n g s (settled_grown q r grows n h.rests.1.1.0).0 w.reads);
      }

  abbrev Leads : StartRow → Told → CallData → Type 0
  Leads row told c = SenderLeads now a q (after c told.answer) (act (at.Start row) read (Answered told) d)

  pub scans : (row : StartRow) (c : CallData) (told : Told) → IsScan row → StandsAt now q a (at.Start row) d → due_at (at.Start row) d ≡ needs.File c
      → Fits q.disk c told.answer wrote → IsReadBy q.disk c told → Leads row told c
  scans (start.Scan split) c told is h due fits by =
      let same = sym (file_call (call.NextName (dir_text (dir.Info split)) d.book.after) c due) in
      subst (Leads (start.Scan split) told) (sym same) (searched split told h (subst (λ z. Fits q.disk z told.answer wrote) same fits))
  scans (start.StatTodo split n) c told is h due fits by =
      let same = sym (file_call (call.Stat (path (Of Todo n))) c due) in
      subst (Leads (start.StatTodo split n) told) (sym same) (stat_todo split n told h (subst (λ z. Fits q.disk z told.answer wrote) same fits))
  scans (start.ReadInfo split n g) c told is h due fits by = read_info split n g c told h due fits by
  scans (start.StatInfo split n) c told is h due fits by =
      let same = sym (file_call (call.Stat (path (Of Info n))) c due) in
      subst (Leads (start.StatInfo split n) told) (sym same) (stat_info split n told h (subst (λ z. Fits q.disk z told.answer wrote) same fits))
  scans (start.StatLocal split n birth) c told is h due fits by =
      let same = sym (file_call (call.Stat (path (Of LocalFile n))) c due) in
      subst (Leads (start.StatLocal split n birth) told) (sym same) (stat_local split n birth told h (subst (λ z. Fits q.disk z told.answer wrote) same fits))
  scans (start.StatRemote split n birth local) c told is h due fits by =
      let same = sym (file_call (call.Stat (path (Of RemoteFile n))) c due) in
      subst (Leads (start.StatRemote split n birth local) told) (sym same) (stat_remote split n birth local told h (subst (λ z. Fits q.disk z told.answer wrote) same fits))
  scans (start.Control file g) c told is h due fits by = absurd is
  scans start.GreetLocal c told is h due fits by = absurd is
  scans (start.GreetRemote limit) c told is h due fits by = absurd is
  scans start.Over c told is h due fits by = absurd is
  scans (start.Ended status) c told is h due fits by = absurd is
