-- The reading of the control files: what a sender has read of them is what they hold.
use Rattle.std.proofs.Common.{◌≡◌, ℕ, zero, suc, ◌<◌, List, [], ◌∷◌, ◌++◌, length, set, take, drop, min, Bool, true, false, Option, Some, None, option_map, refl, sym, ap, ◌∙◌, subst, arith, slice_get, length-set}
use Rattle.std.specs.Prelude.{if◌then◌else◌, map, nat_lt}
use Rattle.std.proofs.lemmas.Bool.{ltb-true}
use Rattle.std.proofs.lemmas.List.{take_all}
use Rattle.address_rules.specs.declared.control_file.ControlFile.{ControlFile}
use Rattle.address_rules.specs.declared.control_file.ControlFile.TheVariants as file
use Rattle.address_rules.specs.Files.{Fault, all_files, controls_of, first_fault, place}
use Rattle.call_fs.specs.declared.calls.Answer.{Answer}
use Rattle.call_fs.specs.declared.calls.Answer.TheVariants as answer
use Rattle.call_fs.specs.declared.calls.CallData.{CallData}
use Rattle.call_fs.specs.declared.calls.CallData.TheVariants as call
use Rattle.call_fs.specs.declared.calls.Fd.{Fd}
use Rattle.call_fs.specs.declared.calls.FsError.TheVariants as why
use Rattle.call_fs.specs.declared.calls.How.TheVariants as how
use Rattle.call_fs.specs.declared.calls.Told.{Told}
use Rattle.call_fs.specs.declared.file_system.TheConstants.{PIECE}
use Rattle.call_fs.specs.declared.past.GotData.TheVariants.{Answered}
use Rattle.call_fs.specs.declared.past.NeedData.TheVariants as needs
use Rattle.call_fs.specs.Apply.{Fits, IsReadBy, from_place}
use Rattle.call_fs.specs.Disk.{Open}
use Rattle.send_core.specs.declared.desk.Desk.{Desk}
use Rattle.send_parts.specs.declared.row.Row.{Row}
use Rattle.send_parts.specs.declared.row.Row.TheVariants as at
use Rattle.send_core.specs.Start.{start_at}
use Rattle.send_core.specs.Table.{due_at, moved_by}
use Rattle.send_parts.specs.declared.book.Book.{Book}
use Rattle.send_parts.specs.declared.reading.Progress.{Progress}
use Rattle.send_parts.specs.declared.reading.Progress.TheVariants.{Goes, Whole, Missing, Failed}
use Rattle.send_parts.specs.declared.reading.Reading.{Reading}
use Rattle.send_parts.specs.declared.reading.Reading.TheVariants.{Opening, Going, Closing, Shutting}
use Rattle.send_parts.specs.declared.reply.Way.{Way}
use Rattle.send_parts.specs.declared.reply.Way.TheVariants as way
use Rattle.send_parts.specs.declared.rows.StartRow.TheVariants as start
use Rattle.send_parts.specs.declared.step.Step.TheVariants as step
use Rattle.send_parts.specs.Readings.{read_on, reading_step}
use Rattle.send_parts.specs.Replies.{Said, answered, said}
use Rattle.send_parts.specs.Start.{begins_at, control_read, filed, judged_by, kept, next_file, start_failed}
use Rattle.send_parts.specs.Steps.{control_text, due_by}
use Rattle.queue_law.specs.Injectors.{IsHeld}
use Rattle.queue_law.specs.Numbers.{Queue, Role}
use Rattle.queue_law.specs.Senders.{called_queue}
use Rattle.queue_law.proofs.Opens.{opened_held}
use Rattle.program_law.specs.Sender.Control.{control_on, controls_on}
use Rattle.program_law.specs.Sender.ControlFiles.{ControlStands, ControlsAreRead, FilesRead, HasControl, LeavesControls, ReadsFile, TheySay}
use Rattle.program_law.specs.Sender.Stands.{HasControls}
use Rattle.program_law.proofs.Sender.ControlsStay.{same_control, same_controls}
use Rattle.program_law.proofs.Sender.Gone.{file_call}
use Rattle.program_law.proofs.Sender.Readings.{piece_begins, piece_ends}

-- A step of the reading of one file

abbrev pub ReadsTo : Queue → List ℕ → ControlFile → Progress → (before now_read : List ℕ) → Type 0
ReadsTo q a f (Goes next) before now_read = ReadsFile q a f next now_read
ReadsTo q a f Whole before now_read = control_on q.disk f ≡ Some before
ReadsTo q a f Missing before now_read = control_on q.disk f ≡ None
ReadsTo q a f Failed before now_read = Unit {0}

-- where it goes on, over the control files as they were
pub record ReadingTo (q r : Queue) (a : List ℕ) (f : ControlFile) (next : Progress) (before now_read : List ℕ) : Type 0 where
  pub same : (g : ControlFile) → control_on r.disk g ≡ control_on q.disk g
  pub reads : ReadsTo r a f next before now_read

module _ (q : Queue) (a : List ℕ) (f : ControlFile) (before : List ℕ) (read wrote : ℕ) (role : ℕ → Role) where
  abbrev after : CallData → Answer → Queue
  after c told = called_queue q a read c told wrote role

  abbrev To : CallData → Answer → Progress → List ℕ → Type 0
  To c told next now_read = ReadingTo q (after c told) a f next before now_read

  abbrev opening : CallData
  opening = call.Open (control_text f) how.Read

  opened_on : (fd : Fd) → Fits q.disk opening (answer.Opened fd) wrote → ReadsFile (after opening (answer.Opened fd)) a f (Going fd) []
  opened_on fd fits =
      let w = opened_held q a read (control_text f) how.Read fd wrote fits in
      let h : HasControl (after opening (answer.Opened fd)) a f fd.0 = record { number = w.0; there = w.1; opened = record { opened = w.2.opened; held = w.2.held } } in
      (h, refl)

  at_opening : (told : Answer) (bytes : List ℕ) → Fits q.disk opening told wrote → To opening told (read_on Opening (answered told bytes)) (kept Opening before ++ (answered told bytes).bytes)
  at_opening (answer.Opened fd) bytes fits = record { same = λ g. refl; reads = opened_on fd fits }
  at_opening (answer.Refused why.NotThere) bytes fits = record { same = λ g. refl; reads = ap (option_map (λ i. (q.disk.files i).bytes)) fits }
  at_opening (answer.Refused why.Fault) bytes fits = record { same = λ g. refl; reads = tt }
  at_opening (answer.Refused why.Memory) bytes fits = record { same = λ g. refl; reads = tt }
  at_opening (answer.Refused why.Exists) bytes fits = absurd fits
  at_opening (answer.Created fd k) bytes fits = absurd fits
  at_opening (answer.Count k) bytes fits = absurd fits
  at_opening answer.Done bytes fits = absurd fits
  at_opening (answer.Stat s) bytes fits = absurd fits
  at_opening (answer.Name k) bytes fits = absurd fits
  at_opening answer.NoName bytes fits = absurd fits

  abbrev taking : Fd → CallData
  taking fd = call.ReadAt fd (length before) PIECE

  module _ (fd : Fd) (h : HasControl q a f fd.0) (begins : before ≡ take (length before) (q.disk.files h.number).bytes) where
    abbrev file_bytes : List ℕ
    file_bytes = (q.disk.files h.number).bytes

    from_here : from_place q.disk (q.disk.opens fd.0) (length before) ≡ drop (length before) file_bytes
    from_here = ap (λ o. from_place q.disk o (length before)) h.opened.opened

    by_length : (k : ℕ) (bytes : List ℕ) (b : Bool) → nat_lt (length bytes) PIECE ≡ b → k ≡ min PIECE (length (drop (length before) file_bytes))
        → bytes ≡ take k (drop (length before) file_bytes)
        → ReadsTo (after (taking fd) (answer.Count k)) a f (if b then Goes (Closing fd) else Goes (Going fd)) before (before ++ bytes)
    by_length k bytes true e size is =
        let lt : length bytes < PIECE = ltb-true (length bytes) PIECE e in
        let short : length (take k (drop (length before) file_bytes)) < PIECE = subst (λ t. length t < PIECE) is lt in
        let text : before ++ bytes ≡ file_bytes = ap (λ t. before ++ t) is ∙ piece_ends file_bytes before k begins size short in
        ap (option_map (λ i. (q.disk.files i).bytes)) h.there ∙ ap Some (sym text)
    by_length k bytes false e size is =
        let more : before ++ bytes ≡ take (length (before ++ bytes)) file_bytes =
        subst (λ t. before ++ t ≡ take (length (before ++ t)) file_bytes) (sym is) (piece_begins file_bytes before k begins) in
        (record { number = h.number; there = h.there; opened = h.opened }, more)

    at_going : (told : Answer) (bytes : List ℕ) → Fits q.disk (taking fd) told wrote → IsReadBy q.disk (taking fd) (record { answer = told; bytes = bytes })
        → To (taking fd) told (read_on (Going fd) (answered told bytes)) (kept (Going fd) before ++ (answered told bytes).bytes)
    at_going (answer.Count k) bytes fits by = record {
      same = λ g. refl;
      reads = by_length k bytes (nat_lt (length bytes) PIECE) refl (fits.1 ∙ ap (λ t. min PIECE (length t)) from_here) (by ∙ ap (take k) from_here);
    }
    at_going (answer.Refused why.Fault) bytes fits by = record { same = λ g. refl; reads = tt }
    at_going (answer.Refused why.NotThere) bytes fits by = absurd fits
    at_going (answer.Refused why.Memory) bytes fits by = absurd fits
    at_going (answer.Refused why.Exists) bytes fits by = absurd fits
    at_going (answer.Created g k) bytes fits by = absurd fits
    at_going (answer.Opened g) bytes fits by = absurd fits
    at_going answer.Done bytes fits by = absurd fits
    at_going (answer.Stat s) bytes fits by = absurd fits
    at_going (answer.Name k) bytes fits by = absurd fits
    at_going answer.NoName bytes fits by = absurd fits

  at_closing : (fd : Fd) (told : Answer) (bytes : List ℕ) → control_on q.disk f ≡ Some before → Fits q.disk (call.Close fd) told wrote
      → To (call.Close fd) told Whole (before ++ (answered told bytes).bytes)
  at_closing fd answer.Done bytes h fits = record { same = λ g. refl; reads = h }
  at_closing fd told bytes h fits = absurd fits

  at_shutting : (fd : Fd) (told : Answer) (bytes : List ℕ) → Fits q.disk (call.Close fd) told wrote → To (call.Close fd) told Failed (before ++ (answered told bytes).bytes)
  at_shutting fd answer.Done bytes fits = record { same = λ g. refl; reads = tt }
  at_shutting fd told bytes fits = absurd fits

  reading_to : (g : Reading) (c : CallData) (told : Told) → ReadsFile q a f g before → due_by (reading_step g (step.OpenControl f) (length before)) [] ≡ needs.File c
      → Fits q.disk c told.answer wrote → IsReadBy q.disk c told
      → To c told.answer (read_on g (answered told.answer told.bytes)) (kept g before ++ (answered told.answer told.bytes).bytes)
  reading_to Opening c told h due fits by =
      let same : c ≡ opening = sym (file_call opening c due) in
      subst (λ z. To z told.answer (read_on Opening (answered told.answer told.bytes)) (kept Opening before ++ (answered told.answer told.bytes).bytes))
      (sym same) (at_opening told.answer told.bytes (subst (λ z. Fits q.disk z told.answer wrote) same fits))
  reading_to (Going fd) c told h due fits by =
      let same : c ≡ taking fd = sym (file_call (taking fd) c due) in
      subst (λ z. To z told.answer (read_on (Going fd) (answered told.answer told.bytes)) (kept (Going fd) before ++ (answered told.answer told.bytes).bytes))
      (sym same) (at_going fd h.0 h.1 told.answer told.bytes (subst (λ z. Fits q.disk z told.answer wrote) same fits) (subst (λ z. IsReadBy q.disk z told) same by))
  reading_to (Closing fd) c told h due fits by =
      let same : c ≡ call.Close fd = sym (file_call (call.Close fd) c due) in
      subst (λ z. To z told.answer Whole (before ++ (answered told.answer told.bytes).bytes))
      (sym same) (at_closing fd told.answer told.bytes h (subst (λ z. Fits q.disk z told.answer wrote) same fits))
  reading_to (Shutting fd) c told h due fits by =
      let same : c ≡ call.Close fd = sym (file_call (call.Close fd) c due) in
      subst (λ z. To z told.answer Failed (before ++ (answered told.answer told.bytes).bytes))
      (sym same) (at_shutting fd told.answer told.bytes (subst (λ z. Fits q.disk z told.answer wrote) same fits))

-- What was filed

took_set : {A : Type 0} (k : ℕ) (xs ys : List A) (x : A) → k < length xs → slice_get ys k ≡ Some x → take k xs ≡ take k ys → take (suc k) (set xs k x) ≡ take (suc k) ys
took_set k [] ys x lt there same = absurd (omega arith)
took_set zero (y ∷ xs) [] x lt there same = absurd (cc)
took_set (suc k) (y ∷ xs) [] x lt there same = absurd (cc)
took_set zero (y ∷ xs) (z ∷ ys) x lt there same = let e : x ≡ z = cc in ap (λ w. w ∷ []) e
took_set (suc k) (y ∷ xs) (z ∷ ys) x lt there same =
    let head : y ≡ z = cc in
    let tail : take k xs ≡ take k ys = cc in
    let rest : take (suc k) (set xs k x) ≡ take (suc k) ys = took_set k xs ys x (omega arith) there tail in
    λ i. head i ∷ rest i

module _ (q : Queue) (a : List ℕ) (b : Book) where
  -- what holds of a book at its row
  abbrev Learns : Book → Type 0
  Learns next = (HasControls (start_at next.row) → TheySay q.disk next.controls) × ControlStands q a (start_at next.row) next

  ended : (w : Way) → Learns (begins_at (start_failed w) b)
  ended way.Fine = (λ none. absurd none, tt)
  ended way.Over = (λ none. absurd none, tt)
  ended way.Absent = (λ none. absurd none, tt)
  ended way.NoMemory = (λ none. absurd none, tt)
  ended way.Broken = (λ none. absurd none, tt)

  judged : (files : List (Option (List ℕ))) (o : Option Fault) → files ≡ controls_on q.disk → first_fault files ≡ o → Learns (judged_by o (record b { files = files }))
  judged files None all none = (λ _. record { fine = ap first_fault (sym all) ∙ none; say = ap controls_of (sym all) }, tt)
  judged files (Some fault) all some = (λ none. absurd none, tt)

  module _ (content : Option (List ℕ)) (long : length b.files ≡ 12) where
    abbrev filed_at : ControlFile → List (Option (List ℕ))
    filed_at f = set b.files (place f) content

    long_at : (f : ControlFile) → length (filed_at f) ≡ 12
    long_at f = length-set b.files (place f) content ∙ long

    -- the next file comes, and the files up to this one are filed
    goes_to : (f next : ControlFile) → take (place next) (filed_at f) ≡ take (place next) (controls_on q.disk) → Learns (next_file (Some next) (record b { files = filed_at f }))
    goes_to f next same = (λ none. absurd none, record { filed = same; long = long_at f; reads = tt })

    files_to : (f : ControlFile) → content ≡ control_on q.disk f → take (place f) b.files ≡ take (place f) (controls_on q.disk) → slice_get (controls_on q.disk) (place f) ≡ Some (control_on q.disk f)
        → place f < 12 → take (suc (place f)) (filed_at f) ≡ take (suc (place f)) (controls_on q.disk)
    files_to f is same there lt = took_set (place f) b.files (controls_on q.disk) content (omega (arith, long, lt)) (there ∙ ap Some (sym is)) same

    files : (f : ControlFile) → content ≡ control_on q.disk f → take (place f) b.files ≡ take (place f) (controls_on q.disk) → Learns (filed content f b)
    files file.Me is same = goes_to file.Me file.Locals (files_to file.Me is same refl (omega arith))
    files file.Locals is same = goes_to file.Locals file.PercentHack (files_to file.Locals is same refl (omega arith))
    files file.PercentHack is same = goes_to file.PercentHack file.VirtualDomains (files_to file.PercentHack is same refl (omega arith))
    files file.VirtualDomains is same = goes_to file.VirtualDomains file.EnvNoAtHost (files_to file.VirtualDomains is same refl (omega arith))
    files file.EnvNoAtHost is same = goes_to file.EnvNoAtHost file.BounceFrom (files_to file.EnvNoAtHost is same refl (omega arith))
    files file.BounceFrom is same = goes_to file.BounceFrom file.BounceHost (files_to file.BounceFrom is same refl (omega arith))
    files file.BounceHost is same = goes_to file.BounceHost file.DoubleBounceTo (files_to file.BounceHost is same refl (omega arith))
    files file.DoubleBounceTo is same = goes_to file.DoubleBounceTo file.DoubleBounceHost (files_to file.DoubleBounceTo is same refl (omega arith))
    files file.DoubleBounceHost is same = goes_to file.DoubleBounceHost file.ConcurrencyLocal (files_to file.DoubleBounceHost is same refl (omega arith))
    files file.ConcurrencyLocal is same = goes_to file.ConcurrencyLocal file.ConcurrencyRemote (files_to file.ConcurrencyLocal is same refl (omega arith))
    files file.ConcurrencyRemote is same = goes_to file.ConcurrencyRemote file.QueueLifetime (files_to file.ConcurrencyRemote is same refl (omega arith))
    files file.QueueLifetime is same =
        let part : take 12 (filed_at file.QueueLifetime) ≡ controls_on q.disk = files_to file.QueueLifetime is same refl (omega arith) in
        let size = long_at file.QueueLifetime in
        let all : filed_at file.QueueLifetime ≡ controls_on q.disk = sym (take_all 12 (filed_at file.QueueLifetime) (omega (arith, size))) ∙ part in
        judged (filed_at file.QueueLifetime) (first_fault (filed_at file.QueueLifetime)) all refl

  goes : (f : ControlFile) (next : Reading) (bytes : List ℕ) → take (place f) b.files ≡ take (place f) (controls_on q.disk) → length b.files ≡ 12 → ReadsFile q a f next bytes
      → Learns (begins_at (start.Control f next) (record b { read = bytes }))
  goes f next bytes same long reads = (λ none. absurd none, record { filed = same; long = long; reads = reads })

  learns : (f : ControlFile) (g : Reading) (p : Progress) (s : Said) → take (place f) b.files ≡ take (place f) (controls_on q.disk) → length b.files ≡ 12
      → ReadsTo q a f p b.read (kept g b.read ++ s.bytes) → Learns (control_read p f g s b)
  learns f g (Goes Opening) s same long reads = goes f Opening (kept g b.read ++ s.bytes) same long reads
  learns f g (Goes (Going fd)) s same long reads = goes f (Going fd) (kept g b.read ++ s.bytes) same long reads
  learns f g (Goes (Closing fd)) s same long reads = goes f (Closing fd) (kept g b.read ++ s.bytes) same long reads
  learns f g (Goes (Shutting fd)) s same long reads = ended s.way
  learns f g Whole s same long reads = files (Some b.read) long f (sym reads) same
  learns f g Missing s same long reads = files None long f (sym reads) same
  learns f g Failed s same long reads = ended s.way

-- A call of it

module _ (q : Queue) (a : List ℕ) (d : Desk) (f : ControlFile) (g : Reading) (read : ℕ) (call : CallData) (told : Told) (wrote : ℕ) (role : ℕ → Role) where
  abbrev r : Queue
  r = called_queue q a read call told.answer wrote role

  abbrev next : Desk
  next = moved_by (at.Start (start.Control f g)) read (Answered told) d

  calls : FilesRead q a f g d.book → due_at (at.Start (start.Control f g)) d ≡ needs.File call → Fits q.disk call told.answer wrote → IsReadBy q.disk call told
      → (HasControls next.row → TheySay q.disk next.book.controls) × ControlStands r a next.row next.book
  calls h due fits by =
      let w = reading_to q a f d.book.read read wrote role g call told h.reads due fits by in
      let same : controls_on r.disk ≡ controls_on q.disk = ap (λ (c : ControlFile → Option (List ℕ)). map c all_files) (λ i k. w.same k i) in
      let o = learns r a d.book f g (read_on g (said (Answered told))) (said (Answered told)) (h.filed ∙ ap (take (place f)) (sym same)) h.long w.reads in
      (λ has. let says = o.0 has in record { fine = ap first_fault (sym same) ∙ says.fine; say = ap controls_of (sym same) ∙ says.say }, o.1)

-- What others do

module _ (q r : Queue) (a : List ℕ) (l : LeavesControls q r) (opens : (fd : ℕ) (how : Open) → IsHeld q.disk.opens q.holder a fd how → IsHeld r.disk.opens r.holder a fd how) where
  still_reads : (f : ControlFile) (g : Reading) (read : List ℕ) → ReadsFile q a f g read → ReadsFile r a f g read
  still_reads f Opening read h = tt
  still_reads f (Going fd) read h =
      let same : (r.disk.files h.0.number).bytes ≡ (q.disk.files h.0.number).bytes = l.bytes f h.0.number h.0.there in
      let there : HasControl r a f fd.0 = record { number = h.0.number; there = l.names f ∙ h.0.there; opened = opens fd.0 _ h.0.opened } in
      (there, h.1 ∙ ap (take (length read)) (sym same))
  still_reads f (Closing fd) read h = same_control q r l f ∙ h
  still_reads f (Shutting fd) read h = tt

  still_filed : (f : ControlFile) (g : Reading) (b : Book) → FilesRead q a f g b → FilesRead r a f g b
  still_filed f g b h = record { filed = h.filed ∙ ap (take (place f)) (sym (same_controls q r l)); long = h.long; reads = still_reads f g b.read h.reads }

  others : (row : Row) (b : Book) → ControlStands q a row b → ControlStands r a row b
  others (at.Start (start.Control f g)) b h = still_filed f g b h
  others (at.Start row) b h = tt
  others row b h = tt

pub controls_are_read : ControlsAreRead
controls_are_read = record {
  begins = λ q a turns. (record { filed = refl; long = refl; reads = tt }, λ none. none);
  calls = λ q a d f g read call told wrote role stands due fits by. calls q a d f g read call told wrote role stands due fits by;
  others = λ q r a row b l opens h. others q r a l opens row b h;
}
