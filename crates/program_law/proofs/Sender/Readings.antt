-- A reading of a file that preprocessing made.
use Rattle.std.proofs.Common.{◌≡◌, ℕ, ◌≤◌, ◌<◌, List, [], ◌++◌, length, take, drop, min, Bool, true, false, Some, refl, sym, ap, ◌∙◌, subst, arith, append_assoc, length-take}
use Rattle.std.specs.Prelude.{if◌then◌else◌, nat_lt}
use Rattle.std.proofs.lemmas.Bool.{ltb-true}
use Rattle.std.proofs.lemmas.List.{take_all, take_at, take-append-drop}
use Rattle.call_fs.specs.declared.calls.Answer.{Answer}
use Rattle.call_fs.specs.declared.calls.Answer.TheVariants as answer
use Rattle.call_fs.specs.declared.calls.CallData.{CallData}
use Rattle.call_fs.specs.declared.calls.CallData.TheVariants as call
use Rattle.call_fs.specs.declared.calls.Fd.{Fd}
use Rattle.call_fs.specs.declared.calls.FsError.TheVariants as why
use Rattle.call_fs.specs.declared.calls.How.TheVariants as how
use Rattle.call_fs.specs.declared.calls.Told.{Told}
use Rattle.call_fs.specs.declared.file_system.TheConstants.{PIECE}
use Rattle.call_fs.specs.declared.past.NeedData.TheVariants as needs
use Rattle.call_fs.specs.Apply.{Fits, IsReadBy, from_place}
use Rattle.queue_paths.specs.declared.names.Name.{Name as Owned}
use Rattle.queue_paths.specs.Names.{Part, name_of, path}
use Rattle.queue_paths.specs.Names.Name.{Of}
use Rattle.send_parts.specs.declared.reading.Progress.TheVariants.{Goes, Whole, Failed}
use Rattle.send_parts.specs.declared.reading.Reading.{Reading}
use Rattle.send_parts.specs.declared.reading.Reading.TheVariants.{Opening, Going, Closing, Shutting}
use Rattle.send_parts.specs.declared.step.Step.TheVariants as step
use Rattle.send_parts.specs.Readings.{read_on, reading_step}
use Rattle.send_parts.specs.Replies.{answered}
use Rattle.send_parts.specs.Start.{kept}
use Rattle.send_parts.specs.Steps.{due_by}
use Rattle.queue_law.specs.Numbers.{Queue, Entry, entry, Sound}
use Rattle.queue_law.specs.Senders.{called_queue}
use Rattle.queue_law.proofs.Looks.{find_some, found}
use Rattle.queue_law.proofs.Opens.{opened_held}
use Rattle.queue_law.proofs.Sends.{reads_keep}
use Rattle.program_law.specs.Sender.Rows.{HasText, IsReadIn, Reads}
use Rattle.program_law.specs.Sender.Readings.{ReadingLeads, ReadsOn}
use Rattle.program_law.proofs.Sender.Gone.{file_call}

-- Pieces of a text

pub split_at : (bytes before : List ℕ) → before ≡ take (length before) bytes → before ++ drop (length before) bytes ≡ bytes
split_at bytes before e = ap (λ t. t ++ drop (length before) bytes) e ∙ take-append-drop (length before) bytes

pub piece_begins : (bytes before : List ℕ) (k : ℕ) → before ≡ take (length before) bytes
    → before ++ take k (drop (length before) bytes) ≡ take (length (before ++ take k (drop (length before) bytes))) bytes
piece_begins bytes before k e =
    let rest : List ℕ = drop (length before) bytes in
    let front : List ℕ = before ++ take k rest in
    let whole : front ++ drop k rest ≡ bytes = append_assoc before (take k rest) (drop k rest) ∙ ap (λ t. before ++ t) (take-append-drop k rest) ∙ split_at bytes before e in
    sym (take_at front (drop k rest) (length front) refl) ∙ ap (take (length front)) whole

pub piece_ends : (bytes before : List ℕ) (k : ℕ) → before ≡ take (length before) bytes → k ≡ min PIECE (length (drop (length before) bytes))
    → length (take k (drop (length before) bytes)) < PIECE → before ++ take k (drop (length before) bytes) ≡ bytes
piece_ends bytes before k e size lt =
    let rest : List ℕ = drop (length before) bytes in
    let long = length-take k rest in
    let all : length rest ≤ k = omega (arith, size, lt, long) in
    ap (λ t. before ++ t) (take_all k rest all) ∙ split_at bytes before e

module _ (now : ℕ) (q : Queue) (a : List ℕ) (G : Sound q) (part : Part) (n : ℕ) (before : List ℕ) (read wrote : ℕ) where
  abbrev after : CallData → Answer → Queue
  after c told = called_queue q a read c told wrote q.role

  abbrev opening : CallData
  opening = call.Open (path (Of part n)) how.Read

  opened_on : (fd : Fd) → Fits q.disk opening (answer.Opened fd) wrote → IsReadIn (after opening (answer.Opened fd)) a part n fd.0 []
  opened_on fd fits =
      let w = opened_held q a read (path (Of part n)) how.Read fd wrote fits in
      record { held = record { file = entry q.disk.files w.0; there = find_some q.disk.names q.disk.files (Of part n) w.0 w.1; opened = w.2 }; begins = refl }

  at_opening : (told : Answer) (bytes : List ℕ) → Fits q.disk opening told wrote
      → ReadingLeads now a q (after opening told) part n (read_on Opening (answered told bytes)) before (kept Opening before ++ (answered told bytes).bytes)
  at_opening (answer.Opened fd) bytes fits = record { leads = reads_keep now q a G read opening (answer.Opened fd) wrote tt fits; reads = opened_on fd fits }
  at_opening (answer.Refused why.NotThere) bytes fits = record { leads = reads_keep now q a G read opening (answer.Refused why.NotThere) wrote tt fits; reads = tt }
  at_opening (answer.Refused why.Fault) bytes fits = record { leads = reads_keep now q a G read opening (answer.Refused why.Fault) wrote tt fits; reads = tt }
  at_opening (answer.Refused why.Memory) bytes fits = record { leads = reads_keep now q a G read opening (answer.Refused why.Memory) wrote tt fits; reads = tt }
  at_opening (answer.Refused why.Exists) bytes fits = absurd fits
  at_opening (answer.Created fd k) bytes fits = absurd fits
  at_opening (answer.Count k) bytes fits = absurd fits
  at_opening answer.Done bytes fits = absurd fits
  at_opening (answer.Stat s) bytes fits = absurd fits
  at_opening (answer.Name k) bytes fits = absurd fits
  at_opening answer.NoName bytes fits = absurd fits

  abbrev taking : Fd → CallData
  taking fd = call.ReadAt fd (length before) PIECE

  module _ (fd : Fd) (h : IsReadIn q a part n fd.0 before) where
    abbrev file_bytes : List ℕ
    file_bytes = h.held.file.file.bytes

    from_here : from_place q.disk (q.disk.opens fd.0) (length before) ≡ drop (length before) file_bytes
    from_here =
        let same : h.held.file ≡ entry q.disk.files h.held.file.number = (found q.disk.names q.disk.files (Of part n) h.held.file h.held.there).1 in
        ap (λ o. from_place q.disk o (length before)) h.held.opened.opened ∙ ap (λ (y : Entry). drop (length before) y.file.bytes) (sym same)

    by_length : (k : ℕ) (bytes : List ℕ) (b : Bool) → nat_lt (length bytes) PIECE ≡ b → k ≡ min PIECE (length (drop (length before) file_bytes))
        → bytes ≡ take k (drop (length before) file_bytes)
        → ReadsOn (after (taking fd) (answer.Count k)) a part n (if b then Goes (Closing fd) else Goes (Going fd)) before (before ++ bytes)
    by_length k bytes true e size is =
        let lt : length bytes < PIECE = ltb-true (length bytes) PIECE e in
        let short : length (take k (drop (length before) file_bytes)) < PIECE = subst (λ t. length t < PIECE) is lt in
        let text : before ++ bytes ≡ file_bytes = ap (λ t. before ++ t) is ∙ piece_ends file_bytes before k h.begins size short in (
          (_, h.held.opened),
          record { file = h.held.file; there = h.held.there; text = text },
        )
    by_length k bytes false e size is =
        let grown : before ++ bytes ≡ take (length (before ++ bytes)) file_bytes =
        subst (λ t. before ++ t ≡ take (length (before ++ t)) file_bytes) (sym is) (piece_begins file_bytes before k h.begins) in
        record { held = record { file = h.held.file; there = h.held.there; opened = h.held.opened }; begins = grown }

    pub at_going : (told : Answer) (bytes : List ℕ) → Fits q.disk (taking fd) told wrote → IsReadBy q.disk (taking fd) (record { answer = told; bytes = bytes })
        → ReadingLeads now a q (after (taking fd) told) part n (read_on (Going fd) (answered told bytes)) before (kept (Going fd) before ++ (answered told bytes).bytes)
    at_going (answer.Count k) bytes fits by = record {
      leads = reads_keep now q a G read (taking fd) (answer.Count k) wrote tt fits;
      reads = by_length k bytes (nat_lt (length bytes) PIECE) refl (fits.1 ∙ ap (λ t. min PIECE (length t)) from_here) (by ∙ ap (take k) from_here);
    }
    at_going (answer.Refused why.Fault) bytes fits by = record {
      leads = reads_keep now q a G read (taking fd) (answer.Refused why.Fault) wrote tt fits;
      reads = (_, h.held.opened);
    }
    at_going (answer.Refused why.NotThere) bytes fits by = absurd fits
    at_going (answer.Refused why.Memory) bytes fits by = absurd fits
    at_going (answer.Refused why.Exists) bytes fits by = absurd fits
    at_going (answer.Created f k) bytes fits by = absurd fits
    at_going (answer.Opened f) bytes fits by = absurd fits
    at_going answer.Done bytes fits by = absurd fits
    at_going (answer.Stat s) bytes fits by = absurd fits
    at_going (answer.Name k) bytes fits by = absurd fits
    at_going answer.NoName bytes fits by = absurd fits

  at_closing : (fd : Fd) (told : Answer) (bytes : List ℕ) → q.holder fd.0 ≡ Some a → HasText q part n before → Fits q.disk (call.Close fd) told wrote
      → ReadingLeads now a q (after (call.Close fd) told) part n Whole before (before ++ (answered told bytes).bytes)
  at_closing fd answer.Done bytes holds h fits = record {
    leads = reads_keep now q a G read (call.Close fd) answer.Done wrote holds fits;
    reads = record { file = h.file; there = h.there; text = h.text };
  }
  at_closing fd told bytes holds h fits = absurd fits

  at_shutting : (fd : Fd) (told : Answer) (bytes : List ℕ) → q.holder fd.0 ≡ Some a → Fits q.disk (call.Close fd) told wrote
      → ReadingLeads now a q (after (call.Close fd) told) part n Failed before (before ++ (answered told bytes).bytes)
  at_shutting fd answer.Done bytes holds fits = record { leads = reads_keep now q a G read (call.Close fd) answer.Done wrote holds fits; reads = tt }
  at_shutting fd told bytes holds fits = absurd fits

  pub readings : (name : Owned) (g : Reading) (c : CallData) (told : Told) → name_of name ≡ Of part n → Reads q a part n g before
      → due_by (reading_step g (step.Open name how.Read) (length before)) [] ≡ needs.File c → Fits q.disk c told.answer wrote → IsReadBy q.disk c told
      → ReadingLeads now a q (after c told.answer) part n (read_on g (answered told.answer told.bytes)) before (kept g before ++ (answered told.answer told.bytes).bytes)
  readings name Opening c told named h due fits by =
      let same : c ≡ opening = sym (file_call (call.Open (path (name_of name)) how.Read) c due) ∙ ap (λ x. call.Open (path x) how.Read) named in
      subst (λ z. ReadingLeads now a q (after z told.answer) part n (read_on Opening (answered told.answer told.bytes)) before (kept Opening before ++ (answered told.answer told.bytes).bytes))
      (sym same) (at_opening told.answer told.bytes (subst (λ z. Fits q.disk z told.answer wrote) same fits))
  readings name (Going fd) c told named h due fits by =
      let same : c ≡ taking fd = sym (file_call (taking fd) c due) in
      subst (λ z. ReadingLeads now a q (after z told.answer) part n (read_on (Going fd) (answered told.answer told.bytes)) before (kept (Going fd) before ++ (answered told.answer told.bytes).bytes))
      (sym same) (at_going fd h told.answer told.bytes (subst (λ z. Fits q.disk z told.answer wrote) same fits) (subst (λ z. IsReadBy q.disk z told) same by))
  readings name (Closing fd) c told named h due fits by =
      let same : c ≡ call.Close fd = sym (file_call (call.Close fd) c due) in
      subst (λ z. ReadingLeads now a q (after z told.answer) part n Whole before (before ++ (answered told.answer told.bytes).bytes))
      (sym same) (at_closing fd told.answer told.bytes h.0.1.held h.1 (subst (λ z. Fits q.disk z told.answer wrote) same fits))
  readings name (Shutting fd) c told named h due fits by =
      let same : c ≡ call.Close fd = sym (file_call (call.Close fd) c due) in
      subst (λ z. ReadingLeads now a q (after z told.answer) part n Failed before (before ++ (answered told.answer told.bytes).bytes))
      (sym same) (at_shutting fd told.answer told.bytes h.1.held (subst (λ z. Fits q.disk z told.answer wrote) same fits))
