-- What a sender has read of the bounce file that it closes, by its past: all of it.
use Rattle.std.proofs.Common.{◌≡◌, ℕ, List, [], ◌∷◌, ◌++◌, length, Bool, true, false, Option, Some, None, refl, sym, ap, ◌∙◌, subst, bytes_eq, nat_lt}
use Rattle.std.specs.Prelude.{◌==◌, if◌then◌else◌}
use Rattle.std.proofs.lemmas.Slice.Eq.{bytes_eq-Decides}
use Rattle.address_rules.specs.declared.controls.Controls.{Controls}
use Rattle.bounce_record.specs.declared.bounces.Bounce.{Bounce}
use Rattle.bounce_record.specs.declared.return_row.ReturnRow.{ReturnRow}
use Rattle.bounce_record.specs.declared.return_row.ReturnRow.TheVariants as back
use Rattle.bounce_record.specs.Returning.{Returning, awaited_row, bounce_at, due_at, given_row, goes, made, message_opened, message_read, moved, moved_at, notes_opened, notes_read, return_begun, started_row, unlinked_row}
use Rattle.bounce_record.specs.Writing.{bounce_path}
use Rattle.call_fs.specs.declared.calls.Answer.{Answer}
use Rattle.call_fs.specs.declared.calls.Answer.TheVariants as answer
use Rattle.call_fs.specs.declared.calls.CallData.TheVariants as call
use Rattle.call_fs.specs.declared.calls.Fd.{Fd}
use Rattle.call_fs.specs.declared.calls.FsError.TheVariants as why
use Rattle.call_fs.specs.declared.calls.How.TheVariants as how
use Rattle.call_fs.specs.declared.file_system.TheConstants.{PIECE}
use Rattle.call_fs.specs.declared.past.GotData.{GotData}
use Rattle.call_fs.specs.declared.past.GotData.TheVariants as came
use Rattle.call_fs.specs.declared.past.NeedData.{NeedData}
use Rattle.call_fs.specs.declared.past.NeedData.TheVariants as needs
use Rattle.call_fs.specs.declared.past.Own.{Own}
use Rattle.call_fs.specs.declared.program.Ready.{Ready}
use Rattle.call_fs.specs.Past.{IsRunBy}
use Rattle.local_deliver.specs.Deeds.{FileText, added, last_opened, opens_by, piece_of, read_of, reads_by}
use Rattle.local_deliver.specs.Deeds.FileText.{SoFar, Whole}
use Rattle.send_core.specs.declared.desk.Desk.{Desk}
use Rattle.send_core.specs.Table.{Next, place_after as sender_after, row_now}
use Rattle.send_parts.specs.declared.row.Row.{Row}
use Rattle.send_parts.specs.declared.row.Row.TheVariants as at
use Rattle.send_parts.specs.declared.rows.FinishRow.TheVariants as finish
use Rattle.mail_world.proofs.ReturnSteps.{At, arrives_at, led_by}

same_bytes : (bytes : List ℕ) → bytes_eq bytes bytes ≡ true
same_bytes bytes = (bytes_eq-Decides bytes bytes).1 refl

-- Of the file of this name, which was read so, in a past that opened this file last: what a return stands by at a row. It has read nothing before
-- its open; what it has of the file while it reads it; and all of it at its close.
abbrev Stands : (name : List ℕ) → FileText → (opened : List ℕ) → ReturnRow → Returning → Type 0
Stands name text opened back.Open r = (bounce_path r.n ≡ name) × (r.notes ≡ [])
Stands name text opened (back.ReadNotes fd) r = (opened ≡ name) × (text ≡ SoFar r.notes)
Stands name text opened (back.CloseNotes fd) r = text ≡ Whole r.notes
Stands name text opened row r = Unit {0}

module _ (name : List ℕ) (text : FileText) (opened : List ℕ) where
  -- after what came of what was due
  abbrev Then : NeedData → GotData → Returning → Type 0
  Then due got r = Stands name (reads_by name opened text due got) (opens_by opened due got) r.row r

  abbrev at_step : ReturnRow → Returning → Returning
  at_step row r = record r { row = row }

  opens : (r : Returning) (told : Answer) (bytes : List ℕ) → bounce_path r.n ≡ name → r.notes ≡ []
      → Then (needs.File (call.Open (bounce_path r.n) how.Read)) (came.Answered (record { answer = told; bytes = bytes })) (goes r (notes_opened told))
  opens r (answer.Opened fd) bytes same none = (
    same,
    ap (λ (b : Bool). if b then SoFar [] else text) (subst (λ (other : List ℕ). bytes_eq other name ≡ true) (sym same) (same_bytes name)) ∙ ap SoFar (sym none),
  )
  opens r (answer.Refused why.NotThere) bytes same none = tt
  opens r told bytes same none = tt

  reads : (r : Returning) (fd : Fd) (from : ℕ) (told : Answer) (bytes : List ℕ) → opened ≡ name → text ≡ SoFar r.notes
      → Then (needs.File (call.ReadAt fd from PIECE)) (came.Answered (record { answer = told; bytes = bytes })) (notes_read r fd told bytes)
  reads r fd from (answer.Count count) bytes same so_far =
      subst (λ (x : FileText). Read x (nat_lt (length bytes) PIECE)) (sym is) (by (nat_lt (length bytes) PIECE))
    where
      Read : FileText → Bool → Type 0
      Read x last = let row = if last then back.CloseNotes fd else back.ReadNotes fd in Stands name x opened row (record r { row = row; notes = r.notes ++ bytes })

      by : (last : Bool) → Read (piece_of r.notes bytes last) last
      by true = refl
      by false = (same, refl)

      is : (if bytes_eq opened name then added text bytes (nat_lt (length bytes) PIECE) else text) ≡ piece_of r.notes bytes (nat_lt (length bytes) PIECE)
      is = ap (λ (b : Bool). if b then added text bytes (nat_lt (length bytes) PIECE) else text) (subst (λ (other : List ℕ). bytes_eq other name ≡ true) (sym same) (same_bytes name))
          ∙ ap (λ (x : FileText). added x bytes (nat_lt (length bytes) PIECE)) so_far
  reads r fd from told bytes same so_far = tt

  message_opens : (due : NeedData) (got : GotData) (r : Returning) (told : Answer) → Then due got (goes r (message_opened told))
  message_opens due got r (answer.Opened fd) = tt
  message_opens due got r told = tt

  message_by : (due : NeedData) (got : GotData) (last : Bool) (fd : Fd) (r : Returning) → Then due got (record r { row = (if last then back.CloseMessage fd else back.ReadMessage fd) })
  message_by due got true fd r = tt
  message_by due got false fd r = tt

  message_reads : (due : NeedData) (got : GotData) (r : Returning) (fd : Fd) (told : Answer) (bytes : List ℕ) → Then due got (message_read r fd told bytes)
  message_reads due got r fd (answer.Count count) bytes = message_by due got (nat_lt (length bytes) PIECE) fd (record r { message = r.message ++ bytes })
  message_reads due got r fd told bytes = tt

  makes : (due : NeedData) (got : GotData) (r : Returning) (o : Option Bounce) → Then due got (made r o)
  makes due got r None = tt
  makes due got r (Some b) = tt

  unlinks : (due : NeedData) (got : GotData) (r : Returning) (told : Answer) → Then due got (goes r (unlinked_row told))
  unlinks due got r answer.Done = tt
  unlinks due got r told = tt

  starts : (due : NeedData) (r : Returning) (got : GotData) → Then due got (goes r (started_row got))
  starts due r (came.Started pid) = tt
  starts due r got = tt

  gives : (due : NeedData) (pid : ℕ) (r : Returning) (got : GotData) → Then due got (goes r (given_row pid got))
  gives due pid r came.Gave = tt
  gives due pid r got = tt

  ends : (due : NeedData) (got : GotData) (zero : Bool) (r : Returning) → Then due got (goes r (if zero then back.Unlink else back.Failed))
  ends due got true r = tt
  ends due got false r = tt

  awaits : (due : NeedData) (r : Returning) (got : GotData) → Then due got (goes r (awaited_row got))
  awaits due r (came.Ended status) = ends due (came.Ended status) (status == 0) r
  awaits due r got = tt

  moves : (controls : Controls) (sender : List ℕ) (row : ReturnRow) (r : Returning) (now : ℕ) (got : GotData) → Stands name text opened row (at_step row r)
      → Then (due_at row (at_step row r)) got (moved_at controls sender row (at_step row r) now got)
  moves controls sender back.Start r now got h = starts (due_at back.Start (at_step back.Start r)) (at_step back.Start r) got
  moves controls sender (back.Give pid) r now got h = gives (due_at (back.Give pid) (at_step (back.Give pid) r)) pid (at_step (back.Give pid) r) got
  moves controls sender (back.Await pid) r now got h = awaits (due_at (back.Await pid) (at_step (back.Await pid) r)) (at_step (back.Await pid) r) got
  moves controls sender back.Open r now (came.Answered told) h = opens (at_step back.Open r) told.answer told.bytes h.0 h.1
  moves controls sender (back.ReadNotes fd) r now (came.Answered told) h = reads (at_step (back.ReadNotes fd) r) fd (length r.notes) told.answer told.bytes h.0 h.1
  moves controls sender (back.CloseNotes fd) r now (came.Answered told) h = tt
  moves controls sender back.OpenMessage r now (came.Answered told) h = message_opens (due_at back.OpenMessage (at_step back.OpenMessage r)) (came.Answered told) (at_step back.OpenMessage r) told.answer
  moves controls sender (back.ReadMessage fd) r now (came.Answered told) h = message_reads (due_at (back.ReadMessage fd) (at_step (back.ReadMessage fd) r)) (came.Answered told) (at_step (back.ReadMessage fd) r) fd told.answer told.bytes
  moves controls sender (back.CloseMessage fd) r now (came.Answered told) h = makes (due_at (back.CloseMessage fd) (at_step (back.CloseMessage fd) r)) (came.Answered told) (at_step (back.CloseMessage fd) r) (bounce_at controls sender (at_step (back.CloseMessage fd) r) now)
  moves controls sender (back.Shut fd) r now (came.Answered told) h = tt
  moves controls sender back.Unlink r now (came.Answered told) h = unlinks (due_at back.Unlink (at_step back.Unlink r)) (came.Answered told) (at_step back.Unlink r) told.answer
  moves controls sender back.Discard r now (came.Answered told) h = unlinks (due_at back.Discard (at_step back.Discard r)) (came.Answered told) (at_step back.Discard r) told.answer
  moves controls sender back.Over r now (came.Answered told) h = tt
  moves controls sender back.Failed r now (came.Answered told) h = tt
  moves controls sender row r now got h = h

begins : (text : FileText) (opened : List ℕ) (controls : Controls) (sender : List ℕ) (n now : ℕ) (got : GotData)
    → Then (bounce_path n) text opened (needs.File (call.Open (bounce_path n) how.Read)) got (moved controls sender (return_begun n) now got)
begins text opened controls sender n now (came.Answered told) = opens (bounce_path n) text opened (return_begun n) told.answer told.bytes refl refl
begins text opened controls sender n now got = (refl, refl)

-- So each sender stands at its return.
abbrev StandsNow : List Own → Returning → ℕ → Type 0
StandsNow past r n = Stands (bounce_path n) (read_of (bounce_path n) past) (last_opened past) r.row r

stands : (past : List Own) → IsRunBy (Next None) past → At (sender_after None past).row (StandsNow past (sender_after None past).bounce)
stands [] run = tt
stands (own ∷ before) run =
    let d : Desk = sender_after None before in
    let r : Returning = (sender_after None (own ∷ before)).bounce in
    let text : ℕ → FileText = λ n. read_of (bounce_path n) before in
    let opened : List ℕ = last_opened before in
    subst (λ (due : NeedData). At (sender_after None (own ∷ before)).row (λ n. Stands (bounce_path n) (reads_by (bounce_path n) opened (text n) due own.came) (opens_by opened due own.came) r.row r)) run.1.0
    (led_by (λ n it. Stands (bounce_path n) (text n) opened it.row it)
    (λ n due got it. Stands (bounce_path n) (reads_by (bounce_path n) opened (text n) due got) (opens_by opened due got) it.row it)
    (λ controls sender n now got. begins (text n) opened controls sender n now got)
    (λ controls sender n it now got h. moves (bounce_path n) (text n) opened controls sender it.row it now got h)
    d own.read own.ready own.came (stands before run.0))

-- where it closes the bounce file, it has read all of it
pub all_read : (past : List Own) → IsRunBy (Next None) past → (now : ℕ) (ready : Ready) (n : ℕ) (fd : Fd) → row_now (sender_after None past) now ready ≡ at.Finish finish.Return n
    → (sender_after None past).bounce.row ≡ back.CloseNotes fd → read_of (bounce_path n) past ≡ Whole (sender_after None past).bounce.notes
all_read past run now ready n fd is closes =
    let d : Desk = sender_after None past in
    let there : At (row_now d now ready) (StandsNow past d.bounce) = arrives_at (StandsNow past d.bounce) d.row d now ready (stands past run) in
    let here : StandsNow past d.bounce n = subst (λ (row : Row). At row (StandsNow past d.bounce)) is there in
    subst (λ (row : ReturnRow). Stands (bounce_path n) (read_of (bounce_path n) past) (last_opened past) row d.bounce) closes here
