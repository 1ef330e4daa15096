-- What is due of a note and of a return.
use Rattle.std.proofs.Common.{◌≡◌, ◌⊎◌, inl, inr, ℕ, List, refl, sym, ◌∙◌, ⊎_elim}
use Rattle.bounce_record.specs.declared.note_row.NoteRow.{NoteRow}
use Rattle.bounce_record.specs.declared.note_row.NoteRow.TheVariants as written
use Rattle.bounce_record.specs.declared.return_row.ReturnRow.{ReturnRow}
use Rattle.bounce_record.specs.declared.return_row.ReturnRow.TheVariants as back
use Rattle.bounce_record.specs.Returning.{Returning, due_at as return_due_at}
use Rattle.bounce_record.specs.Writing.{Writing, due_at as note_due_at}
use Rattle.call_fs.specs.declared.calls.CallData.{CallData}
use Rattle.call_fs.specs.declared.past.ChildData.{ChildData}
use Rattle.call_fs.specs.declared.past.NeedData.{NeedData}
use Rattle.call_fs.specs.declared.past.NeedData.TheVariants as needs
use Rattle.call_fs.specs.declared.program.Port.{Port}
use Rattle.call_fs.specs.declared.program.Port.TheVariants as port

-- a note only calls, or waits
abbrev OnlyCalls : NeedData → Type 0
OnlyCalls due = ((c : CallData) × (due ≡ needs.File c)) ⊎ (due ≡ needs.Wait)

note_calls : (row : NoteRow) (w : Writing) → OnlyCalls (note_due_at row w)
note_calls written.Open w = inl (_, refl)
note_calls written.Create w = inl (_, refl)
note_calls (written.Stat fd) w = inl (_, refl)
note_calls (written.Read fd place len) w = inl (_, refl)
note_calls (written.Append fd done) w = inl (_, refl)
note_calls (written.Sync fd) w = inl (_, refl)
note_calls (written.Close fd) w = inl (_, refl)
note_calls (written.Shut fd) w = inl (_, refl)
note_calls written.Written w = inr refl
note_calls written.Failed w = inr refl

only_calls : (due need : NeedData) → ((c : CallData) → needs.File c ≡ need → ⊥) → (needs.Wait ≡ need → ⊥) → OnlyCalls due → due ≡ need → ⊥
only_calls due need no_call no_wait h e = ⊎_elim (λ c. no_call c.0 (sym c.1 ∙ e)) (λ w. no_wait (sym w ∙ e)) h

pub note_gives : (row : NoteRow) (w : Writing) (p : Port) (bytes : List ℕ) → note_due_at row w ≡ needs.Give p bytes → ⊥
note_gives row w p bytes due = only_calls (note_due_at row w) (needs.Give p bytes) (λ c e. cc) (λ e. cc) (note_calls row w) due

pub note_takes : (row : NoteRow) (w : Writing) (p : Port) → note_due_at row w ≡ needs.Take p → ⊥
note_takes row w p due = only_calls (note_due_at row w) (needs.Take p) (λ c e. cc) (λ e. cc) (note_calls row w) due

pub note_starts : (row : NoteRow) (w : Writing) (asked : ChildData) → note_due_at row w ≡ needs.Start asked → ⊥
note_starts row w asked due = only_calls (note_due_at row w) (needs.Start asked) (λ c e. cc) (λ e. cc) (note_calls row w) due

pub note_runs : (row : NoteRow) (w : Writing) (text : List ℕ) → note_due_at row w ≡ needs.Command text → ⊥
note_runs row w text due = only_calls (note_due_at row w) (needs.Command text) (λ c e. cc) (λ e. cc) (note_calls row w) due

-- a return gives nothing to the cleaner, and takes nothing of it
pub return_gives : (row : ReturnRow) (it : Returning) (text : List ℕ) → return_due_at row it ≡ needs.Give port.Clean text → ⊥
return_gives (back.Give pid) it text due = cc
return_gives back.Open it text due = cc
return_gives (back.ReadNotes fd) it text due = cc
return_gives (back.CloseNotes fd) it text due = cc
return_gives back.OpenMessage it text due = cc
return_gives (back.ReadMessage fd) it text due = cc
return_gives (back.CloseMessage fd) it text due = cc
return_gives (back.Shut fd) it text due = cc
return_gives back.Start it text due = cc
return_gives (back.Await pid) it text due = cc
return_gives back.Unlink it text due = cc
return_gives back.Discard it text due = cc
return_gives back.Over it text due = cc
return_gives back.Failed it text due = cc

pub return_takes : (row : ReturnRow) (it : Returning) → return_due_at row it ≡ needs.Take port.Clean → ⊥
return_takes (back.Await pid) it due = cc
return_takes (back.Give pid) it due = cc
return_takes back.Open it due = cc
return_takes (back.ReadNotes fd) it due = cc
return_takes (back.CloseNotes fd) it due = cc
return_takes back.OpenMessage it due = cc
return_takes (back.ReadMessage fd) it due = cc
return_takes (back.CloseMessage fd) it due = cc
return_takes (back.Shut fd) it due = cc
return_takes back.Start it due = cc
return_takes back.Unlink it due = cc
return_takes back.Discard it due = cc
return_takes back.Over it due = cc
return_takes back.Failed it due = cc

-- it starts a program only at its start, and runs no command
pub return_starts : (row : ReturnRow) (it : Returning) (asked : ChildData) → return_due_at row it ≡ needs.Start asked → (row ≡ back.Start) × (return_due_at back.Start it ≡ needs.Start asked)
return_starts back.Start it asked due = (refl, due)
return_starts (back.Give pid) it asked due = absurd (cc)
return_starts back.Open it asked due = absurd (cc)
return_starts (back.ReadNotes fd) it asked due = absurd (cc)
return_starts (back.CloseNotes fd) it asked due = absurd (cc)
return_starts back.OpenMessage it asked due = absurd (cc)
return_starts (back.ReadMessage fd) it asked due = absurd (cc)
return_starts (back.CloseMessage fd) it asked due = absurd (cc)
return_starts (back.Shut fd) it asked due = absurd (cc)
return_starts (back.Await pid) it asked due = absurd (cc)
return_starts back.Unlink it asked due = absurd (cc)
return_starts back.Discard it asked due = absurd (cc)
return_starts back.Over it asked due = absurd (cc)
return_starts back.Failed it asked due = absurd (cc)

pub return_runs : (row : ReturnRow) (it : Returning) (text : List ℕ) → return_due_at row it ≡ needs.Command text → ⊥
return_runs (back.Give pid) it text due = cc
return_runs back.Open it text due = cc
return_runs (back.ReadNotes fd) it text due = cc
return_runs (back.CloseNotes fd) it text due = cc
return_runs back.OpenMessage it text due = cc
return_runs (back.ReadMessage fd) it text due = cc
return_runs (back.CloseMessage fd) it text due = cc
return_runs (back.Shut fd) it text due = cc
return_runs back.Start it text due = cc
return_runs (back.Await pid) it text due = cc
return_runs back.Unlink it text due = cc
return_runs back.Discard it text due = cc
return_runs back.Over it text due = cc
return_runs back.Failed it text due = cc
