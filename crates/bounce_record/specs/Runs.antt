-- Runs of the two machines: what they did was due, and nothing else; and what a written note leaves on a disk.
use Rattle.std.specs.Prelude.{◌≡◌, ℕ, List, [], ◌∷◌, Option, Some, None}
use Rattle.address_rules.specs.declared.controls.Controls.{Controls}
use Rattle.address_rules.specs.Names.{stripped}
use Rattle.call_fs.specs.declared.calls.CallData.TheVariants as call
use Rattle.call_fs.specs.declared.past.ChildData.TheVariants as child
use Rattle.call_fs.specs.declared.past.GotData.TheVariants as came
use Rattle.call_fs.specs.declared.past.NeedData.{NeedData}
use Rattle.call_fs.specs.declared.past.NeedData.TheVariants as needs
use Rattle.call_fs.specs.declared.past.Own.{Own}
use Rattle.call_fs.specs.declared.program.Port.TheVariants as port
use Rattle.call_fs.specs.declared.program.Ready.{Ready}
use Rattle.call_fs.specs.Disk.{File, Disk, IsWhole}
use Rattle.call_fs.specs.Past.{IsRunBy, LeadsTo, UsesHeld, held}
use Rattle.bounce_record.specs.declared.bounces.Bounce.{Bounce}
use Rattle.bounce_record.specs.declared.note_row.NoteRow.{NoteRow}
use Rattle.bounce_record.specs.declared.note_row.NoteRow.TheVariants as at
use Rattle.bounce_record.specs.Bounces.{bounce_of}
use Rattle.bounce_record.specs.Notes.{with_note}
use Rattle.bounce_record.specs.Returning.{Returning, due_by as return_due, input_of, message_path, return_begun, moved as return_moved, room_of}
use Rattle.bounce_record.specs.Writing.{Writing, bounce_path, due_by as note_due, writing_begun, moved as note_moved}

-- the note after a past, newest event first
abbrev pub written_after : Writing → List Own → Writing
written_after first [] = first
written_after first (event ∷ before) = note_moved (written_after first before) event.came

abbrev pub WritingNext : Writing → List Own → ℕ → Ready → NeedData
WritingNext first past now ready = note_due (written_after first past)

-- the writing of the note of this recipient of message n
pub record NoteOf : Type 0 where
  pub controls : Controls
  pub n : ℕ
  pub address : List ℕ
  pub report : List ℕ

abbrev pub begun : NoteOf → Writing
begun it = writing_begun it.controls it.n it.address it.report

abbrev pub IsWriting : NoteOf → List Own → Type 0
IsWriting it past = IsRunBy (WritingNext (begun it)) past

-- the return after a past, of a message of this sender
abbrev pub returned_after : Controls → List ℕ → ℕ → List Own → Returning
returned_after controls sender n [] = return_begun n
returned_after controls sender n (event ∷ before) = return_moved controls sender (returned_after controls sender n before) event.read event.came

abbrev pub ReturnNext : Controls → List ℕ → ℕ → List Own → ℕ → Ready → NeedData
ReturnNext controls sender n past now ready = return_due (returned_after controls sender n past)

abbrev pub IsReturn : Controls → List ℕ → ℕ → List Own → Type 0
IsReturn controls sender n past = IsRunBy (ReturnNext controls sender n) past

-- a call uses only what is held open then
pub record CallsUseWhatIsHeld : Type 0 where
  pub writing : (it : NoteOf) (past : List Own) → IsWriting it past → UsesHeld (held past) (note_due (written_after (begun it) past))
  pub returning : (controls : Controls) (sender : List ℕ) (n : ℕ) (past : List Own) → IsReturn controls sender n past
      → UsesHeld (held past) (return_due (returned_after controls sender n past))

-- the bytes of a name; none if it is missing
abbrev pub bytes_of : Option ℕ → (ℕ → File) → List ℕ
bytes_of None files = []
bytes_of (Some k) files = (files k).bytes

abbrev pub bytes_at : Disk → List ℕ → List ℕ
bytes_at d name = bytes_of (d.names name) d.files

-- the note is in the file: what is left is the close, or nothing
abbrev pub IsWrittenRow : NoteRow → Type 0
IsWrittenRow (at.Close fd) = Unit {0}
IsWrittenRow at.Written = Unit {0}
IsWrittenRow row = ⊥

-- If its calls alone were made on a disk: once the note is written, the bounce file is what it was with the note at its end, and
-- all of it is on the disk.
abbrev pub NotesAreWritten : Type 0
NotesAreWritten = (it : NoteOf) (past : List Own) (first last : Disk) → IsWriting it past → LeadsTo first past last
    → IsWrittenRow (written_after (begun it) past).row
    → IsWhole last (bounce_path it.n) (with_note (bytes_at first (bounce_path it.n)) (stripped it.controls.virtual_domains it.address) it.report)

-- the newest events injected this bounce: its injector was started with the room for it, given it whole, and ended with 0
pub record IsInjected (past : List Own) (b : Bounce) : Type 0 where
  pub ended : Own
  pub given : Own
  pub started : Own
  pub before : List Own
  pub pid : ℕ
  pub newest : past ≡ ended ∷ given ∷ started ∷ before
  pub start : started.due ≡ needs.Start (child.Bounce (room_of b))
  pub begun : started.came ≡ came.Started pid
  pub input : given.due ≡ needs.Give (port.Program 0) (input_of b)
  pub gave : given.came ≡ came.Gave
  pub status : ended.due ≡ needs.Take (port.Status 0)
  pub zero : ended.came ≡ came.Ended 0

-- what comes of a message of this sender with these two files at some moment: nothing, or a bounce that was just injected
abbrev pub IsSettled : List Own → Option Bounce → Type 0
IsSettled past None = Unit {0}
IsSettled past (Some b) = IsInjected past b

abbrev pub IsReturned : Controls → List ℕ → List ℕ → List ℕ → List Own → Type 0
IsReturned c sender notes message past =
    (now : ℕ) × IsSettled past (bounce_of c.bounce_from c.bounce_host c.double_bounce_to c.double_bounce_host sender notes message now)

-- If its calls alone were made on a disk: a file is unlinked only once the bounce of all that the bounce file and the message file
-- held was injected, or if nothing comes of them.
abbrev pub UnlinksWhatIsReturned : Type 0
UnlinksWhatIsReturned = (controls : Controls) (sender : List ℕ) (n : ℕ) (past : List Own) (first last : Disk) (name : List ℕ) → IsReturn controls sender n past
    → LeadsTo first past last → return_due (returned_after controls sender n past) ≡ needs.File (call.Unlink name)
    → IsReturned controls sender (bytes_at first (bounce_path n)) (bytes_at first (message_path n)) past
