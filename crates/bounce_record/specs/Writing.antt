-- How a note is put at the end of a message's bounce file (qmail-send(8); INTERNALS, section 5): each step, and where its
-- answer leads. If no row names an answer, it leads where a failure does. What is open is closed after a failure.
use Rattle.std.specs.Prelude.{ℕ, ◌+◌, ◌-◌, min, List, [], ◌∷◌, length, take, drop, if◌then◌else◌, nat_eq, nat_lt}
use Rattle.std.specs.List.{ends_with}
use Rattle.address_rules.specs.declared.controls.Controls.{Controls}
use Rattle.address_rules.specs.Names.{stripped}
use Rattle.call_fs.specs.declared.file_system.TheConstants.{PIECE}
use Rattle.call_fs.specs.declared.calls.Answer.{Answer}
use Rattle.call_fs.specs.declared.calls.Answer.TheVariants as answer
use Rattle.call_fs.specs.declared.calls.CallData.TheVariants as call
use Rattle.call_fs.specs.declared.calls.Fd.{Fd}
use Rattle.call_fs.specs.declared.calls.FsError.TheVariants as why
use Rattle.call_fs.specs.declared.calls.How.TheVariants as how
use Rattle.call_fs.specs.declared.past.GotData.{GotData}
use Rattle.call_fs.specs.declared.past.GotData.TheVariants as came
use Rattle.call_fs.specs.declared.past.NeedData.{NeedData}
use Rattle.call_fs.specs.declared.past.NeedData.TheVariants as needs
use Rattle.queue_paths.specs.Names.{path}
use Rattle.queue_paths.specs.Names.Name.{Of}
use Rattle.queue_paths.specs.Names.Part.{Bounce as BounceFile}
use Rattle.bounce_record.specs.declared.note_row.NoteRow.{NoteRow}
use Rattle.bounce_record.specs.declared.note_row.NoteRow.TheVariants as at
use Rattle.bounce_record.specs.Notes.{note_text}

-- A note that is written: the message, where that stands, and two newlines with the note.
pub record Writing : Type 0 where
  pub n : ℕ
  pub row : NoteRow
  pub text : List ℕ

-- two newlines, and the note of an address, without the prefix of its virtual domain, with a report
abbrev pub parted_note : Controls → List ℕ → List ℕ → List ℕ
parted_note controls address report = 10 ∷ 10 ∷ note_text (stripped controls.virtual_domains address) report

abbrev pub writing_begun : Controls → ℕ → List ℕ → List ℕ → Writing
writing_begun controls n address report = record { n = n; row = at.Open; text = parted_note controls address report }

-- the bytes of one append
abbrev pub piece_size : ℕ
piece_size = PIECE

-- Where an answer leads

-- a file that is missing is created
abbrev pub opened_row : Answer → NoteRow
opened_row (answer.Opened fd) = at.Stat fd
opened_row (answer.Refused why.NotThere) = at.Create
opened_row told = at.Failed

-- at the start of a file the note comes without the two newlines
abbrev pub created_row : Answer → NoteRow
created_row (answer.Created fd number) = at.Append fd 2
created_row told = at.Failed

-- the last two bytes of a file are read, or the one that it has
abbrev pub tail_row : Fd → ℕ → NoteRow
tail_row fd length = if nat_lt 0 length then at.Read fd (length - 2) (min length 2) else at.Append fd 2

abbrev pub stated_row : Fd → Answer → NoteRow
stated_row fd (answer.Stat stat) = tail_row fd stat.length
stated_row fd told = at.Shut fd

-- how many bytes of the text are left out after a file that ends so: the two newlines, if it ends with two
abbrev pub left_out : List ℕ → ℕ
left_out tail = if ends_with nat_eq tail (10 ∷ 10 ∷ []) then 2 else 0

abbrev pub tail_read_row : Fd → Answer → List ℕ → NoteRow
tail_read_row fd (answer.Count count) tail = at.Append fd (left_out tail)
tail_read_row fd told tail = at.Shut fd

-- after so many bytes of the text
abbrev pub next_piece : Fd → ℕ → List ℕ → NoteRow
next_piece fd done text = if nat_lt done (length text) then at.Append fd done else at.Sync fd

abbrev pub appended_row : Fd → ℕ → List ℕ → Answer → NoteRow
appended_row fd done text answer.Done = next_piece fd (done + piece_size) text
appended_row fd done text told = at.Shut fd

abbrev pub synced_row : Fd → Answer → NoteRow
synced_row fd answer.Done = at.Close fd
synced_row fd told = at.Shut fd

-- after the answer to the call of this row; a close doesn't fail
abbrev pub written_row : NoteRow → List ℕ → Answer → List ℕ → NoteRow
written_row at.Open text told bytes = opened_row told
written_row at.Create text told bytes = created_row told
written_row (at.Stat fd) text told bytes = stated_row fd told
written_row (at.Read fd place len) text told bytes = tail_read_row fd told bytes
written_row (at.Append fd done) text told bytes = appended_row fd done text told
written_row (at.Sync fd) text told bytes = synced_row fd told
written_row (at.Close fd) text told bytes = at.Written
written_row (at.Shut fd) text told bytes = at.Failed
written_row at.Written text told bytes = at.Written
written_row at.Failed text told bytes = at.Failed

-- after what came
abbrev pub moved : Writing → GotData → Writing
moved w (came.Answered told) = record w { row = written_row w.row w.text told.answer told.bytes }
moved w other = w

-- What is due

abbrev pub bounce_path : ℕ → List ℕ
bounce_path n = path (Of BounceFile n)

-- the next piece of the text, after so many bytes
abbrev pub piece : List ℕ → ℕ → List ℕ
piece text done = take piece_size (drop done text)

abbrev pub due_at : NoteRow → Writing → NeedData
due_at at.Open w = needs.File (call.Open (bounce_path w.n) how.Append)
due_at at.Create w = needs.File (call.CreateExcl (bounce_path w.n))
due_at (at.Stat fd) w = needs.File (call.Stat (bounce_path w.n))
due_at (at.Read fd place len) w = needs.File (call.ReadAt fd place len)
due_at (at.Append fd done) w = needs.File (call.Append fd (piece w.text done))
due_at (at.Sync fd) w = needs.File (call.Sync fd)
due_at (at.Close fd) w = needs.File (call.Close fd)
due_at (at.Shut fd) w = needs.File (call.Close fd)
due_at at.Written w = needs.Wait
due_at at.Failed w = needs.Wait

abbrev pub due_by : Writing → NeedData
due_by w = due_at w.row w
