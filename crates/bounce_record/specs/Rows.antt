-- What the code of the two tables reads of rows.
use Rattle.std.specs.Prelude.{ℕ, ◌+◌, ◌<◌, ◌^◌, List, [], Bool, true, false}
use Rattle.bounce_record.specs.declared.note_row.NoteRow.{NoteRow}
use Rattle.bounce_record.specs.declared.note_row.NoteRow.TheVariants as note
use Rattle.bounce_record.specs.declared.return_row.ReturnRow.{ReturnRow}
use Rattle.bounce_record.specs.declared.return_row.ReturnRow.TheVariants as at
use Rattle.bounce_record.specs.Returning.{message_path}
use Rattle.bounce_record.specs.Writing.{bounce_path, piece_size}

-- the name of a row's call, empty if it has none
abbrev pub note_name_at : NoteRow → ℕ → List ℕ
note_name_at note.Open n = bounce_path n
note_name_at note.Create n = bounce_path n
note_name_at (note.Stat fd) n = bounce_path n
note_name_at row n = []

abbrev pub return_name_at : ReturnRow → ℕ → List ℕ
return_name_at at.Open n = bounce_path n
return_name_at at.OpenMessage n = message_path n
return_name_at at.Unlink n = bounce_path n
return_name_at at.Discard n = bounce_path n
return_name_at row n = []

-- a piece more than was appended can be counted
abbrev pub CountsOn : NoteRow → Type 0
CountsOn (note.Append fd done) = done + piece_size < 2 ^ 64
CountsOn row = Unit {0}

-- what comes of it may take memory: the bytes of a file are kept, and the bounce is made of them
abbrev pub takes_memory : ReturnRow → Bool
takes_memory (at.ReadNotes fd) = true
takes_memory (at.ReadMessage fd) = true
takes_memory (at.CloseMessage fd) = true
takes_memory row = false
