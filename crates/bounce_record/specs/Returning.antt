-- How the bounce of a message that can't be delivered is injected, and its bounce file removed (qmail-send(8); INTERNALS,
-- section 6): each step, and where it leads. If no row names what came, it leads where a failure does. What is open is closed
-- after a failure.
use Rattle.std.specs.Prelude.{ℕ, ◌+◌, List, [], ◌∷◌, ◌++◌, length, Option, Some, None, if◌then◌else◌, ◌==◌, nat_lt}
use Rattle.address_rules.specs.declared.controls.Controls.{Controls}
use Rattle.call_fs.specs.declared.file_system.TheConstants.{PIECE}
use Rattle.call_fs.specs.declared.calls.Answer.{Answer}
use Rattle.call_fs.specs.declared.calls.Answer.TheVariants as answer
use Rattle.call_fs.specs.declared.calls.CallData.TheVariants as call
use Rattle.call_fs.specs.declared.calls.Fd.{Fd}
use Rattle.call_fs.specs.declared.calls.FsError.TheVariants as why
use Rattle.call_fs.specs.declared.calls.How.TheVariants as how
use Rattle.call_fs.specs.declared.past.ChildData.TheVariants as child
use Rattle.call_fs.specs.declared.past.GotData.{GotData}
use Rattle.call_fs.specs.declared.past.GotData.TheVariants as came
use Rattle.call_fs.specs.declared.past.NeedData.{NeedData}
use Rattle.call_fs.specs.declared.past.NeedData.TheVariants as needs
use Rattle.call_fs.specs.declared.program.Port.TheVariants as port
use Rattle.envelope_records.specs.Envelope.{records_of}
use Rattle.mail_bytes.specs.Netstring.{netstring}
use Rattle.queue_paths.specs.Names.{path}
use Rattle.queue_paths.specs.Names.Name.{Of}
use Rattle.queue_paths.specs.Names.Part.{Mess as MessFile}
use Rattle.bounce_record.specs.declared.bounces.Bounce.{Bounce}
use Rattle.bounce_record.specs.declared.return_row.ReturnRow.{ReturnRow}
use Rattle.bounce_record.specs.declared.return_row.ReturnRow.TheVariants as at
use Rattle.bounce_record.specs.Bounces.{bounce_of}
use Rattle.bounce_record.specs.Writing.{bounce_path}

-- What an injector is given

-- its envelope: from its sender, to its recipient
abbrev pub envelope_of : Bounce → List ℕ
envelope_of b = records_of b.sender (b.recipient ∷ []) ++ 0 ∷ []

-- two netstrings: the message, and then the envelope
abbrev pub input_of : Bounce → List ℕ
input_of b = netstring b.text ++ netstring (envelope_of b)

-- how many bytes message and envelope have together
abbrev pub room_of : Bounce → ℕ
room_of b = length b.text + length (envelope_of b)

-- The return of a message: its number, where that stands, the bytes of its bounce file and of its message file so far, and
-- what an injector is given, with how many bytes of message and envelope.
pub record Returning : Type 0 where
  pub n : ℕ
  pub row : ReturnRow
  pub notes : List ℕ
  pub message : List ℕ
  pub input : List ℕ
  pub room : ℕ

-- nothing is kept
abbrev pub bare : ℕ → ReturnRow → Returning
bare n row = record { n = n; row = row; notes = []; message = []; input = []; room = 0 }

abbrev pub return_begun : ℕ → Returning
return_begun n = bare n at.Open

-- at its end it keeps nothing
abbrev pub goes : Returning → ReturnRow → Returning
goes r at.Over = bare r.n at.Over
goes r at.Failed = bare r.n at.Failed
goes r row = record r { row = row }

-- Where what came leads

-- without a bounce file there is nothing to return
abbrev pub notes_opened : Answer → ReturnRow
notes_opened (answer.Opened fd) = at.ReadNotes fd
notes_opened (answer.Refused why.NotThere) = at.Over
notes_opened told = at.Failed

abbrev pub message_opened : Answer → ReturnRow
message_opened (answer.Opened fd) = at.ReadMessage fd
message_opened told = at.Failed

-- a piece that isn't full is the last one
abbrev pub notes_row : Fd → List ℕ → ReturnRow
notes_row fd bytes = if nat_lt (length bytes) PIECE then at.CloseNotes fd else at.ReadNotes fd

abbrev pub message_row : Fd → List ℕ → ReturnRow
message_row fd bytes = if nat_lt (length bytes) PIECE then at.CloseMessage fd else at.ReadMessage fd

abbrev pub notes_read : Returning → Fd → Answer → List ℕ → Returning
notes_read r fd (answer.Count count) bytes = record r { row = notes_row fd bytes; notes = r.notes ++ bytes }
notes_read r fd told bytes = goes r (at.Shut fd)

abbrev pub message_read : Returning → Fd → Answer → List ℕ → Returning
message_read r fd (answer.Count count) bytes = record r { row = message_row fd bytes; message = r.message ++ bytes }
message_read r fd told bytes = goes r (at.Shut fd)

-- what comes of the message of this sender, once both files were read; its date is of this moment
abbrev pub bounce_at : Controls → List ℕ → Returning → ℕ → Option Bounce
bounce_at c sender r now = bounce_of c.bounce_from c.bounce_host c.double_bounce_to c.double_bounce_host sender r.notes r.message now

-- A bounce is injected. A double bounce that came back isn't: its bounce file is discarded.
abbrev pub made : Returning → Option Bounce → Returning
made r None = bare r.n at.Discard
made r (Some b) = record { n = r.n; row = at.Start; notes = []; message = []; input = input_of b; room = room_of b }

abbrev pub started_row : GotData → ReturnRow
started_row (came.Started pid) = at.Give pid
started_row other = at.Failed

abbrev pub given_row : ℕ → GotData → ReturnRow
given_row pid came.Gave = at.Await pid
given_row pid other = at.Failed

-- the bounce is queued if its injector ended with 0
abbrev pub awaited_row : GotData → ReturnRow
awaited_row (came.Ended status) = if status == 0 then at.Unlink else at.Failed
awaited_row other = at.Failed

abbrev pub unlinked_row : Answer → ReturnRow
unlinked_row answer.Done = at.Over
unlinked_row told = at.Failed

-- after the answer to the file call of this row, at this moment; a close doesn't fail
abbrev pub answered : Controls → List ℕ → ReturnRow → Returning → ℕ → Answer → List ℕ → Returning
answered c sender at.Open r now told bytes = goes r (notes_opened told)
answered c sender (at.ReadNotes fd) r now told bytes = notes_read r fd told bytes
answered c sender (at.CloseNotes fd) r now told bytes = goes r at.OpenMessage
answered c sender at.OpenMessage r now told bytes = goes r (message_opened told)
answered c sender (at.ReadMessage fd) r now told bytes = message_read r fd told bytes
answered c sender (at.CloseMessage fd) r now told bytes = made r (bounce_at c sender r now)
answered c sender (at.Shut fd) r now told bytes = goes r at.Failed
answered c sender at.Unlink r now told bytes = goes r (unlinked_row told)
answered c sender at.Discard r now told bytes = goes r (unlinked_row told)
answered c sender row r now told bytes = r

-- after what came at this row, at this moment
abbrev pub moved_at : Controls → List ℕ → ReturnRow → Returning → ℕ → GotData → Returning
moved_at c sender at.Start r now got = goes r (started_row got)
moved_at c sender (at.Give pid) r now got = goes r (given_row pid got)
moved_at c sender (at.Await pid) r now got = goes r (awaited_row got)
moved_at c sender row r now (came.Answered told) = answered c sender row r now told.answer told.bytes
moved_at c sender row r now got = r

-- by these controls, and the sender of the message
abbrev pub moved : Controls → List ℕ → Returning → ℕ → GotData → Returning
moved c sender r now got = moved_at c sender r.row r now got

-- What is due

abbrev pub message_path : ℕ → List ℕ
message_path n = path (Of MessFile n)

abbrev pub due_at : ReturnRow → Returning → NeedData
due_at at.Open r = needs.File (call.Open (bounce_path r.n) how.Read)
due_at (at.ReadNotes fd) r = needs.File (call.ReadAt fd (length r.notes) PIECE)
due_at (at.CloseNotes fd) r = needs.File (call.Close fd)
due_at at.OpenMessage r = needs.File (call.Open (message_path r.n) how.Read)
due_at (at.ReadMessage fd) r = needs.File (call.ReadAt fd (length r.message) PIECE)
due_at (at.CloseMessage fd) r = needs.File (call.Close fd)
due_at (at.Shut fd) r = needs.File (call.Close fd)
due_at at.Start r = needs.Start (child.Bounce r.room)
due_at (at.Give pid) r = needs.Give (port.Program 0) r.input
due_at (at.Await pid) r = needs.Take (port.Status 0)
due_at at.Unlink r = needs.File (call.Unlink (bounce_path r.n))
due_at at.Discard r = needs.File (call.Unlink (bounce_path r.n))
due_at at.Over r = needs.Wait
due_at at.Failed r = needs.Wait

abbrev pub due_by : Returning → NeedData
due_by r = due_at r.row r
