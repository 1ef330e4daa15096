-- What the fields of the two machines keep.
use Rattle.std.specs.Prelude.{◌≡◌}
use Rattle.bounce_record.specs.declared.bounce_sender.BounceSender.TheInside.{Inside as SenderInside}
use Rattle.bounce_record.specs.declared.note_writer.NoteWriter.TheInside.{Inside as WriterInside}
use Rattle.bounce_record.specs.Returning.{Returning}
use Rattle.bounce_record.specs.Rows.{CountsOn, note_name_at, return_name_at}
use Rattle.bounce_record.specs.Writing.{Writing}

abbrev pub writing_of : WriterInside → Writing
writing_of i = record { n = i.n; row = i.row; text = i.text.items }

-- the name of its row's call lies ready, and a piece more can be counted
pub record HoldsWriter (i : WriterInside) : Type 0 where
  pub lent : i.lent ≡ note_name_at i.row i.n
  pub counts : CountsOn i.row

abbrev pub returning_of : SenderInside → Returning
returning_of i = record { n = i.n; row = i.row; notes = i.notes.items; message = i.message.items; input = i.input.items; room = i.room }

-- the name of its row's call lies ready
pub record HoldsSender (i : SenderInside) : Type 0 where
  pub lent : i.lent ≡ return_name_at i.row i.n
