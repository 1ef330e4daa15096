use Rattle.std.proofs.Common.{◌≡◌, ◌++◌, take}
use Rattle.bounce_record.specs.Notes.{note_name}
use Rattle.bounce_record.proofs.notes.put_name.Given as goal

abbrev pub invariant-loop-byte : goal.invariant-loop-byte
invariant-loop-byte l = l.text.items ≡ l.initial.text.items ++ note_name (take l.byte-index l.address)
