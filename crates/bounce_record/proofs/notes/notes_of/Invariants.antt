use Rattle.std.proofs.Common.{◌≡◌, ◌++◌, length, drop}
use Rattle.std.specs.List.{filter_map}
use Rattle.bounce_record.specs.Notes.{first_lines, lines, named, notes_of}
use Rattle.bounce_record.proofs.notes.notes_of.Given as goal

abbrev pub invariant-loop-line : goal.invariant-loop-line
invariant-loop-line l = l.found.items ++ filter_map named (first_lines l.before (drop (length l.yielded) (lines l.bytes))) ≡ notes_of l.bytes
