use Rattle.std.proofs.Common.{length, map, take, string_bytes}
use Rattle.host_fs.specs.Entries.{Adds, entries_of}
use Rattle.host_fs.proofs.entries.add_entries.Given as goal

abbrev pub invariant-loop-name : goal.invariant-loop-name
invariant-loop-name l = Adds (map string_bytes l.initial.names.items) (take (length l.yielded) (entries_of l.piece)) (map string_bytes l.names.items)
