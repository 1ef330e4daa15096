use Rattle.std.proofs.Common.{◌≡◌, ◌++◌, ◌<◌, ◌^◌, take, drop}
use Rattle.std.specs.List.{All}
use Rattle.mem_files.specs.MemFile.{IsSurvivor}
use Rattle.mem_files.specs.MemHalt.{seed_of, settled_entries}
use Rattle.mem_files.proofs.halt.settled_entries.Given as goal

abbrev pub invariant-loop-entry : goal.invariant-loop-entry
invariant-loop-entry l =
    (settled_entries l.how (seed_of l.how) l.files ≡ l.settled.items ++ settled_entries l.how l.next (drop l.entry-index l.files))
    × (l.next < 2 ^ 32)
    × All (λ e. IsSurvivor e.1.file) (take l.entry-index l.files)
