use Rattle.std.proofs.Common.{◌≡◌, ℕ, List, ◌++◌}
use Rattle.std.specs.Io.KnownBytes.{Appends}
use Rattle.host_streams.proofs.writer_sink.WriterSink.writes_all.Given as goal

-- what is gone from `left` was taken
abbrev pub invariant-loop : goal.invariant-loop
invariant-loop g l = (l.self.faults ≡ l.initial.self.faults)
    × ((done : List ℕ) × (l.initial.left ≡ done ++ l.left) × Appends (g.W.Write.contents l.initial.self.output) (g.W.Write.contents l.self.output) done)
