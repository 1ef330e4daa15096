use Rattle.std.specs.Io.KnownBytes.{Keeps}
use Rattle.std.specs.declared.io.Error.{Error}
use Rattle.proc_runner.proofs.outflow.read_again.Given as goal

abbrev pub invariant-loop : goal.invariant-loop
invariant-loop g l = Keeps (g.I.Readable.remaining l.initial.input) (g.I.Readable.remaining l.input)
    × ((why : Error) → g.I.Readable.breaks l.input why → g.I.Readable.breaks l.initial.input why)
