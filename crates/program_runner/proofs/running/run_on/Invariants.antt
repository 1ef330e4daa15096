use Rattle.std.proofs.Common.{[]}
use Rattle.program_runner.specs.Runs.{IsRunning}
use Rattle.call_fs.specs.declared.program.TheConstants.{INPUT_READY}
use Rattle.program_runner.proofs.running.run_on.Given as goal

-- it has run so far as its table says
abbrev pub invariant-loop : goal.invariant-loop
invariant-loop g l =
    (g.M.Machine.has_room l.initial.machine → g.M.Machine.has_room l.machine)
    × IsRunning g.M.Machine.next (g.M.Machine.stands l.machine) (λ args. g.M.Machine.stands l.initial.machine args []) INPUT_READY (g.K.Clock.last l.initial.clock) l.counter
    (record { disk = g.D.CallFs.disk l.initial.disk; calls = g.D.CallFs.calls l.initial.disk; disk_faults = g.D.CallFs.faults l.initial.disk; moments = g.K.Clock.calls l.initial.clock; last = g.K.Clock.last l.initial.clock; left = g.S.Source.left l.initial.input; input_faults = g.S.Source.faults l.initial.input; taken = g.O.Sink.taken l.initial.output; output_faults = g.O.Sink.faults l.initial.output })
    (record { disk = g.D.CallFs.disk l.disk; calls = g.D.CallFs.calls l.disk; disk_faults = g.D.CallFs.faults l.disk; moments = g.K.Clock.calls l.clock; last = g.K.Clock.last l.clock; left = g.S.Source.left l.input; input_faults = g.S.Source.faults l.input; taken = g.O.Sink.taken l.output; output_faults = g.O.Sink.faults l.output })
