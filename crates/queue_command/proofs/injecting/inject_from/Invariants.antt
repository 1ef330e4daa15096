use Rattle.std.proofs.Common.{◌≡◌, [], Some, None}
use Rattle.queue_inject.specs.Machine.{ahead_of}
use Rattle.queue_command.specs.declared.input.Form.TheVariants.{Netstrings}
use Rattle.queue_command.proofs.Runs.{IsInjecting}
use Rattle.queue_command.proofs.injecting.inject_from.Given as goal

-- it ran so far as its table says, on what was heard of its input
abbrev pub invariant-loop-status : goal.invariant-loop-status
invariant-loop-status g l = record {
  injecting : IsInjecting (record { uid = l.fn.uid; pid = l.fn.pid; invoked = l.fn.invoked }) l.fn.start l.fn.form l.place l.injector
      (record { old = g.M.Source.left l.fn.message; new = g.M.Source.left l.message; faults_old = g.M.Source.faults l.fn.message; faults_new = g.M.Source.faults l.message })
      (record { old = g.E.Source.left l.fn.envelope; new = g.E.Source.left l.envelope; faults_old = g.E.Source.faults l.fn.envelope; faults_new = g.E.Source.faults l.envelope })
      (record { disk = g.D.CallFs.disk l.fn.disk; calls = g.D.CallFs.calls l.fn.disk; disk_faults = g.D.CallFs.faults l.fn.disk; moments = g.K.Clock.calls l.fn.clock; last = g.K.Clock.last l.fn.clock; left = Some []; input_faults = 0; taken = None; output_faults = 0 })
      (record { disk = g.D.CallFs.disk l.disk; calls = g.D.CallFs.calls l.disk; disk_faults = g.D.CallFs.faults l.disk; moments = g.K.Clock.calls l.clock; last = g.K.Clock.last l.clock; left = Some []; input_faults = 0; taken = None; output_faults = 0 });
  beside : l.fn.form ≡ Netstrings → l.envelope ≡ l.fn.envelope;
}

abbrev pub decreases-loop-status : goal.decreases-loop-status
decreases-loop-status g l = ahead_of l.injector
