use Rattle.std.proofs.Common.{◌+◌, [], Some, None}
use Rattle.received_line.specs.declared.line.Invoked.TheVariants.{Uid}
use Rattle.queue_inject.specs.Machine.{ahead_of}
use Rattle.qmqp_server.specs.inside.Places.{left_of}
use Rattle.qmqp_server.proofs.Feeding.{IsFeeding}
use Rattle.qmqp_server.proofs.injecting.inject.Given as goal

-- it ran so far as its table says, on what was heard of the package
abbrev pub invariant-loop-injector : goal.invariant-loop-injector
invariant-loop-injector g l = IsFeeding (record { uid = l.fn.uid; pid = l.fn.pid; invoked = Uid l.fn.uid }) l.fn.start l.fn.reader l.reader l.injector
    (record { old = g.S.Source.left l.fn.source; new = g.S.Source.left l.source; faults_old = g.S.Source.faults l.fn.source; faults_new = g.S.Source.faults l.source })
    (record { disk = g.D.CallFs.disk l.fn.disk; calls = g.D.CallFs.calls l.fn.disk; disk_faults = g.D.CallFs.faults l.fn.disk; moments = g.K.Clock.calls l.fn.clock; last = g.K.Clock.last l.fn.clock; left = Some []; input_faults = 0; taken = None; output_faults = 0 })
    (record { disk = g.D.CallFs.disk l.disk; calls = g.D.CallFs.calls l.disk; disk_faults = g.D.CallFs.faults l.disk; moments = g.K.Clock.calls l.clock; last = g.K.Clock.last l.clock; left = Some []; input_faults = 0; taken = None; output_faults = 0 })

abbrev pub decreases-loop-injector : goal.decreases-loop-injector
decreases-loop-injector g l = ahead_of l.injector + left_of l.reader
