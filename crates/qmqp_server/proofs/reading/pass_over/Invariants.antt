use Rattle.std.proofs.Common.{◌≡◌, length}
use Rattle.qmqp_server.specs.inside.Places.{PassesOver, left_of}
use Rattle.qmqp_server.proofs.reading.pass_over.Given as goal

-- what was taken so far
abbrev pub invariant-loop-buffer : goal.invariant-loop-buffer
invariant-loop-buffer g l = record {
  passes : PassesOver l.fn.reader l.reader (record { old = g.S.Source.left l.fn.source; new = g.S.Source.left l.source; faults_old = g.S.Source.faults l.fn.source; faults_new = g.S.Source.faults l.source });
  room : length l.buffer ≡ 8192;
}

abbrev pub decreases-loop-buffer : goal.decreases-loop-buffer
decreases-loop-buffer g l = left_of l.reader
