use Rattle.std.proofs.Common.{arith}
use Rattle.qmqp_server.proofs.Beginnings.{begins_bad, begins_both, begins_cut, begins_long, never_past}
use Rattle.qmqp_server.proofs.reader.begin.Goals as goal

pub returns-then-value-gt-LONGEST : goal.returns-then-value-gt-LONGEST
returns-then-value-gt-LONGEST g c = begins_long _ (record { old = g.S.Source.left c.args.source.now; new = g.S.Source.left c.take_head.new.source; faults_old = g.S.Source.faults c.args.source.now; faults_new = g.S.Source.faults c.take_head.new.source }) c.in-Length.value c.in-Length.used c.in-Length.ensures c.if-value-gt-LONGEST.true

pub returns-else-value-gt-LONGEST : goal.returns-else-value-gt-LONGEST
returns-else-value-gt-LONGEST g c =
    begins_both c.begin_message.result (g.S.Source.left c.args.source.now) (g.S.Source.left c.take_head.new.source) (g.S.Source.left c.begin_message.new.source)
    (g.S.Source.faults c.args.source.now) (g.S.Source.faults c.take_head.new.source) (g.S.Source.faults c.begin_message.new.source)
    c.in-Length.value c.in-Length.used _ c.in-Length.ensures c.begin_message.ensures

pub returns-in-Bad : goal.returns-in-Bad
returns-in-Bad g c = begins_bad _ (record { old = g.S.Source.left c.args.source.now; new = g.S.Source.left c.take_head.new.source; faults_old = g.S.Source.faults c.args.source.now; faults_new = g.S.Source.faults c.take_head.new.source }) c.in-Bad.ensures

pub unreachable-requires : goal.unreachable-requires
unreachable-requires g c = never_past _ (record { old = g.S.Source.left c.args.source.now; new = g.S.Source.left c.take_head.new.source; faults_old = g.S.Source.faults c.args.source.now; faults_new = g.S.Source.faults c.take_head.new.source }) c.in-Past.ensures (omega arith)

pub returns-in-Cut : goal.returns-in-Cut
returns-in-Cut g c = begins_cut _ (record { old = g.S.Source.left c.args.source.now; new = g.S.Source.left c.take_head.new.source; faults_old = g.S.Source.faults c.args.source.now; faults_new = g.S.Source.faults c.take_head.new.source }) c.in-Cut.ensures
