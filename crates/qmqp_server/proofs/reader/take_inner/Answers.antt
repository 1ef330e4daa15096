use Rattle.std.proofs.Common.{arith}
use Rattle.qmqp_server.proofs.Beginnings.{inner_cut, inner_found, inner_none, inner_past}
use Rattle.qmqp_server.proofs.reader.take_inner.Goals as goal

pub overflow_sub-left : goal.overflow_sub-left
overflow_sub-left g c = let size = c.in-Length.ensures.head_of.2 in let few = c.in-Length.ensures.head_of.3 in omega arith

pub returns-then-value-left : goal.returns-then-value-left
returns-then-value-left g c = inner_found c.args.left (record { old = g.S.Source.left c.args.source.now; new = g.S.Source.left c.take_head.new.source; faults_old = g.S.Source.faults c.args.source.now; faults_new = g.S.Source.faults c.take_head.new.source }) c.in-Length.value c.in-Length.used c.in-Length.ensures c.if-value-left.true

pub returns-else-value-left : goal.returns-else-value-left
returns-else-value-left g c = inner_past c.args.left (record { old = g.S.Source.left c.args.source.now; new = g.S.Source.left c.take_head.new.source; faults_old = g.S.Source.faults c.args.source.now; faults_new = g.S.Source.faults c.take_head.new.source }) c.in-Length.value c.in-Length.used c.in-Length.ensures c.if-value-left.false

pub returns-in-Bad : goal.returns-in-Bad
returns-in-Bad g c = inner_none c.args.left (record { old = g.S.Source.left c.args.source.now; new = g.S.Source.left c.take_head.new.source; faults_old = g.S.Source.faults c.args.source.now; faults_new = g.S.Source.faults c.take_head.new.source }) c.take_head.result c.in-Bad.is c.take_head.ensures

pub returns-in-Cut : goal.returns-in-Cut
returns-in-Cut g c = inner_cut c.args.left (record { old = g.S.Source.left c.args.source.now; new = g.S.Source.left c.take_head.new.source; faults_old = g.S.Source.faults c.args.source.now; faults_new = g.S.Source.faults c.take_head.new.source }) c.in-Cut.ensures
