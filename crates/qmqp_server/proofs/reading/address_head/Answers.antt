use Rattle.std.proofs.Common.{ap, arith, length}
use Rattle.qmqp_server.specs.declared.reader.Place.TheVariants as place
use Rattle.qmqp_server.proofs.Values.{head_some}
use Rattle.qmqp_server.proofs.Steps.{address_began, head_is_broken, nearer_at, nearer_broken}
use Rattle.qmqp_server.proofs.reading.address_head.Goals as goal

pub returns-in-Netstring-clause-steps : goal.returns-in-Netstring-clause-steps
returns-in-Netstring-clause-steps g c = λ most some.
    address_began c.args.reader.now (record { old = g.S.Source.left c.args.source.now; new = g.S.Source.left c.take_inner.new.source; faults_old = g.S.Source.faults c.args.source.now; faults_new = g.S.Source.faults c.take_inner.new.source }) most some c.in-Netstring.value c.in-Netstring.rest c.set_first.new.buffer c.requires.at c.set_first.ensures c.in-Netstring.ensures

pub returns-in-Netstring-clause-nearer : goal.returns-in-Netstring-clause-nearer
returns-in-Netstring-clause-nearer g c =
    let count = c.in-Netstring.ensures.inner_of.1 in
    let size = ap length c.in-Netstring.ensures.inner_of.0 in
    let some = head_some c.in-Netstring.value in
    nearer_at c.args.reader.now (record c.args.reader.now { place = place.Address c.in-Netstring.value; rest = c.in-Netstring.rest }) place.Between c.requires.at (omega arith)

pub returns-in-Broken-clause-steps : goal.returns-in-Broken-clause-steps
returns-in-Broken-clause-steps g c = λ most some.
    head_is_broken c.args.reader.now (record { old = g.S.Source.left c.args.source.now; new = g.S.Source.left c.take_inner.new.source; faults_old = g.S.Source.faults c.args.source.now; faults_new = g.S.Source.faults c.take_inner.new.source }) c.breaks.result c.breaks.new.reader c.breaks.ensures.nothing most c.args.buffer.now c.in-Broken.fault c.breaks.ensures.broken c.requires.at c.requires.more c.in-Broken.ensures

pub returns-in-Broken-clause-nearer : goal.returns-in-Broken-clause-nearer
returns-in-Broken-clause-nearer g c = nearer_broken c.args.reader.now c.breaks.new.reader place.Between c.in-Broken.fault c.requires.at c.breaks.ensures.broken (omega arith)
