use Rattle.std.proofs.Common.{arith}
use Rattle.qmqp_server.specs.declared.reader.Place.TheVariants as place
use Rattle.qmqp_server.specs.declared.reader.PackageFault.TheVariants.{Cut, Malformed}
use Rattle.qmqp_server.proofs.Steps.{content_ended, content_is_cut, content_is_malformed, nearer_at, nearer_broken}
use Rattle.qmqp_server.proofs.reading.last_comma.Goals as goal

pub returns-in-Right-clause-steps : goal.returns-in-Right-clause-steps
returns-in-Right-clause-steps g c = λ most some.
    content_ended c.args.reader.now (record { old = g.S.Source.left c.args.source.now; new = g.S.Source.left c.take_comma.new.source; faults_old = g.S.Source.faults c.args.source.now; faults_new = g.S.Source.faults c.take_comma.new.source }) most some c.set_first.new.buffer c.requires.at c.requires.over c.requires.two c.set_first.ensures c.in-Right.ensures

pub returns-in-Right-clause-nearer : goal.returns-in-Right-clause-nearer
returns-in-Right-clause-nearer g c = nearer_at c.args.reader.now (record c.args.reader.now { place = place.Over }) place.Between c.requires.at (omega arith)

pub returns-in-Wrong-clause-steps : goal.returns-in-Wrong-clause-steps
returns-in-Wrong-clause-steps g c = λ most some.
    content_is_malformed c.args.reader.now (record { old = g.S.Source.left c.args.source.now; new = g.S.Source.left c.take_comma.new.source; faults_old = g.S.Source.faults c.args.source.now; faults_new = g.S.Source.faults c.take_comma.new.source }) c.breaks.result c.breaks.new.reader c.breaks.ensures.nothing most c.args.buffer.now c.breaks.ensures.broken c.requires.at c.requires.over c.requires.two c.in-Wrong.ensures

pub returns-in-Wrong-clause-nearer : goal.returns-in-Wrong-clause-nearer
returns-in-Wrong-clause-nearer g c = nearer_broken c.args.reader.now c.breaks.new.reader place.Between Malformed c.requires.at c.breaks.ensures.broken (omega arith)

pub returns-in-Cut-clause-steps : goal.returns-in-Cut-clause-steps
returns-in-Cut-clause-steps g c = λ most some.
    content_is_cut c.args.reader.now (record { old = g.S.Source.left c.args.source.now; new = g.S.Source.left c.take_comma.new.source; faults_old = g.S.Source.faults c.args.source.now; faults_new = g.S.Source.faults c.take_comma.new.source }) c.breaks-in-Cut.result c.breaks-in-Cut.new.reader c.breaks-in-Cut.ensures.nothing most c.args.buffer.now c.breaks-in-Cut.ensures.broken c.requires.at c.requires.over c.requires.two c.in-Cut.ensures

pub returns-in-Cut-clause-nearer : goal.returns-in-Cut-clause-nearer
returns-in-Cut-clause-nearer g c = nearer_broken c.args.reader.now c.breaks-in-Cut.new.reader place.Between Cut c.requires.at c.breaks-in-Cut.ensures.broken (omega arith)
