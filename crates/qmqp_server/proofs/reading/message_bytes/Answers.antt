use Rattle.std.proofs.Common.{◌-◌, arith}
use Rattle.qmqp_server.specs.declared.reader.Place.TheVariants as place
use Rattle.qmqp_server.specs.declared.reader.PackageFault.TheVariants.{Cut}
use Rattle.qmqp_server.proofs.Steps.{message_is_cut, message_went, nearer_at, nearer_broken}
use Rattle.qmqp_server.proofs.Taken.{cut_by}
use Rattle.qmqp_server.proofs.reading.message_bytes.Goals as goal

pub returns-in-Got-clause-steps : goal.returns-in-Got-clause-steps
returns-in-Got-clause-steps g c =
    let few = c.min-few.ensures in
    let fits = c.in-Got.ensures.fits.0 in
    let more = c.requires.more in
    let some = c.requires.some in
    let bytes = c.in-Got.ensures.fits.1 (omega arith) in
    let long = c.take.array_long in
    message_went c.args.reader.now (record { old = g.S.Source.left c.args.source.now; new = g.S.Source.left c.take.new.input; faults_old = g.S.Source.faults c.args.source.now; faults_new = g.S.Source.faults c.take.new.input }) c.args.left c.in-Got.count c.args.most c.take.new.buffer c.requires.at bytes (omega arith) (omega arith) (omega arith)
    (record { told = c.in-Got.ensures.told; counts = c.take.ensures.cause.later })

pub returns-in-Got-clause-nearer : goal.returns-in-Got-clause-nearer
returns-in-Got-clause-nearer g c =
    let few = c.min-few.ensures in
    let fits = c.in-Got.ensures.fits.0 in
    let more = c.requires.more in
    let some = c.requires.some in
    let bytes = c.in-Got.ensures.fits.1 (omega arith) in
    nearer_at c.args.reader.now (record c.args.reader.now { place = place.Message (c.args.left - c.in-Got.count) }) (place.Message c.args.left) c.requires.at (omega arith)

pub returns-in-End-clause-steps : goal.returns-in-End-clause-steps
returns-in-End-clause-steps g c =
    message_is_cut c.args.reader.now (record { old = g.S.Source.left c.args.source.now; new = g.S.Source.left c.take.new.input; faults_old = g.S.Source.faults c.args.source.now; faults_new = g.S.Source.faults c.take.new.input }) c.breaks.result c.breaks.new.reader c.breaks.ensures.nothing c.args.most c.take.new.buffer c.args.left c.breaks.ensures.broken c.requires.at
    (cut_by c.take.result (g.S.Source.left c.args.source.now) (g.S.Source.left c.take.new.input) (g.S.Source.faults c.args.source.now) (g.S.Source.faults c.take.new.input) c.take.new.buffer c.in-End.is c.take.ensures.cause.later c.take.ensures.told c.take.ensures.cause.rose)

pub returns-in-End-clause-nearer : goal.returns-in-End-clause-nearer
returns-in-End-clause-nearer g c = nearer_broken c.args.reader.now c.breaks.new.reader (place.Message c.args.left) Cut c.requires.at c.breaks.ensures.broken (omega arith)
