use Rattle.qmqp_server.proofs.Beginnings.{message_begins, message_broken}
use Rattle.qmqp_server.proofs.reader.begin_message.Goals as goal

pub returns-in-Netstring : goal.returns-in-Netstring
returns-in-Netstring g c = message_begins c.args.length c.in-Netstring.value c.in-Netstring.rest (record { old = g.S.Source.left c.args.source.now; new = g.S.Source.left c.take_inner.new.source; faults_old = g.S.Source.faults c.args.source.now; faults_new = g.S.Source.faults c.take_inner.new.source }) c.requires c.in-Netstring.ensures

pub returns-in-Broken : goal.returns-in-Broken
returns-in-Broken g c = message_broken c.args.length c.in-Broken.fault (record { old = g.S.Source.left c.args.source.now; new = g.S.Source.left c.take_inner.new.source; faults_old = g.S.Source.faults c.args.source.now; faults_new = g.S.Source.faults c.take_inner.new.source }) c.requires c.in-Broken.ensures
