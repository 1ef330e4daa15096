use Rattle.std.proofs.Common.{refl, subst, sym}
use Rattle.received_line.specs.declared.line.Invoked.TheVariants.{Uid}
use Rattle.qmqp_server.specs.Received.{HasReceived}
use Rattle.qmqp_server.proofs.Received.{after_heads, not_begun, refused}
use Rattle.qmqp_server.proofs.receiving.receive.Goals as goal

pub returns-in-Heads : goal.returns-in-Heads
returns-in-Heads g c =
    after_heads c.in-Heads.reader (record { uid = c.args.uid; pid = g.K.Clock.pid c.args.clock.now; invoked = Uid c.args.uid }) (g.M.Source.left c.args.message.now) (g.M.Source.left c.begin.new.source) (g.M.Source.left c.receive_rest.new.message)
    (g.M.Source.faults c.args.message.now) (g.M.Source.faults c.begin.new.source) (g.M.Source.faults c.receive_rest.new.message)
    (record { disk = g.D.CallFs.disk c.args.disk.now; calls = g.D.CallFs.calls c.args.disk.now; faults = g.D.CallFs.faults c.args.disk.now; moments = g.K.Clock.calls c.args.clock.now }) (record { disk = g.D.CallFs.disk c.receive_rest.new.disk; calls = g.D.CallFs.calls c.receive_rest.new.disk; faults = g.D.CallFs.faults c.receive_rest.new.disk; moments = g.K.Clock.calls c.receive_rest.new.clock }) (record { old = g.O.Sink.taken c.args.out.now; new = g.O.Sink.taken c.receive_rest.new.out; faults_old = g.O.Sink.faults c.args.out.now; faults_new = g.O.Sink.faults c.receive_rest.new.out }) c.receive_rest.result c.in-Heads.ensures c.receive_rest.ensures

pub returns-in-TooLong : goal.returns-in-TooLong
returns-in-TooLong g c = refused (record { uid = c.args.uid; pid = g.K.Clock.pid c.args.clock.now; invoked = Uid c.args.uid }) (record { old = g.M.Source.left c.args.message.now; new = g.M.Source.left c.begin.new.source; faults_old = g.M.Source.faults c.args.message.now; faults_new = g.M.Source.faults c.begin.new.source }) (record { disk = g.D.CallFs.disk c.args.disk.now; calls = g.D.CallFs.calls c.args.disk.now; faults = g.D.CallFs.faults c.args.disk.now; moments = g.K.Clock.calls c.args.clock.now }) (record { old = g.O.Sink.taken c.args.out.now; new = g.O.Sink.taken c.args.out.now; faults_old = g.O.Sink.faults c.args.out.now; faults_new = g.O.Sink.faults c.args.out.now }) c.in-TooLong.ensures (record { taken = refl; faults = refl })

pub returns-in-Broken : goal.returns-in-Broken
returns-in-Broken g c =
    subst (λ status. HasReceived (record { uid = c.args.uid; pid = g.K.Clock.pid c.args.clock.now; invoked = Uid c.args.uid }) (record { old = g.M.Source.left c.args.message.now; new = g.M.Source.left c.begin.new.source; faults_old = g.M.Source.faults c.args.message.now; faults_new = g.M.Source.faults c.begin.new.source }) (record { disk = g.D.CallFs.disk c.args.disk.now; calls = g.D.CallFs.calls c.args.disk.now; faults = g.D.CallFs.faults c.args.disk.now; moments = g.K.Clock.calls c.args.clock.now }) (record { disk = g.D.CallFs.disk c.args.disk.now; calls = g.D.CallFs.calls c.args.disk.now; faults = g.D.CallFs.faults c.args.disk.now; moments = g.K.Clock.calls c.args.clock.now }) (record { old = g.O.Sink.taken c.args.out.now; new = g.O.Sink.taken c.args.out.now; faults_old = g.O.Sink.faults c.args.out.now; faults_new = g.O.Sink.faults c.args.out.now }) status) (sym c.status_of.ensures)
    (not_begun (record { uid = c.args.uid; pid = g.K.Clock.pid c.args.clock.now; invoked = Uid c.args.uid }) (record { old = g.M.Source.left c.args.message.now; new = g.M.Source.left c.begin.new.source; faults_old = g.M.Source.faults c.args.message.now; faults_new = g.M.Source.faults c.begin.new.source }) (record { disk = g.D.CallFs.disk c.args.disk.now; calls = g.D.CallFs.calls c.args.disk.now; faults = g.D.CallFs.faults c.args.disk.now; moments = g.K.Clock.calls c.args.clock.now }) (record { old = g.O.Sink.taken c.args.out.now; new = g.O.Sink.taken c.args.out.now; faults_old = g.O.Sink.faults c.args.out.now; faults_new = g.O.Sink.faults c.args.out.now }) c.in-Broken.fault c.in-Broken.ensures (record { taken = refl; faults = refl }))
