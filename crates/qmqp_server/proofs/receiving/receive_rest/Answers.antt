use Rattle.std.proofs.Common.{◌≡◌, ℕ, ap, refl, sym, ◌∙◌, subst, arith}
use Rattle.received_line.specs.declared.line.Invoked.TheVariants.{Uid}
use Rattle.queue_command.specs.Runs.{Outside, Who}
use Rattle.qmqp_server.specs.Received.{HasReceived, Sunk, status_of}
use Rattle.qmqp_server.specs.inside.Whole.{HasReceivedFrom}
use Rattle.qmqp_server.proofs.Received.{answered, from_heads, no_memory, none_received}
use Rattle.qmqp_server.proofs.Taken.{stream}
use Rattle.qmqp_server.proofs.receiving.receive_rest.Goals as goal

pub returns-in_default : goal.returns-in_default
returns-in_default g c =
    let who : ℕ → Who = λ pid. record { uid = c.args.uid; pid = pid; invoked = Uid c.args.uid } in
    let pid_is : c.pid-pid.result ≡ g.K.Clock.pid c.args.clock.now = c.pid-pid.ensures ∙ c.now-start.ensures.same in
    let old : Outside = record { disk = g.D.CallFs.disk c.args.disk.now; calls = g.D.CallFs.calls c.args.disk.now; faults = g.D.CallFs.faults c.args.disk.now; moments = g.K.Clock.calls c.args.clock.now } in
    let new : Outside = record { disk = g.D.CallFs.disk c.inject.new.disk; calls = g.D.CallFs.calls c.inject.new.disk; faults = g.D.CallFs.faults c.inject.new.disk; moments = g.K.Clock.calls c.inject.new.clock } in
    let sink : Sunk = record { old = g.O.Sink.taken c.args.out.now; new = g.O.Sink.taken c.args.out.now; faults_old = g.O.Sink.faults c.args.out.now; faults_new = g.O.Sink.faults c.args.out.now } in
    from_heads c.args.reader (who (g.K.Clock.pid c.args.clock.now)) (g.M.Source.left c.args.message.now) (g.M.Source.left c.inject.new.source) (g.M.Source.faults c.args.message.now) (g.M.Source.faults c.inject.new.source) old new sink 51 (λ a e took.
    subst (λ pid. HasReceived (who pid) (stream a e (g.M.Source.left c.inject.new.source) (g.M.Source.faults c.inject.new.source)) old new sink 51) pid_is
    (no_memory (who c.pid-pid.result) c.args.reader a (g.M.Source.left c.args.message.now) (g.M.Source.left c.inject.new.source) e (g.M.Source.faults c.args.message.now) (g.M.Source.faults c.inject.new.source)
    old new sink (g.K.Clock.calls c.now-start.new.self) c.now-start.result took
    (ap g.M.Source.left c.in_default.ensures.source) (ap g.M.Source.faults c.in_default.ensures.source) c.now-start.ensures.told (ap g.K.Clock.calls c.in_default.ensures.clock)
    (ap g.D.CallFs.disk c.in_default.ensures.disk) (ap g.D.CallFs.calls c.in_default.ensures.disk) (ap g.D.CallFs.faults c.in_default.ensures.disk) (record { taken = refl; faults = refl })))

pub returns-in-Broken : goal.returns-in-Broken
returns-in-Broken g c =
    let who : ℕ → Who = λ pid. record { uid = c.args.uid; pid = pid; invoked = Uid c.args.uid } in
    let pid_is : c.pid-pid.result ≡ g.K.Clock.pid c.args.clock.now = c.pid-pid.ensures ∙ c.now-start.ensures.same in
    let old : Outside = record { disk = g.D.CallFs.disk c.args.disk.now; calls = g.D.CallFs.calls c.args.disk.now; faults = g.D.CallFs.faults c.args.disk.now; moments = g.K.Clock.calls c.args.clock.now } in
    let new : Outside = record { disk = g.D.CallFs.disk c.inject.new.disk; calls = g.D.CallFs.calls c.inject.new.disk; faults = g.D.CallFs.faults c.inject.new.disk; moments = g.K.Clock.calls c.inject.new.clock } in
    let sink : Sunk = record { old = g.O.Sink.taken c.args.out.now; new = g.O.Sink.taken c.args.out.now; faults_old = g.O.Sink.faults c.args.out.now; faults_new = g.O.Sink.faults c.args.out.now } in
    subst (λ (status : ℕ). HasReceivedFrom c.args.reader (who (g.K.Clock.pid c.args.clock.now))
    (stream (g.M.Source.left c.args.message.now) (g.M.Source.faults c.args.message.now) (g.M.Source.left c.pass_over.new.source) (g.M.Source.faults c.pass_over.new.source)) old new sink status) (sym c.status_of.ensures)
    (from_heads c.args.reader (who (g.K.Clock.pid c.args.clock.now)) (g.M.Source.left c.args.message.now) (g.M.Source.left c.pass_over.new.source) (g.M.Source.faults c.args.message.now) (g.M.Source.faults c.pass_over.new.source) old new sink (status_of c.in-Broken.fault) (λ a e took.
    subst (λ pid. HasReceived (who pid) (stream a e (g.M.Source.left c.pass_over.new.source) (g.M.Source.faults c.pass_over.new.source)) old new sink (status_of c.in-Broken.fault)) pid_is
    (none_received (who c.pid-pid.result) c.now-start.result c.statuses_have_causes.ensures c.in-Ok.ensures.number (let soon = c.now-start.ensures.moment in omega arith)
    c.args.reader c.inject.new.reader c.pass_over.new.reader a (g.M.Source.left c.args.message.now) (g.M.Source.left c.inject.new.source) (g.M.Source.left c.pass_over.new.source)
    e (g.M.Source.faults c.args.message.now) (g.M.Source.faults c.inject.new.source) (g.M.Source.faults c.pass_over.new.source)
    old new (g.K.Clock.calls c.now-start.new.self) c.in-Ok.ended c.now-start.ensures.told took c.in-Ok.ensures.fed c.pass_over.ensures.passes c.in-Broken.fault sink c.in-Broken.is (record { taken = refl; faults = refl }))))

pub returns-in_default-place : goal.returns-in_default-place
returns-in_default-place g c =
    let who : ℕ → Who = λ pid. record { uid = c.args.uid; pid = pid; invoked = Uid c.args.uid } in
    let pid_is : c.pid-pid.result ≡ g.K.Clock.pid c.args.clock.now = c.pid-pid.ensures ∙ c.now-start.ensures.same in
    let old : Outside = record { disk = g.D.CallFs.disk c.args.disk.now; calls = g.D.CallFs.calls c.args.disk.now; faults = g.D.CallFs.faults c.args.disk.now; moments = g.K.Clock.calls c.args.clock.now } in
    let new : Outside = record { disk = g.D.CallFs.disk c.inject.new.disk; calls = g.D.CallFs.calls c.inject.new.disk; faults = g.D.CallFs.faults c.inject.new.disk; moments = g.K.Clock.calls c.inject.new.clock } in
    let sink : Sunk = record { old = g.O.Sink.taken c.args.out.now; new = g.O.Sink.taken c.give_answer.new.out; faults_old = g.O.Sink.faults c.args.out.now; faults_new = g.O.Sink.faults c.give_answer.new.out } in
    from_heads c.args.reader (who (g.K.Clock.pid c.args.clock.now)) (g.M.Source.left c.args.message.now) (g.M.Source.left c.pass_over.new.source) (g.M.Source.faults c.args.message.now) (g.M.Source.faults c.pass_over.new.source) old new sink c.give_answer.result (λ a e took.
    subst (λ pid. HasReceived (who pid) (stream a e (g.M.Source.left c.pass_over.new.source) (g.M.Source.faults c.pass_over.new.source)) old new sink c.give_answer.result) pid_is
    (answered (who c.pid-pid.result) c.now-start.result c.statuses_have_causes.ensures c.in-Ok.ensures.number (let soon = c.now-start.ensures.moment in omega arith)
    c.args.reader c.inject.new.reader c.pass_over.new.reader a (g.M.Source.left c.args.message.now) (g.M.Source.left c.inject.new.source) (g.M.Source.left c.pass_over.new.source)
    e (g.M.Source.faults c.args.message.now) (g.M.Source.faults c.inject.new.source) (g.M.Source.faults c.pass_over.new.source)
    old new (g.K.Clock.calls c.now-start.new.self) c.in-Ok.ended c.now-start.ensures.told took c.in-Ok.ensures.fed c.pass_over.ensures.passes sink c.give_answer.result c.pass_over.ensures.over c.in_default-place.not-Broken c.give_answer.ensures))
