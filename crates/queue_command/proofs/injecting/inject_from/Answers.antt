use Rattle.std.proofs.Common.{◌<◌, [], Some, None, refl, ◌∙◌, subst, arith}
use Rattle.program_runner.specs.Outside.{Outside}
use Rattle.queue_inject.specs.Machine.{asks, ahead_by}
use Rattle.queue_command.specs.Inputs.{Stream}
use Rattle.queue_command.specs.Runs.{Who}
use Rattle.queue_command.proofs.Portions.{row_fed}
use Rattle.queue_command.proofs.Runs.{IsInjecting, injects, fed_on, may, turned, injected}
use Rattle.queue_command.proofs.injecting.inject_from.Goals as goal

pub loop-status-init : goal.loop-status-init
loop-status-init g c =
    let who : Who = record { uid = c.args.uid; pid = c.args.pid; invoked = c.args.invoked } in
    let old : Outside = record { disk = g.D.CallFs.disk c.args.disk.now; calls = g.D.CallFs.calls c.args.disk.now; disk_faults = g.D.CallFs.faults c.args.disk.now; moments = g.K.Clock.calls c.args.clock.now; last = g.K.Clock.last c.args.clock.now; left = Some []; input_faults = 0; taken = None; output_faults = 0 } in
    record {
      injecting = injects who c.args.start c.args.form c.in_ok-injector.injector (g.M.Source.left c.args.message.now) (g.E.Source.left c.args.envelope.now) (g.M.Source.faults c.args.message.now) (g.E.Source.faults c.args.envelope.now) old
          (let now = c.requires.now in omega arith) c.in_ok-injector.ensures.row c.in_ok-injector.ensures.fed c.in_ok-injector.ensures.stands;
      beside = λ is. refl;
    }

pub turn-requires-clause-may : goal.turn-requires-clause-may
turn-requires-clause-may g c =
    let who : Who = record { uid = c.args.uid; pid = c.args.pid; invoked = c.args.invoked } in
    let old : Outside = record { disk = g.D.CallFs.disk c.args.disk.now; calls = g.D.CallFs.calls c.args.disk.now; disk_faults = g.D.CallFs.faults c.args.disk.now; moments = g.K.Clock.calls c.args.clock.now; last = g.K.Clock.last c.args.clock.now; left = Some []; input_faults = 0; taken = None; output_faults = 0 } in
    let now : Outside = record { disk = g.D.CallFs.disk c.loop-status.disk; calls = g.D.CallFs.calls c.loop-status.disk; disk_faults = g.D.CallFs.faults c.loop-status.disk; moments = g.K.Clock.calls c.loop-status.clock; last = g.K.Clock.last c.loop-status.clock; left = Some []; input_faults = 0; taken = None; output_faults = 0 } in
    let from : Stream = record { old = g.M.Source.left c.args.message.now; new = g.M.Source.left c.feed.new.message; faults_old = g.M.Source.faults c.args.message.now; faults_new = g.M.Source.faults c.feed.new.message } in
    let beside : Stream = record { old = g.E.Source.left c.args.envelope.now; new = g.E.Source.left c.feed.new.envelope; faults_old = g.E.Source.faults c.args.envelope.now; faults_new = g.E.Source.faults c.feed.new.envelope } in
    let fed : IsInjecting who c.args.start c.args.form c.feed.new.place c.feed.new.injector from beside old now =
    fed_on who c.args.start c.args.form c.loop-status.place c.feed.new.place c.loop-status.injector c.feed.new.injector
    (g.M.Source.left c.args.message.now) (g.M.Source.left c.loop-status.message) (g.M.Source.left c.feed.new.message)
    (g.E.Source.left c.args.envelope.now) (g.E.Source.left c.loop-status.envelope) (g.E.Source.left c.feed.new.envelope)
    (g.M.Source.faults c.args.message.now) (g.M.Source.faults c.loop-status.message) (g.M.Source.faults c.feed.new.message)
    (g.E.Source.faults c.args.envelope.now) (g.E.Source.faults c.loop-status.envelope) (g.E.Source.faults c.feed.new.envelope)
    old now c.loop-status.invariant.injecting c.feed.ensures.feeds in
    may who c.args.start c.args.form c.feed.new.place c.feed.new.injector from beside old now fed

pub loop-status-smaller : goal.loop-status-smaller
loop-status-smaller g c =
    subst (λ r. ahead_by c.turn.new.machine.row < ahead_by r)
    (row_fed (asks c.loop-status.injector) c.args.form c.loop-status.place c.feed.new.place c.loop-status.injector c.feed.new.injector
    (record { old = g.M.Source.left c.loop-status.message; new = g.M.Source.left c.feed.new.message; faults_old = g.M.Source.faults c.loop-status.message; faults_new = g.M.Source.faults c.feed.new.message })
    (record { old = g.E.Source.left c.loop-status.envelope; new = g.E.Source.left c.feed.new.envelope; faults_old = g.E.Source.faults c.loop-status.envelope; faults_new = g.E.Source.faults c.feed.new.envelope })
    c.feed.ensures.feeds) (c.in_ok-turn.ensures.nearer c.in-None.is)

pub loop-status-preserved : goal.loop-status-preserved
loop-status-preserved g c =
    let who : Who = record { uid = c.args.uid; pid = c.args.pid; invoked = c.args.invoked } in
    let old : Outside = record { disk = g.D.CallFs.disk c.args.disk.now; calls = g.D.CallFs.calls c.args.disk.now; disk_faults = g.D.CallFs.faults c.args.disk.now; moments = g.K.Clock.calls c.args.clock.now; last = g.K.Clock.last c.args.clock.now; left = Some []; input_faults = 0; taken = None; output_faults = 0 } in
    let now : Outside = record { disk = g.D.CallFs.disk c.loop-status.disk; calls = g.D.CallFs.calls c.loop-status.disk; disk_faults = g.D.CallFs.faults c.loop-status.disk; moments = g.K.Clock.calls c.loop-status.clock; last = g.K.Clock.last c.loop-status.clock; left = Some []; input_faults = 0; taken = None; output_faults = 0 } in
    let new : Outside = record { disk = g.D.CallFs.disk c.turn.new.disk; calls = g.D.CallFs.calls c.turn.new.disk; disk_faults = g.D.CallFs.faults c.turn.new.disk; moments = g.K.Clock.calls c.turn.new.clock; last = g.K.Clock.last c.turn.new.clock; left = Some []; input_faults = 0; taken = None; output_faults = 0 } in
    let from : Stream = record { old = g.M.Source.left c.args.message.now; new = g.M.Source.left c.feed.new.message; faults_old = g.M.Source.faults c.args.message.now; faults_new = g.M.Source.faults c.feed.new.message } in
    let beside : Stream = record { old = g.E.Source.left c.args.envelope.now; new = g.E.Source.left c.feed.new.envelope; faults_old = g.E.Source.faults c.args.envelope.now; faults_new = g.E.Source.faults c.feed.new.envelope } in
    let fed : IsInjecting who c.args.start c.args.form c.feed.new.place c.feed.new.injector from beside old now =
    fed_on who c.args.start c.args.form c.loop-status.place c.feed.new.place c.loop-status.injector c.feed.new.injector
    (g.M.Source.left c.args.message.now) (g.M.Source.left c.loop-status.message) (g.M.Source.left c.feed.new.message)
    (g.E.Source.left c.args.envelope.now) (g.E.Source.left c.loop-status.envelope) (g.E.Source.left c.feed.new.envelope)
    (g.M.Source.faults c.args.message.now) (g.M.Source.faults c.loop-status.message) (g.M.Source.faults c.feed.new.message)
    (g.E.Source.faults c.args.envelope.now) (g.E.Source.faults c.loop-status.envelope) (g.E.Source.faults c.feed.new.envelope)
    old now c.loop-status.invariant.injecting c.feed.ensures.feeds in
    record {
      injecting = turned who c.args.start c.args.form c.feed.new.place c.feed.new.injector c.turn.new.machine from beside old now new fed c.in_ok-turn.field-0 c.in-None.is c.in_ok-turn.ensures.turned;
      beside = λ is. c.feed.ensures.beside is ∙ c.loop-status.invariant.beside is;
    }

pub returns-in-Some-clause-ran : goal.returns-in-Some-clause-ran
returns-in-Some-clause-ran g c =
    let who : Who = record { uid = c.args.uid; pid = c.args.pid; invoked = c.args.invoked } in
    let old : Outside = record { disk = g.D.CallFs.disk c.args.disk.now; calls = g.D.CallFs.calls c.args.disk.now; disk_faults = g.D.CallFs.faults c.args.disk.now; moments = g.K.Clock.calls c.args.clock.now; last = g.K.Clock.last c.args.clock.now; left = Some []; input_faults = 0; taken = None; output_faults = 0 } in
    let now : Outside = record { disk = g.D.CallFs.disk c.loop-status.disk; calls = g.D.CallFs.calls c.loop-status.disk; disk_faults = g.D.CallFs.faults c.loop-status.disk; moments = g.K.Clock.calls c.loop-status.clock; last = g.K.Clock.last c.loop-status.clock; left = Some []; input_faults = 0; taken = None; output_faults = 0 } in
    let new : Outside = record { disk = g.D.CallFs.disk c.turn.new.disk; calls = g.D.CallFs.calls c.turn.new.disk; disk_faults = g.D.CallFs.faults c.turn.new.disk; moments = g.K.Clock.calls c.turn.new.clock; last = g.K.Clock.last c.turn.new.clock; left = Some []; input_faults = 0; taken = None; output_faults = 0 } in
    let from : Stream = record { old = g.M.Source.left c.args.message.now; new = g.M.Source.left c.feed.new.message; faults_old = g.M.Source.faults c.args.message.now; faults_new = g.M.Source.faults c.feed.new.message } in
    let beside : Stream = record { old = g.E.Source.left c.args.envelope.now; new = g.E.Source.left c.feed.new.envelope; faults_old = g.E.Source.faults c.args.envelope.now; faults_new = g.E.Source.faults c.feed.new.envelope } in
    let fed : IsInjecting who c.args.start c.args.form c.feed.new.place c.feed.new.injector from beside old now =
    fed_on who c.args.start c.args.form c.loop-status.place c.feed.new.place c.loop-status.injector c.feed.new.injector
    (g.M.Source.left c.args.message.now) (g.M.Source.left c.loop-status.message) (g.M.Source.left c.feed.new.message)
    (g.E.Source.left c.args.envelope.now) (g.E.Source.left c.loop-status.envelope) (g.E.Source.left c.feed.new.envelope)
    (g.M.Source.faults c.args.message.now) (g.M.Source.faults c.loop-status.message) (g.M.Source.faults c.feed.new.message)
    (g.E.Source.faults c.args.envelope.now) (g.E.Source.faults c.loop-status.envelope) (g.E.Source.faults c.feed.new.envelope)
    old now c.loop-status.invariant.injecting c.feed.ensures.feeds in
    injected who c.args.start c.args.form c.feed.new.place c.feed.new.injector c.turn.new.machine from beside old now new fed c.in_ok-turn.field-0 c.in-Some.status c.in-Some.is c.in_ok-turn.ensures.turned
