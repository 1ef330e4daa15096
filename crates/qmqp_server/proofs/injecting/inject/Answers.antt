use Rattle.std.proofs.Common.{◌<◌, ◌+◌, [], Some, None, sym, subst, arith}
use Rattle.program_runner.specs.Outside.{Outside}
use Rattle.received_line.specs.declared.line.Invoked.TheVariants.{Uid}
use Rattle.queue_inject.specs.Machine.{ahead_by}
use Rattle.queue_command.specs.Inputs.{Stream}
use Rattle.queue_command.specs.Runs.{Who}
use Rattle.queue_command.proofs.Feeding.{asks_some}
use Rattle.queue_command.proofs.Going.{goes_new}
use Rattle.qmqp_server.specs.inside.Places.{left_of}
use Rattle.qmqp_server.proofs.Feeding.{feeding_ended, feeding_fed, feeding_may, feeding_new, feeding_turned, still_reads}
use Rattle.qmqp_server.proofs.injecting.inject.Goals as goal

pub loop-injector-init : goal.loop-injector-init
loop-injector-init g c =
    let who : Who = record { uid = c.args.uid; pid = c.args.pid; invoked = Uid c.args.uid } in
    let old : Outside = record { disk = g.D.CallFs.disk c.args.disk.now; calls = g.D.CallFs.calls c.args.disk.now; disk_faults = g.D.CallFs.faults c.args.disk.now; moments = g.K.Clock.calls c.args.clock.now; last = g.K.Clock.last c.args.clock.now; left = Some []; input_faults = 0; taken = None; output_faults = 0 } in
    feeding_new who c.args.start c.args.reader.now c.in_ok-injector.injector (g.S.Source.left c.args.source.now) (g.S.Source.faults c.args.source.now) old c.requires.new
    (goes_new who c.args.start c.in_ok-injector.injector old (let now = c.requires.now in omega arith) c.in_ok-injector.ensures.row c.in_ok-injector.ensures.fed c.in_ok-injector.ensures.stands)

pub feed_next-requires-clause-going : goal.feed_next-requires-clause-going
feed_next-requires-clause-going g c =
    let who : Who = record { uid = c.args.uid; pid = c.args.pid; invoked = Uid c.args.uid } in
    let old : Outside = record { disk = g.D.CallFs.disk c.args.disk.now; calls = g.D.CallFs.calls c.args.disk.now; disk_faults = g.D.CallFs.faults c.args.disk.now; moments = g.K.Clock.calls c.args.clock.now; last = g.K.Clock.last c.args.clock.now; left = Some []; input_faults = 0; taken = None; output_faults = 0 } in
    let now : Outside = record { disk = g.D.CallFs.disk c.loop-injector.disk; calls = g.D.CallFs.calls c.loop-injector.disk; disk_faults = g.D.CallFs.faults c.loop-injector.disk; moments = g.K.Clock.calls c.loop-injector.clock; last = g.K.Clock.last c.loop-injector.clock; left = Some []; input_faults = 0; taken = None; output_faults = 0 } in
    let s : Stream = record { old = g.S.Source.left c.args.source.now; new = g.S.Source.left c.loop-injector.source; faults_old = g.S.Source.faults c.args.source.now; faults_new = g.S.Source.faults c.loop-injector.source } in
    let part = asks_some c.loop-injector.injector (subst (λ r. 0 < r) c.room.ensures.room c.if-room-gt0.true) in
    still_reads who c.args.start c.args.reader.now c.loop-injector.reader c.loop-injector.injector s old now part.0 part.1 c.loop-injector.invariant

pub loop-injector-preserved-then-room-gt0 : goal.loop-injector-preserved-then-room-gt0
loop-injector-preserved-then-room-gt0 g c =
    let who : Who = record { uid = c.args.uid; pid = c.args.pid; invoked = Uid c.args.uid } in
    let old : Outside = record { disk = g.D.CallFs.disk c.args.disk.now; calls = g.D.CallFs.calls c.args.disk.now; disk_faults = g.D.CallFs.faults c.args.disk.now; moments = g.K.Clock.calls c.args.clock.now; last = g.K.Clock.last c.args.clock.now; left = Some []; input_faults = 0; taken = None; output_faults = 0 } in
    let now : Outside = record { disk = g.D.CallFs.disk c.loop-injector.disk; calls = g.D.CallFs.calls c.loop-injector.disk; disk_faults = g.D.CallFs.faults c.loop-injector.disk; moments = g.K.Clock.calls c.loop-injector.clock; last = g.K.Clock.last c.loop-injector.clock; left = Some []; input_faults = 0; taken = None; output_faults = 0 } in
    let s : Stream = record { old = g.S.Source.left c.args.source.now; new = g.S.Source.left c.loop-injector.source; faults_old = g.S.Source.faults c.args.source.now; faults_new = g.S.Source.faults c.loop-injector.source } in
    let part = asks_some c.loop-injector.injector (subst (λ r. 0 < r) c.room.ensures.room c.if-room-gt0.true) in
    feeding_fed who c.args.start c.args.reader.now c.loop-injector.reader c.feed_next.new.reader c.loop-injector.injector c.feed_next.new.injector
    (g.S.Source.left c.args.source.now) (g.S.Source.left c.loop-injector.source) (g.S.Source.left c.feed_next.new.source)
    (g.S.Source.faults c.args.source.now) (g.S.Source.faults c.loop-injector.source) (g.S.Source.faults c.feed_next.new.source)
    old now part.0 part.1
    (still_reads who c.args.start c.args.reader.now c.loop-injector.reader c.loop-injector.injector s old now part.0 part.1 c.loop-injector.invariant)
    c.loop-injector.invariant c.feed_next.ensures

pub loop-injector-smaller-then-room-gt0 : goal.loop-injector-smaller-then-room-gt0
loop-injector-smaller-then-room-gt0 g c =
    subst (λ r. ahead_by r + left_of c.feed_next.new.reader < ahead_by c.loop-injector.injector.row + left_of c.loop-injector.reader) (sym c.feed_next.ensures.row)
    (let nearer = c.feed_next.ensures.nearer in omega arith)

pub turn-requires-clause-may : goal.turn-requires-clause-may
turn-requires-clause-may g c =
    let who : Who = record { uid = c.args.uid; pid = c.args.pid; invoked = Uid c.args.uid } in
    let old : Outside = record { disk = g.D.CallFs.disk c.args.disk.now; calls = g.D.CallFs.calls c.args.disk.now; disk_faults = g.D.CallFs.faults c.args.disk.now; moments = g.K.Clock.calls c.args.clock.now; last = g.K.Clock.last c.args.clock.now; left = Some []; input_faults = 0; taken = None; output_faults = 0 } in
    let now : Outside = record { disk = g.D.CallFs.disk c.loop-injector.disk; calls = g.D.CallFs.calls c.loop-injector.disk; disk_faults = g.D.CallFs.faults c.loop-injector.disk; moments = g.K.Clock.calls c.loop-injector.clock; last = g.K.Clock.last c.loop-injector.clock; left = Some []; input_faults = 0; taken = None; output_faults = 0 } in
    let s : Stream = record { old = g.S.Source.left c.args.source.now; new = g.S.Source.left c.loop-injector.source; faults_old = g.S.Source.faults c.args.source.now; faults_new = g.S.Source.faults c.loop-injector.source } in
    feeding_may who c.args.start c.args.reader.now c.loop-injector.reader c.loop-injector.injector s old now c.loop-injector.invariant

pub loop-injector-preserved : goal.loop-injector-preserved
loop-injector-preserved g c =
    let who : Who = record { uid = c.args.uid; pid = c.args.pid; invoked = Uid c.args.uid } in
    let old : Outside = record { disk = g.D.CallFs.disk c.args.disk.now; calls = g.D.CallFs.calls c.args.disk.now; disk_faults = g.D.CallFs.faults c.args.disk.now; moments = g.K.Clock.calls c.args.clock.now; last = g.K.Clock.last c.args.clock.now; left = Some []; input_faults = 0; taken = None; output_faults = 0 } in
    let now : Outside = record { disk = g.D.CallFs.disk c.loop-injector.disk; calls = g.D.CallFs.calls c.loop-injector.disk; disk_faults = g.D.CallFs.faults c.loop-injector.disk; moments = g.K.Clock.calls c.loop-injector.clock; last = g.K.Clock.last c.loop-injector.clock; left = Some []; input_faults = 0; taken = None; output_faults = 0 } in
    let new : Outside = record { disk = g.D.CallFs.disk c.turn.new.disk; calls = g.D.CallFs.calls c.turn.new.disk; disk_faults = g.D.CallFs.faults c.turn.new.disk; moments = g.K.Clock.calls c.turn.new.clock; last = g.K.Clock.last c.turn.new.clock; left = Some []; input_faults = 0; taken = None; output_faults = 0 } in
    let s : Stream = record { old = g.S.Source.left c.args.source.now; new = g.S.Source.left c.loop-injector.source; faults_old = g.S.Source.faults c.args.source.now; faults_new = g.S.Source.faults c.loop-injector.source } in
    feeding_turned who c.args.start c.args.reader.now c.loop-injector.reader c.loop-injector.injector c.turn.new.machine s old now new c.loop-injector.invariant c.in_ok-turn.field-0 c.in-None.is c.in_ok-turn.ensures.turned

pub loop-injector-smaller : goal.loop-injector-smaller
loop-injector-smaller g c = let nearer = c.in_ok-turn.ensures.nearer c.in-None.is in omega arith

pub returns-in-Some-clause-fed : goal.returns-in-Some-clause-fed
returns-in-Some-clause-fed g c =
    let who : Who = record { uid = c.args.uid; pid = c.args.pid; invoked = Uid c.args.uid } in
    let old : Outside = record { disk = g.D.CallFs.disk c.args.disk.now; calls = g.D.CallFs.calls c.args.disk.now; disk_faults = g.D.CallFs.faults c.args.disk.now; moments = g.K.Clock.calls c.args.clock.now; last = g.K.Clock.last c.args.clock.now; left = Some []; input_faults = 0; taken = None; output_faults = 0 } in
    let now : Outside = record { disk = g.D.CallFs.disk c.loop-injector.disk; calls = g.D.CallFs.calls c.loop-injector.disk; disk_faults = g.D.CallFs.faults c.loop-injector.disk; moments = g.K.Clock.calls c.loop-injector.clock; last = g.K.Clock.last c.loop-injector.clock; left = Some []; input_faults = 0; taken = None; output_faults = 0 } in
    let new : Outside = record { disk = g.D.CallFs.disk c.turn.new.disk; calls = g.D.CallFs.calls c.turn.new.disk; disk_faults = g.D.CallFs.faults c.turn.new.disk; moments = g.K.Clock.calls c.turn.new.clock; last = g.K.Clock.last c.turn.new.clock; left = Some []; input_faults = 0; taken = None; output_faults = 0 } in
    let s : Stream = record { old = g.S.Source.left c.args.source.now; new = g.S.Source.left c.loop-injector.source; faults_old = g.S.Source.faults c.args.source.now; faults_new = g.S.Source.faults c.loop-injector.source } in
    feeding_ended who c.args.start c.args.reader.now c.loop-injector.reader c.loop-injector.injector c.turn.new.machine s old now new c.loop-injector.invariant c.in_ok-turn.field-0 c.in-Some.status c.in-Some.is c.in_ok-turn.ensures.turned
