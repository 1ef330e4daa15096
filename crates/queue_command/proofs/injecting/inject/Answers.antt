use Rattle.std.proofs.Common.{◌≡◌, inl, ℕ, ◌∙◌, subst, arith}
use Rattle.queue_command.specs.Inputs.{Stream}
use Rattle.queue_command.specs.Runs.{Outside}
use Rattle.queue_command.specs.Injected.{HasReadAndRun}
use Rattle.queue_command.proofs.Whole.{injected}
use Rattle.queue_command.proofs.injecting.inject.Goals as goal

pub returns-in-Ok-clause-injected : goal.returns-in-Ok-clause-injected
returns-in-Ok-clause-injected g c =
    let from : Stream = record { old = g.M.Source.left c.args.message.now; new = g.M.Source.left c.inject_from.new.message; faults_old = g.M.Source.faults c.args.message.now; faults_new = g.M.Source.faults c.inject_from.new.message } in
    let beside : Stream = record { old = g.E.Source.left c.args.envelope.now; new = g.E.Source.left c.inject_from.new.envelope; faults_old = g.E.Source.faults c.args.envelope.now; faults_new = g.E.Source.faults c.inject_from.new.envelope } in
    let old : Outside = record { disk = g.D.CallFs.disk c.args.disk.now; calls = g.D.CallFs.calls c.args.disk.now; faults = g.D.CallFs.faults c.args.disk.now; moments = g.K.Clock.calls c.args.clock.now } in
    let new : Outside = record { disk = g.D.CallFs.disk c.inject_from.new.disk; calls = g.D.CallFs.calls c.inject_from.new.disk; faults = g.D.CallFs.faults c.inject_from.new.disk; moments = g.K.Clock.calls c.inject_from.new.clock } in
    let pid_is : c.pid-pid.result ≡ g.K.Clock.pid c.args.clock.now = c.pid-pid.ensures ∙ c.now-start.ensures.same in
    inl (subst (λ (pid : ℕ). HasReadAndRun (record { uid = c.args.uid; pid = pid; invoked = c.args.invoked }) c.args.form from beside old new c.in-Ok.status) pid_is
    (injected (record { uid = c.args.uid; pid = c.pid-pid.result; invoked = c.args.invoked }) c.now-start.result c.args.form from beside old new c.in-Ok.status
    (g.K.Clock.calls c.now-start.new.self) c.statuses_have_causes.ensures c.inject_from.ensures.number (let soon = c.now-start.ensures.moment in omega arith) c.now-start.ensures.told c.in-Ok.ensures.ran))
