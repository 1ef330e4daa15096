use Rattle.std.proofs.Common.{◌≡◌}
use Rattle.yard_lock.specs.Turns.{IsPrefix}
use Rattle.actor_runner.proofs.mails.run_mail.Given as goal

abbrev pub invariant-loop : goal.invariant-loop
invariant-loop g l =
    (l.pass.yard ≡ l.fn.pass.yard) × (l.pass.number ≡ l.fn.pass.number) × (l.pass.parts ≡ l.fn.pass.parts) × IsPrefix l.fn.pass.seen l.pass.seen
