use Rattle.std.proofs.Common.{ℕ, ap, ◌∙◌}
use Rattle.local_parts.specs.Arguments.{local_args}
use Rattle.local_command.proofs.Whole.{cut_at_once, stands_for}
use Rattle.local_command.proofs.delivering.deliver.Goals as goal

pub returns-in-Ok : goal.returns-in-Ok
returns-in-Ok g c =
    c.run_machine-status.ensures (local_args c.args.words c.args.uid (g.K.Clock.pid c.args.clock.now))
    (stands_for c.in-Ok.machine c.arguments-args.result _ (c.arguments-args.ensures ∙ ap (λ (n : ℕ). local_args c.args.words c.args.uid n) c.pid.ensures) c.in-Ok.ensures)

pub returns-in-Err : goal.returns-in-Err
returns-in-Err g c = cut_at_once _ _ _ _
