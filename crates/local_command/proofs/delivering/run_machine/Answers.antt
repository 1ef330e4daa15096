use Rattle.std.proofs.Common.{◌∙◌}
use Rattle.local_command.proofs.Whole.{cut_at_once, ran_so}
use Rattle.local_command.proofs.delivering.run_machine.Goals as goal

pub returns : goal.returns
returns g c = λ args s. ran_so _ _ (c.as_slice.ensures ∙ c.in-Ok.ensures) args _ _ _ _ c.statuses_have_causes.ensures
    c.run-ran.result (c.run-ran.ensures args s) _ c.status_of.ensures

pub returns-in_default : goal.returns-in_default
returns-in_default g c = λ args s. cut_at_once _ args _ _
