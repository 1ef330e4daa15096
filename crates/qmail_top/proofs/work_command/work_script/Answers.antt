use Rattle.std.proofs.Common.{refl}
use Rattle.qmail_top.proofs.Commands.{malformed_why}
use Rattle.qmail_top.proofs.Works.{reached_as, read_as, unended_as, worked_failed, worked_whole}
use Rattle.qmail_top.proofs.work_command.work_script.Goals as goal

pub returns-in-Ok : goal.returns-in-Ok
returns-in-Ok g c =
    let done = c.in-Ok.ensures in
    worked_whole _ _ _ done.prints (reached_as _ _ _ _ _ (λ e. absurd (cc)) done.reached) (read_as _ _ _ _ (λ e. refl) done.ended) done.told_end (unended_as _ _ _ _ _ (λ e. absurd (cc)) done.unended) done.checked

pub returns-in-Err : goal.returns-in-Err
returns-in-Err g c =
    let failed = c.in-Err.ensures in
    worked_failed _ _ _ c.in-Err.why _ c.status_of.ensures failed.begins failed.refuses (reached_as _ _ _ _ _ (malformed_why c.in-Err.why) failed.reached) (unended_as _ _ _ _ _ (malformed_why c.in-Err.why) failed.unended) failed.cause failed.unwritten failed.checked
