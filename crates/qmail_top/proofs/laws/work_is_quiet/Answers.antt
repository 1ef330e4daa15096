use Rattle.scenario.proofs.QuietWork.{work_is_quiet}
use Rattle.qmail_top.proofs.laws.work_is_quiet.Goals as goal

pub returns : goal.returns
returns c = work_is_quiet
