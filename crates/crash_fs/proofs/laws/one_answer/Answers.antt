use Rattle.crash_fs.proofs.OneAnswer.{one_answer}
use Rattle.crash_fs.proofs.laws.one_answer.Goals as goal

pub returns : goal.returns
returns c = one_answer
