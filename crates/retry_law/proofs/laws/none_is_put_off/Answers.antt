use Rattle.retry_law.proofs.PutOff.{none_is_put_off}
use Rattle.retry_law.proofs.laws.none_is_put_off.Goals as goal

pub returns : goal.returns
returns c = none_is_put_off
