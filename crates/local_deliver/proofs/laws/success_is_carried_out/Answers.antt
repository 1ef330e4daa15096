use Rattle.local_deliver.proofs.Carrying.{carried_out}
use Rattle.local_deliver.proofs.laws.success_is_carried_out.Goals as goal

pub returns : goal.returns
returns c = λ args past now ready run due. carried_out args past now ready run due
