use Rattle.qmail_top.proofs.Families.{delivered_from}
use Rattle.qmail_top.proofs.alone.deliver_message.Goals as goal

pub returns : goal.returns
returns g c = delivered_from _ _ _ _ _ _ _ _ c.as_slice.ensures c.deliver.ensures
