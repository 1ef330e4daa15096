use Rattle.qmail_top.proofs.Families.{was_sent_from}
use Rattle.qmail_top.proofs.sending.be_sender.Goals as goal

pub returns : goal.returns
returns g c = was_sent_from c.args.told _ _ _ _ _ _ _ _ _ c.as_slice.ensures c.as_slice-2.ensures c.send.ensures
