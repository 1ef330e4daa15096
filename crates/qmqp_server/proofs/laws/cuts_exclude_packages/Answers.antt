use Rattle.qmqp_server.proofs.Exclusion.{cuts_exclude}
use Rattle.qmqp_server.proofs.laws.cuts_exclude_packages.Goals as goal

pub returns : goal.returns
returns c = cuts_exclude
