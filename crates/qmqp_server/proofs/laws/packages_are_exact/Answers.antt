use Rattle.qmqp_server.proofs.Netstrings.{packages_exact}
use Rattle.qmqp_server.proofs.laws.packages_are_exact.Goals as goal

pub returns : goal.returns
returns c = packages_exact
