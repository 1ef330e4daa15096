use Rattle.qmqp_server.proofs.Fitting.{have_envelopes}
use Rattle.qmqp_server.proofs.laws.packages_have_envelopes.Goals as goal

pub returns : goal.returns
returns c = have_envelopes
