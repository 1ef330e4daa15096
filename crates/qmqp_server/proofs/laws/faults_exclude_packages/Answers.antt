use Rattle.qmqp_server.proofs.Exclusion.{faults_exclude}
use Rattle.qmqp_server.proofs.laws.faults_exclude_packages.Goals as goal

pub returns : goal.returns
returns c = faults_exclude
