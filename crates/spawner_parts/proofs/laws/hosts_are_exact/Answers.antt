use Rattle.spawner_parts.proofs.Hosts.{host_splits}
use Rattle.spawner_parts.proofs.laws.hosts_are_exact.Goals as goal

pub returns : goal.returns
returns c = host_splits
