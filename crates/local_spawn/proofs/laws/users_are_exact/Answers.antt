use Rattle.local_spawn.proofs.FindingLemmas.{one_user, no_user}
use Rattle.local_spawn.proofs.FoundLemmas.{found_is}
use Rattle.local_spawn.proofs.laws.users_are_exact.Goals as goal

pub returns : goal.returns
returns c = record { one = one_user; none = no_user; found = found_is }
