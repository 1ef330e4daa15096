use Rattle.local_spawn.proofs.Ends.{gives, starts}
use Rattle.local_spawn.proofs.laws.deliveries_are_of_users.Goals as goal

pub returns-clause-starts : goal.returns-clause-starts
returns-clause-starts c = starts

pub returns-clause-gives : goal.returns-clause-gives
returns-clause-gives c = gives
