use Rattle.local_deliver.proofs.Forwards.{given, next, taken}
use Rattle.local_deliver.proofs.laws.forwards_are_fed.Goals as goal

pub returns : goal.returns
returns c = record { next = next; given = given; taken = taken }
