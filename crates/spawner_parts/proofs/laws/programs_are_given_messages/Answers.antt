use Rattle.spawner_parts.proofs.Carried.{carried, gives}
use Rattle.spawner_parts.proofs.laws.programs_are_given_messages.Goals as goal

pub returns-clause-goes_on : goal.returns-clause-goes_on
returns-clause-goes_on c = carried

pub returns-clause-gives : goal.returns-clause-gives
returns-clause-gives c = gives

pub returns-clause-begins : goal.returns-clause-begins
returns-clause-begins c = λ given past. tt
