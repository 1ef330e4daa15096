use Rattle.spawner_parts.proofs.Holds.{uses}
use Rattle.spawner_parts.proofs.Agree.{begins, goes_on, waits}
use Rattle.spawner_parts.proofs.laws.places_tell_the_past.Goals as goal

pub returns-clause-begins : goal.returns-clause-begins
returns-clause-begins c = begins

pub returns-clause-goes_on : goal.returns-clause-goes_on
returns-clause-goes_on c = goes_on

pub returns-clause-uses : goal.returns-clause-uses
returns-clause-uses c = λ program past p ready tells. uses program past p ready tells.holds

pub returns-clause-waits : goal.returns-clause-waits
returns-clause-waits c = waits
