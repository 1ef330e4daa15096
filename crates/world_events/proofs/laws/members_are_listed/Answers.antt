use Rattle.std.proofs.Common.{refl}
use Rattle.world_events.proofs.laws.members_are_listed.Goals as goal

pub returns-clause-names : goal.returns-clause-names
returns-clause-names c = refl

pub returns-clause-seats : goal.returns-clause-seats
returns-clause-seats c = refl

pub returns-clause-classes : goal.returns-clause-classes
returns-clause-classes c = λ start. refl
