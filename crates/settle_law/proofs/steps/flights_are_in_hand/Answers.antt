use Rattle.settle_law.proofs.Flying.{flights_are_in_hand}
use Rattle.settle_law.proofs.steps.flights_are_in_hand.Goals as goal

pub returns : goal.returns
returns c = flights_are_in_hand
