use Rattle.world_law.proofs.Holding.{requests_are_of_flights}
use Rattle.world_law.proofs.laws.requests_are_of_flights.Goals as goal

pub returns : goal.returns
returns c = requests_are_of_flights
