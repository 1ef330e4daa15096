use Rattle.world_law.proofs.Flights.{flights_stand}
use Rattle.world_law.proofs.laws.flights_stand.Goals as goal

pub returns : goal.returns
returns c = flights_stand
