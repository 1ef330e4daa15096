use Rattle.send_runs.proofs.Flights.{flights_were_given}
use Rattle.send_runs.proofs.laws.flights_were_given.Goals as goal

pub returns : goal.returns
returns c = flights_were_given
