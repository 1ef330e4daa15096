use Rattle.address_rules.proofs.RouteLaws.{route_to, route_from}
use Rattle.address_rules.proofs.laws.routes_are_exact.Goals as goal

pub returns : goal.returns
returns c = record { route = λ controls address route. (route_to controls address route, route_from controls address route) }
