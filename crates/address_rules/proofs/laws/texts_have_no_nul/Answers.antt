use Rattle.address_rules.proofs.Nuls.{controls_none, route_none}
use Rattle.address_rules.proofs.laws.texts_have_no_nul.Goals as goal

pub returns : goal.returns
returns c = record { controls = controls_none; route = route_none }
