use Rattle.send_command.proofs.Linked.{finished_none, finished_one}
use Rattle.send_command.proofs.links.end_input.Goals as goal

pub returns-in-Some : goal.returns-in-Some
returns-in-Some g c = finished_one c.args.chan c.in-Some.chan _ _ c.in-Some.is c.finish.ensures.same c.finish.ensures.told c.finish.ensures.cause

pub returns-in-None : goal.returns-in-None
returns-in-None g c = finished_none c.args.chan _ c.in-None.is
