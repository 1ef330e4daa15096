use Rattle.program_runner.proofs.Serves.{asked_status}
use Rattle.send_command.proofs.Linked.{asked_none, asked_one}
use Rattle.send_command.proofs.links.take_status.Goals as goal

pub returns-in-Some : goal.returns-in-Some
returns-in-Some g c = asked_one c.args.chan c.in-Some.chan c.status.result _ _ c.in-Some.is (asked_status _ _ c.in-Some.chan c.status.result c.status.ensures.same c.status.ensures.told c.status.ensures.cause)

pub returns-in-None : goal.returns-in-None
returns-in-None g c = asked_none c.args.chan _ c.in-None.is
