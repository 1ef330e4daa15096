use Rattle.send_command.proofs.Linked.{as_ended}
use Rattle.send_command.proofs.links.end_links.Goals as goal

pub returns : goal.returns
returns g c =
    as_ended c.args.links _ _ _ _ _ _ _ c.end_input.ensures c.end_input-2.ensures c.end_input-3.ensures
    c.take_status.ensures.0 c.take_status.ensures.1 c.take_status.ensures.2
    c.take_status-2.ensures.0 c.take_status-2.ensures.1 c.take_status-2.ensures.2
    c.take_status-3.ensures.0 c.take_status-3.ensures.1 c.take_status-3.ensures.2
