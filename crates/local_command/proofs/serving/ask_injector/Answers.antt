use Rattle.local_command.proofs.Serves.{asked_on_channel, has_asked}
use Rattle.local_command.proofs.serving.ask_injector.Goals as goal

pub returns : goal.returns
returns g c =
    asked_on_channel c.args.injector c.in-Some.chan c.served_status.result _ _ c.in-Some.is
    (has_asked c.in-Some.chan c.end_of.result c.served_status.result _ _ c.end_of.ensures c.served_status.ensures)
