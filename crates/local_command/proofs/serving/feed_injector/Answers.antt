use Rattle.program_runner.proofs.Serves.{asked_feed}
use Rattle.local_command.proofs.Feeding.{asked_finish}
use Rattle.local_command.proofs.Serves.{fed_on_channel, has_fed}
use Rattle.local_command.proofs.serving.feed_injector.Goals as goal

pub returns : goal.returns
returns g c =
    fed_on_channel c.args.injector c.in-Some.chan c.args.bytes.now c.feed-gave.result _ _ c.in-Some.is
    (has_fed c.in-Some.chan c.args.bytes.now c.feed-gave.result _ _ _
    (asked_feed _ _ c.in-Some.chan c.args.bytes.now c.feed-gave.result c.feed-gave.ensures.same c.feed-gave.ensures.told c.feed-gave.ensures.cause)
    (asked_finish _ _ c.in-Some.chan c.finish.ensures.same c.finish.ensures.told c.finish.ensures.cause))
