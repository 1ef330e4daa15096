use Rattle.scenario.proofs.Tracings.{lines_more}
use Rattle.scenario.proofs.tracing.put_events.Goals as goal

pub loop-event-preserved : goal.loop-event-preserved
loop-event-preserved c =
    lines_more c.args.events.now c.loop-event.event-index c.event-item.result c.args.text.now.items c.loop-event.text.items c.put_event.new.text.items
    c.loop-event-test.true c.event-item.is c.loop-event.invariant c.in_ok-put_event.ensures
