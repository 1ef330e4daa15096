use Rattle.queue_command.proofs.Feeding.{step_end}
use Rattle.queue_command.proofs.Sources.{net_end}
use Rattle.queue_command.proofs.netstring.feed_comma.Goals as goal

pub returns-clause-feeds : goal.returns-clause-feeds
returns-clause-feeds g c =
    net_end c.args.injector.now c.tell_end.new.injector (g.S.Source.left c.args.source.now) (g.S.Source.left c.take_comma-end.new.source) (g.S.Source.faults c.args.source.now) (g.S.Source.faults c.take_comma-end.new.source)
    c.take_comma-end.ensures.later c.take_comma-end.result
    (step_end c.args.injector.now c.tell_end.new.injector c.take_comma-end.result c.requires c.tell_end.ensures.stands c.tell_end.ensures.over c.tell_end.ensures.none) c.take_comma-end.ensures.read
