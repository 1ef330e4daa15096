use Rattle.local_command.specs.Waiting.{parts_of}
use Rattle.local_command.proofs.Feeding.{fed_broken, fed_last}
use Rattle.local_command.proofs.commands.feed_message.Goals as goal

pub returns-in-Done : goal.returns-in-Done
returns-in-Done g c =
    fed_last c.args.chan (parts_of c.parts.result.0.now) c.parts.result.1.now c.args.message.now c.parts.ensures _ _ _ c.feed.result c.in-Done.ensures c.feed.ensures.same c.feed.ensures.told c.feed.ensures.cause

pub returns-in-Failed : goal.returns-in-Failed
returns-in-Failed g c = fed_broken c.args.chan (parts_of c.parts.result.0.now) c.parts.result.1.now c.args.message.now c.parts.ensures _ _ c.in-Failed.ensures
