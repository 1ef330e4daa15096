use Rattle.std.proofs.Common.{sym, ◌∙◌}
use Rattle.world_pipes.proofs.Feeds.{remote_there}
use Rattle.world_pipes.proofs.feeding.take_status.Goals as goal

pub free-requires : goal.free-requires
free-requires c = remote_there c.args.mouths.now c.args.slot (sym c.runs.ensures ∙ c.if-not-runs.false)
