use Rattle.remote_spawn.proofs.Tells.{gives}
use Rattle.remote_spawn.proofs.laws.messages_are_given.Goals as goal

pub returns : goal.returns
returns c = gives
