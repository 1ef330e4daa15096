use Rattle.child_input.proofs.Feeds.{takes}
use Rattle.child_input.proofs.feeding.Inlet.take.Goals as goal

pub pop_as-requires-clause-rule : goal.pop_as-requires-clause-rule
pop_as-requires-clause-rule g c = (takes _ _ c.requires.1, λ items views h at. tt)
