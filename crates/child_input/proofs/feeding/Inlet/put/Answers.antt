use Rattle.child_input.proofs.Feeds.{feeds}
use Rattle.child_input.proofs.feeding.Inlet.put.Goals as goal

pub push_as-requires-clause-rule : goal.push_as-requires-clause-rule
push_as-requires-clause-rule g c = λ n. feeds n _ _ _ c.requires.1
