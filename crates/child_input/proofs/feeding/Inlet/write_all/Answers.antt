use Rattle.child_input.proofs.Writings.{broke}
use Rattle.child_input.proofs.feeding.Inlet.write_all.Goals as goal

pub returns-in-Broke-clause-wrote : goal.returns-in-Broke-clause-wrote
returns-in-Broke-clause-wrote g c = broke _ _ _ _ _ c.loop.invariant.2 c.in-Broke.ensures.wrote
