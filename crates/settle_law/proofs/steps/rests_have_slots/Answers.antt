use Rattle.settle_law.proofs.HasSlots.{rests_have_slots}
use Rattle.settle_law.proofs.steps.rests_have_slots.Goals as goal

pub returns : goal.returns
returns c = rests_have_slots
