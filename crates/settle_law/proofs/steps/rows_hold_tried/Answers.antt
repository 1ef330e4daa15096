use Rattle.settle_law.proofs.LeftRows.{rows_hold_tried}
use Rattle.settle_law.proofs.steps.rows_hold_tried.Goals as goal

pub returns : goal.returns
returns c = rows_hold_tried
