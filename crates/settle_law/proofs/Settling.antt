-- How `settle` ends over a queue in which nothing fails, and so each such line of a script.
use Rattle.settle_law.proofs.Emptied.{rests_are_empty_by}
use Rattle.settle_law.proofs.Ending.{gone, hold, settled}
use Rattle.settle_law.proofs.Holding.{rests_hold}
use Rattle.settle_law.proofs.PlayedLines.{lines_settle_by}
use Rattle.settle_law.specs.Lines.{LinesSettle}
use Rattle.settle_law.specs.Promised.{SettlesEnd, SuccessesEnd}

pub settles_end : SettlesEnd
settles_end = settled (hold rests_hold)

pub successes_end : SuccessesEnd
successes_end = gone (rests_are_empty_by rests_hold)

pub lines_settle : LinesSettle
lines_settle = lines_settle_by settles_end successes_end
