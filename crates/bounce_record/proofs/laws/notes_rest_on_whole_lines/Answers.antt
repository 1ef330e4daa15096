use Rattle.bounce_record.proofs.Resting.{notes_rest}
use Rattle.bounce_record.proofs.laws.notes_rest_on_whole_lines.Goals as goal

pub returns : goal.returns
returns c = notes_rest
