use Rattle.bounce_record.proofs.Written.{written}
use Rattle.bounce_record.proofs.laws.written_notes_are_whole.Goals as goal

pub returns : goal.returns
returns c = written
