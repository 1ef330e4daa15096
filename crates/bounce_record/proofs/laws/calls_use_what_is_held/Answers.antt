use Rattle.bounce_record.proofs.HoldsNote.{uses as writing_uses}
use Rattle.bounce_record.proofs.HoldsReturn.{uses as return_uses}
use Rattle.bounce_record.proofs.laws.calls_use_what_is_held.Goals as goal

pub returns : goal.returns
returns c = record { writing = writing_uses; returning = return_uses }
