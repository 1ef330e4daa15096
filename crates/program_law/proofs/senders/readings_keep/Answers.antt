use Rattle.program_law.proofs.Sender.Readings.{readings}
use Rattle.program_law.proofs.senders.readings_keep.Goals as goal

pub returns : goal.returns
returns c = λ now q a part n name g before read call told wrote G named h due fits by.
    readings now q a G part n before read wrote name g call told named h due fits by
