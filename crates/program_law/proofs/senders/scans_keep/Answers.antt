use Rattle.program_law.proofs.Sender.Scan.{scans}
use Rattle.program_law.proofs.senders.scans_keep.Goals as goal

pub returns : goal.returns
returns c = λ now q a row d read call told wrote is G h due fits by. scans now q a G d read wrote row call told is h due fits by
