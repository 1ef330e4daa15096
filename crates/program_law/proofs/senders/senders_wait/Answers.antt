use Rattle.program_law.proofs.Sender.Awaits.{arrives, gives, lost, takes, waits}
use Rattle.program_law.proofs.Sender.Frees.{free}
use Rattle.program_law.proofs.Sender.Programs.{runs_none, starts_of}
use Rattle.program_law.proofs.senders.senders_wait.Goals as goal

pub returns : goal.returns
returns c = record {
  arrives = λ d read ready. arrives d.row d read ready;
  gives = gives;
  takes = takes;
  waits = waits;
  lost = lost;
  starts = starts_of;
  runs = runs_none;
  free = free;
}
