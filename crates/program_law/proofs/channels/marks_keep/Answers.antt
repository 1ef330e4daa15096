use Rattle.program_law.proofs.Channel.Marks.{failed_kept, written_kept}
use Rattle.program_law.proofs.Channel.Ties.{given_up_kept, made_kept, unsure_kept}
use Rattle.program_law.proofs.channels.marks_keep.Goals as goal

pub returns : goal.returns
returns c = record {
  written = λ files lane m t there. written_kept files m lane t there;
  failed = unsure_kept;
  failed_late = λ files lane m t there. failed_kept files m lane t there;
  made = made_kept;
  given_up = given_up_kept;
}
