use Rattle.program_law.proofs.Sender.Others.{knows_kept, lanes_kept, rests_kept}
use Rattle.program_law.proofs.senders.sorted_is_left_alone.Goals as goal

pub returns : goal.returns
returns c = record {
  knows = knows_kept;
  lanes = lanes_kept;
  rests = λ now a o m q r E far spares row b s p among lanes h. rests_kept now a o m q r E far spares row b s p among lanes h;
}
