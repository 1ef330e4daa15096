use Rattle.program_law.proofs.Channel.Versions.{failed_kept, made_first, more_marked, stopped_kept, written_kept}
use Rattle.program_law.proofs.channels.versions_keep.Goals as goal

pub returns : goal.returns
returns c = record {
  made = made_first;
  more = more_marked;
  written = λ text marks f now place may lt h. written_kept text marks f now place may lt h;
  failed = λ text marks f now place wrote may lt h. failed_kept text marks f now place wrote may lt h;
  stopped = λ text marks f contents h s. stopped_kept text marks f contents h s;
}
