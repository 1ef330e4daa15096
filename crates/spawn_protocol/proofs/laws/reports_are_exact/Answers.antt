use Rattle.spawn_protocol.proofs.Reports.{some_reading, one_reading, read_back, read_cut, read_is, all_kept}
use Rattle.spawn_protocol.proofs.laws.reports_are_exact.Goals as goal

pub returns : goal.returns
returns c = record {
  read = read_is;
  some = some_reading;
  one = one_reading;
  back = read_back;
  cut = read_cut;
  kept = all_kept;
}
