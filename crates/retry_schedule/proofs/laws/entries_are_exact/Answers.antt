use Rattle.retry_schedule.proofs.Entries.{in_added, in_removed, schedule_added, schedule_removed, free_removed, one_first}
use Rattle.retry_schedule.proofs.laws.entries_are_exact.Goals as goal

pub returns : goal.returns
returns c = record {
  added = in_added;
  removed = in_removed;
  adds = schedule_added;
  removes = schedule_removed;
  frees = free_removed;
  first = one_first;
}
