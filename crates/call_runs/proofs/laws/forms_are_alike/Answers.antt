use Rattle.call_runs.proofs.Alike.{all_calls, one_call}
use Rattle.call_runs.proofs.laws.forms_are_alike.Goals as goal

pub returns : goal.returns
returns c = record { call = one_call; calls = all_calls }
