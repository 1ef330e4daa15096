use Rattle.spawn_protocol.proofs.Requests.{some_reading, one_reading, never_text, all_requests, read_back}
use Rattle.spawn_protocol.proofs.laws.requests_are_exact.Goals as goal

pub returns : goal.returns
returns c = record {
  some = some_reading;
  one = one_reading;
  refused = never_text;
  given = all_requests;
  back = read_back;
}
