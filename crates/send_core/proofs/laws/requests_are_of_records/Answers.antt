use Rattle.send_core.proofs.Runs.{gives_requests}
use Rattle.send_core.proofs.laws.requests_are_of_records.Goals as goal

pub returns : goal.returns
returns c = gives_requests
