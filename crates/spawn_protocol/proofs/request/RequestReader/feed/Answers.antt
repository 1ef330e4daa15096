use Rattle.spawn_protocol.proofs.Requests.{taken}
use Rattle.spawn_protocol.proofs.request.RequestReader.feed.Goals as goal

pub returns-clause-read : goal.returns-clause-read
returns-clause-read c = taken _ _ _ _ c.advance.ensures
