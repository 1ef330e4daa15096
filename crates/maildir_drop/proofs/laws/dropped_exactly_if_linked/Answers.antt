use Rattle.maildir_drop.proofs.Reasons.{linked, made}
use Rattle.maildir_drop.proofs.laws.dropped_exactly_if_linked.Goals as goal

pub returns : goal.returns
returns c = record { linked = linked; dropped = made }
