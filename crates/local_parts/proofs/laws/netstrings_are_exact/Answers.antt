use Rattle.local_parts.proofs.Netstrings.{read, written}
use Rattle.local_parts.proofs.laws.netstrings_are_exact.Goals as goal

pub returns : goal.returns
returns c = λ input message. (written input message, read input message)
