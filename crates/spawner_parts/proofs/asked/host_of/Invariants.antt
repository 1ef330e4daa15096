use Rattle.std.proofs.Common.{◌≡◌, length}
use Rattle.std.specs.Option.{option_copied, option_or}
use Rattle.spawner_parts.specs.Asked.{host_of}
use Rattle.spawner_parts.proofs.asked.host_of.Given as goal

abbrev pub invariant-loop-byte : goal.invariant-loop-byte
invariant-loop-byte l = option_or (host_of l.rest) (option_copied l.host) ≡ host_of l.address

abbrev pub decreases-loop-byte : goal.decreases-loop-byte
decreases-loop-byte l = length l.rest
