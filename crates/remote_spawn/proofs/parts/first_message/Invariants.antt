use Rattle.std.proofs.Common.{◌≡◌, length}
use Rattle.remote_spawn.specs.Parts.{first_message, parts}
use Rattle.remote_spawn.proofs.parts.first_message.Given as goal

abbrev pub invariant-loop-part : goal.invariant-loop-part
invariant-loop-part l = first_message (parts l.rest) ≡ first_message (parts l.bytes)

abbrev pub decreases-loop-part : goal.decreases-loop-part
decreases-loop-part l = length l.rest
