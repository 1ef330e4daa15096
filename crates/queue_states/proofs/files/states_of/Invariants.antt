use Rattle.std.proofs.Common.{◌≡◌, ◌++◌, map}
use Rattle.queue_states.specs.Found.{entry_of}
use Rattle.queue_states.proofs.files.states_of.Given as goal

abbrev pub invariant-loop-number : goal.invariant-loop-number
invariant-loop-number l = l.entries.items ++ map entry_of l.number-iterator ≡ map entry_of l.found.entries
