use Rattle.std.proofs.Common.{◌≡◌, ◌++◌, take}
use Rattle.audit_command.specs.Audited.{lines_of}
use Rattle.audit_command.proofs.printing.put_states.Given as goal

abbrev pub invariant-loop-number : goal.invariant-loop-number
invariant-loop-number l = l.text.items ≡ l.initial.text.items ++ lines_of (take l.number-index l.states)
