use Rattle.std.proofs.Common.{◌≡◌, ◌≤◌, ◌-◌, ◌++◌, length, take}
use Rattle.mail_bytes.specs.Told.{Meets}
use Rattle.send_command.proofs.lines.give_lines.Given as goal

-- what was given is a prefix of the text
abbrev pub invariant-loop-at : goal.invariant-loop-at
invariant-loop-at g l = record {
  within : l.at ≤ length l.text;
  taken : Meets (g.L.Sink.taken l.initial.log) (g.L.Sink.taken l.log) (λ first last. last ≡ first ++ take l.at l.text);
  same : g.L.Sink.faults l.log ≡ g.L.Sink.faults l.initial.log;
}

abbrev pub decreases-loop-at : goal.decreases-loop-at
decreases-loop-at g l = length l.text - l.at
