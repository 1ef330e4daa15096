use Rattle.std.proofs.Common.{◌≡◌, ◌≤◌, ℕ, length}
use Rattle.mail_bytes.specs.Netstring.{IsHead, IsPartOfHead}
use Rattle.qmqp_server.proofs.heads.take_head.Given as goal
use Rattle.qmqp_server.specs.Sources.{Takes}

-- what was read is a part of a head
abbrev pub invariant-loop-len : goal.invariant-loop-len
invariant-loop-len g l = record {
  taken : Takes l.text (record { old = g.S.Source.left l.initial.source; new = g.S.Source.left l.source; faults_old = g.S.Source.faults l.initial.source; faults_new = g.S.Source.faults l.source });
  long : length l.text ≡ l.len;
  few : l.len ≤ l.fn.most;
  part : IsPartOfHead l.text;
  none : (n used : ℕ) → ¬ (IsHead l.text n used);
}
