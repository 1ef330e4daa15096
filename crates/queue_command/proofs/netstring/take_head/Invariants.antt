use Rattle.std.proofs.Common.{◌≡◌, ◌≤◌, ◌++◌, ℕ, take, length}
use Rattle.mail_bytes.specs.Told.{Meets}
use Rattle.mail_bytes.specs.Netstring.{IsHead, IsPartOfHead}
use Rattle.queue_command.proofs.netstring.take_head.Given as goal

-- what was read is a part of a head
abbrev pub invariant-loop-len : goal.invariant-loop-len
invariant-loop-len g l = record {
  later : g.S.Source.faults l.initial.source ≤ g.S.Source.faults l.source;
  room : length l.text ≡ 21;
  taken : Meets (g.S.Source.left l.initial.source) (g.S.Source.left l.source) (λ before after. before ≡ take l.len l.text ++ after);
  part : IsPartOfHead (take l.len l.text);
  none : (n used : ℕ) → ¬ (IsHead (take l.len l.text) n used);
}
