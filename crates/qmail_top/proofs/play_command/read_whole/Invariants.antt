use Rattle.std.proofs.Common.{◌≡◌, ◌-◌, ◌++◌, vec_len}
use Rattle.mail_bytes.specs.Told.{Meets}
use Rattle.qmail_top.proofs.play_command.read_whole.Given as goal

-- no taking failed, and what was taken is kept
abbrev pub invariant-loop-piece : goal.invariant-loop-piece
invariant-loop-piece g l = record {
  unfailed : g.M.Source.faults l.message ≡ g.M.Source.faults l.initial.message;
  taken : Meets (g.M.Source.left l.initial.message) (g.M.Source.left l.message) (λ before after. before ≡ l.bytes.items ++ after);
}

abbrev pub decreases-loop-piece : goal.decreases-loop-piece
decreases-loop-piece g l = 16777217 - vec_len l.bytes
