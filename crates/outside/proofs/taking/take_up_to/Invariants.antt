use Rattle.std.proofs.Common.{◌≡◌, ◌-◌, ◌++◌, ◌≤◌, length, vec_len}
use Rattle.mail_bytes.specs.Told.{Meets}
use Rattle.outside.proofs.taking.take_up_to.Given as goal

-- the count never falls, and what was taken is kept, and no more than was asked for
abbrev pub invariant-loop-piece : goal.invariant-loop-piece
invariant-loop-piece g l = record {
  later : g.S.Source.faults l.initial.source ≤ g.S.Source.faults l.source;
  taken : Meets (g.S.Source.left l.initial.source) (g.S.Source.left l.source) (λ before after. before ≡ l.bytes.items ++ after);
  fits : length l.bytes.items ≤ l.most;
}

abbrev pub decreases-loop-piece : goal.decreases-loop-piece
decreases-loop-piece g l = l.most - vec_len l.bytes
