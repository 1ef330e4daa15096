use Rattle.std.proofs.Common.{◌≡◌, ◌+◌, All, vec_len}
use Rattle.test_yard.proofs.turns.gather.Given as goal

abbrev pub invariant-loop-pass : goal.invariant-loop-pass
invariant-loop-pass l =
    (l.first.yard ≡ l.fn.first.yard) × (l.first.parts + vec_len l.done ≡ l.fn.first.parts + vec_len l.fn.done)
    × (All (λ p. (p.yard ≡ l.yard.id) × (p.parts ≡ 1)) l.done.items)

abbrev pub decreases-loop-pass : goal.decreases-loop-pass
decreases-loop-pass l = vec_len l.done
