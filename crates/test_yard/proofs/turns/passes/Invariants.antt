use Rattle.std.proofs.Common.{◌≡◌, ◌+◌, All, vec_len}
use Rattle.test_yard.proofs.turns.passes.Given as goal

abbrev pub invariant-loop : goal.invariant-loop
invariant-loop l =
    (l.first.yard ≡ l.fn.first.yard) × (l.first.parts + l.counter ≡ l.fn.first.parts) × (vec_len l.all ≡ l.counter) × (All (λ p. (p.yard ≡ l.yard.id) × (p.parts ≡ 1)) l.all.items)
