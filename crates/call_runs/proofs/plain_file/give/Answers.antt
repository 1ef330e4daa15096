use Rattle.std.proofs.Common.{List, ℕ, ◌+◌, ◌++◌, ◌∷◌, [], get_or, ap, ◌∙◌, arith}
use Rattle.mem_files.proofs.Places.{next_place}
use Rattle.call_runs.proofs.plain_file.give.Goals as goal

pub loop-index-preserved : goal.loop-index-preserved
loop-index-preserved c =
    let i = c.loop-index.index in
    let item : ℕ × ℕ = (c.args.at + i, get_or c.args.bytes.now i 0) in
    let items = rw c.unwrap.ensures at c.push.ensures.items in (
      items ∙ ap (λ (ps : List (ℕ × ℕ)). ps ++ item ∷ []) c.loop-index.invariant.0 ∙ next_place c.args.given.now.items c.args.at c.args.bytes.now i 0 c.loop-index-test.true,
      first_of (grind (arith, c.loop-index.invariant.1, c.loop-index-test.true, c.push.ensures.len, c.push.ensures.capacity), omega (arith, c.loop-index.invariant.1, c.loop-index-test.true, c.push.ensures.len, c.push.ensures.capacity)),
    )
