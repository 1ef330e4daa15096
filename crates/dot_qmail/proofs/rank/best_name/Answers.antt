use Rattle.std.proofs.Common.{◌≡◌, [], ◌+◌, get_or, ap, sym, subst, ◌∙◌, arith}
use Rattle.std.proofs.lemmas.List.{get_or_default}
use Rattle.dot_qmail.specs.Ranks.{rank_of, IsTop}
use Rattle.dot_qmail.proofs.Choosing.{top_on}
use Rattle.dot_qmail.proofs.rank.best_name.Goals as goal

pub loop-place-preserved : goal.loop-place-preserved
loop-place-preserved c =
    let named : c.as_slice.result.now ≡ get_or c.args.names.now c.loop-place.place [] = c.as_slice.ensures ∙ c.index-names-place.is ∙ get_or_default c.args.names.now c.loop-place.place c.index-names-place.result [] c.loop-place-test.true in
    subst (IsTop c.args.full.now c.args.base c.args.names.now (c.loop-place.place + 1)) (sym c.better-top.ensures)
    (top_on c.args.full.now c.args.base c.args.names.now c.loop-place.top c.loop-place.place c.rank.result
    (c.rank.ensures ∙ ap (rank_of c.args.full.now c.args.base) named) c.loop-place.invariant)

pub returns : goal.returns
returns c =
    subst (λ n. IsTop c.args.full.now c.args.base c.args.names.now n c.loop-place.top) (omega arith) c.loop-place.invariant
