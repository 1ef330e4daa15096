use Rattle.std.proofs.Common.{◌≡◌, length, sym, subst, refl, ◌∙◌, arith}
use Rattle.std.proofs.lemmas.Bool.{false≢true}
use Rattle.std.proofs.lemmas.Option.{slice_get_read}
use Rattle.local_spawn.specs.Finding.{IsBest, NoneIsFor}
use Rattle.local_spawn.specs.Finding.IsFound.{ByName}
use Rattle.local_spawn.proofs.FindingLemmas.{best_more, found_best, none_more}
use Rattle.local_spawn.proofs.finding.find_in.Goals as goal

pub returns-then-is_for : goal.returns-then-is_for
returns-then-is_for c =
    ByName
    (record {
      assignment = c.index-lines-index.result;
      here = slice_get_read c.args.lines.now (length c.args.lines.now) c.loop-index.index c.index-lines-index.result refl c.loop-index-test.true c.index-lines-index.is;
      is_for = c.is_for.ensures.0 c.if-is_for.true;
      first = c.loop-index.invariant.none;
    })
    (grind arith)

pub loop-index-preserved : goal.loop-index-preserved
loop-index-preserved c =
    let here = slice_get_read c.args.lines.now (length c.args.lines.now) c.loop-index.index c.index-lines-index.result refl c.loop-index-test.true c.index-lines-index.is in
    record {
      none = none_more c.args.lines.now c.args.local.now c.loop-index.index c.index-lines-index.result here (λ same. false≢true (sym c.if-is_for.false ∙ c.is_for.ensures.1 same)) c.loop-index.invariant.none;
      best = best_more c.args.lines.now c.args.local.now c.loop-index.index c.index-lines-index.result c.loop-index.best c.better-best.result here c.better-best.ensures c.loop-index.invariant.best;
    }

pub returns : goal.returns
returns c =
    let ended : c.loop-index.index ≡ length c.args.lines.now = omega arith in
    found_best c.args.lines.now c.args.local.now c.loop-index.best
    (subst (NoneIsFor c.args.lines.now c.args.local.now) ended c.loop-index.invariant.none)
    (subst (λ n. IsBest c.args.lines.now c.args.local.now n c.loop-index.best) ended c.loop-index.invariant.best)
