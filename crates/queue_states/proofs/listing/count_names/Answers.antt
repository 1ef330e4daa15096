use Rattle.std.proofs.Common.{[], ◌∷◌, sym, subst}
use Rattle.queue_states.proofs.Searches.{told_all, told_both, searched_none, searched_then, failed_since, done_since}
use Rattle.queue_states.proofs.Listed.{Counted, counted_none, counted_more, counted_all, last_told, next_told}
use Rattle.queue_states.proofs.listing.count_names.Goals as goal

pub loop-count-init : goal.loop-count-init
loop-count-init g c = record {
  searched = searched_none _;
  counted = told_all (g.D.CallFs.disk c.args.disk.now) (λ d. subst (λ t. Counted d c.args.dir.now t 0) (sym c.new-last.ensures) (counted_none d c.args.dir.now));
}

pub returns-in_err-next_name-clause-searched : goal.returns-in_err-next_name-clause-searched
returns-in_err-next_name-clause-searched g c =
    failed_since (c.args.dir.now ∷ []) (c.args.dir.now ∷ []) _ _ _ c.in_err-next_name.field-0.0 c.from_residual.result c.from_residual.ensures.1 c.loop-count.invariant.searched (λ dir one. one) c.in_err-next_name.ensures.searched

pub returns-then-not-branch-clause-searched : goal.returns-then-not-branch-clause-searched
returns-then-not-branch-clause-searched g c =
    done_since (c.args.dir.now ∷ []) _ _ _ c.in_ok-next_name.field-0 c.loop-count.count c.loop-count.invariant.searched c.in_ok-next_name.ensures.searched

pub returns-then-not-branch-clause-counted : goal.returns-then-not-branch-clause-counted
returns-then-not-branch-clause-counted g c =
    told_both (g.D.CallFs.disk c.args.disk.now) (λ d counted none. counted_all d c.args.dir.now c.loop-count.last c.loop-count.count counted none) c.loop-count.invariant.counted
    (last_told _ _ c.loop-count.invariant.searched.same c.args.dir.now c.loop-count.last _ _ c.as_slice.ensures.name c.in_ok-next_name.field-0 c.in_ok-next_name.ensures.found c.if-not-branch.true)

pub loop-count-preserved : goal.loop-count-preserved
loop-count-preserved g c =
    record {
      searched = searched_then _ _ _ c.loop-count.invariant.searched c.in_ok-next_name.ensures.searched.only;
      counted =
          told_both (g.D.CallFs.disk c.args.disk.now) (λ d counted next. counted_more d c.args.dir.now c.loop-count.last c.next_name.new.into c.loop-count.count counted next) c.loop-count.invariant.counted
          (next_told _ _ c.loop-count.invariant.searched.same c.args.dir.now c.loop-count.last _ _ c.as_slice.ensures.name c.in_ok-next_name.field-0 c.in_ok-next_name.ensures.found c.if-not-branch.false);
    }
