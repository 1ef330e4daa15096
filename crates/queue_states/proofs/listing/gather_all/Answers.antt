use Rattle.std.proofs.Common.{[], ◌∷◌, List, ℕ, All, Contains, subst}
use Rattle.std.proofs.lemmas.List.{take_all}
use Rattle.mail_bytes.specs.Told.{OnTold}
use Rattle.queue_states.proofs.Searches.{searched_then, failed_since, dir_more, one_of}
use Rattle.queue_states.proofs.Gathered.{gathers_more}
use Rattle.queue_states.proofs.listing.gather_all.Goals as goal

pub returns-in_err-gather-clause-searched : goal.returns-in_err-gather-clause-searched
returns-in_err-gather-clause-searched g c =
    failed_since (c.as_slice.result.now ∷ []) c.args.dirs.now _ _ _ c.in_err-gather.field-0.0 c.from_residual.result c.from_residual.ensures.1 c.loop-dir.invariant.searched
    (one_of c.args.dirs.now c.loop-dir.dir-index c.dir-item.result c.as_slice.result.now c.loop-dir-test.true c.dir-item.is c.as_slice.ensures) c.in_err-gather.ensures.searched

pub loop-dir-preserved : goal.loop-dir-preserved
loop-dir-preserved g c =
    record {
      searched = searched_then _ _ _ c.loop-dir.invariant.searched c.in_ok-gather.ensures.searched.only;
      there = dir_more _ _ c.args.dirs.now c.loop-dir.dir-index c.dir-item.result c.as_slice.result.now c.loop-dir.invariant.searched.same c.loop-dir-test.true c.dir-item.is c.as_slice.ensures c.loop-dir.invariant.there c.in_ok-gather.ensures.searched.there;
      gathered =
          gathers_more _ _ c.args.dirs.now c.loop-dir.dir-index c.dir-item.result c.as_slice.result.now c.args.found.now c.loop-dir.found c.gather.new.found c.loop-dir.invariant.searched.same c.loop-dir-test.true c.dir-item.is c.as_slice.ensures
          c.loop-dir.invariant.gathered c.in_ok-gather.ensures.gathered;
    }

pub returns-clause-searched : goal.returns-clause-searched
returns-clause-searched g c = record {
  only = c.loop-dir.invariant.searched;
  there = subst (λ (l : List (List ℕ)). OnTold (g.D.CallFs.disk c.args.disk.now) (λ d. All (Contains d.dirs) l)) (take_all c.loop-dir.dir-index c.args.dirs.now c.loop-dir-test.false) c.loop-dir.invariant.there;
  why = tt;
}
