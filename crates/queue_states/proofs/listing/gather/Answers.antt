use Rattle.std.proofs.Common.{[], ◌∷◌, sym, subst, ◌++◌}
use Rattle.queue_paths.specs.Names.{used_name}
use Rattle.queue_states.specs.Found.{Notes}
use Rattle.queue_states.proofs.Searches.{told_all, told_both, searched_none, searched_then, failed_since, done_since, lacks_memory}
use Rattle.queue_states.proofs.Listed.{last_told, next_told}
use Rattle.queue_states.proofs.Gathered.{Noting, noting_none, noting_more, noting_all}
use Rattle.queue_states.proofs.listing.gather.Goals as goal

pub names-init : goal.names-init
names-init g c = record {
  searched = searched_none _;
  noted = told_all (g.D.CallFs.disk c.args.disk.now) (λ d. subst (λ t. Noting d c.args.dir.now t c.args.found.now c.args.found.now) (sym c.new-last.ensures) (noting_none d c.args.dir.now c.args.found.now));
}

pub returns-in_err-next_name-clause-searched : goal.returns-in_err-next_name-clause-searched
returns-in_err-next_name-clause-searched g c =
    failed_since (c.args.dir.now ∷ []) (c.args.dir.now ∷ []) _ _ _ c.in_err-next_name.field-0.0 c.from_residual.result c.from_residual.ensures.1 c.names.invariant.searched (λ dir one. one) c.in_err-next_name.ensures.searched

pub returns-then-not-branch-clause-searched : goal.returns-then-not-branch-clause-searched
returns-then-not-branch-clause-searched g c =
    done_since (c.args.dir.now ∷ []) _ _ _ c.in_ok-next_name.field-0 tt c.names.invariant.searched c.in_ok-next_name.ensures.searched

pub returns-then-not-branch-clause-gathered : goal.returns-then-not-branch-clause-gathered
returns-then-not-branch-clause-gathered g c =
    told_both (g.D.CallFs.disk c.args.disk.now) (λ d noting none. noting_all d c.args.dir.now c.names.last c.args.found.now c.names.found noting none) c.names.invariant.noted
    (last_told _ _ c.names.invariant.searched.same c.args.dir.now c.names.last _ _ c.as_slice.ensures.name c.in_ok-next_name.field-0 c.in_ok-next_name.ensures.found c.if-not-branch.true)

pub returns-in_err-note_name-clause-searched : goal.returns-in_err-note_name-clause-searched
returns-in_err-note_name-clause-searched g c =
    lacks_memory (c.args.dir.now ∷ []) _ _ c.from_residual-in_err-note_name.result c.from_residual-in_err-note_name.ensures.1 (searched_then _ _ _ c.names.invariant.searched c.in_ok-next_name.ensures.searched.only)

pub names-preserved : goal.names-preserved
names-preserved g c =
    let name = c.next_name.new.into in
    let notes : Notes (used_name (c.args.dir.now ++ 47 ∷ name)) c.names.found c.note_name.new.found =
    subst (λ t. Notes (used_name (c.args.dir.now ++ 47 ∷ t)) c.names.found c.note_name.new.found) c.as_slice-in-names.ensures.name c.in_ok-note_name.ensures in
    record {
      searched = searched_then _ _ _ c.names.invariant.searched c.in_ok-next_name.ensures.searched.only;
      noted =
          told_both (g.D.CallFs.disk c.args.disk.now) (λ d noting next. noting_more d c.args.dir.now c.names.last name c.args.found.now c.names.found c.note_name.new.found noting next notes) c.names.invariant.noted
          (next_told _ _ c.names.invariant.searched.same c.args.dir.now c.names.last _ _ c.as_slice.ensures.name c.in_ok-next_name.field-0 c.in_ok-next_name.ensures.found c.if-not-branch.false);
    }
