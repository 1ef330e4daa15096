use Rattle.std.proofs.Common.{[], ◌∷◌, ◌++◌, List, ℕ, Contains, sym, ◌∙◌, ap, subst}
use Rattle.std.proofs.lemmas.Bool.{false≢true}
use Rattle.std.proofs.lemmas.Result.{on_ok_weaker}
use Rattle.mem_fs.proofs.Steps.{made-below}
use Rattle.mem_fs.proofs.store.Store.place_below.Goals as goal

pub returns-else-is_err-clause-ok : goal.returns-else-is_err-clause-ok
returns-else-is_err-clause-ok c =
    on_ok_weaker c.place_new-placed.result
    (λ places. made-below c.self.view_is c.dir_of-2.result.now c.args.name.now c.push.new.self.items c.args.file _ c.dir_of-2.ensures
    (λ here. false≢true (sym c.if-is_dir.false ∙ c.is_dir.ensures.1 (subst (λ (t : List ℕ). Contains c.args.self.now.dirs t) (sym c.dir_of.ensures) here)))
    (c.in_ok-push.ensures.items ∙ ap (λ (t : List ℕ). c.self.inside.dirs.items ++ t ∷ []) c.in_ok-from_slice.ensures)
    places)
    c.place_new-placed.ensures.ok
