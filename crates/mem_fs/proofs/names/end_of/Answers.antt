use Rattle.std.proofs.Common.{◌++◌, ◌∷◌, [], List, ℕ, ap, ◌∙◌, append_assoc}
use Rattle.mem_fs.proofs.names.end_of.Goals as goal

pub returns : goal.returns
returns c = c.in_ok-push.ensures.items
    ∙ ap (λ (x : List ℕ). x ++ 48 ∷ []) c.in_ok-end.ensures
    ∙ append_assoc c.args.dir.now (47 ∷ c.args.subdir.now) (48 ∷ [])
