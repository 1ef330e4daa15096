use Rattle.std.proofs.Common.{◌∙◌, ◌++◌, ◌∷◌, [], List, ap}
use Rattle.std.proofs.lemmas.List.{replicate_more}
use Rattle.script_traces.specs.declared.fates.RecipientFate.{RecipientFate}
use Rattle.script_traces.proofs.fates.alike.Goals as goal

pub loop-preserved : goal.loop-preserved
loop-preserved c =
    c.in_ok-push.ensures.items
    ∙ ap (λ (fates : List RecipientFate). fates ++ c.args.fate ∷ []) c.loop.invariant
    ∙ replicate_more c.loop.counter c.args.fate
