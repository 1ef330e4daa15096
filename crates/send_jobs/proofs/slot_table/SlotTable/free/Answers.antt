use Rattle.std.proofs.Common.{None, ◌++◌, ◌∷◌, [], ap, ◌∙◌}
use Rattle.std.proofs.lemmas.List.{replicate_more}
use Rattle.send_jobs.proofs.slot_table.SlotTable.free.Goals as goal

pub loop-preserved : goal.loop-preserved
loop-preserved c = c.in_ok-push.ensures.items ∙ ap (λ xs. xs ++ None ∷ []) c.loop.invariant ∙ replicate_more c.loop.counter None
