use Rattle.std.proofs.Common.{sym, ◌∙◌}
use Rattle.local_deliver.proofs.DropSteps.{made_is}
use Rattle.local_deliver.proofs.Standing.{on_ok}
use Rattle.local_deliver.proofs.steps.dropped.Goals as goal

pub returns-then-is_made-clause-ok : goal.returns-then-is_made-clause-ok
returns-then-is_made-clause-ok c =
    on_ok c.drop_made.result c.drop_made.ensures.ok
    (λ e. e ∙ sym (made_is c.args.args.now c.args.now _ c.args.place.now.dropping c.args.place.now (sym c.is_made.ensures ∙ c.if-is_made.true)))

pub returns-clause-ok : goal.returns-clause-ok
returns-clause-ok c = c.drop_goes.ensures c.args.args.now c.args.now
