use Rattle.std.proofs.Common.{Some, None, false, refl, sym, ◌∙◌}
use Rattle.retry_schedule.specs.Index.{entry}
use Rattle.retry_schedule.proofs.Kept.{kept_same, kept_set, leaves_one, puts_from, sets_from, stands_at}
use Rattle.retry_schedule.proofs.index.take_out.Goals as goal

pub returns-in_default-clause-sets : goal.returns-in_default-clause-sets
returns-in_default-clause-sets c = sets_from c.args.moments.now c.remove.new.self c.args.n None c.remove.ensures.ordered c.remove.ensures.updates

pub returns-in_default-clause-kept : goal.returns-in_default-clause-kept
returns-in_default-clause-kept c = λ indexed kept.
    kept_same c.args.moments.now c.remove.new.self c.args.index.now c.args.index.now indexed kept c.remove.ensures.ordered c.in_default.ensures.unchanged kept.by_moment refl

pub returns-clause-sets : goal.returns-clause-sets
returns-clause-sets c = sets_from c.args.moments.now c.remove.new.self c.args.n None c.remove.ensures.ordered c.remove.ensures.updates

pub returns-clause-kept : goal.returns-clause-kept
returns-clause-kept c = λ indexed kept.
    kept_set c.args.moments.now c.remove.new.self c.args.index.now c.remove-2.new.self c.args.n None indexed indexed kept c.remove-2.ensures.ordered
    (sets_from c.args.moments.now c.remove.new.self c.args.n None c.remove.ensures.ordered c.remove.ensures.updates)
    (λ told. (
      told,
      leaves_one c.args.index.now c.remove-2.new.self c.args.n c.in-Some.due (puts_from c.args.index.now c.remove-2.new.self (entry c.in-Some.due c.args.n) false c.remove-2.ensures.updates)
          (stands_at c.args.moments.now c.args.index.now c.args.n (Some c.in-Some.due) (kept.tells told) (sym c.remove.ensures.value ∙ c.in-Some.is)),
    ))
