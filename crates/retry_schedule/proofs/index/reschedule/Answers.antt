use Rattle.std.proofs.Common.{Some, refl, sym, ◌∙◌}
use Rattle.retry_schedule.proofs.Kept.{kept_set, stands_at, view_moved, view_unmoved}
use Rattle.retry_schedule.proofs.index.reschedule.Goals as goal

pub returns-in_default-clause-moved : goal.returns-in_default-clause-moved
returns-in_default-clause-moved c = view_unmoved c.args.moments.now c.requires.by_number c.args.n c.args.due (sym c.due_of.ensures ∙ c.in_default.is)

pub set-requires : goal.set-requires
set-requires c = rw (sym c.due_of.ensures ∙ c.in-Some.is) refl

pub returns-clause-kept : goal.returns-clause-kept
returns-clause-kept c =
    kept_set c.args.moments.now c.set.new.moments c.args.index.now c.is_shifted.new.index c.args.n (Some c.args.due) c.args.indexed.now c.is_shifted.result c.requires c.is_shifted.ensures.ordered c.set.ensures
    (λ h. let was = c.is_shifted.ensures.was h in (was, c.is_shifted.ensures.ok h (stands_at c.args.moments.now c.args.index.now c.args.n (Some c.in-Some.old) (c.requires.tells was) (sym c.due_of.ensures ∙ c.in-Some.is))))

pub returns-clause-moved : goal.returns-clause-moved
returns-clause-moved c = view_moved c.args.moments.now c.requires.by_number c.set.new.moments c.args.n c.in-Some.old c.args.due (sym c.due_of.ensures ∙ c.in-Some.is) c.set.ensures
