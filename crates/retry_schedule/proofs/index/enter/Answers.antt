use Rattle.std.proofs.Common.{Some, None, true, false, refl}
use Rattle.retry_schedule.specs.Index.{entry}
use Rattle.retry_schedule.proofs.Kept.{enters_none, kept_same, kept_set, puts_from, sets_from, sets_nothing, stands_at, undoes}
use Rattle.retry_schedule.proofs.index.enter.Goals as goal

pub returns-in_err-insert-clause-kept : goal.returns-in_err-insert-clause-kept
returns-in_err-insert-clause-kept c =
    kept_same c.args.moments.now c.args.moments.now c.args.index.now c.insert.new.self true c.requires.kept c.requires.kept.by_number refl c.insert.ensures.ordered c.in_err-insert.ensures.err

pub returns-in-Ok-clause-kept : goal.returns-in-Ok-clause-kept
returns-in-Ok-clause-kept c =
    kept_set c.args.moments.now c.insert-2.new.self c.args.index.now c.insert.new.self c.args.n (Some c.args.due) true true c.requires.kept c.insert.ensures.ordered
    (sets_from c.args.moments.now c.insert-2.new.self c.args.n (Some c.args.due) c.insert-2.ensures.ordered c.in-Ok.ensures.updates)
    (λ _. (
      refl,
      enters_none c.args.index.now c.insert.new.self c.args.n c.args.due (puts_from c.args.index.now c.insert.new.self (entry c.args.due c.args.n) true c.in_ok-insert.ensures.updates)
          (stands_at c.args.moments.now c.args.index.now c.args.n None (c.requires.kept.tells refl) c.requires.none),
    ))

pub returns-in-Ok-clause-ok : goal.returns-in-Ok-clause-ok
returns-in-Ok-clause-ok c = sets_from c.args.moments.now c.insert-2.new.self c.args.n (Some c.args.due) c.insert-2.ensures.ordered c.in-Ok.ensures.updates

pub returns-in-Err-clause-kept : goal.returns-in-Err-clause-kept
returns-in-Err-clause-kept c =
    kept_set c.args.moments.now c.insert-2.new.self c.args.index.now c.remove.new.self c.args.n None true true c.requires.kept c.remove.ensures.ordered
    (sets_nothing c.args.moments.now c.insert-2.new.self c.args.n c.insert-2.ensures.ordered c.in-Err.ensures.err c.requires.none)
    (λ _. (
      refl,
      undoes c.args.index.now c.insert.new.self c.remove.new.self c.args.n c.args.due (stands_at c.args.moments.now c.args.index.now c.args.n None (c.requires.kept.tells refl) c.requires.none)
          (puts_from c.args.index.now c.insert.new.self (entry c.args.due c.args.n) true c.in_ok-insert.ensures.updates)
          (puts_from c.insert.new.self c.remove.new.self (entry c.args.due c.args.n) false c.remove.ensures.updates),
    ))
