use Rattle.std.proofs.Common.{ℕ, Some, true, false, subst}
use Rattle.retry_schedule.specs.Index.{IsAt, entry}
use Rattle.retry_schedule.proofs.Kept.{enters_same, puts_from, shifts}
use Rattle.retry_schedule.proofs.index.shift.Goals as goal

pub returns-then-old-due-clause-ok : goal.returns-then-old-due-clause-ok
returns-then-old-due-clause-ok c = λ stands.
    enters_same c.args.index.now c.insert.new.self c.args.n c.args.due (puts_from c.args.index.now c.insert.new.self (entry c.args.due c.args.n) true c.in_ok-insert.ensures.updates)
    (subst (λ (d : ℕ). IsAt c.args.index.now c.args.n (Some d)) c.if-old-due.true stands)

pub returns-clause-ok : goal.returns-clause-ok
returns-clause-ok c = λ stands.
    shifts c.args.index.now c.insert.new.self c.remove.new.self c.args.n c.args.old c.args.due stands
    (puts_from c.args.index.now c.insert.new.self (entry c.args.due c.args.n) true c.in_ok-insert.ensures.updates)
    (puts_from c.insert.new.self c.remove.new.self (entry c.args.old c.args.n) false c.remove.ensures.updates) c.if-old-due.false
