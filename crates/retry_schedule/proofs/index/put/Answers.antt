use Rattle.std.proofs.Common.{ℕ, List, Some, true, refl, sym, ap, ◌∙◌}
use Rattle.std.proofs.lemmas.Result.{on_err_weaker, on_ok_weaker}
use Rattle.retry_schedule.specs.Index.{listed}
use Rattle.retry_schedule.proofs.Kept.{kept_same, kept_set, stands_at, view_set}
use Rattle.retry_schedule.proofs.index.put.Goals as goal

pub enter-requires-clause-none : goal.enter-requires-clause-none
enter-requires-clause-none c = sym c.due_of.ensures ∙ c.in-None.is

pub returns-in-None-clause-ok : goal.returns-in-None-clause-ok
returns-in-None-clause-ok c =
    on_ok_weaker c.enter.result (λ sets. view_set c.args.moments.now c.requires.by_number c.enter.new.moments c.args.n c.args.due sets) c.enter.ensures.ok

pub returns-in-None-clause-err : goal.returns-in-None-clause-err
returns-in-None-clause-err c = on_err_weaker c.enter.result (λ same. ap (λ (es : List (ℕ × ℕ)). listed es) same) c.enter.ensures.err

pub returns-in_err-shift-in-Some-clause-kept : goal.returns-in_err-shift-in-Some-clause-kept
returns-in_err-shift-in-Some-clause-kept c =
    kept_same c.args.moments.now c.args.moments.now c.args.index.now c.shift.new.index true c.requires c.requires.by_number refl c.shift.ensures.ordered c.in_err-shift-in-Some.ensures.err

pub set-requires : goal.set-requires
set-requires c = rw (sym c.due_of.ensures ∙ c.in-Some.is) refl

pub returns-in_ok-shift-in-Some-clause-kept : goal.returns-in_ok-shift-in-Some-clause-kept
returns-in_ok-shift-in-Some-clause-kept c =
    kept_set c.args.moments.now c.set.new.moments c.args.index.now c.shift.new.index c.args.n (Some c.args.due) true true c.requires c.shift.ensures.ordered c.set.ensures
    (λ _. (refl, c.in_ok-shift-in-Some.ensures.ok (stands_at c.args.moments.now c.args.index.now c.args.n (Some c.in-Some.old) (c.requires.tells refl) (sym c.due_of.ensures ∙ c.in-Some.is))))

pub returns-in_ok-shift-in-Some-clause-ok : goal.returns-in_ok-shift-in-Some-clause-ok
returns-in_ok-shift-in-Some-clause-ok c = view_set c.args.moments.now c.requires.by_number c.set.new.moments c.args.n c.args.due c.set.ensures
