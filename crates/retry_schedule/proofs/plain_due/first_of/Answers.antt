use Rattle.std.proofs.Common.{◌≡◌, ◌∷◌, Some, None, sym, subst}
use Rattle.retry_schedule.specs.Due.{IsInOrder, IsFirst}
use Rattle.retry_schedule.proofs.Entries.{head_first, none_first}
use Rattle.retry_schedule.proofs.plain_due.first_of.Goals as goal

pub returns-then-entry-now-clause-first : goal.returns-then-entry-now-clause-first
returns-then-entry-now-clause-first c =
    let is : c.args.entries.now ≡ c.in_ok-entry.entry.now ∷ c.in_ok-entry.field-0-1.now = c.in_ok-entry.ensures.cases.0 in
    subst (λ es. IsFirst c.args.now es (Some c.in_ok-entry.entry.now)) (sym is)
    (head_first c.args.now c.in_ok-entry.entry.now c.in_ok-entry.field-0-1.now (subst IsInOrder is c.requires) c.if-entry-now.true)

pub returns-else-entry-now-clause-first : goal.returns-else-entry-now-clause-first
returns-else-entry-now-clause-first c =
    let is : c.args.entries.now ≡ c.in_ok-entry.entry.now ∷ c.in_ok-entry.field-0-1.now = c.in_ok-entry.ensures.cases.0 in
    subst (λ es. IsFirst c.args.now es None) (sym is)
    (none_first c.args.now c.in_ok-entry.entry.now c.in_ok-entry.field-0-1.now (subst IsInOrder is c.requires) c.if-entry-now.false)
