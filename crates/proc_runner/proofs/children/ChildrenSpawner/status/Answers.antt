use Rattle.std.proofs.Common.{refl, inl, inr, ap, ◌∙◌, map}
use Rattle.proc_runner.specs.Ends.{IsTold}
use Rattle.proc_runner.specs.Running.{IsStatus}
use Rattle.proc_runner.proofs.Held.{counts, let_go, runs_none}
use Rattle.proc_runner.proofs.children.ChildrenSpawner.status.Goals as goal

pub returns-in_default-clause-cause : goal.returns-in_default-clause-cause
returns-in_default-clause-cause g c = counts _ _ _ refl c.count_failure.ensures.later c.count_failure.ensures.rose

pub returns-in_default-clause-told : goal.returns-in_default-clause-told
returns-in_default-clause-told g c = inr (runs_none _ _ _ c.in_default.ensures.none, ap (map _) c.count_failure.ensures.same.0, refl)

pub returns-in-Failed-clause-told : goal.returns-in-Failed-clause-told
returns-in-Failed-clause-told g c = inl (let_go _ _ _ c.in-Some.place c.remove-child.result c.args.chan (λ process. Unit {0}) c.in-Some.ensures.within c.remove-child.ensures.value
    c.in-Some.ensures.some (c.count_failure-in-Failed.ensures.same.0 ∙ c.remove-child.ensures.by_index.2) tt)

pub returns-in_default-status-clause-told : goal.returns-in_default-status-clause-told
returns-in_default-status-clause-told g c = inl (let_go _ _ _ c.in-Some.place c.remove-child.result c.args.chan (λ process. IsStatus (IsTold (g.S.Process.Process.ends process) (g.S.Process.Process.fate process)) c.status.result) c.in-Some.ensures.within c.remove-child.ensures.value
    c.in-Some.ensures.some c.remove-child.ensures.by_index.2 c.status.ensures)
