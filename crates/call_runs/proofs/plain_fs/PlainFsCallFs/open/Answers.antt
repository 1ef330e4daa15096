use Rattle.std.proofs.Common.{refl}
use Rattle.std.proofs.lemmas.Result.{err_from_is_err_and}
use Rattle.call_runs.specs.Lists.{held_of}
use Rattle.call_runs.proofs.Planned.{failed}
use Rattle.call_runs.proofs.plain_fs.PlainFsCallFs.open.Goals as goal

-- a planned fault was counted, and left all as it was
pub returns-in_err-begin-clause-counts : goal.returns-in_err-begin-clause-counts
returns-in_err-begin-clause-counts c =
    let p = err_from_is_err_and c.from_residual.result c.from_residual.ensures.1 in
    let why = c.in_err-begin.ensures.fault in
    let was = c.self.inside in
    let now = c.begin.new.self in
    rw (p.1, p.2, why)
    (failed c.args.self.now (held_of was.lists) was.picks.items was.plan.at.items now.at.items was.plan.made now.made was.plan.faults now.faults c.self.view_is
    c.in_err-begin.ensures.plan c.in_err-begin.ensures.made (c.in_err-begin.ensures.planned.0 refl) c.in_err-begin.ensures.faults)
