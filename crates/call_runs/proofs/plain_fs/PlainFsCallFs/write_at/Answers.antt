use Rattle.std.proofs.Common.{refl, sym, ap, ◌∙◌, arith, rules}
use Rattle.std.proofs.lemmas.Result.{err_from_is_err_and}
use Rattle.mem_files.specs.Tables.{at_number}
use Rattle.mem_fs.specs.MemDisk.{Planned, disk_of}
use Rattle.mem_fs.proofs.Steps.{changed-nothing}
use Rattle.call_runs.specs.Lists.{held_of}
use Rattle.call_runs.proofs.Planned.{failed}
use Rattle.call_runs.proofs.plain_fs.PlainFsCallFs.write_at.Goals as goal

-- a planned fault has written nothing
pub returns-in_err-begin-clause-went : goal.returns-in_err-begin-clause-went
returns-in_err-begin-clause-went c =
    let p = err_from_is_err_and c.from_residual.result c.from_residual.ensures.1 in
    let why = c.in_err-begin.ensures.fault in
    rw (p.1, p.2, why) (record {
      told =
          (0, (c.requires.fits, omega arith), ap (λ (m : Planned). disk_of m.held) c.self.view_is ∙ sym (changed-nothing (disk_of c.args.self.now.held) (at_number c.args.self.now.held.opens c.args.fd.0)));
      read = refl;
      recorded = tt;
      kind = tt;
      number = tt;
      moment = tt;
      plan = search rules;
      cause = search rules;
    })

-- a planned fault was counted, and left all as it was
pub returns-in_err-begin-clause-counts : goal.returns-in_err-begin-clause-counts
returns-in_err-begin-clause-counts c =
    let p = err_from_is_err_and c.from_residual.result c.from_residual.ensures.1 in
    let why = c.in_err-begin.ensures.fault in
    let was = c.self.inside in
    let now = c.begin.new.self in
    rw (p.1, p.2, why)
    (failed c.args.self.now (held_of was.lists) was.picks.items was.plan.at.items now.at.items was.plan.made now.made was.plan.faults now.faults c.self.view_is
    c.in_err-begin.ensures.plan c.in_err-begin.ensures.made (c.in_err-begin.ensures.planned.0 refl) c.in_err-begin.ensures.faults)
