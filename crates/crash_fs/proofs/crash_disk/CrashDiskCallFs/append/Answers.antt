use Rattle.std.proofs.Common.{refl, sym, ap, ◌∙◌, arith, rules}
use Rattle.std.proofs.lemmas.Result.{err_from_is_err_and}
use Rattle.mem_fs.proofs.Steps.{changed-nothing}
use Rattle.crash_fs.specs.Crash.{crash_disk}
use Rattle.crash_fs.proofs.crash_disk.CrashDiskCallFs.append.Goals as goal

-- the chosen call has written nothing
pub returns-in_err-begin-clause-went : goal.returns-in_err-begin-clause-went
returns-in_err-begin-clause-went c =
    let p = err_from_is_err_and c.from_residual.result c.from_residual.ensures.1 in
    let d = crash_disk c.args.self.now in
    rw (p.1, p.2, c.in_err-begin.ensures.fault) (record {
      told = (0, (c.requires.fits, omega arith), ap crash_disk c.self.view_is ∙ sym (changed-nothing d (d.opens c.args.fd.0)));
      read = refl;
      recorded = tt;
      kind = tt;
      number = tt;
      moment = tt;
      plan = search rules;
      cause = search rules;
    })
