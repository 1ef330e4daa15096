use Rattle.std.proofs.Common.{refl, sym, ap, arith, rules}
use Rattle.std.proofs.lemmas.Result.{err_from_is_err_and}
use Rattle.call_fs.specs.declared.calls.CallData.TheVariants as call
use Rattle.call_fs.specs.declared.calls.Answer.TheVariants.{Refused}
use Rattle.call_fs.specs.declared.calls.FsError.TheVariants.{Fault}
use Rattle.call_fs.specs.Disk.{Disk, MayWrite}
use Rattle.call_fs.specs.Apply.{Apply, IsReadBy}
use Rattle.call_fs.specs.Calls.{without_bytes}
use Rattle.mem_fs.proofs.Steps.{changed-nothing}
use Rattle.crash_fs.specs.Stopped.{Stopped}
use Rattle.crash_fs.proofs.Refused.{stays, of_each}
use Rattle.crash_fs.proofs.stopper.StopperCallFs.write_at.Goals as goal

-- the refused call has written nothing
pub returns-in_err-begin-clause-went : goal.returns-in_err-begin-clause-went
returns-in_err-begin-clause-went g c =
    let p = err_from_is_err_and c.from_residual.result c.from_residual.ensures.1 in
    let below = ap (λ (s : Stopped _). g.D.CallFs.disk s.below) c.begin.ensures.is in
    let asked = call.WriteAt c.args.fd c.args.at c.args.bytes.now in
    rw (p.1, p.2, c.in_err-begin.ensures.fault) (record {
      told = rw below
          (stays (g.D.CallFs.disk c.args.self.now.below) (λ (d : Disk). MayWrite d c.args.fd.0)
          (λ (d e : Disk). Apply d c.args.now asked (Refused Fault) e) c.requires.fits
          (λ d may. (0, (may, omega arith), sym (changed-nothing d (d.opens c.args.fd.0)))));
      read = of_each (g.D.CallFs.disk c.args.self.now.below) (λ (d : Disk). IsReadBy d asked (without_bytes (Refused Fault))) (λ d. refl);
      recorded = tt;
      kind = tt;
      number = tt;
      moment = tt;
      plan = tt;
      cause = search rules;
    })
