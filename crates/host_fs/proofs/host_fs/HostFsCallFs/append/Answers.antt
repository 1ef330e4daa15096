use Rattle.std.proofs.Common.{◌∙◌}
use Rattle.call_fs.specs.declared.calls.CallData.TheVariants as call
use Rattle.host_fs.proofs.Serving.{as_done, cause_as, count_as, fits_done, kind_done, moment_done, number_done}
use Rattle.host_fs.proofs.host_fs.HostFsCallFs.append.Goals as goal

pub returns-clause-went : goal.returns-clause-went
returns-clause-went g c =
    let r = c.put_at_end-outcome.result in
    let e = c.put_at_end-outcome.ensures in
    rw c.counted.ensures.same (record {
      told = tt;
      read = tt;
      recorded = tt;
      kind = kind_done (call.Append c.args.fd c.args.bytes.now) tt tt r e.fault;
      number = number_done r;
      moment = moment_done r;
      plan = tt;
      cause = cause_as as_done _ _ r (rw c.counted.ensures.same at c.counted.ensures.cause);
    })

pub returns-clause-serves : goal.returns-clause-serves
returns-clause-serves g c =
    let r = c.put_at_end-outcome.result in
    let e = c.put_at_end-outcome.ensures in
    rw c.counted.ensures.same (record {
      root = c.counted.ensures.root;
      count = (rw c.counted.ensures.same at c.counted.ensures.count) ∙ count_as as_done _ r;
      no_path = λ lacks. absurd lacks;
      opens = c.counted.ensures.opens;
      fits = fits_done _ (call.Append c.args.fd c.args.bytes.now) (λ why. tt) r e.fits;
      later = tt;
    })
