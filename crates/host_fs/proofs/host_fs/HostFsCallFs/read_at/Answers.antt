use Rattle.std.proofs.Common.{◌∙◌, length}
use Rattle.host_fs.proofs.Serving.{as_counted, cause_as, count_as, fits_counted, kind_counted, moment_counted, number_counted}
use Rattle.host_fs.proofs.host_fs.HostFsCallFs.read_at.Goals as goal

pub returns-clause-went : goal.returns-clause-went
returns-clause-went g c =
    let r = c.read-outcome.result in
    let e = c.read-outcome.ensures in
    rw c.counted.ensures.same (record {
      told = tt;
      read = tt;
      recorded = tt;
      kind = kind_counted c.args.fd c.args.at (length c.args.into.now) r e.count e.fault;
      number = number_counted r;
      moment = moment_counted r;
      plan = tt;
      cause = cause_as as_counted _ _ r (rw c.counted.ensures.same at c.counted.ensures.cause);
    })

pub returns-clause-serves : goal.returns-clause-serves
returns-clause-serves g c =
    let r = c.read-outcome.result in
    let e = c.read-outcome.ensures in
    rw c.counted.ensures.same (record {
      root = c.counted.ensures.root;
      count = (rw c.counted.ensures.same at c.counted.ensures.count) ∙ count_as as_counted _ r;
      no_path = λ lacks. absurd lacks;
      opens = c.counted.ensures.opens;
      fits = fits_counted _ c.args.fd c.args.at (length c.args.into.now) r e.fits;
      later = tt;
    })
