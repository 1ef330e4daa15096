use Rattle.std.proofs.Common.{◌∙◌}
use Rattle.host_fs.proofs.Serving.{as_stated, cause_as, count_as, fault_as, kind_stated, moment_stated, number_stated}
use Rattle.host_fs.proofs.host_fs.HostFsCallFs.stat.Goals as goal

pub returns-clause-went : goal.returns-clause-went
returns-clause-went g c =
    let r = c.stat_name-outcome.result in
    let e = c.stat_name-outcome.ensures in
    rw c.counted.ensures.same (record {
      told = tt;
      read = tt;
      recorded = tt;
      kind = kind_stated c.args.name.now r e.exists e.memory;
      number = number_stated r;
      moment = moment_stated r e.moment;
      plan = tt;
      cause = cause_as as_stated _ _ r (rw c.counted.ensures.same at c.counted.ensures.cause);
    })

pub returns-clause-serves : goal.returns-clause-serves
returns-clause-serves g c =
    let r = c.stat_name-outcome.result in
    let e = c.stat_name-outcome.ensures in
    rw c.counted.ensures.same (record {
      root = c.counted.ensures.root;
      count = (rw c.counted.ensures.same at c.counted.ensures.count) ∙ count_as as_stated _ r;
      no_path = λ lacks. fault_as as_stated r (e.no_path lacks);
      opens = c.counted.ensures.opens;
      fits = tt;
      later = tt;
    })
