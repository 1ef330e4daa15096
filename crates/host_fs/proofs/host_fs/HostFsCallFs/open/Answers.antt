use Rattle.std.proofs.Common.{◌∙◌}
use Rattle.host_fs.proofs.Serving.{as_opened, cause_as, count_as, fault_as, kind_opened, leaves_opened, moment_opened, number_opened}
use Rattle.host_fs.proofs.host_fs.HostFsCallFs.open.Goals as goal

pub returns-clause-went : goal.returns-clause-went
returns-clause-went g c =
    let r = c.open_name-outcome.result in
    let e = c.open_name-outcome.ensures in
    rw c.counted.ensures.same (record {
      told = tt;
      read = tt;
      recorded = tt;
      kind = kind_opened c.args.name.now c.args.how r e.exists;
      number = number_opened r;
      moment = moment_opened r;
      plan = tt;
      cause = cause_as as_opened _ _ r (rw (c.counted.ensures.same, e.faults) at c.counted.ensures.cause);
    })

pub returns-clause-serves : goal.returns-clause-serves
returns-clause-serves g c =
    let r = c.open_name-outcome.result in
    let e = c.open_name-outcome.ensures in
    rw c.counted.ensures.same (record {
      root = c.counted.ensures.root ∙ e.root;
      count = (rw (c.counted.ensures.same, e.faults) at c.counted.ensures.count) ∙ count_as as_opened _ r;
      no_path = λ lacks. fault_as as_opened r (e.no_path lacks);
      opens = leaves_opened _ _ _ c.args.name.now c.args.how r c.counted.ensures.opens e.opens e.none;
      fits = tt;
      later = tt;
    })
