use Rattle.std.proofs.Common.{◌∙◌}
use Rattle.host_fs.proofs.Serving.{as_created, cause_as, count_as, fault_as, kind_created, leaves_created, moment_created, number_created}
use Rattle.host_fs.proofs.host_fs.HostFsCallFs.create_excl.Goals as goal

pub returns-clause-went : goal.returns-clause-went
returns-clause-went g c =
    let r = c.create-outcome.result in
    let e = c.create-outcome.ensures in
    rw c.counted.ensures.same (record {
      told = tt;
      read = tt;
      recorded = tt;
      kind = kind_created c.args.name.now r;
      number = number_created r e.number;
      moment = moment_created r;
      plan = tt;
      cause = cause_as as_created _ _ r (rw (c.counted.ensures.same, e.faults) at c.counted.ensures.cause);
    })

pub returns-clause-serves : goal.returns-clause-serves
returns-clause-serves g c =
    let r = c.create-outcome.result in
    let e = c.create-outcome.ensures in
    rw c.counted.ensures.same (record {
      root = c.counted.ensures.root ∙ e.root;
      count = (rw (c.counted.ensures.same, e.faults) at c.counted.ensures.count) ∙ count_as as_created _ r;
      no_path = λ lacks. fault_as as_created r (e.no_path lacks);
      opens = leaves_created _ _ _ c.args.name.now r c.counted.ensures.opens e.opens e.none;
      fits = tt;
      later = tt;
    })
