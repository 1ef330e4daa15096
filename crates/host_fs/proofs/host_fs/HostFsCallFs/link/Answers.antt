use Rattle.std.proofs.Common.{◌∙◌, ⊎_elim}
use Rattle.host_fs.proofs.Serving.{as_done, cause_as, count_as, fault_as, kind_linked, moment_done, number_done}
use Rattle.host_fs.proofs.host_fs.HostFsCallFs.link.Goals as goal

pub returns-clause-went : goal.returns-clause-went
returns-clause-went g c =
    let r = c.link_names-outcome.result in
    let e = c.link_names-outcome.ensures in
    rw c.counted.ensures.same (record {
      told = tt;
      read = tt;
      recorded = tt;
      kind = kind_linked c.args.old.now c.args.new.now r;
      number = number_done r;
      moment = moment_done r;
      plan = tt;
      cause = cause_as as_done _ _ r (rw c.counted.ensures.same at c.counted.ensures.cause);
    })

pub returns-clause-serves : goal.returns-clause-serves
returns-clause-serves g c =
    let r = c.link_names-outcome.result in
    let e = c.link_names-outcome.ensures in
    rw c.counted.ensures.same (record {
      root = c.counted.ensures.root;
      count = (rw c.counted.ensures.same at c.counted.ensures.count) ∙ count_as as_done _ r;
      no_path = λ lacks. fault_as as_done r (⊎_elim e.no_old e.no_new lacks);
      opens = c.counted.ensures.opens;
      fits = tt;
      later = tt;
    })
