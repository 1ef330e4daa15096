use Rattle.std.proofs.Common.{◌∙◌}
use Rattle.host_fs.proofs.Serving.{as_found, cause_as, count_as, fault_as, kind_found, later_found, moment_found, number_found}
use Rattle.host_fs.proofs.host_fs.HostFsCallFs.next_name.Goals as goal

pub returns-clause-went : goal.returns-clause-went
returns-clause-went g c =
    let r = c.name_after-outcome.result in
    let e = c.name_after-outcome.ensures in
    rw c.counted.ensures.same (record {
      told = tt;
      read = tt;
      recorded = tt;
      kind = kind_found c.args.dir.now c.args.after.now c.name_after-outcome.new.into r e.exists e.memory;
      number = number_found c.name_after-outcome.new.into r;
      moment = moment_found c.name_after-outcome.new.into r;
      plan = tt;
      cause = cause_as (as_found c.name_after-outcome.new.into) _ _ r (rw (c.counted.ensures.same, e.faults) at c.counted.ensures.cause);
    })

pub returns-clause-serves : goal.returns-clause-serves
returns-clause-serves g c =
    let r = c.name_after-outcome.result in
    let e = c.name_after-outcome.ensures in
    rw c.counted.ensures.same (record {
      root = c.counted.ensures.root ∙ e.root;
      count = (rw (c.counted.ensures.same, e.faults) at c.counted.ensures.count) ∙ count_as (as_found c.name_after-outcome.new.into) _ r;
      no_path = λ lacks. fault_as (as_found c.name_after-outcome.new.into) r (e.no_path lacks);
      opens = λ fd. c.counted.ensures.opens fd ∙ e.opens fd;
      fits = tt;
      later = later_found c.args.dir.now c.args.after.now c.name_after-outcome.new.into r e.later;
    })
