use Rattle.std.proofs.Common.{◌<◌, length, get_or, set, ap, ◌∙◌, arith}
use Rattle.std.proofs.lemmas.List.{get_or_default}
use Rattle.std.proofs.lemmas.List.Edits.{map_over_more}
use Rattle.send_jobs.specs.Jobs.{new_job, unmarked_if}
use Rattle.send_jobs.proofs.jobs.unmark.Goals as goal

pub loop-job-preserved : goal.loop-job-preserved
loop-job-preserved c =
    let jobs = c.loop-job.jobs in
    let at = c.loop-job.job-index in
    let job = get_or jobs at (new_job 0 0) in
    let inside : at < length jobs = omega arith in
    ap (set jobs at) c.unmarked_if.ensures
    ∙ map_over_more (unmarked_if c.args.n) c.args.jobs.now jobs at job c.loop-job-test.true c.loop-job.invariant (get_or_default jobs at (new_job 0 0) job inside)
