use Rattle.std.proofs.Common.{rules, not}
use Rattle.std.proofs.lemmas.Fn.{filter_same}
use Rattle.send_jobs.specs.Jobs.{is_job_of}
use Rattle.send_jobs.proofs.jobs.remove.Goals as goal

pub returns-clause-items : goal.returns-clause-items
returns-clause-items c = filter_same _ (λ job. not (is_job_of c.args.n job)) _ (λ x b f' k. search rules) c.args.jobs.now.items _ c.retain.ensures.filtered
