use Rattle.send_jobs.proofs.JobLemmas.{job_put, job_unmarked, job_without}
use Rattle.send_jobs.proofs.laws.jobs_are_a_map.Goals as goal

pub returns : goal.returns
returns c = record { put = job_put; unmarked = job_unmarked; without = job_without }
