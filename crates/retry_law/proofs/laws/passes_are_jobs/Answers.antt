use Rattle.retry_law.proofs.Jobs.{clear, empty, jobs}
use Rattle.retry_law.proofs.laws.passes_are_jobs.Goals as goal

pub returns : goal.returns
returns c = record { jobs = jobs; clear = clear; empty = empty }
