-- Jobs: passes, from their begin until they are over. A message has at most one on a channel.
use Rattle.std.specs.Prelude.{ℕ, List, [], ◌∷◌, ◌++◌, Bool, true, false, not, if◌then◌else◌, ◌==◌, Option, filter, find, map}
use Rattle.send_jobs.specs.declared.jobs.Job.{Job}

-- the job of a pass that begins
abbrev pub new_job : ℕ → ℕ → Job
new_job n begun = record { n = n; begun = begun; unmarked = false }

abbrev pub is_job_of : ℕ → Job → Bool
is_job_of n job = job.n == n

-- the job on this message
abbrev pub job_of : ℕ → List Job → Option Job
job_of n jobs = find (is_job_of n) jobs

-- the jobs on other messages
abbrev pub without : ℕ → List Job → List Job
without n jobs = filter (λ job. not (is_job_of n job)) jobs

-- a job in place of the one on its message
abbrev pub put : Job → List Job → List Job
put job jobs = without job.n jobs ++ job ∷ []

-- the job, of which a place stays `T` if it's on this message
abbrev pub unmarked_if : ℕ → Job → Job
unmarked_if n job = if is_job_of n job then record job { unmarked = true } else job

-- a place of the job on this message stays `T`
abbrev pub unmark : ℕ → List Job → List Job
unmark n jobs = map (unmarked_if n) jobs
