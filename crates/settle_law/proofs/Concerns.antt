-- Numbers that concern a sender, and what an event that is no sender's leaves of them.
use Rattle.std.specs.Prelude.{◌≡◌, ℕ, List, true, false, Some, None}
use Rattle.call_fs.specs.Disk.{Disk}
use Rattle.call_fs.specs.declared.past.Own.{Own}
use Rattle.queue_law.specs.Numbers.{find, is_later}
use Rattle.queue_paths.specs.Names.Name.{Of}
use Rattle.queue_paths.specs.Names.{Part}
use Rattle.retry_law.specs.Infos.{coming, lets_go}
use Rattle.send_core.specs.Births.{Birth}
use Rattle.send_core.specs.Table.{place_after}
use Rattle.send_jobs.specs.Jobs.{job_of}
use Rattle.send_jobs.specs.Sending.{lane}
use Rattle.send_jobs.specs.declared.jobs.Job.{Job}
use Rattle.send_known.specs.declared.channel.Channel.{Channel}
use Rattle.send_runs.specs.Files.{has_in}
use Rattle.send_runs.specs.Knowing.{known_in}

-- A number concerns a sender that knows the message and doesn't let it go, or knows that it has its file of a channel, or knows it next, or has a job
-- on it.
pub data Concerns (past : List Own) (n : ℕ) : Type 0 where
  Knows : known_in past n ≡ true → lets_go (place_after None past).row n ≡ false → Concerns past n
  KnowsFile : (c : Channel) → known_in past n ≡ true → has_in c n past ≡ true → Concerns past n
  KnowsNext : (it : Birth) → coming (place_after None past).row (place_after None past).pass ≡ Some it → it.n ≡ n → Concerns past n
  HasJob : (c : Channel) (job : Job) → job_of n (lane c (place_after None past).slots).jobs ≡ Some job → Concerns past n

-- Of each such number the files that preprocessing made are as they were. Of others somebody else may make them: who takes up a number that
-- this sender doesn't know yet, or knows no more.
abbrev pub LeavesItsOwn : Disk → Disk → List Own → Type 0
LeavesItsOwn d e past = (part : Part) (n : ℕ) → is_later part ≡ true → Concerns past n → find e.names e.files (Of part n) ≡ find d.names d.files (Of part n)
