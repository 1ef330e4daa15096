-- Messages that were tried and have their file, by the sender's past.
use Rattle.std.specs.Prelude.{◌≡◌, ℕ, List, ◌∷◌, Bool, true, ◌&&◌, Option, None, is_some}
use Rattle.call_fs.specs.Past.{IsRunBy}
use Rattle.call_fs.specs.declared.past.Own.{Own}
use Rattle.retry_law.specs.Passes.{lane_after}
use Rattle.retry_law.specs.Tried.{tried_in}
use Rattle.send_core.specs.Table.{Next}
use Rattle.send_jobs.specs.Jobs.{job_of}
use Rattle.send_known.specs.declared.channel.Channel.{Channel}
use Rattle.send_runs.specs.Files.{has_in}

abbrev pub tried_at : List Own → Channel → ℕ → Bool
tried_at past c n = is_some (tried_in c n past) && has_in c n past

-- One without a job is told of after an event only if it was before.
abbrev pub TriedStay : Type 0
TriedStay = (turns : Option ℕ) (past : List Own) (event : Own) → IsRunBy (Next turns) (event ∷ past) → (c : Channel) (n : ℕ) → job_of n (lane_after turns past c).jobs ≡ None
    → tried_at (event ∷ past) c n ≡ true → tried_at past c n ≡ true
