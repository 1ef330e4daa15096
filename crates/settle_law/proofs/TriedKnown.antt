-- Known messages that were tried and have their file.
use Rattle.std.proofs.Common.{◌≡◌, ℕ, List, ◌∷◌, Bool, true, None, Option}
use Rattle.std.specs.Prelude.{◌&&◌}
use Rattle.std.proofs.lemmas.Bool.{and_from, and_parts}
use Rattle.call_fs.specs.Past.{IsRunBy}
use Rattle.call_fs.specs.declared.past.Own.{Own}
use Rattle.retry_law.specs.Passes.{lane_after}
use Rattle.send_core.specs.Table.{Next}
use Rattle.send_jobs.specs.Jobs.{job_of}
use Rattle.send_known.specs.declared.channel.Channel.{Channel}
use Rattle.send_runs.specs.Knowing.{known_in}
use Rattle.settle_law.proofs.TriedStay.{known_before, tried_before}
use Rattle.settle_law.specs.inside.TriedStay.{tried_at}

abbrev pub known_tried : List Own → Channel → ℕ → Bool
known_tried past c n = tried_at past c n && known_in past n

-- One without a job was such a message before an event too.
pub known_tried_stay : (turns : Option ℕ) (past : List Own) (event : Own) → IsRunBy (Next turns) (event ∷ past) → (c : Channel) (n : ℕ) → job_of n (lane_after turns past c).jobs ≡ None
    → known_tried (event ∷ past) c n ≡ true → known_tried past c n ≡ true
known_tried_stay turns past event run c n none after =
    let both = and_parts (tried_at (event ∷ past) c n) (known_in (event ∷ past) n) after in
    and_from (tried_at past c n) (known_in past n) (tried_before turns past event run c n none both.0) (known_before turns past event run c n none both.0 both.1)
