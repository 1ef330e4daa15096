-- When messages were tried, by the sender's past alone (qmail-send(8)).
use Rattle.std.specs.Prelude.{◌≡◌, ℕ, List, [], ◌∷◌, Option, Some, None}
use Rattle.call_fs.specs.declared.calls.CallData.TheVariants as call
use Rattle.call_fs.specs.declared.past.NeedData.TheVariants as needs
use Rattle.call_fs.specs.declared.past.Own.{Own}
use Rattle.send_known.specs.declared.channel.Channel.{Channel}
use Rattle.send_runs.specs.DueMoments.Shift.{Learns}
use Rattle.send_runs.specs.DueMoments.{Shift, shift}
use Rattle.send_runs.specs.Dues.{pass_in}

-- When the last pass over a message's channel file began that is over: before an event it went on, and after it goes on no more. None once the
-- message becomes known, since its number may have been another's. A pass that finds no `T` never goes on, and isn't told here: it leaves none.
abbrev pub tried_by : Shift → Option ℕ → Option ℕ → Option ℕ → Option ℕ
tried_by (Learns moment) before after tried = None
tried_by other (Some begun) None tried = Some begun
tried_by other before after tried = tried

abbrev pub tried_in : Channel → ℕ → List Own → Option ℕ
tried_in c n [] = None
tried_in c n (event ∷ past) = tried_by (shift c n past event) (pass_in c n past) (pass_in c n (event ∷ past)) (tried_in c n past)

-- A search ends no pass, and tells of none.
abbrev pub SearchesKeepTries : Type 0
SearchesKeepTries = (c : Channel) (n : ℕ) (past : List Own) (event : Own) (dir after : List ℕ) → event.due ≡ needs.File (call.NextName dir after) → pass_in c n past ≡ None
    → (pass_in c n (event ∷ past) ≡ None) × (tried_in c n (event ∷ past) ≡ tried_in c n past)
