-- The order of what a sender knows: the numbers of the known messages rise, however it learnt of them. So what it takes up first is the least.
-- When the scan of the start finds 23 before 1, as `info/0` comes before `info/1`, 1 is finished first.
use Rattle.std.specs.Prelude.{◌≡◌, ℕ, ◌<◌, ◌≤◌, List, true, false, Option, MatchOption, All, Contains}
use Rattle.std.specs.List.{AllPairs}
use Rattle.call_fs.specs.declared.past.Own.{Own}
use Rattle.retry_schedule.specs.Due.{IsFirst, IsSchedule, first_due}
use Rattle.send_core.specs.Table.{place_after}
use Rattle.send_known.specs.declared.channel.Channel.{Channel}
use Rattle.send_jobs.specs.Tries.{due_on}
use Rattle.send_known.specs.declared.known.Known.{Known}
use Rattle.send_known.specs.declared.messages.Messages.{Messages}
use Rattle.send_known.specs.Known.{first_idle, is_idle}

-- each number is below all later ones
abbrev pub AreRising : List Known → Type 0
AreRising ks = AllPairs (λ (a b : Known). a.n < b.n) ks

-- A message that may be finished now, with the least number of all that may; none exactly if none may. One may be if both its channel files are
-- gone and its finish moment has come.
abbrev pub IsLeastIdle : ℕ → List Known → Option ℕ → Type 0
IsLeastIdle now ks found = MatchOption found (All (λ (k : Known). is_idle now k ≡ false) ks)
    (λ n. ((k : Known) × Contains ks k × (k.n ≡ n) × (is_idle now k ≡ true)) × All (λ (k : Known). is_idle now k ≡ true → n ≤ k.n) ks)

pub record AreInOrder (m : Messages) : Type 0 where
  pub known : AreRising m.known
  -- what the finish of a message takes up
  pub least : (now : ℕ) → IsLeastIdle now m.known (first_idle now m.known)
  -- what is due on a channel, and with which of these a pass begins
  pub due : (c : Channel) → IsSchedule (due_on c m)
  pub first : (c : Channel) (now : ℕ) → IsFirst now (due_on c m) (first_due now (due_on c m))

-- after any past, of any sender
abbrev pub KnownNumbersRise : Type 0
KnownNumbersRise = (turns : Option ℕ) (past : List Own) → AreInOrder (place_after turns past).book.messages
