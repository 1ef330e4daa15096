-- What a sender knows of messages, by its past alone: each known message was met, its sender and its birth are those that were told then, and
-- only known messages are due.
use Rattle.std.specs.Prelude.{◌≡◌, ℕ, List, true, false, Option, All}
use Rattle.call_fs.specs.Past.{IsRunBy}
use Rattle.call_fs.specs.declared.past.Own.{Own}
use Rattle.retry_schedule.specs.Due.{is_due}
use Rattle.send_core.specs.Agrees.{has_ended}
use Rattle.send_core.specs.Births.{births}
use Rattle.send_core.specs.Senders.{IsSaid}
use Rattle.send_core.specs.Table.{Next, place_after}
use Rattle.send_known.specs.declared.channel.Channel.{Channel}
use Rattle.send_jobs.specs.Tries.{due_on}
use Rattle.send_known.specs.declared.known.Known.{Known}
use Rattle.send_known.specs.declared.messages.Messages.{Messages}
use Rattle.send_known.specs.Known.{is_known}

pub record AreOfPast (past : List Own) (m : Messages) : Type 0 where
  -- its info file was read whole in the scan of the start, or its todo file in a pass, and that said its sender
  pub said : All (λ (k : Known). IsSaid past k.n k.sender) m.known
  -- it was born when its info file was last written, as a stat told or as the append was made
  pub born : All (λ (k : Known). k.birth ≡ (births past).of k.n) m.known
  -- what is due on a channel is known
  pub due : (c : Channel) (n : ℕ) → is_due n (due_on c m) ≡ true → is_known n m.known ≡ true

-- so it is after each run, until the sender has ended
abbrev pub KnownAreOfPast : Type 0
KnownAreOfPast = (turns : Option ℕ) (past : List Own) → IsRunBy (Next turns) past → has_ended (place_after turns past).row ≡ false → AreOfPast past (place_after turns past).book.messages
