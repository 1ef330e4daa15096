-- Where nothing fails the channel files of a sender serve it (qmail-send(8)).
use Rattle.std.specs.Prelude.{◌≡◌, ℕ, List, Some, None}
use Rattle.call_fs.specs.Disk.{Disk}
use Rattle.send_known.specs.declared.channel.Channel.{Channel}
use Rattle.retry_law.specs.Retries.{ArePlain}
use Rattle.retry_law.specs.Served.{AreServed}
use Rattle.world_events.specs.declared.event.Program.TheVariants.{Sender}
use Rattle.mail_world.specs.History.{Actor, Event, after}
use Rattle.settle_law.specs.Well.{GoesWell}

-- Each that it opens, reads or unlinks is there and is records alone, and of its message no attempt is in flight. So nothing failed for any message
-- on a channel, and no pass began while an attempt at its message was in flight.
pub record PastsAreServed : Type 0 where
  pub served : (d : Disk) (h : List Event) → GoesWell d h → (a : List ℕ) (x : Actor) (start : ℕ) → (after d h).actors a ≡ Some x
      → x.program ≡ Sender start → AreServed None x.past
  pub plain : (d : Disk) (h : List Event) → GoesWell d h → (a : List ℕ) (x : Actor) (start : ℕ) → (after d h).actors a ≡ Some x
      → x.program ≡ Sender start → (c : Channel) (n : ℕ) → ArePlain c n x.past
