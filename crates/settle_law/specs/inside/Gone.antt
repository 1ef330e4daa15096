-- Which channel files are gone when a sender begins a turn (qmail-send(8)).
use Rattle.std.specs.Prelude.{◌≡◌, ℕ, List, false, Some, None}
use Rattle.call_fs.specs.Disk.{Disk}
use Rattle.queue_law.specs.Routes.{lane_part}
use Rattle.queue_paths.specs.Names.{path}
use Rattle.queue_paths.specs.Names.Name.{Of}
use Rattle.send_known.specs.declared.channel.Channel.{Channel}
use Rattle.send_known.specs.declared.known.Known.{Known}
use Rattle.retry_law.specs.Retries.{has_file}
use Rattle.world_events.specs.declared.event.Program.TheVariants.{Sender}
use Rattle.mail_world.specs.History.{Actor, Event, Legal, after}
use Rattle.mail_world.specs.History.Life.{Alive}
use Rattle.settle_law.specs.Rests.{BeginsTurn}
use Rattle.settle_law.specs.Suffices.{IsKnown, desk_of}

-- A known message that doesn't have its file of a channel has none there, whatever failed before.
abbrev pub KnownAreGone : Type 0
KnownAreGone = (d : Disk) (h : List Event) → Legal d h → (a : List ℕ) (x : Actor) (start : ℕ) → (after d h).actors a ≡ Some x
    → x.life ≡ Alive → x.program ≡ Sender start → BeginsTurn (desk_of x.past).row → (c : Channel) (k : Known) → IsKnown x.past k → has_file c k ≡ false
    → (after d h).disk.names (path (Of (lane_part c) k.n)) ≡ None
