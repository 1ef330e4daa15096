-- How many deliveries a sender may have in flight when it begins a turn, by its past (qmail-send(8)).
use Rattle.std.specs.Prelude.{◌≡◌, ◌<◌, ℕ, List, Some, None, codes, length}
use Rattle.call_fs.specs.Disk.{Disk}
use Rattle.call_fs.specs.Past.{IsRunBy}
use Rattle.call_fs.specs.declared.past.Own.{Own}
use Rattle.send_core.specs.Papers.{controls_told}
use Rattle.send_core.specs.Table.{Next}
use Rattle.send_known.specs.declared.channel.Channel.{Channel}
use Rattle.send_jobs.specs.Sending.{lane}
use Rattle.send_runs.specs.Status.{allowed, limit_in}
use Rattle.world_events.specs.declared.event.Program.TheVariants.{Sender}
use Rattle.mail_world.specs.History.{Actor, Event, after}
use Rattle.mail_world.specs.History.Life.{Alive}
use Rattle.settle_law.specs.Rests.{BeginsTurn}
use Rattle.settle_law.specs.Suffices.{desk_of}
use Rattle.settle_law.specs.Well.{GoesWell}

-- A channel has just as many slots as its spawner and its control file allow, so that it has one if both allow one.
abbrev pub SlotsAreAllowed : Type 0
SlotsAreAllowed = (past : List Own) → IsRunBy (Next None) past → BeginsTurn (desk_of past).row → (c : Channel) → length (lane c (desk_of past).slots).slots ≡ limit_in past c

-- Where nothing fails it has one: each spawner tells first how many programs it runs at once, and the control files allow one.
abbrev pub RestsHaveSlots : Type 0
RestsHaveSlots = (d : Disk) (h : List Event) → GoesWell d h → (x : Actor) (start : ℕ) → (after d h).actors (codes "sender") ≡ Some x → x.life ≡ Alive
    → x.program ≡ Sender start → BeginsTurn (desk_of x.past).row → (c : Channel) → 0 < allowed c (controls_told x.past) → 0 < length (lane c (desk_of x.past).slots).slots
