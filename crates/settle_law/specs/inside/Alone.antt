-- That no pass is begun while one is open (qmail-send(8)).
use Rattle.std.specs.Prelude.{◌≡◌, ℕ, List, true, Some}
use Rattle.call_fs.specs.Disk.{Disk}
use Rattle.call_fs.specs.declared.calls.Fd.{Fd}
use Rattle.send_parts.specs.declared.row.Row.TheVariants as at
use Rattle.send_jobs.specs.Lanes.{is_free_for}
use Rattle.send_jobs.specs.Sending.{lane}
use Rattle.send_known.specs.declared.channel.Channel.{Channel}
use Rattle.send_parts.specs.declared.reading.Reading.TheVariants.{Closing}
use Rattle.world_events.specs.declared.event.Program.TheVariants.{Sender}
use Rattle.mail_world.specs.History.Life.{Alive}
use Rattle.mail_world.specs.History.{Actor, Event, Legal, after}
use Rattle.settle_law.specs.Suffices.{desk_of}

-- When the channel file of a message was read for a pass none is open on that channel, and no attempt at the message is in flight there, whatever
-- failed before.
abbrev pub PassesBeginAlone : Type 0
PassesBeginAlone = (d : Disk) (h : List Event) → Legal d h → (a : List ℕ) (x : Actor) (start : ℕ) → (after d h).actors a ≡ Some x
    → x.life ≡ Alive → x.program ≡ Sender start → (c : Channel) (n begun : ℕ) (fd : Fd) → (desk_of x.past).row ≡ at.ReadFile c n begun (Closing fd)
    → is_free_for n (lane c (desk_of x.past).slots) ≡ true
