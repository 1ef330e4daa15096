-- What leaves a todo pass where nothing fails.
use Rattle.std.specs.Prelude.{◌≡◌, ℕ, List, Some, None}
use Rattle.call_fs.specs.Disk.{Disk}
use Rattle.retry_law.specs.Left.{NoneLeft}
use Rattle.world_events.specs.declared.event.Program.TheVariants.{Sender}
use Rattle.mail_world.specs.History.{Actor, Event, after}
use Rattle.settle_law.specs.Well.{GoesWell}

-- Nothing does: each message that is taken up becomes known.
abbrev pub PassesGoOn : Type 0
PassesGoOn = (d : Disk) (h : List Event) → GoesWell d h → (a : List ℕ) (x : Actor) (start : ℕ) → (after d h).actors a ≡ Some x → x.program ≡ Sender start
    → NoneLeft None x.past
