-- Which births a sender keeps when it begins a turn (qmail-send(8)).
use Rattle.std.specs.Prelude.{◌≡◌, ℕ, List, Some}
use Rattle.call_fs.specs.Disk.{Disk}
use Rattle.queue_paths.specs.Names.Name.{Of}
use Rattle.queue_paths.specs.Names.Part.{Info}
use Rattle.queue_paths.specs.Names.{path}
use Rattle.send_known.specs.declared.known.Known.{Known}
use Rattle.world_events.specs.declared.event.Program.TheVariants.{Sender}
use Rattle.mail_world.specs.History.Life.{Alive}
use Rattle.mail_world.specs.History.{Actor, Event, Legal, after}
use Rattle.settle_law.specs.Rests.{BeginsTurn}
use Rattle.settle_law.specs.Suffices.{IsKnown, desk_of}

-- The birth of a known message is the moment at which its info file was last written, whatever failed before.
abbrev pub KnownAreBorn : Type 0
KnownAreBorn = (d : Disk) (h : List Event) → Legal d h → (a : List ℕ) (x : Actor) (start : ℕ) → (after d h).actors a ≡ Some x
    → x.life ≡ Alive → x.program ≡ Sender start → BeginsTurn (desk_of x.past).row → (k : Known) (info : ℕ) → IsKnown x.past k
    → (after d h).disk.names (path (Of Info k.n)) ≡ Some info → ((after d h).disk.files info).moment ≡ k.birth
