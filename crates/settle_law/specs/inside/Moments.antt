-- Which moments a sender is told (qmail-send(8)).
use Rattle.std.specs.Prelude.{◌≡◌, ◌≤◌, ℕ, List, [], ◌∷◌, Some, All}
use Rattle.call_fs.specs.Disk.{Disk}
use Rattle.call_fs.specs.declared.past.Own.{Own}
use Rattle.retry_law.specs.Moments.{TellsMoments}
use Rattle.world_events.specs.declared.event.Program.TheVariants.{Sender}
use Rattle.mail_world.specs.History.{Actor, Event, Legal, after}

-- none that lies before one that it read earlier
abbrev pub Rises : List Own → Type 0
Rises [] = Unit {0}
Rises (own ∷ past) = Rises past × All (λ (e : Own). e.read ≤ own.read) past

-- Each is one that a clock may tell, also of the info files that it looks at, whatever fails.
abbrev pub PastsTellMoments : Type 0
PastsTellMoments = (d : Disk) (h : List Event) → Legal d h → (a : List ℕ) (x : Actor) (start : ℕ) → (after d h).actors a ≡ Some x
    → x.program ≡ Sender start → All TellsMoments x.past × Rises x.past
