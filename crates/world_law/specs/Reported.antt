-- Of which reports the ledgers have a recipient as delivered, or as failed: a sender gave a request for its record in a slot, and the next report of
-- that slot that it took afterwards said so. It is said by what senders took and gave, in the life of the message.
use Rattle.std.specs.Prelude.{◌≡◌, ◌↔◌, ℕ, List, ◌∷◌, Bool, true, false, Some}
use Rattle.call_fs.specs.Disk.{Among, Disk}
use Rattle.call_fs.specs.declared.past.Own.{Own}
use Rattle.queue_law.specs.Books.{Injection, IsInjected}
use Rattle.queue_law.specs.Ledgers.{HasGrown, Ledger, Spot}
use Rattle.send_known.specs.declared.channel.Channel.{Channel}
use Rattle.send_runs.specs.Reports.{HasNoReport, WasGiven, WasReported}
use Rattle.world_events.specs.declared.event.Program.TheVariants.{Sender}
use Rattle.mail_world.specs.History.{Actor, Event, Legal, after}
use Rattle.mail_world.specs.History.Event.{Act}
use Rattle.world_law.specs.Lives.{IsInLife, SenderDid}

-- With the newest of these events a sender took a final report of this record of message N: K if it was delivered to; if it failed D, or any letter
-- but K of a pass that began after the message's lifetime. By its own past it had given a request for this record in the report's slot, and
-- neither before that event nor among the reports that came with it was another one of that slot taken since.
pub record IsTaken (d : Disk) (h : List Event) (delivered : Bool) (n : ℕ) (s : Spot) : Type 0 where
  pub event : SenderDid d h
  pub reported : WasReported event.sender.past event.own delivered s.channel n s.place
  pub given : WasGiven s.channel event.sender.past reported.report.slot reported.task
  pub first : HasNoReport reported.report.slot reported.earlier

-- so it was in the life of this injection
pub record WasTaken (d : Disk) (h : List Event) (delivered : Bool) (i : Injection) (s : Spot) : Type 0 where
  pub until : List Event
  pub life : IsInLife d h until i
  pub taken : IsTaken d until delivered i.number s

abbrev pub spots_in : Bool → Ledger → List Spot
spots_in true l = l.delivered
spots_in false l = l.failed

-- Each recipient that a ledger has as delivered was reported so, and each that it has as failed.
abbrev pub WereTaken : Bool → Type 0
WereTaken delivered = (d : Disk) (h : List Event) → Legal d h → (i : Injection) → IsInjected (after d h).books i → (s : Spot) → Among s (spots_in delivered i.ledger)
    → WasTaken d h delivered i s

-- And whenever a sender takes such a report, the ledger of the message whose life lasts has the recipient afterwards.
abbrev pub TakenAreEntered : Bool → Type 0
TakenAreEntered delivered = (d : Disk) (name : List ℕ) (own : Own) (wrote : ℕ) (h : List Event) → Legal d (Act name own wrote ∷ h) → (sender : Actor) → (after d h).actors name ≡ Some sender
    → (start : ℕ) → sender.program ≡ Sender start → (c : Channel) (n place : ℕ) → WasReported sender.past own delivered c n place → (i : Injection) → (after d h).books.living n ≡ Some i
    → (j : Injection) × ((after d (Act name own wrote ∷ h)).books.living n ≡ Some j) × (j.args ≡ i.args) × HasGrown i.ledger j.ledger
    × Among (record { channel = c; place = place }) (spots_in delivered j.ledger)

-- So the ledgers have just the recipients that were reported: as delivered, and as failed.
abbrev pub LedgersAreOfReports : Type 0
LedgersAreOfReports = (d : Disk) (h : List Event) → Legal d h → (i : Injection) → IsInjected (after d h).books i → (s : Spot)
    → (Among s i.ledger.delivered ↔ WasTaken d h true i s) × (Among s i.ledger.failed ↔ WasTaken d h false i s)
