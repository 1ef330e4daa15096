-- Where what a sender has in flight is: asked for and not taken up, with the spawner, or reported and not taken (qmail-lspawn(8),
-- qmail-rspawn(8)).
use Rattle.std.specs.Prelude.{◌≡◌, ℕ, ◌+◌, List, [], ◌++◌, flat_map, true, false, Option, Some, None, codes}
use Rattle.call_fs.specs.Disk.{Among, Disk}
use Rattle.call_fs.specs.declared.program.Port.TheVariants as port
use Rattle.program_law.specs.Post.Posts.{HasPlainFields, owed_at, told_of}
use Rattle.send_core.specs.Agrees.{has_ended}
use Rattle.send_core.specs.Past.{account, news}
use Rattle.send_jobs.specs.declared.attempts.Attempt.{Attempt}
use Rattle.send_known.specs.declared.channel.Channel.{Channel}
use Rattle.send_parts.specs.Channels.{port_of}
use Rattle.send_jobs.specs.Sending.{lane}
use Rattle.send_jobs.specs.Slots.{attempt_in}
use Rattle.spawn_protocol.specs.declared.inbox.Intake.TheVariants.{Open}
use Rattle.spawn_protocol.specs.declared.report.Report.{Report}
use Rattle.spawn_protocol.specs.declared.request.Request.{Request}
use Rattle.spawn_protocol.specs.Request.{request_text}
use Rattle.spawner_parts.specs.declared.place.Place.{Place}
use Rattle.spawner_parts.specs.Counts.{asked, runs, times}
use Rattle.world_events.specs.declared.event.Program.TheVariants.{Sender}
use Rattle.mail_world.specs.History.{Actor, Event, after}
use Rattle.world_law.specs.Spawned.{IsSpawner, spawner_name, stands_after}
use Rattle.world_law.specs.Standing.{goes_on}
use Rattle.settle_law.specs.Suffices.{desk_of}
use Rattle.settle_law.specs.Well.{GoesWell}

-- the reports that end in what a sender hasn't taken, by what it took after the spawner's first byte; before that there are none
abbrev pub coming : Option (List ℕ) → List ℕ → List Report
coming None told = []
coming (Some heard) told = news heard told

abbrev pub count : Option Attempt → ℕ
count None = 0
count (Some attempt) = 1

-- So many requests and reports of a slot are in hand: requests that the spawner hasn't read or taken up, the one at work or the report that is
-- due, what runs in the slot, and reports that the sender hasn't taken. The fields of the requests have no NUL, so what the spawner hasn't taken
-- up is no other requests.
pub record InHand (p : Place) (given : List ℕ) (reports : List Report) (slot many : ℕ) : Type 0 where
  pub waits : List Request
  pub text : p.inbox.ahead ++ given ≡ flat_map request_text waits
  pub plain : (r : Request) → Among r waits → HasPlainFields r
  pub are : asked slot waits + ((times slot (owed_at p.row p) + runs slot p.running) + told_of slot reports) ≡ many

-- Where nothing fails there is one for each attempt in flight, and none for a free slot, until the sender or the spawner has ended, and while the
-- spawner takes requests.
abbrev pub FlightsAreInHand : Type 0
FlightsAreInHand = (d : Disk) (h : List Event) → GoesWell d h → (c : Channel) (x y : Actor) (start : ℕ)
    → (after d h).actors (codes "sender") ≡ Some x → x.program ≡ Sender start → has_ended (desk_of x.past).row ≡ false
    → (after d h).actors (spawner_name c) ≡ Some y → IsSpawner c y.program → goes_on (stands_after c y.past).row ≡ true → (stands_after c y.past).inbox.intake ≡ Open
    → (slot : ℕ) → InHand (stands_after c y.past) ((after d h).pipework.pipes (spawner_name c) port.Input).bytes
    (coming (account c x.past).heard ((after d h).pipework.pipes (codes "sender") (port_of c)).bytes) slot (count (attempt_in (lane c (desk_of x.past).slots).slots slot))
