-- Where each report was of a success (qmail-send(8)).
use Rattle.std.specs.Prelude.{◌≡◌, ℕ, List, [], ◌∷◌, true, Some, All, IsSome, codes}
use Rattle.call_fs.specs.Disk.{Disk}
use Rattle.call_fs.specs.declared.past.GotData.TheVariants as came
use Rattle.call_fs.specs.declared.past.NeedData.TheVariants as needs
use Rattle.call_fs.specs.declared.past.Own.{Own}
use Rattle.send_core.specs.Past.{account, news}
use Rattle.send_parts.specs.Channels.{port_of}
use Rattle.send_jobs.specs.Jobs.{job_of}
use Rattle.send_jobs.specs.Sending.{lane}
use Rattle.send_known.specs.declared.channel.Channel.{Channel}
use Rattle.spawn_protocol.specs.Report.{counted}
use Rattle.spawn_protocol.specs.declared.report.Report.{Report}
use Rattle.world_events.specs.declared.event.Program.TheVariants.{Sender}
use Rattle.mail_world.specs.History.{Actor, Event, after}
use Rattle.settle_law.specs.Suffices.{desk_of}
use Rattle.settle_law.specs.inside.TriedStay.{tried_at}
use Rattle.settle_law.specs.Well.{AllSucceed, GoesWell}

abbrev pub IsSuccess : Report → Type 0
IsSuccess r = counted r.letter ≡ 75

-- Each report that a sender took was of a success.
abbrev pub HearsSuccess : List Own → Type 0
HearsSuccess [] = Unit {0}
HearsSuccess (event ∷ past) = HearsSuccess past × ((c : Channel) (before bytes : List ℕ) → (account c past).heard ≡ Some before → event.due ≡ needs.Take (port_of c)
    → event.came ≡ came.Took bytes → All IsSuccess (news before bytes))

-- So it is where nothing fails and each report that a spawner gave was of a success.
abbrev pub ReportsSucceed : Type 0
ReportsSucceed = (d : Disk) (h : List Event) → GoesWell d h → AllSucceed h → (x : Actor) (start : ℕ) → (after d h).actors (codes "sender") ≡ Some x
    → x.program ≡ Sender start → HearsSuccess x.past

-- Then a message that was tried on a channel and has a file there is at work there.
abbrev pub TriedAreAtWork : Type 0
TriedAreAtWork = (d : Disk) (h : List Event) → GoesWell d h → (a : List ℕ) (x : Actor) (start : ℕ) → (after d h).actors a ≡ Some x
    → x.program ≡ Sender start → HearsSuccess x.past → (c : Channel) (n : ℕ) → tried_at x.past c n ≡ true → IsSome (job_of n (lane c (desk_of x.past).slots).jobs)
